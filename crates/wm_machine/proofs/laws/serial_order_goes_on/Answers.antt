use Rattle.wm_machine.proofs.Openings.{reached-opened, reached-replayed, rest-opened}
use Rattle.wm_machine.proofs.Serials.{BeginsSerial-goes-on}
use Rattle.wm_machine.proofs.laws.serial_order_goes_on.Goals as goal

pub returns-clause-from_rest : goal.returns-clause-from_rest
returns-clause-from_rest c = BeginsSerial-goes-on

pub returns-clause-from_opened : goal.returns-clause-from_opened
returns-clause-from_opened c lines left rows instances first now log askable whole opened replays few order =
    BeginsSerial-goes-on lines left first now log askable whole (rest-opened opened) replays
    (reached-replayed first now log (reached-opened rows instances first opened) replays) few order
