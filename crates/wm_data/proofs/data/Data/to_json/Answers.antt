-- What is written is read back.
use Rattle.wm_data.proofs.ReadBack.{read_data-data_json}
use Rattle.wm_data.proofs.data.Data.to_json.Goals as goal

pub returns-clause-reads_back : goal.returns-clause-reads_back
returns-clause-reads_back c =
    rw (c.in_ok-entries_to_json.ensures, c.entries.ensures.entries) (read_data-data_json c.args.self.now c.entries.ensures.is_data)
