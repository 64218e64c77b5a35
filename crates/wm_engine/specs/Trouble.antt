-- What the table makes of a keeper's answer.
use Rattle.wm_keeper.specs.declared.keeper.KeepFault.{KeepFault}
use Rattle.wm_keeper.specs.declared.keeper.KeepFault.TheVariants.{Failed, Memory}
use Rattle.wm_engine.specs.declared.trouble.Trouble.{Trouble}
use Rattle.wm_engine.specs.declared.trouble.Trouble.TheVariants as trouble

abbrev pub trouble_of : KeepFault → Trouble
trouble_of Failed = trouble.KeeperFault
trouble_of Memory = trouble.Memory
