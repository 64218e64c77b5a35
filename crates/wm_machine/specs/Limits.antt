-- The limits of a record's numbers, within which its row has them.
use Rattle.std.specs.Prelude.{◌^◌, ◌<◌, All, IfSome}
use Rattle.wm_machine.specs.declared.record.Record.{Record}

-- the numbers of a record are within their limits; those of its request are so by its type
pub record FitsRow (work : Record) : Type 0 where
  pub seq : work.seq < 2 ^ 53
  pub prior : All (λ number. number < 2 ^ 53) work.prior
  pub generation : work.generation < 2 ^ 53
  pub enqueued_at : work.enqueued_at < 2 ^ 53
  pub override_at : IfSome work.override_at (λ moment. moment < 2 ^ 53)
  pub finished_at : work.finished_at < 2 ^ 53
