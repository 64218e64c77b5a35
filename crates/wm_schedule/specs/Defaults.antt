-- How a retry waits where nothing is said. After the guide's page "Define work requests", "Retry and backoff policy".
use Rattle.wm_schedule.specs.declared.schedule.Backoff.{Backoff}
use Rattle.wm_schedule.specs.declared.schedule.BackoffPolicy.TheVariants.{Exponential}

-- exponential from 30 seconds on, in milliseconds
abbrev pub default_backoff : Backoff
default_backoff = record { policy = Exponential; delay = 30000 }
