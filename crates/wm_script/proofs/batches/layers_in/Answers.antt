-- Each layer that is read has a work.
use Rattle.serde_json.specs.View.{view}
use Rattle.wm_script.proofs.BatchesLemmas.{full_read}
use Rattle.wm_script.proofs.batches.layers_in.Goals as goal

pub returns-then-are_few-clause-full : goal.returns-then-are_few-clause-full
returns-then-are_few-clause-full c = full_read (view c.args.value.now) c.some_in.result c.some_in.ensures.ok
