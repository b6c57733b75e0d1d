-- `record::Record::level_at` meets its contract. Assumes nothing.
use Rattle.record.specs.Body.{judged_at}
use Rattle.record.proofs.Record.level_at.Goals as goal

pub returns : goal.returns
unfolding judged_at
returns c = cc
