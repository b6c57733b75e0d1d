-- `record::Record::day_at` meets its contract. Assumes nothing.
use Rattle.std.proofs.Common.{ℕ, ◌*◌, ap, ◌∙◌}
use Rattle.table.specs.Num.{num}
use Rattle.record.specs.Limits.{day_bytes}
use Rattle.record.specs.Body.{day_at}
use Rattle.record.proofs.Record.day_at.Goals as goal

pub returns : goal.returns
unfolding day_at
returns c = c.day_from.ensures ∙ ap (λ (w : ℕ). num day_bytes c.args.self.now.body.now (w * c.args.at.0)) c.observation_bytes.ensures
