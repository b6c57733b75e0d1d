-- `record::Channels::lent` meets its contract: an odd length has no count.
use Rattle.std.proofs.Common.{ℕ, ap, ◌∙◌}
use Rattle.table.specs.Num.{num}
use Rattle.record.proofs.Pairs.{lent_even, lent_odd}
use Rattle.record.proofs.channels.Channels.lent.Goals as goal
use Rattle.record.proofs.channels.Channels.lent.Goals.{then-whole, else-whole}

pub returns : goal.returns
returns c =
    let read = c.load.ensures ∙ ap (λ (k : ℕ). num k c.args.bytes.now 0) c.min.ensures in
    elim c.if-whole.branch [
      | then-whole w ↦ lent_even _ _ read _ w.if-whole.true w.result-is
      | else-whole w ↦ lent_odd _ _ read _ w.if-whole.false w.result-is
    ]
