-- `segment::Accepted::summaries` meets its contract. The loop's invariant: the places below c hold their channels' summaries, and the others none.
use Rattle.std.proofs.Common.{◌≡◌, ◌∙◌, arith, refl}
use lib.ListN.{length-set}
use Rattle.kernel.specs.Limits.{most_channels}
use Rattle.segment.specs.Summary.{summary_at}
use Rattle.segment.proofs.Places.{filled_none, filled_more, filled_all}
use Rattle.segment.proofs.Accepted.summaries.Goals as goal

pub loop-c-init : goal.loop-c-init
loop-c-init c = (refl, filled_none _ _ most_channels c.no_summary-summaries.result c.no_summary-summaries.ensures)

pub loop-c-preserved : goal.loop-c-preserved
loop-c-preserved c =
    let l = c.loop-c in
    let few = c.args.self.now.accepted.lent.channeled.few_channels in (
      length-set l.summaries l.c _ ∙ l.invariant.0,
      filled_more _ _ l.summaries l.c l.invariant.1 _ (omega arith) c.summary.ensures,
    )

pub returns : goal.returns
unfolding summary_at
returns c =
    let l = c.loop-c in
    let same : l.c ≡ c.args.self.now.record.now.asked.channels.count = omega arith in
    filled_all _ _ l.summaries _ (rw same at l.invariant.1) most_channels l.invariant.0
