-- `segment::summaries_within` meets its contract.
use Rattle.segment.proofs.Stretch.{accepted_done, summed_done, summed_refused}
use Rattle.segment.proofs.summaries_within.Goals as goal

pub returns-in_err-judge_stretch : goal.returns-in_err-judge_stretch
returns-in_err-judge_stretch c = summed_refused _ _ _ _ _ _ c.from_residual.ensures.1 c.in_err-judge_stretch.ensures

pub invariant_of-stretch : goal.invariant_of-stretch
invariant_of-stretch c = record { accepted = accepted_done _ _ _ _ c.in_ok-judge_stretch.ensures }

pub returns : goal.returns
returns c = summed_done _ _ _ _ c.in_ok-judge_stretch.ensures _ c.summaries.ensures
