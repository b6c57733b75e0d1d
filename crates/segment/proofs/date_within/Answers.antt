-- `segment::date_within` meets its contract.
use Rattle.std.proofs.Common.{ℕ, List, ◌≡◌, sym, ap, arith}
use Rattle.reply.specs.declared.Reply.{Reply}
use Rattle.reply.specs.Reply.{done}
use Rattle.segment.specs.Date.{DateAccepted, date_reply}
use Rattle.segment.proofs.Start.{accepted, dated_done, dated_refused}
use Rattle.segment.proofs.date_within.Goals as goal

-- the index is accepted
taken : (days : List ℕ) (at : ℕ) → done ≡ date_reply days at → DateAccepted days at
taken days at e = (accepted days at).0 (ap (λ (r : Reply). r.code) (sym e))

pub returns-in_err-judge_start : goal.returns-in_err-judge_start
returns-in_err-judge_start c = dated_refused _ _ _ _ c.from_residual.ensures.1 c.in_err-judge_start.ensures

pub overflow_sub-i : goal.overflow_sub-i
overflow_sub-i c = (taken _ _ c.in_ok-judge_start.ensures).later

pub offset_bounds-days-i : goal.offset_bounds-days-i
offset_bounds-days-i c = let at = taken _ _ c.in_ok-judge_start.ensures in omega (arith, at.below, at.count.few_days)

pub bounds-days-i : goal.bounds-days-i
bounds-days-i c = omega (arith, (taken _ _ c.in_ok-judge_start.ensures).below)

pub offset_bounds-days-i-2 : goal.offset_bounds-days-i-2
offset_bounds-days-i-2 c = let at = taken _ _ c.in_ok-judge_start.ensures in omega (arith, at.below, at.count.few_days)

pub bounds-days-i-2 : goal.bounds-days-i-2
bounds-days-i-2 c = (taken _ _ c.in_ok-judge_start.ensures).below

pub returns : goal.returns
returns c = dated_done _ _ c.in_ok-judge_start.ensures _ c.midpoint.ensures
