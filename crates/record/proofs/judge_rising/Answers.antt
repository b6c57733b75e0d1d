-- `record::judge_rising` meets its contract.
use Rattle.std.proofs.Common.{◌≤◌, ◌<◌, ◌-◌, ◌∙◌, arith}
use Rattle.reply.specs.declared.Reason.TheVariants.{DayNotAbove}
use Rattle.reply.proofs.Answers.{last_holds, each_refused, each_clear, each_end}
use Rattle.record.proofs.judge_rising.Goals as goal

pub returns-then-day : goal.returns-then-day
returns-then-day g c = λ d told.
    let below : d c.loop-i.i ≤ d (c.loop-i.i - 1) =
    omega (arith, told c.loop-i.i _ (omega arith) c.day.ensures, told (c.loop-i.i - 1) _ (omega arith) c.day-in-loop-i.ensures) in
    c.at.ensures ∙ each_refused _ _ _ _ (c.loop-i.invariant d told) (omega arith) DayNotAbove _ _ (last_holds _ _ below)

pub loop-i-preserved : goal.loop-i-preserved
loop-i-preserved g c = λ d told.
    let above : d (c.loop-i.i - 1) < d c.loop-i.i =
    omega (arith, told c.loop-i.i _ (omega arith) c.day.ensures, told (c.loop-i.i - 1) _ (omega arith) c.day-in-loop-i.ensures) in
    each_clear _ _ _ _ (c.loop-i.invariant d told) (omega arith) above

pub returns : goal.returns
returns g c = λ d told. each_end _ _ _ _ (c.loop-i.invariant d told) (omega arith)
