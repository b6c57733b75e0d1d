-- `file::contents::Entries::judge_entries` meets its contract. The loop's invariant: what is left to try gives the reply. Assumes nothing.
use native.Mathlib.Omega.{arith}
use Rattle.file.proofs.Judging.{walking_more, walking_stop}
use Rattle.file.proofs.contents.Entries.judge_entries.Goals as goal

pub returns-in_err-at : goal.returns-in_err-at
returns-in_err-at c =
    walking_stop _ _ _ _ c.loop-i.invariant (omega arith) _ _
    c.entry-e.ensures.0 c.offset-offset.ensures _ _ c.from_residual.ensures.1 c.in_err-at.ensures.reply

pub loop-i-preserved : goal.loop-i-preserved
loop-i-preserved c =
    walking_more _ _ _ _ c.loop-i.invariant (omega arith) _ _
    c.entry-e.ensures.0 c.offset-offset.ensures c.in_ok-at.ensures.reply _ c.in_ok-at.ensures.ended
