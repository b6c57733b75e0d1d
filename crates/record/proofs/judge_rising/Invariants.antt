-- `record::judge_rising` meets its contract. The loop's invariant: for whatever days the answers tell, what is left to try from i on gives the reply.
use Rattle.std.proofs.Common.{ℕ}
use Rattle.reply.proofs.Answers.{Left}
use Rattle.record.specs.Days.{Tells}
use Rattle.record.specs.Tries.{day_try}
use Rattle.record.proofs.judge_rising.Given as goal

abbrev pub invariant-loop-i : goal.invariant-loop-i
invariant-loop-i g l = (d : ℕ → ℕ) → Tells (λ i r. g.F.Fn.post l.day (i, tt) r) l.n d → Left (day_try d) 1 l.n l.i
