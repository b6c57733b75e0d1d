-- `recurrence::grow` meets its contract. The loop's invariant: the tails have observation t in the channels below c.
use Rattle.recurrence.proofs.Growing.{Growing}
use Rattle.recurrence.proofs.grow.Given as goal

abbrev pub invariant-loop-c : goal.invariant-loop-c
invariant-loop-c l = Growing l.days.observed l.t l.c l.initial.a l.a
