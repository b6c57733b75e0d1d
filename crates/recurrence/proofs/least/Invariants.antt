-- `recurrence::least` meets its contract. The loop's invariant: lo + past is the earliest least of the starts tried, lo .. lo + i - 1.
use Rattle.std.specs.Prelude.{◌+◌, ◌<◌}
use Rattle.cutting.specs.Recurrence.{Found}
use Rattle.recurrence.specs.Column.{sum_at}
use Rattle.recurrence.proofs.least.Given as goal

abbrev pub invariant-loop-i : goal.invariant-loop-i
invariant-loop-i l = (l.past < l.i) × Found (sum_at l.costs l.row l.c) l.lo (l.lo + l.i) l.cost (l.lo + l.past)
