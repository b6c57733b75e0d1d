-- `recurrence::price` meets its contract. The loop's invariant: r is the sum of the tails from s on, and the costs from s on are right.
use Prim.Native.Nat.{ℕ, ◌≤◌, ◌<◌}
use mathlib.Core.Path.{◌≡◌}
use lib.ListN.{get_or}
use lib.Seq.{slice}
use Rattle.recurrence.specs.Weight.{total, tail_cost}
use Rattle.recurrence.proofs.price.Given as goal

abbrev pub invariant-loop-s : goal.invariant-loop-s
invariant-loop-s l = record {
  summed : l.r ≡ total (slice l.s l.t l.a);
  priced : (j : ℕ) → l.s ≤ j → j < l.t → get_or l.c j 0 ≡ tail_cost l.a j l.t;
}
