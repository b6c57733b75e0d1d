-- `recurrence::join` meets its contract. The loop's invariant: the tails below s have observation t, and those from s on have it not yet.
use Rattle.std.proofs.Common.{ℕ, ◌≡◌, ◌≤◌, ◌<◌, ◌+◌, length, get_or}
use Rattle.kernel.specs.Kernel.{dist, far}
use Rattle.recurrence.proofs.join.Given as goal

abbrev pub invariant-loop-s : goal.invariant-loop-s
invariant-loop-s l = record {
  long : length l.a ≡ length l.initial.a;
  joined : (j : ℕ) → j < l.s → get_or l.a j 0 ≡ get_or l.initial.a j 0 + dist l.k (far (get_or l.u j 0) (get_or l.u l.t 0));
  old : (j : ℕ) → l.s ≤ j → get_or l.a j 0 ≡ get_or l.initial.a j 0;
}
