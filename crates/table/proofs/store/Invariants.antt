-- `table::store` meets its contract. The loop's invariant: to put what is left of v from here on gives what is to be.
use Prim.Native.Nat.{◌-◌, ◌+◌}
use mathlib.Core.Path.{◌≡◌}
use Rattle.table.specs.Num.{put}
use Rattle.table.proofs.store.Given as goal

abbrev pub invariant-loop-i : goal.invariant-loop-i
invariant-loop-i l = put (l.k - l.i) l.t (l.at + l.i) l.w ≡ put l.k l.initial.t l.at l.v
