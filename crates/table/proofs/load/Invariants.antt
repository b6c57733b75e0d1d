-- `table::load` meets its contract. The loop's invariant: v is the number of the bytes passed, the last k - i of the k.
use Prim.Native.Nat.{◌-◌, ◌+◌}
use mathlib.Core.Path.{◌≡◌}
use Rattle.table.specs.Num.{num}
use Rattle.table.proofs.load.Given as goal

abbrev pub invariant-loop-i : goal.invariant-loop-i
invariant-loop-i l = l.v ≡ num (l.k - l.i) l.t (l.at + l.i)
