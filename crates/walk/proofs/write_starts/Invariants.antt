-- `walk::write_starts` meets its contract. The loop's invariant: the first i entries of the row are written. Assumes nothing.
use Prim.Native.Nat.{ℕ, ◌-◌, ◌≤◌}
use mathlib.Core.Path.{◌≡◌}
use mathlib.Core.List.{List}
use lib.ListN.{get_or}
use Rattle.cutting.specs.Limits.{most_segments, start_bytes}
use Rattle.table.specs.Fill.{fill}
use Rattle.walk.proofs.write_starts.Given as goal

-- the row's first entries
abbrev pub row : List ℕ → List ℕ → ℕ → List ℕ
row read out i = fill start_bytes (most_segments - 1) 1 (λ d i. get_or read i 0) i out

abbrev pub invariant-loop-i : goal.invariant-loop-i
invariant-loop-i l = (l.i ≤ most_segments) × (l.out ≡ row l.read l.initial.out l.i)
