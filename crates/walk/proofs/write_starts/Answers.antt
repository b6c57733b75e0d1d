-- `walk::write_starts` meets its contract. The loop's invariant: the first i entries of the row are written. Assumes nothing.
use Prim.Native.Nat.{ℕ, ◌+◌, ◌-◌, ◌*◌}
use mathlib.Core.Path.{◌≡◌, sym, ◌∙◌}
use mathlib.Core.List.{List}
use native.Mathlib.Omega.{arith}
use lib.ListN.{get_or}
use Rattle.cutting.specs.Limits.{most_segments, start_bytes}
use Rattle.table.specs.Fill.{write}
use Rattle.table.proofs.Fill.{fill_none, fill_more, column_none, column_more}
use Rattle.walk.proofs.write_starts.Invariants.{row}
use Rattle.walk.proofs.write_starts.Goals as goal

row_more : (read out : List ℕ) (i : ℕ) → write start_bytes (row read out i) i (get_or read i 0) ≡ row read out (i + 1)
row_more read out i =
    let e : 0 * (most_segments - 1 + 1) + i ≡ i = omega arith in
    let none = column_none start_bytes (most_segments - 1) (λ d. get_or read i 0) i (row read out i) in
    let one = column_more start_bytes (most_segments - 1) (λ d. get_or read i 0) i (row read out i) 0 in
    sym (fill_more start_bytes (most_segments - 1) 1 (λ d i. get_or read i 0) out i ∙ (rw (none, e) at one))

pub loop-i-init : goal.loop-i-init
loop-i-init c = (omega arith, sym (fill_none start_bytes (most_segments - 1) 1 _ _))

pub loop-i-preserved : goal.loop-i-preserved
loop-i-preserved c =
    let a = c.args in (
      omega arith,
      c.store.ensures ∙ rw c.loop-i.invariant.1 (row_more a.read.now a.out.now c.loop-i.i),
    )
