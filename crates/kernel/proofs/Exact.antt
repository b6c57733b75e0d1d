-- True costs over whole numbers: the cost in units is what is left of them by rounding down each segment, and splitting
-- never costs more.
-- Assumes nothing.
use mathlib.Core.Path.{◌≡◌, ap}
use mathlib.Core.List.{List, ◌++◌}
use Prim.Native.Nat.{ℕ, ◌+◌, ◌*◌, ◌/◌, ◌≤◌, ◌<◌}
use native.Mathlib.Nat.{mul-pos}
use native.Mathlib.Omega.{arith}
use lib.ListN.{length, length-append}
use lib.Seq.{slice, length-slice}
use lib.IntN.{ℤ, nat_abs}
use Rattle.cutting.specs.Costs.{Rounds, Splittable}
use Rattle.kernel.specs.Cost.{R, units, cost}
use Rattle.lists.specs.Lists.{All}
use Rattle.kernel.specs.Pairs.{pairs}
use Rattle.kernel.specs.True.{lcm400, exact, true_cost}
use Rattle.kernel.proofs.Law.{Law, R_nat}
use Rattle.kernel.proofs.Multiple.{lcm400_part, lcm400_some}
use Rattle.kernel.proofs.Rounding.{exact_parts, exact_low, exact_high}
use Rattle.lists.proofs.Slices.{slice_join, all_slice}
use Rattle.kernel.proofs.Split.{Splits, split_exact}

-- a segment's units are 4,096 times its true cost, rounded down, whatever the kernel
segment_rounds :
    {S : Type 0} (k : S → S → ℤ) (l : List S) → 1 ≤ length l → length l ≤ 400 →
    (lcm400 * units k l ≤ 4096 * exact k l) × (4096 * exact k l < lcm400 * (units k l + 1))
unfolding units exact
segment_rounds k l h n =
    let r : ℕ = nat_abs (R k l) in
    let m : ℕ = length l in (
      exact_low r m (lcm400 / m) lcm400 (lcm400_part m h n),
      exact_high r m (lcm400 / m) lcm400 (lcm400_part m h n) h (lcm400_some m h n),
    )

pub rounds :
    {S : Type 0} (k : S → S → ℤ) (l : List S) → length l ≤ 400 → (m : ℕ) → 1 ≤ m →
    Rounds (true_cost k l) (cost k l) 4096 lcm400 m 0 (length l)
rounds k l n m one s t from long upto =
    segment_rounds k (slice s t l) (omega (arith, length-slice s t l upto)) (omega (arith, length-slice s t l upto))

module _ {S : Type 0} {k : S → S → ℤ} {d : S → S → ℕ} {a : S → ℕ} (w : Law k d a) where
  pub exact_nat : (l : List S) → exact k l ≡ pairs d l * (lcm400 / length l)
  unfolding exact
  exact_nat l = ap (λ (r : ℤ). nat_abs r * (lcm400 / length l)) (R_nat w l)

  -- splitting a segment never costs more, in true costs
  exact_join :
      (P : S → Type 0) → Splits P d → (l r : List S) → All P l → All P r → 1 ≤ length l → 1 ≤ length r →
      length l + length r ≤ 400 →
      exact k l + exact k r ≤ exact k (l ++ r)
  exact_join P h l r p q some more n =
      rw (exact_nat l, exact_nat r, exact_nat (l ++ r), length-append l r)
      (exact_parts (length l) (length r) (length l + length r) (pairs d l) (pairs d r) (pairs d (l ++ r)) (lcm400 / length l)
      (lcm400 / length r) (lcm400 / (length l + length r)) lcm400 (mul-pos (mul-pos some more) (omega arith))
      (lcm400_part (length l) some (omega arith)) (lcm400_part (length r) more (omega arith))
      (lcm400_part (length l + length r) (omega arith) n) (split_exact w P h l r p q))

  pub true_split :
      (P : S → Type 0) → Splits P d → (l : List S) → All P l → length l ≤ 400 → Splittable (true_cost k l) 0 (length l)
  true_split P h l p n s m t from left right upto =
      let one : length (slice s m l) + s ≡ m = omega (arith, length-slice s m l (omega arith)) in
      let two : length (slice m t l) + m ≡ t = omega (arith, length-slice m t l upto) in
      rw (slice_join s m t l (omega arith) (omega arith) upto)
      (exact_join P h (slice s m l) (slice m t l) (all_slice P s m l p) (all_slice P m t l p) (omega arith) (omega arith) (omega arith))
