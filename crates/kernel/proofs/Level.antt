-- Samples in range by their levels, x + 1,000,000, which are natural numbers: the distances.
-- Assumes nothing.
use mathlib.Core.Path.{◌≡◌, refl}
use mathlib.Core.Bool.{Bool, true, false, cond}
use Prim.Native.Nat.{ℕ, suc, ◌+◌, ◌≤◌}
use native.Mathlib.Nat.{mul-le-mul}
use native.Mathlib.Omega.{arith}
use lib.Dec.{eqb}
use lib.IntN.{ℤ, pos, negsuc, ◌+ℤ◌}
use Rattle.kernel.specs.declared.Kernel.{Kernel}
use Rattle.kernel.specs.declared.Kernel.TheVariants.{Linear, Spelling, Energy}
use Rattle.sample.specs.Level.{InRange, level}
use Rattle.kernel.specs.Kernel.{gap, far, dist}
use Rattle.kernel.proofs.Diff.{up, dn, ◌⊖◌, parts, nat_abs-⊖, nat_abs_parts, up_only}
use Rattle.kernel.proofs.Kernels.{gap_parts}

level_parts : (x : ℤ) → InRange x → level x + dn x ≡ up x + 1000000
unfolding ◌⊖◌
level_parts (pos n) h = omega arith
level_parts (negsuc n) h = omega (arith, nat_abs-⊖ 1000000 (suc n))

-- the level is x + 1,000,000, and no less than 0
pub level_is : (x : ℤ) → InRange x → x +ℤ pos 1000000 ≡ pos (level x)
unfolding ◌⊖◌
level_is (pos n) h = refl
level_is (negsuc n) h =
    up_only (negsuc n +ℤ pos 1000000)
    (omega (arith, parts 1000000 (suc n), nat_abs-⊖ 1000000 (suc n), nat_abs_parts (negsuc n +ℤ pos 1000000)))

pub level_le : (x : ℤ) → InRange x → level x ≤ 2000000
level_le (pos n) h = omega arith
level_le (negsuc n) h = omega (arith, level_parts (negsuc n) h)

-- a distance of two levels is at most 2,000,000 squared
pub dist_le : (k : Kernel) (g : ℕ) → g ≤ 2000000 → dist k g ≤ 4000000000000
unfolding dist
dist_le Linear g h = mul-le-mul h h
dist_le Spelling g h = go (eqb g 0)
  where
    go : (t : Bool) → cond t 0 2 ≤ 4000000000000
    go true = omega arith
    go false = omega arith
dist_le Energy g h = omega arith

-- the distance of two samples is that of the two naturals
pub level_gap : (x y : ℤ) → InRange x → InRange y → far (level x) (level y) ≡ gap x y
level_gap x y h k = omega (arith, gap_parts x y, level_parts x h, level_parts y k)
