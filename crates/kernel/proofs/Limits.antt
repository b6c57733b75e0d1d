-- Bounds for samples in range: of k(x,x), of sums, and of k(x,x) over several channels. Assumes nothing.
use mathlib.Core.List.{List, [], ◌∷◌}
use Prim.Native.Nat.{ℕ, ◌*◌, ◌≤◌}
use native.Mathlib.Nat.{mul-le-mul}
use native.Mathlib.Omega.{arith}
use lib.ListN.{length}
use lib.IntN.{ℤ, pos}
use Rattle.kernel.specs.declared.Kernel.{Kernel}
use Rattle.kernel.specs.declared.Kernel.TheVariants.{Linear, Spelling, Energy}
use Rattle.sample.specs.Level.{InRange}
use Rattle.kernel.specs.Channels.{first, others, owns, InRanges}
use Rattle.kernel.specs.Kernel.{own}
use Rattle.lists.specs.Lists.{All}
use Rattle.kernel.specs.Pairs.{sum}

pub own_le : (k : Kernel) (x : ℤ) → InRange x → own k x ≤ 1000000000000
unfolding own
own_le Linear x h = mul-le-mul h h
own_le Spelling x h = omega arith
own_le Energy x h = omega arith

pub sum_le :
    {S : Type 0} (P : S → Type 0) (f : S → ℕ) (c : ℕ) → ((x : S) → P x → f x ≤ c) → (l : List S) → All P l →
    sum f l ≤ length l * c
sum_le P f c h [] a = omega arith
sum_le P f c h (x ∷ l) a = omega (arith, h x a.0, sum_le P f c h l a.1)

-- several channels, each in range
pub owns_le : (ks : List Kernel) (x : List ℤ) → InRanges ks x → owns ks x ≤ length ks * 1000000000000
owns_le [] x p = omega arith
owns_le (k ∷ ks) x p = omega (arith, own_le k (first (pos 0) x) p.0, owns_le ks (others x) p.1)
