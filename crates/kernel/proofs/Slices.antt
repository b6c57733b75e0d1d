-- Sums over the observations s .. t-1 of a record, and over their pairs, with one observation more at either end. Assumes nothing.
use mathlib.Core.Path.{◌≡◌, ap, ◌∙◌}
use mathlib.Core.List.{List, [], ◌∷◌}
use Prim.Native.Nat.{ℕ, suc, ◌+◌, ◌≤◌, ◌<◌}
use native.Mathlib.Omega.{arith}
use lib.ListN.{length, get_or}
use lib.Seq.{slice, slice-cons}
use Rattle.lists.proofs.Slices.{slice_snoc}
use Rattle.kernel.specs.Pairs.{sum, pairs}
use Rattle.kernel.proofs.Sums.{sum_append, pairs_append, sum_cong}

module _ {S : Type 0} where
  -- a sum with one element more at the back
  pub sum_back :
      (f : S → ℕ) (s t : ℕ) (l : List S) (z : S) → s ≤ t → t < length l →
      sum f (slice s (suc t) l) ≡ sum f (slice s t l) + f (get_or l t z)
  sum_back f s t l z h n =
      ap (sum f) (slice_snoc s t l z h n) ∙ omega (arith, sum_append f (slice s t l) (get_or l t z ∷ []))

  -- the sum over the pairs with one observation more, at the front and at the back
  pub pairs_front :
      (d : S → S → ℕ) (s t : ℕ) (l : List S) (z : S) → s < t → t ≤ length l →
      pairs d (slice s t l) ≡ sum (d (get_or l s z)) (slice (suc s) t l) + pairs d (slice (suc s) t l)
  pairs_front d s t l z h n = ap (pairs d) (slice-cons s t l z h n)

  pub pairs_back :
      (d : S → S → ℕ) (s t : ℕ) (l : List S) (z : S) → s ≤ t → t < length l →
      pairs d (slice s (suc t) l) ≡ pairs d (slice s t l) + sum (λ y. d y (get_or l t z)) (slice s t l)
  pairs_back d s t l z h n =
      ap (pairs d) (slice_snoc s t l z h n)
      ∙ omega (
        arith,
        pairs_append d (slice s t l) (get_or l t z ∷ []),
        sum_cong (λ y. d y (get_or l t z) + 0) (λ y. d y (get_or l t z)) (λ y. omega arith) (slice s t l),
      )
