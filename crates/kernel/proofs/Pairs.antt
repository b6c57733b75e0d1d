-- The pair form of R, once for every symmetric kernel over any kind of sample: R is the sum of δ over the unordered pairs.
-- Assumes nothing.
use mathlib.Core.Path.{◌≡◌, refl, sym, ap, ap₂, ◌∙◌}
use mathlib.Core.List.{List, [], ◌∷◌, reverse}
use Prim.Native.Nat.{ℕ, suc}
use native.Mathlib.Omega.{arith}
use lib.ListN.{length, length-reverse}
use lib.IntN.{ℤ, pos, ◌+ℤ◌, ◌-ℤ◌, ◌*ℤ◌, zero-*ℤ}
use Rattle.kernel.specs.Cost.{sum_z, A, B, R}
use Rattle.kernel.specs.Pairs.{δ, pairs}
use Rattle.kernel.proofs.Diff.{⊖-eq, view, diff}
use Rattle.kernel.proofs.Sums.{sum_z_add, sum_z_cong, sum_z_reverse, sum_z_pos}

-- the same sum in integers
abbrev pub pairs_z : {S : Type 0} → (S → S → ℤ) → List S → ℤ
pairs_z d [] = pos 0
pairs_z d (x ∷ l) = sum_z (d x) l +ℤ pairs_z d l

-- ---- the steps, in integers
row_step :
    (m : ℕ) (a b c s r : ℤ) →
    (a +ℤ b -ℤ pos 2 *ℤ c) +ℤ (pos m *ℤ a +ℤ s -ℤ pos 2 *ℤ r) ≡ pos (suc m) *ℤ a +ℤ (b +ℤ s) -ℤ pos 2 *ℤ (c +ℤ r)
row_step m a b c s r = rw (view a, view b, view c, view s, view r) (simp diff (⊖-eq _ _ _ _ (omega arith)))

R_step :
    (m : ℕ) (a s r b : ℤ) →
    pos (suc m) *ℤ (a +ℤ s) -ℤ ((a +ℤ r) +ℤ (r +ℤ b)) ≡ (pos m *ℤ a +ℤ s -ℤ pos 2 *ℤ r) +ℤ (pos m *ℤ s -ℤ b)
R_step m a s r b = rw (view a, view s, view r, view b) (simp diff (⊖-eq _ _ _ _ (omega arith)))

-- the samples in the other order have the same R, whatever the kernel
pub R_reverse : {S : Type 0} (k : S → S → ℤ) (l : List S) → R k (reverse l) ≡ R k l
unfolding R A B
R_reverse k l = simp (length-reverse, sum_z_reverse)

-- ---- the pair form
module _ {S : Type 0} (k : S → S → ℤ) (k_sym : (x y : S) → k x y ≡ k y x) where
  row : (x : S) (l : List S) → sum_z (δ k x) l ≡ pos (length l) *ℤ k x x +ℤ sum_z (λ y. k y y) l -ℤ pos 2 *ℤ sum_z (k x) l
  unfolding δ
  row x [] = rw zero-*ℤ
  row x (y ∷ l) = ap (λ t. δ k x y +ℤ t) (row x l) ∙ row_step (length l) (k x x) (k y y) (k x y) (sum_z (λ y. k y y) l) (sum_z (k x) l)

  -- the rows of a longer list, but the first
  rows : (x : S) (l : List S) → sum_z (λ z. k z x +ℤ sum_z (k z) l) l ≡ sum_z (k x) l +ℤ sum_z (λ z. sum_z (k z) l) l
  rows x l =
      sum_z_add (λ z. k z x) (λ z. sum_z (k z) l) l
      ∙ ap (λ t. t +ℤ sum_z (λ z. sum_z (k z) l) l) (sum_z_cong (λ z. k z x) (k x) (λ z. k_sym z x) l)

  -- R of a segment with one sample more in front
  pub R_cons : (x : S) (l : List S) → R k (x ∷ l) ≡ sum_z (δ k x) l +ℤ R k l
  unfolding R A B
  R_cons x l =
      ap (λ t. pos (suc (length l)) *ℤ A k (x ∷ l) -ℤ (k x x +ℤ sum_z (k x) l +ℤ t)) (rows x l)
      ∙ R_step (length l) (k x x) (A k l) (sum_z (k x) l) (B k l)
      ∙ ap (λ t. t +ℤ R k l) (sym (row x l))

  pub R_pairsZ : (l : List S) → R k l ≡ pairs_z (δ k) l
  unfolding R A B
  R_pairsZ [] = refl
  R_pairsZ (x ∷ l) = R_cons x l ∙ ap (λ t. sum_z (δ k x) l +ℤ t) (R_pairsZ l)

-- where δ is a natural, so is R
pub pairs_z_pos :
    {S : Type 0} (f : S → S → ℤ) (d : S → S → ℕ) → ((x y : S) → f x y ≡ pos (d x y)) → (l : List S) →
    pairs_z f l ≡ pos (pairs d l)
pairs_z_pos f d e [] = refl
pairs_z_pos f d e (x ∷ l) = ap₂ ◌+ℤ◌ (sum_z_pos (f x) (d x) (e x) l) (pairs_z_pos f d e l)
