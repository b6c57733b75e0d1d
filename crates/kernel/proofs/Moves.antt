-- Changes of the samples that keep R, and so the cost. Assumes nothing.
use mathlib.Core.Path.{◌≡◌, sym, ap, ap₂, ◌∙◌}
use mathlib.Core.List.{List, map}
use Prim.Native.Nat.{ℕ}
use native.Mathlib.Omega.{arith}
use lib.ListN.{length-map}
use lib.IntN.{ℤ, pos, nat_abs, neg_ℤ, ◌+ℤ◌}
use Rattle.kernel.specs.declared.Kernel.{Kernel}
use Rattle.kernel.specs.Cost.{R, units_of, units}
use Rattle.kernel.specs.Kernel.{gap, dist}
use Rattle.lists.specs.Lists.{All}
use Rattle.kernel.proofs.Diff.{view, nat_abs-⊖, diff}
use Rattle.kernel.proofs.Law.{Law, R_nat}
use Rattle.kernel.proofs.Sums.{pairs_map}

-- a map f of samples to samples, of another kind and kernel perhaps, that keeps the distance of all that have the property P
module _ {S T : Type 0} {k : S → S → ℤ} {k' : T → T → ℤ} {d : S → S → ℕ} {d' : T → T → ℕ} {a : S → ℕ} {a' : T → ℕ}
    (w : Law k d a) (w' : Law k' d' a')
    (P : S → Type 0) (f : S → T) (keeps : (x y : S) → P x → P y → d' (f x) (f y) ≡ d x y) where
  pub R_kept : (l : List S) → All P l → R k' (map f l) ≡ R k l
  R_kept l p = R_nat w' (map f l) ∙ ap pos (pairs_map P f d d' keeps l p) ∙ sym (R_nat w l)

  pub units_kept : (l : List S) → All P l → units k' (map f l) ≡ units k l
  unfolding units
  units_kept l p = ap₂ (λ r m. units_of (nat_abs r) m) (R_kept l p) (length-map l f)

-- ---- the kernels' own: a map f that keeps the distance of any two numbers
abbrev pub Kept : Kernel → (ℤ → ℤ) → Type 0
Kept k f = (x y : ℤ) → dist k (gap (f x) (f y)) ≡ dist k (gap x y)

-- one whole number added to all samples
pub shift_kept : (k : Kernel) (c : ℤ) → Kept k (λ x. x +ℤ c)
shift_kept k c x y = ap (dist k) (rw (view x, view y, view c) (simp (diff, nat_abs-⊖) (omega arith)))

-- all signs changed
pub sign_kept : (k : Kernel) → Kept k neg_ℤ
sign_kept k x y = ap (dist k) (rw (view x, view y) (simp (diff, nat_abs-⊖) (omega arith)))
