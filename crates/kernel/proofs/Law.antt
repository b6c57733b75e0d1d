-- What the theorems ask of a kernel, and what follows: the pair form of R in naturals, and the bounds. Sums of lawful
-- kernels are lawful, and so is a kernel of one part of a sample. Assumes nothing.
use mathlib.Core.Path.{◌≡◌, refl, sym, ap, ap₂, ◌∙◌}
use mathlib.Core.List.{List, map}
use Prim.Native.Nat.{ℕ, ◌+◌, ◌*◌, ◌≤◌}
use native.Mathlib.Nat.{div-le_of_le-mul}
use native.Mathlib.Omega.{arith}
use lib.ListN.{length}
use lib.IntN.{ℤ, pos, nat_abs, ◌+ℤ◌, ◌-ℤ◌, ◌*ℤ◌, -ℤ-+ℤ_cancel}
use Rattle.kernel.specs.Cost.{sum_z, A, B, R, units_of, units}
use Rattle.kernel.specs.Pairs.{δ, sum, pairs}
use Rattle.kernel.proofs.Diff.{⊖-eq, view, diff}
use Rattle.kernel.proofs.Pairs.{R_pairsZ, pairs_z_pos}
use Rattle.kernel.proofs.Sums.{sum_z_add, sum_z_cong, sum_z_pos, sum_z_map}

-- the kernel k is symmetric, its distance is the natural d, k(x,x) the natural a, and B is never negative
pub record Law {S : Type 0} (k : S → S → ℤ) (d : S → S → ℕ) (a : S → ℕ) : Type 0 where
  pub k_sym : (x y : S) → k x y ≡ k y x
  pub apart : (x y : S) → δ k x y ≡ pos (d x y)
  pub own : (x : S) → k x x ≡ pos (a x)
  pub whole : (l : List S) → (b : ℕ) × (B k l ≡ pos b)

balance : (m a b r : ℕ) → pos m *ℤ pos a -ℤ pos b ≡ pos r → r + b ≡ m * a
balance m a b r e = ap nat_abs (sym (ap (λ t. t +ℤ pos b) e) ∙ -ℤ-+ℤ_cancel (pos (m * a)) (pos b))

module _ {S : Type 0} {k : S → S → ℤ} {d : S → S → ℕ} {a : S → ℕ} (w : Law k d a) where
  -- R is the sum of d over the unordered pairs, so never negative
  pub R_nat : (l : List S) → R k l ≡ pos (pairs d l)
  R_nat l = R_pairsZ k w.k_sym l ∙ pairs_z_pos (δ k) d w.apart l

  pub units_nat : (l : List S) → units k l ≡ units_of (pairs d l) (length l)
  unfolding units
  units_nat l = ap (λ r. units_of (nat_abs r) (length l)) (R_nat l)

  pub A_nat : (l : List S) → A k l ≡ pos (sum a l)
  unfolding A
  A_nat l = sum_z_pos (λ x. k x x) a w.own l

  -- R ≤ mA
  pub R_bound : (l : List S) → pairs d l ≤ length l * sum a l
  unfolding R
  R_bound l =
      let b = w.whole l in
      omega (
        arith,
        balance (length l) (sum a l) b.0 (pairs d l)
            (ap₂ (λ s t. pos (length l) *ℤ s -ℤ t) (sym (A_nat l)) (sym b.1) ∙ R_nat l),
      )

  pub units_bound : (l : List S) → units k l ≤ 4096 * sum a l
  units_bound l = rw (units_nat l) (div-le_of_le-mul (length l) (omega (arith, R_bound l)))

-- ---- sums and parts
δ_add : (a b c a' b' c' : ℤ) → (a +ℤ a') +ℤ (b +ℤ b') -ℤ pos 2 *ℤ (c +ℤ c') ≡ (a +ℤ b -ℤ pos 2 *ℤ c) +ℤ (a' +ℤ b' -ℤ pos 2 *ℤ c')
δ_add a b c a' b' c' = rw (view a, view b, view c, view a', view b', view c') (simp diff (⊖-eq _ _ _ _ (omega arith)))

B_add : {S : Type 0} (k k' : S → S → ℤ) (l : List S) → B (λ x y. k x y +ℤ k' x y) l ≡ B k l +ℤ B k' l
unfolding B
B_add k k' l =
    sum_z_cong (λ x. sum_z (λ y. k x y +ℤ k' x y) l) (λ x. sum_z (k x) l +ℤ sum_z (k' x) l) (λ x. sum_z_add (k x) (k' x) l) l
    ∙ sum_z_add (λ x. sum_z (k x) l) (λ x. sum_z (k' x) l) l

B_part : {S T : Type 0} (f : S → T) (k : T → T → ℤ) (l : List S) → B k (map f l) ≡ B (λ x y. k (f x) (f y)) l
unfolding B
B_part f k l =
    sum_z_map f (λ x. sum_z (λ y. k (f x) (f y)) l) (λ x. sum_z (k x) (map f l))
    (λ x. sum_z_map f (λ y. k (f x) (f y)) (k (f x)) (λ y. refl) l) l

pub law_add : {S : Type 0} {k k' : S → S → ℤ} {d d' : S → S → ℕ} {a a' : S → ℕ} → Law k d a → Law k' d' a'
    → Law (λ x y. k x y +ℤ k' x y) (λ x y. d x y + d' x y) (λ x. a x + a' x)
unfolding δ
law_add {k = k} {k' = k'} w w' =
    record {
      k_sym = λ x y. ap₂ ◌+ℤ◌ (w.k_sym x y) (w'.k_sym x y);
      apart = λ x y. δ_add (k x x) (k y y) (k x y) (k' x x) (k' y y) (k' x y) ∙ ap₂ ◌+ℤ◌ (w.apart x y) (w'.apart x y);
      own = λ x. ap₂ ◌+ℤ◌ (w.own x) (w'.own x);
      whole = λ l. ((w.whole l).0 + (w'.whole l).0, B_add k k' l ∙ ap₂ ◌+ℤ◌ (w.whole l).1 (w'.whole l).1);
    }

pub law_part : {S T : Type 0} (f : S → T) {k : T → T → ℤ} {d : T → T → ℕ} {a : T → ℕ} → Law k d a
    → Law (λ x y. k (f x) (f y)) (λ x y. d (f x) (f y)) (λ x. a (f x))
unfolding δ
law_part f {k = k} w =
    record {
      k_sym = λ x y. w.k_sym (f x) (f y);
      apart = λ x y. w.apart (f x) (f y);
      own = λ x. w.own (f x);
      whole = λ l. ((w.whole (map f l)).0, sym (B_part f k l) ∙ (w.whole (map f l)).1);
    }
