-- The kernels' distances of samples in range, as sums of squared differences of features of their levels: kernel 1 has
-- one feature, kernel 3 one for each threshold, kernel 2 one for each code. So splitting a segment never costs more.
-- Assumes nothing.
use mathlib.Core.Path.{◌≡◌, refl, sym, ap, ◌∙◌}
use mathlib.Core.Bool.{Bool, true, false, cond}
use Prim.Native.Nat.{ℕ, suc, ◌+◌, ◌*◌, ◌≤◌, ◌<◌, min}
use native.Mathlib.Omega.{arith}
use lib.Dec.{ltb, eqb}
use lib.IntN.{ℤ}
use borrow.Author.Tests.{ltb-true, ltb-false, eqb-true, eqb-false, lt-ltb, le-ltb}
use Rattle.kernel.specs.declared.Kernel.{Kernel}
use Rattle.kernel.specs.declared.Kernel.TheVariants.{Linear, Spelling, Energy}
use Rattle.sample.specs.Level.{InRange, level}
use Rattle.kernel.specs.Kernel.{gap, far, dist}
use Rattle.kernel.proofs.Kernels.{agree}
use Rattle.kernel.proofs.Level.{level_le, level_gap}
use Rattle.kernel.proofs.Split.{sq, Splits, ds, splits_square, splits_part, splits_features}

bit : Bool → ℕ
bit t = cond t 1 0

-- kernel 3: the first t thresholds
over : {t u : ℕ} → t < u → (min u (suc t) ≡ suc t) × (min u t ≡ t)
over h = (omega arith, omega arith)

under : {t u : ℕ} → u ≤ t → (min u (suc t) ≡ u) × (min u t ≡ u)
under h = (omega arith, omega arith)

clamp_step : (t u v : ℕ) → far (min u (suc t)) (min v (suc t)) ≡ far (min u t) (min v t) + sq (bit (ltb t u)) (bit (ltb t v))
unfolding bit
clamp_step t u v = go (ltb t u) (ltb t v) refl refl
  where
    go :
        (p q : Bool) → ltb t u ≡ p → ltb t v ≡ q →
        far (min u (suc t)) (min v (suc t)) ≡ far (min u t) (min v t) + sq (bit p) (bit q)
    go true true h k =
        let a = over (ltb-true t u h) in
        let b = over (ltb-true t v k) in
        rw (a.0, a.1, b.0, b.1) (omega arith)
    go true false h k =
        let a = over (ltb-true t u h) in
        let b = under (ltb-false t v k) in
        rw (a.0, a.1, b.0, b.1) (omega (arith, ltb-false t v k))
    go false true h k =
        let a = under (ltb-false t u h) in
        let b = over (ltb-true t v k) in
        rw (a.0, a.1, b.0, b.1) (omega (arith, ltb-false t u h))
    go false false h k =
        let a = under (ltb-false t u h) in
        let b = under (ltb-false t v k) in
        rw (a.0, a.1, b.0, b.1) (omega arith)

-- kernel 2: the first t codes. Of two unequal codes, each below t counts
codes : ℕ → ℕ → ℕ → ℕ
codes t u v = cond (eqb u v) 0 (bit (ltb u t) + bit (ltb v t))

bit_suc : (u t : ℕ) → bit (ltb u (suc t)) ≡ bit (ltb u t) + bit (eqb u t)
unfolding bit
bit_suc u t = go (ltb u t) (eqb u t) refl refl
  where
    go : (p q : Bool) → ltb u t ≡ p → eqb u t ≡ q → bit (ltb u (suc t)) ≡ bit p + bit q
    go true true h k = absurd (omega (arith, ltb-true u t h, eqb-true u t k))
    go true false h k = rw (lt-ltb u (suc t) (omega (arith, ltb-true u t h)))
    go false true h k = rw (lt-ltb u (suc t) (omega (arith, eqb-true u t k)))
    go false false h k = rw (le-ltb u (suc t) (omega (arith, ltb-false u t h, eqb-false u t k)))

sq_bit : (a b : Bool) → (a ≡ true → b ≡ true → ⊥) → sq (bit a) (bit b) ≡ bit a + bit b
unfolding bit
sq_bit true true h = absurd (h refl refl)
sq_bit true false h = refl
sq_bit false true h = refl
sq_bit false false h = refl

sq_self : (a : ℕ) → sq a a ≡ 0
sq_self a = let e : far a a ≡ 0 = omega arith in rw e

no_code : (u v : ℕ) → codes 0 u v ≡ 0
unfolding codes bit
no_code u v = rw (le-ltb u 0 (omega arith), le-ltb v 0 (omega arith)) (go (eqb u v))
  where
    go : (p : Bool) → ◌≡◌ {A = ℕ} (cond p 0 0) 0
    go true = refl
    go false = refl

code_step : (t u v : ℕ) → codes (suc t) u v ≡ codes t u v + sq (bit (eqb u t)) (bit (eqb v t))
unfolding codes
code_step t u v = go (eqb u v) refl
  where
    go :
        (p : Bool) → eqb u v ≡ p →
        cond p 0 (bit (ltb u (suc t)) + bit (ltb v (suc t)))
        ≡ cond p 0 (bit (ltb u t) + bit (ltb v t)) + sq (bit (eqb u t)) (bit (eqb v t))
    go true h = rw (eqb-true u v h) (omega (arith, sq_self (bit (eqb v t))))
    go false h =
        omega (
          arith,
          bit_suc u t,
          bit_suc v t,
          sq_bit (eqb u t) (eqb v t) (λ a b. eqb-false u v h (eqb-true u t a ∙ sym (eqb-true v t b))),
        )

-- a distance of naturals that splits, for each kernel: on the levels of samples in range it is the kernel's
smooth : Kernel → ℕ → ℕ → ℕ
smooth Linear u v = sq u v
smooth Spelling u v = codes 2000001 u v
smooth Energy u v = far (min u 2000001) (min v 2000001)

smooth_splits : (k : Kernel) (P : ℕ → Type 0) → Splits P (smooth k)
unfolding smooth ds
smooth_splits Linear P = splits_square (λ u. u) P
smooth_splits Spelling P = splits_features P codes (λ t u. bit (eqb u t)) no_code code_step 2000001
smooth_splits Energy P =
    splits_features P (λ t u v. far (min u t) (min v t)) (λ t u. bit (ltb t u)) (λ u v. omega arith) clamp_step 2000001

smooth_dist : (k : Kernel) (x y : ℤ) → InRange x → InRange y → smooth k (level x) (level y) ≡ dist k (gap x y)
unfolding smooth dist codes bit
smooth_dist Linear x y h k = ap (λ g. g * g) (level_gap x y h k)
smooth_dist Spelling x y h k =
    rw
    (lt-ltb (level x) 2000001 (omega (arith, level_le x h)), lt-ltb (level y) 2000001 (omega (arith, level_le y k)))
    (ap (λ t. cond t 0 2)
    (agree (level x) (level y) (gap x y) 0 (λ e. omega (arith, level_gap x y h k)) (λ e. omega (arith, level_gap x y h k))))
smooth_dist Energy x y h k = omega (arith, level_gap x y h k, level_le x h, level_le y k)

pub splits_kernel : (k : Kernel) → Splits InRange (λ x y. dist k (gap x y))
splits_kernel k =
    splits_part InRange (λ u. Unit {0}) level (λ x p. tt) (λ x y. dist k (gap x y)) (smooth k) (smooth_dist k)
    (smooth_splits k (λ u. Unit {0}))
