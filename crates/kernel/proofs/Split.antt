-- To cut a segment in two never costs more. A distance that is a sum of squared differences of features has that
-- property; so has each kernel's, over samples in range: kernel 1 has one feature, kernel 3 a feature for each
-- threshold, kernel 2 one for each code.
-- Assumes nothing.
use mathlib.Core.Path.{◌≡◌, refl, sym, ap, ap₂, subst}
use mathlib.Core.Bool.{Bool, true, false}
use mathlib.Core.List.{List, [], ◌∷◌, ◌++◌, map, append-nil}
use Prim.Native.Nat.{ℕ, zero, suc, ◌+◌, ◌*◌, ◌-◌, ◌≤◌}
use native.Mathlib.Nat.{add-sub_of_le, le_of_lt}
use native.Mathlib.Omega.{arith}
use lib.Dec.{leb}
use lib.ListN.{length, length-append, length-map}
use lib.IntN.{ℤ}
use borrow.Author.Tests.{leb-true, leb-false}
use Rattle.kernel.specs.Cost.{units}
use Rattle.kernel.specs.Kernel.{far}
use Rattle.lists.specs.Lists.{All}
use Rattle.kernel.specs.Pairs.{sum, pairs}
use Rattle.kernel.proofs.Law.{Law, units_nat}
use Rattle.kernel.proofs.Rounding.{floors}
use Rattle.kernel.proofs.Sums.{cross, pairs_append, sum_map, pairs_map}

-- the squared difference of two naturals
abbrev pub sq : ℕ → ℕ → ℕ
sq a b = far a b * far a b

sq_up : (a t : ℕ) → sq a (a + t) + 2 * (a * (a + t)) ≡ a * a + (a + t) * (a + t)
sq_up a t = let e : far a (a + t) ≡ t = omega arith in rw e (omega arith)

sq_down : (b t : ℕ) → sq (b + t) b + 2 * ((b + t) * b) ≡ (b + t) * (b + t) + b * b
sq_down b t = let e : far (b + t) b ≡ t = omega arith in rw e (omega arith)

sq_eq : (a b : ℕ) → sq a b + 2 * (a * b) ≡ a * a + b * b
sq_eq a b = go (leb a b) refl
  where
    go : (t : Bool) → leb a b ≡ t → sq a b + 2 * (a * b) ≡ a * a + b * b
    go true e = subst (λ (s : ℕ). sq a s + 2 * (a * s) ≡ a * a + s * s) (add-sub_of_le (leb-true a b e)) (sq_up a (b - a))
    go false e =
        subst (λ (s : ℕ). sq s b + 2 * (s * b) ≡ s * s + b * b) (add-sub_of_le (le_of_lt (leb-false a b e))) (sq_down b (a - b))

-- for two lists of m and n samples that have the property P: n²p + m²q ≤ mnx, with p, q the sums of d within each and x across
abbrev pub Splits : {S : Type 0} → (S → Type 0) → (S → S → ℕ) → Type 0
Splits {S} P d =
    (l r : List S) → All P l → All P r →
    length r * length r * pairs d l + length l * length l * pairs d r ≤ length l * length r * cross d l r

-- ---- the theorem, for any lawful kernel whose distance splits
module _ {S : Type 0} {k : S → S → ℤ} {d : S → S → ℕ} {a : S → ℕ} (w : Law k d a) (P : S → Type 0) (h : Splits P d) where
  -- in exact costs: (m + n)(np + mq) ≤ mnr, with p, q, r the R of the two parts and of the whole; that is p/m + q/n ≤ r/(m + n)
  pub split_exact : (l r : List S) → All P l → All P r
      → (length l + length r) * (length r * pairs d l + length l * pairs d r) ≤ length l * length r * pairs d (l ++ r)
  split_exact l r p q = omega (arith, ap (λ t. length l * length r * t) (pairs_append d l r), h l r p q)

  -- in units
  pub split_units : (l r : List S) → All P l → All P r → units k l + units k r ≤ units k (l ++ r)
  split_units [] r p q = omega (arith, units_nat w [])
  split_units (x ∷ l) [] p q = rw append-nil (omega (arith, units_nat w []))
  split_units (x ∷ l) (y ∷ r) p q =
      rw (units_nat w (x ∷ l), units_nat w (y ∷ r), units_nat w ((x ∷ l) ++ (y ∷ r)), length-append (x ∷ l) (y ∷ r))
      (floors (length (x ∷ l)) (length (y ∷ r)) _ _ _ (omega arith) (omega arith) (split_exact (x ∷ l) (y ∷ r) p q))

-- ---- one feature
module _ {S : Type 0} (φ : S → ℕ) where
  unfoldable pub ds : S → S → ℕ
  ds x y = sq (φ x) (φ y)

  row : (x : S) (l : List S) → sum (ds x) l + 2 * (φ x * sum φ l) ≡ length l * (φ x * φ x) + sum (λ y. φ y * φ y) l
  unfolding ds
  row x [] = omega arith
  row x (y ∷ l) = omega (arith, row x l, sq_eq (φ x) (φ y))

  within : (l : List S) → pairs ds l + sum φ l * sum φ l ≡ length l * sum (λ y. φ y * φ y) l
  within [] = omega arith
  within (x ∷ l) = omega (arith, within l, row x l)

  across :
      (l r : List S) →
      cross ds l r + 2 * (sum φ l * sum φ r) ≡ length r * sum (λ y. φ y * φ y) l + length l * sum (λ y. φ y * φ y) r
  across [] r = omega arith
  across (x ∷ l) r = omega (arith, across l r, row x r)

  pub splits_square : (P : S → Type 0) → Splits P ds
  splits_square P l r p q =
      let m = length l in
      let n = length r in
      omega (
        arith,
        ap (λ t. n * n * t) (within l),
        ap (λ t. m * m * t) (within r),
        ap (λ t. m * n * t) (across l r),
        sq_eq (n * sum φ l) (m * sum φ r),
      )

-- ---- sums of distances, a distance of one part of a sample, and distances that agree
module _ {S : Type 0} (d e : S → S → ℕ) where
  sum_add : (x : S) (l : List S) → sum (λ y. d x y + e x y) l ≡ sum (d x) l + sum (e x) l
  sum_add x [] = refl
  sum_add x (y ∷ l) = omega (arith, sum_add x l)

  pairs_add : (l : List S) → pairs (λ x y. d x y + e x y) l ≡ pairs d l + pairs e l
  pairs_add [] = refl
  pairs_add (x ∷ l) = omega (arith, pairs_add l, sum_add x l)

  cross_add : (l r : List S) → cross (λ x y. d x y + e x y) l r ≡ cross d l r + cross e l r
  cross_add [] r = refl
  cross_add (x ∷ l) r = omega (arith, cross_add l r, sum_add x r)

  pub splits_add : (P : S → Type 0) → Splits P d → Splits P e → Splits P (λ x y. d x y + e x y)
  splits_add P hd he l r p q = rw (pairs_add l, pairs_add r, cross_add l r) (omega (arith, hd l r p q, he l r p q))

module _ {S T : Type 0} (P : S → Type 0) (Q : T → Type 0) (f : S → T) (has : (x : S) → P x → Q (f x)) (d : S → S → ℕ) (e : T → T → ℕ)
    (same : (x y : S) → P x → P y → e (f x) (f y) ≡ d x y) where
  all_map : (l : List S) → All P l → All Q (map f l)
  all_map [] p = tt
  all_map (x ∷ l) p = (has x p.0, all_map l p.1)

  cross_to : (l r : List S) → All P l → All P r → cross e (map f l) (map f r) ≡ cross d l r
  cross_to [] r p q = refl
  cross_to (x ∷ l) r p q = ap₂ ◌+◌ (sum_map P f d e same x p.0 r q) (cross_to l r p.1 q)

  pub splits_part : Splits Q e → Splits P d
  splits_part h l r p q =
      rw
      (pairs_map P f d e same l p, pairs_map P f d e same r q, cross_to l r p q, length-map l f, length-map r f)
      at (h (map f l) (map f r) (all_map l p) (all_map r q))

pub splits_none : {S : Type 0} (P : S → Type 0) → Splits P (λ x y. 0)
unfolding ds
splits_none P = splits_square (λ x. 0) P

-- d t is the sum of the first t features' squared differences
pub splits_features : {S : Type 0} (P : S → Type 0) (d : ℕ → S → S → ℕ) (φ : ℕ → S → ℕ) → ((x y : S) → d 0 x y ≡ 0)
    → ((t : ℕ) (x y : S) → d (suc t) x y ≡ d t x y + sq (φ t x) (φ t y)) → (t : ℕ) → Splits P (d t)
unfolding ds
splits_features P d φ none more zero =
    splits_part P P (λ x. x) (λ x p. p) (d 0) (λ x y. 0) (λ x y p q. sym (none x y)) (splits_none P)
splits_features P d φ none more (suc t) =
    splits_part P P (λ x. x) (λ x p. p) (d (suc t)) (λ x y. d t x y + ds (φ t) x y) (λ x y p q. sym (more t x y))
    (splits_add (d t) (ds (φ t)) P (splits_features P d φ none more t) (splits_square (φ t) P))
