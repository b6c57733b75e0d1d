-- The test for a whole number: x without its fraction equals x where x is whole, and only there.
use mathlib.Core.Path.{◌≡◌, refl, sym, ap, ◌∙◌, subst}
use Prim.Native.Nat.{ℕ, ◌+◌, ◌*◌, ◌/◌, ◌%◌, ◌^◌, ◌≤◌}
use native.Mathlib.Nat.{le_of_eq, le_trans, mul-one, mul_right_comm, mul_comm, div-le_of_le-mul, eq_of_mul-eq-mul_right, mul-mod_left, div-add-mod', add-zero}
use mathlib.Core.Bool.{Bool, true, false, ◌||◌, beq}
use lib.IntN.{ℤ}
use lib.Dec.{T, eqb, eqb→eq, lit≤}
use lib.Ieee.{Float, nan, inf, fin, binary64, up, down, eq}
use lib.Ieee.Bits.{is_true}
use lib.Ieee.Fits.{down_pos, eq→eqb, and_l}
use lib.Ieee.Exact.{HasValue}
use lib.Ieee.Back.{round_whole}
use borrow.Author.Tests.{eq-eqb}
use Rattle.std.specs.Float.{trunc, round_with}

-- ---- a value of a whole size

-- a value of the whole size q equals x where x has that size and its sign
equal : (y : Float) (s : Bool) (m : ℕ) (e : ℤ) (q : ℕ) → HasValue y s q 1 → m * up e ≡ q * down e → eq y (fin s m e) ≡ true
unfolding eq
equal nan s m e q v h = elim v [ ]
equal (inf _) s m e q v h = elim v [ ]
equal (fin t n g) s m e q v h =
    let y_is : n * up g ≡ q * down g = sym (mul-one (n * up g)) ∙ v.1 in
    let same : n * up g * down e ≡ m * up e * down g = ap (λ (x : ℕ). x * down e) y_is ∙ mul_right_comm q (down g) (down e) ∙ ap (λ (x : ℕ). x * down g) (sym h) in
    rw (eq-eqb _ _ same, v.0) (alike s)
  where
    alike : (b : Bool) → beq b b || eqb (n * up g * down e) 0 ≡ true
    alike true = refl
    alike false = refl

-- and where x equals it, x has that size
size_of : (y : Float) (t : Bool) (s : Bool) (m : ℕ) (e : ℤ) (q : ℕ) → HasValue y t q 1 → eq y (fin s m e) ≡ true → m * up e ≡ q * down e
unfolding eq
size_of nan t s m e q v h = elim v [ ]
size_of (inf _) t s m e q v h = elim v [ ]
size_of (fin u n g) t s m e q v h =
    let y_is : n * up g ≡ q * down g = sym (mul-one (n * up g)) ∙ v.1 in
    let same : n * up g * down e ≡ m * up e * down g =
    eqb→eq (n * up g * down e) (m * up e * down g) (and_l (eqb (n * up g * down e) (m * up e * down g)) (beq u s || eqb (n * up g * down e) 0) (subst T (sym h) tt)) in
    eq_of_mul-eq-mul_right (down g) (down_pos g) (m * up e) (q * down e) (sym same ∙ ap (λ (x : ℕ). x * down e) y_is ∙ mul_right_comm q (down g) (down e))

-- ---- x without its fraction

-- has the whole size
trunc_size : (s : Bool) (m : ℕ) (e : ℤ) → m * up e / down e ≤ 2 ^ 53 → HasValue (trunc binary64 (fin s m e)) s (m * up e / down e) 1
unfolding round_with
trunc_size true m e h = round_whole binary64 true (m * up e / down e) h
trunc_size false m e h = round_whole binary64 false (m * up e / down e) h

-- two tests of which each passes where the other does
pub same_test : (p q : Bool) → (T p → T q) → (T q → T p) → p ≡ q
same_test true true h k = refl
same_test true false h k = absurd (h tt)
same_test false true h k = absurd (k tt)
same_test false false h k = refl

module _ (s : Bool) (m : ℕ) (e : ℤ) (l : m * up e ≤ 1000000 * down e) where
  size : HasValue (trunc binary64 (fin s m e)) s (m * up e / down e) 1
  size = trunc_size s m e (le_trans (div-le_of_le-mul (down e) (le_trans l (le_of_eq (mul_comm 1000000 (down e))))) (lit≤ tt))

  only_whole : T (eq (trunc binary64 (fin s m e)) (fin s m e)) → m * up e % down e ≡ 0
  only_whole t = ap (λ (x : ℕ). x % down e) (size_of (trunc binary64 (fin s m e)) s s m e (m * up e / down e) size (is_true _ t)) ∙ mul-mod_left (m * up e / down e) (down e)

  all_whole : m * up e % down e ≡ 0 → T (eq (trunc binary64 (fin s m e)) (fin s m e))
  all_whole r =
      subst T
      (sym (equal (trunc binary64 (fin s m e)) s m e (m * up e / down e) size
      (sym (div-add-mod' (m * up e) (down e)) ∙ ap (λ (x : ℕ). m * up e / down e * down e + x) r ∙ add-zero _)))
      tt

  pub whole_test : eq (trunc binary64 (fin s m e)) (fin s m e) ≡ eqb (m * up e % down e) 0
  whole_test = same_test _ _ (λ t. eq→eqb (only_whole t)) (λ t. all_whole (eqb→eq _ 0 t))
