-- A share's judgement, read off the product x = 65,536 v by the tests that `judge_share` makes. `product_judged` is the claim that the product loses nothing that matters:
-- where it is finite it is exact, and where it overflows the share is out of range.
use Rattle.std.specs.Prelude.{Ok, Err}
use mathlib.Core.Path.{◌≡◌, refl, sym, ap, ◌∙◌, subst}
use Prim.Native.Nat.{ℕ, ◌+◌, ◌*◌, ◌/◌, ◌%◌, ◌^◌, ◌≤◌, ◌<◌}
use native.Mathlib.Nat.{le_trans, le_of_eq, lt_of_lt_of_le, lt_of_le_of_lt, mul-one, zero-mul, add-zero, mul_right_comm, mul-lt-mul_of_pos_right, lt_of_mul-lt-mul_right, mul-mod_left, eq_of_mul-eq-mul_right, div-add-mod', div-le_of_le-mul, mul_comm, zero-div, zero-mod}
use native.Mathlib.Omega.{arith}
use mathlib.Core.Bool.{Bool, true, false, not, cond, ◌&&◌, ◌||◌, beq, true≢false, false≢true}
use lib.IntN.{ℤ, pos}
use lib.Dec.{T, ltb, leb, eqb, ltb→lt, lt→ltb, nltb→le, le→leb, eqb→eq, lit<, lit≤}
use lib.Ieee.{Float, nan, inf, fin, binary64, up, down, mul, lt, eq, ne, fits, whole, in_signed, to_signed}
use Rattle.std.specs.Float.{float_is_finite, trunc, round_with}
use lib.Ieee.Fits.{down_pos, and_i, eq→eqb}
use lib.Ieee.Casts.{to_signed_cut}
use lib.Ieee.Exact.{HasValue}
use lib.Ieee.Nearest.{div_same}
use borrow.Author.Tests.{ltb-true, ltb-false, eqb-true, eqb-false, lt-ltb, le-ltb, eq-eqb, ne_eqb}
use Rattle.sample.specs.Level.{power}
use Rattle.sample.specs.Judge.{Judged}
use Rattle.sample.specs.declared.Fault.TheVariants.{NotFinite, OutOfRange, NotWhole}
use Rattle.sample.specs.Judge.{signed, judged_ratio, judged_share}
use Rattle.sample.proofs.Scaled.{product_exact, product_over}
use Rattle.sample.proofs.Whole.{same_test, whole_test}

-- ---- a judgement sees only the value of its fraction

module _ (a c b d : ℕ) (C : 0 < c) (D : 0 < d) (e : a * d ≡ b * c) where
  above_same : (n : ℕ) → n * c < a → n * d < b
  above_same n h =
      lt_of_mul-lt-mul_right c (lt_of_le_of_lt (le_of_eq (mul_right_comm n d c)) (lt_of_lt_of_le (mul-lt-mul_of_pos_right h D) (le_of_eq e)))

  whole_same : a % c ≡ 0 → b % d ≡ 0
  whole_same h =
      let q = a / c in
      let a_is : a ≡ q * c = sym (div-add-mod' a c) ∙ ap (λ (x : ℕ). q * c + x) h ∙ add-zero (q * c) in
      let b_is : b ≡ q * d = eq_of_mul-eq-mul_right c C b (q * d) (sym e ∙ ap (λ (x : ℕ). x * d) a_is ∙ mul_right_comm q c d) in
      ap (λ (x : ℕ). x % d) b_is ∙ mul-mod_left q d

ratio_same : (s : Bool) (a c b d : ℕ) → 0 < c → 0 < d → a * d ≡ b * c → judged_ratio s a c ≡ judged_ratio s b d
unfolding judged_ratio
ratio_same s a c b d C D e =
    let p : ltb (1000000 * c) a ≡ ltb (1000000 * d) b = same_test (ltb (1000000 * c) a) (ltb (1000000 * d) b)
    (λ t. lt→ltb (1000000 * d) b (above_same a c b d C D e 1000000 (ltb→lt (1000000 * c) a t)))
    (λ t. lt→ltb (1000000 * c) a (above_same b d a c D C (sym e) 1000000 (ltb→lt (1000000 * d) b t))) in
    let r : eqb (a % c) 0 ≡ eqb (b % d) 0 = same_test (eqb (a % c) 0) (eqb (b % d) 0)
    (λ t. eq→eqb (whole_same a c b d C D e (eqb→eq (a % c) 0 t)))
    (λ t. eq→eqb (whole_same b d a c D C (sym e) (eqb→eq (b % d) 0 t))) in
    ap (λ (x : Bool). cond x (Err OutOfRange) (cond (eqb (a % c) 0) (Ok (signed s (a / c))) (Err NotWhole))) p
    ∙ ap (λ (x : Bool). cond (ltb (1000000 * d) b) (Err OutOfRange) (cond x (Ok (signed s (a / c))) (Err NotWhole))) r
    ∙ ap (λ (x : ℕ). cond (ltb (1000000 * d) b) (Err OutOfRange) (cond (eqb (b % d) 0) (Ok (signed s x)) (Err NotWhole))) (div_same a c b d C D e)

-- ---- what x is judged to be. (No product of finite values is a NaN. The tests would take one for a number that is not whole.)

unfoldable pub judged_product : Float → Judged
judged_product nan = Err NotWhole
judged_product (inf s) = Err OutOfRange
judged_product (fin s m e) = judged_ratio s (m * up e) (down e)

value_judged : (x : Float) (s : Bool) (a c : ℕ) → 0 < c → HasValue x s a c → judged_product x ≡ judged_ratio s a c
unfolding judged_product
value_judged nan s a c C v = elim v [ ]
value_judged (inf _) s a c C v = elim v [ ]
value_judged (fin t m e) s a c C v = ratio_same t (m * up e) (down e) a c (down_pos e) C v.1 ∙ ap (λ (u : Bool). judged_ratio u a c) v.0

far_out : (s : Bool) (a c : ℕ) → 1000000 * c < a → judged_ratio s a c ≡ Err OutOfRange
unfolding judged_ratio
far_out s a c h = rw (lt-ltb (1000000 * c) a h)

pub product_judged : (s : Bool) (m : ℕ) (e : ℤ) → T (fits binary64 (fin s m e)) → judged_share (fin s m e) ≡ judged_product (mul binary64 (fin s m e) (power 16))
unfolding judged_share judged_product
product_judged s m e h = go (ltb a (2 ^ 1024 * down e)) (ltb→lt a (2 ^ 1024 * down e)) (nltb→le a (2 ^ 1024 * down e))
  where
    a : ℕ
    a = m * up e * 65536

    go : (b : Bool) → (T b → a < 2 ^ 1024 * down e) → (T (not b) → 2 ^ 1024 * down e ≤ a) → judged_ratio s a (down e) ≡ judged_product (mul binary64 (fin s m e) (power 16))
    go true u o = sym (value_judged (mul binary64 (fin s m e) (power 16)) s a (down e) (down_pos e) (product_exact binary64 s m e 16 h (u tt)))
    go false u o =
        far_out s a (down e) (lt_of_lt_of_le (mul-lt-mul_of_pos_right (lit< tt) (down_pos e)) (o tt))
        ∙ ap judged_product (sym (product_over binary64 s m e 16 h (o tt)))

-- ---- whether the share is finite

pub not_finite : (v : Float) → float_is_finite v ≡ false → Err NotFinite ≡ judged_share v
unfolding judged_share float_is_finite
not_finite nan t = refl
not_finite (inf s) t = refl
not_finite (fin s m e) t = absurd (true≢false t)

pub share_judged : (v : Float) → T (fits binary64 v) → float_is_finite v ≡ true → judged_share v ≡ judged_product (mul binary64 v (power 16))
unfolding float_is_finite
share_judged nan h t = absurd (true≢false (sym t))
share_judged (inf true) h t = absurd (true≢false (sym t))
share_judged (inf false) h t = absurd (true≢false (sym t))
share_judged (fin s m e) h t = product_judged s m e h

-- ---- the range

abbrev pub highest : Float
highest = fin false 15625 (pos 6)

abbrev pub lowest : Float
lowest = fin true 15625 (pos 6)

pub too_low : (x : Float) → lt x lowest ≡ true → judged_product x ≡ Err OutOfRange
unfolding lt judged_product
too_low nan t = absurd (false≢true t)
too_low (inf s) t = refl
too_low (fin false m e) t = absurd (false≢true t)
too_low (fin true m e) t = far_out true (m * up e) (down e) (ltb-true (1000000 * down e) (m * up e) (simp mul-one at t))

pub too_high : (x : Float) → lt highest x ≡ true → judged_product x ≡ Err OutOfRange
unfolding lt judged_product
too_high nan t = absurd (false≢true t)
too_high (inf s) t = refl
too_high (fin true m e) t = absurd (false≢true t)
too_high (fin false m e) t = far_out false (m * up e) (down e) (ltb-true (1000000 * down e) (m * up e) (simp mul-one at t))

-- what the two tests leave: a finite x of size at most 1,000,000, or a NaN
in_range : (s : Bool) (m : ℕ) (e : ℤ) → lt (fin s m e) lowest ≡ false → lt highest (fin s m e) ≡ false → ltb (1000000 * down e) (m * up e) ≡ false
unfolding lt
in_range true m e l h = simp mul-one at l
in_range false m e l h = simp mul-one at h

-- ---- whether x is zero

abbrev pub zero_float : Float
zero_float = fin false 0 (pos 0)

is_zero : (t : Bool) (b : Bool) → b && (beq t false || b) ≡ b
is_zero t false = refl
is_zero true true = refl
is_zero false true = refl

own_zero : (s : Bool) (m : ℕ) (e : ℤ) → eq (fin s m e) zero_float ≡ eqb (m * up e) 0
unfolding eq
own_zero s m e = rw (mul-one (m * up e), zero-mul (down e)) (is_zero s (eqb (m * up e) 0))

-- ---- what the tests say together

ratio_small : (s : Bool) (a c : ℕ) (b : Bool) → ltb (1000000 * c) a ≡ false → eqb (a % c) 0 ≡ b → judged_ratio s a c ≡ cond b (Ok (signed s (a / c))) (Err NotWhole)
unfolding judged_ratio
ratio_small s a c b p q = rw (p, q)

-- x is in range
module _ (s : Bool) (m : ℕ) (e : ℤ) (l : lt (fin s m e) lowest ≡ false) (h : lt highest (fin s m e) ≡ false) where
  within : m * up e ≤ 1000000 * down e
  within = ltb-false (1000000 * down e) (m * up e) (in_range s m e l h)

  rest_is : (b : Bool) → ne (trunc binary64 (fin s m e)) (fin s m e) ≡ not b → eqb (m * up e % down e) 0 ≡ b
  unfolding ne
  rest_is b t = sym (whole_test s m e within) ∙ not_same _ b t
    where
      not_same : (p q : Bool) → not p ≡ not q → p ≡ q
      not_same true true n = refl
      not_same true false n = absurd (false≢true n)
      not_same false true n = absurd (true≢false n)
      not_same false false n = refl

  judged_rest : (b : Bool) → ne (trunc binary64 (fin s m e)) (fin s m e) ≡ not b → judged_product (fin s m e) ≡ cond b (Ok (signed s (m * up e / down e))) (Err NotWhole)
  unfolding judged_product
  judged_rest b t = ratio_small s (m * up e) (down e) b (in_range s m e l h) (rest_is b t)

signed_zero : (s : Bool) → signed s 0 ≡ pos 0
signed_zero true = refl
signed_zero false = refl

pub is_zero_whole : (x : Float) → eq x zero_float ≡ true → judged_product x ≡ Ok (pos 0)
unfolding eq judged_product
is_zero_whole nan z = absurd (false≢true z)
is_zero_whole (inf s) z = absurd (false≢true z)
is_zero_whole (fin s m e) z =
    rw (eqb-true (m * up e) 0 (sym (own_zero s m e) ∙ z))
    (ratio_small s 0 (down e) true (le-ltb (1000000 * down e) 0 (omega arith)) (eq-eqb _ _ (zero-mod (down e))) ∙ ap (λ (x : ℕ). Ok (signed s x)) (zero-div (down e)) ∙ ap Ok (signed_zero s))

pub not_whole : (x : Float) → lt x lowest ≡ false → lt highest x ≡ false → ne (trunc binary64 x) x ≡ true → judged_product x ≡ Err NotWhole
unfolding lt judged_product
not_whole nan l h t = refl
not_whole (inf true) l h t = absurd (true≢false l)
not_whole (inf false) l h t = absurd (true≢false h)
not_whole (fin s m e) l h t = judged_rest s m e l h false t

no_zero : (s : Bool) (m u : ℕ) → eqb (m * u) 0 ≡ false → T (not (s && eqb m 0))
no_zero false m u z = tt
no_zero true m u z = rw (ne_eqb m 0 (λ (p : m ≡ 0). eqb-false (m * u) 0 z (ap (λ (x : ℕ). x * u) p ∙ zero-mul u))) tt

castable : (s : Bool) (q : ℕ) → q ≤ 1000000 → T (cond s (leb q (2 ^ 63)) (ltb q (2 ^ 63)))
castable true q h = le→leb q (2 ^ 63) (le_trans h (lit≤ tt))
castable false q h = lt→ltb q (2 ^ 63) (lt_of_le_of_lt h (lit< tt))

pub is_whole_cast : (x : Float) → lt x lowest ≡ false → lt highest x ≡ false → eq x zero_float ≡ false → ne (trunc binary64 x) x ≡ false → T (in_signed binary64 63 x) × (judged_product x ≡ Ok (to_signed 63 x))
unfolding lt ne eq in_signed whole round_with
is_whole_cast nan l h z t = absurd (true≢false t)
is_whole_cast (inf true) l h z t = absurd (true≢false l)
is_whole_cast (inf false) l h z t = absurd (true≢false h)
is_whole_cast (fin s m e) l h z t =
    let q = m * up e / down e in
    let r = m * up e % down e in
    let small : q ≤ 1000000 = div-le_of_le-mul (down e) (le_trans (within s m e l h) (le_of_eq (mul_comm 1000000 (down e)))) in
    let i : T (in_signed binary64 63 (fin s m e)) =
    and_i (eqb r 0 && leb q (2 ^ 53) && not (s && eqb m 0)) (cond s (leb q (2 ^ 63)) (ltb q (2 ^ 63)))
    (and_i (eqb r 0 && leb q (2 ^ 53)) (not (s && eqb m 0))
    (and_i (eqb r 0) (leb q (2 ^ 53)) (subst T (sym (rest_is s m e l h true t)) tt) (le→leb q (2 ^ 53) (le_trans small (lit≤ tt))))
    (no_zero s m (up e) (sym (own_zero s m e) ∙ z)))
    (castable s q small) in
    (i, judged_rest s m e l h true t ∙ ap Ok (sym (to_signed_cut binary64 63 s m e i)))
