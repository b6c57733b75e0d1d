-- A float times a power of two, rounded to its own format: it is exact where it stays below 2 ^ (emax + 1), and an infinity from there on. A subnormal value is no exception.
use mathlib.Core.Path.{◌≡◌, sym, ap, ◌∙◌, subst}
use Prim.Native.Nat.compare
use Prim.Native.Nat.{Ordering}
use Prim.Native.Nat.{ℕ, zero, suc, ◌+◌, ◌-◌, ◌*◌, ◌/◌, ◌%◌, ◌^◌, ◌≤◌, ◌<◌, compare}
use native.Mathlib.Nat.{le_trans, le_of_eq, le_of_suc-le-suc, lt_of_lt_of_le, lt_of_not-le, not-le_of_lt, lt_irrefl, mul-one, one-mul, mul_comm, mul_assoc, mul_right_comm, mul-le-mul_right, mul-lt-mul_of_pos_right, le_of_mul-le-mul_right, lt_of_mul-lt-mul_right, mul-pos, mul-div_cancel, mul-mod_left}
use native.Mathlib.Omega.{arith}
use mathlib.Core.Bool.{Bool, true, false, ◌&&◌}
use lib.IntN.{ℤ, pos, negsuc}
use lib.Dec.{T, ltb, leb, eqb, ltb→lt, leb→le, eqb→eq}
use lib.Pow.{pow-add, pow_pos, pow-lt, shl_lt}
use lib.Ieee.{fin, inf, Format, prec, emax, low, up, down, size, units, round, mul, fits}
use lib.Ieee.Digits.{size-le, back}
use lib.Ieee.Fits.{core, round_is, down_pos, and_l, and_r}
use lib.Ieee.Exact.{HasValue, round_exact}
use borrow.Author.Tests.{le-ltb}
use Rattle.sample.specs.Level.{power}

-- ---- what `fits` says of a finite value

down_flat : (f : Format) (e : ℤ) → up e * down e ≡ 1 → down e ≤ 2 ^ low f
down_flat f (pos k) h = pow_pos (low f)
down_flat f (negsuc k) h = le_trans (le_of_eq (sym (one-mul (2 ^ suc k)) ∙ h)) (pow_pos (low f))

pub held : (f : Format) (s : Bool) (m : ℕ) (e : ℤ) → T (fits f (fin s m e)) → (m < 2 ^ prec f) × (down e ≤ 2 ^ low f)
unfolding fits
held f s zero e t = (pow_pos (prec f), down_flat f e (eqb→eq (up e * down e) 1 t))
held f s (suc m) e t =
    let a : Bool = eqb (suc m % 2) 1 in
    let b : Bool = ltb (suc m) (2 ^ prec f) in
    let c : Bool = leb (down e) (2 ^ low f) in
    let h = and_l (a && b && c) (ltb (suc m * up e) (2 ^ suc (emax f) * down e)) t in
    (ltb→lt (suc m) (2 ^ prec f) (and_r a b (and_l (a && b) c h)), leb→le (down e) (2 ^ low f) (and_r (a && b) c h))

-- ---- 2 ^ e * 2 ^ t is a whole power of two of the format's smallest values

pow_le : {i j : ℕ} → 2 ^ i ≤ 2 ^ j → i ≤ j
pow_le {i} {j} h = le_of_suc-le-suc (lt_of_not-le (λ (g : suc j ≤ i). not-le_of_lt (pow-lt g) h))

steps : (f : Format) (e : ℤ) (t : ℕ) → down e ≤ 2 ^ low f → (j : ℕ) × (up e * 2 ^ t * 2 ^ low f ≡ 2 ^ j * down e)
steps f (pos k) t h = (k + t + low f, simp (pow-add, mul-one))
steps f (negsuc k) t h =
    let l = low f in
    (t + (l - suc k), ap (λ (x : ℕ). x * 2 ^ l) (one-mul (2 ^ t)) ∙ ap (λ (x : ℕ). 2 ^ t * 2 ^ x) (sym (back l (suc k) (pow_le h))) ∙ ap (λ (x : ℕ). 2 ^ t * x) (pow-add 2 (l - suc k) (suc k)) ∙ sym (mul_assoc (2 ^ t) (2 ^ (l - suc k)) (2 ^ suc k)) ∙ ap (λ (x : ℕ). x * 2 ^ suc k) (sym (pow-add 2 t (l - suc k))))

-- ---- a fraction of q * 2 ^ j of the smallest values that is too large rounds to an infinity

above_zero : (u : ℕ) → 0 < u → compare 0 u ≡ Ordering.lt
above_zero zero h = absurd (lt_irrefl 0 h)
above_zero (suc u) h = compare.zero-suc u

core_exact : (f : Format) (s : Bool) (den k q : ℕ) → 0 < den * 2 ^ k → core f s (q * (den * 2 ^ k)) den k ≡ units f s q k
core_exact f s den k q h = simp (mul-div_cancel q h, mul-mod_left q (den * 2 ^ k), above_zero (den * 2 ^ k) h)

units_over : (f : Format) (s : Bool) (q k : ℕ) → 2 ^ (low f + suc (emax f)) ≤ q * 2 ^ k → units f s q k ≡ inf s
unfolding units
units_over f s q k h = rw (le-ltb (q * 2 ^ k) (2 ^ (low f + suc (emax f))) h)

spare : (z p l : ℕ) → z ≤ p + l → z - p ≤ l
spare z p l h = omega arith

round_over : (f : Format) (s : Bool) (num den q j : ℕ) → 0 < den → q < 2 ^ prec f → 2 ^ (low f + suc (emax f)) ≤ q * 2 ^ j
    → num * 2 ^ low f ≡ q * 2 ^ j * den → round f s num den ≡ inf s
round_over f s num den q j dp small over h =
    let n = num * 2 ^ low f in
    let e1 : n / den ≡ q * 2 ^ j = ap (λ (x : ℕ). x / den) h ∙ mul-div_cancel (q * 2 ^ j) dp in
    let k = size (n / den) - prec f in
    let k_le : k ≤ j = spare (size (n / den)) (prec f) j (size-le (n / den) (prec f + j) (subst (λ (x : ℕ). x < 2 ^ (prec f + j)) (sym e1) (shl_lt (prec f) j small))) in
    let r = q * 2 ^ (j - k) in
    let e3 : r * 2 ^ k ≡ q * 2 ^ j = mul_assoc q (2 ^ (j - k)) (2 ^ k) ∙ ap (λ (x : ℕ). q * x) (sym (pow-add 2 (j - k) k) ∙ ap (λ (x : ℕ). 2 ^ x) (back j k k_le)) in
    let e2 : n ≡ r * (den * 2 ^ k) = h ∙ ap (λ (x : ℕ). x * den) (sym e3) ∙ mul_assoc r (2 ^ k) den ∙ ap (λ (x : ℕ). r * x) (mul_comm (2 ^ k) den) in
    round_is f s num den
    ∙ ap (λ (x : ℕ). core f s x den k) e2
    ∙ core_exact f s den k r (mul-pos dp (pow_pos k))
    ∙ units_over f s r k (subst (λ (x : ℕ). 2 ^ (low f + suc (emax f)) ≤ x) (sym e3) over)

-- ---- the product

times : (f : Format) (s : Bool) (m : ℕ) (e : ℤ) (t : ℕ) → mul f (fin s m e) (power t) ≡ round f s (m * up e * 2 ^ t) (down e)
unfolding mul
times f true m e t = simp (one-mul, mul-one)
times f false m e t = simp (one-mul, mul-one)

module _ (f : Format) (s : Bool) (m : ℕ) (e : ℤ) (t : ℕ) (h : T (fits f (fin s m e))) where
  -- the product's size, in units of the smallest value, is m * 2 ^ j
  in_units : m * up e * 2 ^ t * 2 ^ low f ≡ m * 2 ^ (steps f e t (held f s m e h).1).0 * down e
  in_units =
      let g = steps f e t (held f s m e h).1 in
      ap (λ (x : ℕ). x * 2 ^ low f) (mul_assoc m (up e) (2 ^ t)) ∙ mul_assoc m (up e * 2 ^ t) (2 ^ low f) ∙ ap (λ (x : ℕ). m * x) g.1 ∙ sym (mul_assoc m (2 ^ g.0) (down e))

  limit : 2 ^ (low f + suc (emax f)) * down e ≡ 2 ^ suc (emax f) * down e * 2 ^ low f
  limit = ap (λ (x : ℕ). x * down e) (pow-add 2 (low f) (suc (emax f)) ∙ mul_comm (2 ^ low f) (2 ^ suc (emax f))) ∙ mul_right_comm (2 ^ suc (emax f)) (2 ^ low f) (down e)

  pub product_exact : m * up e * 2 ^ t < 2 ^ suc (emax f) * down e → HasValue (mul f (fin s m e) (power t)) s (m * up e * 2 ^ t) (down e)
  product_exact b =
      let j = (steps f e t (held f s m e h).1).0 in
      rw times
      (round_exact f s (m * up e * 2 ^ t) (down e) m j (down_pos e) (held f s m e h).0
      (lt_of_mul-lt-mul_right (down e) (subst (λ (x : ℕ). x < 2 ^ (low f + suc (emax f)) * down e) in_units (lt_of_lt_of_le (mul-lt-mul_of_pos_right b (pow_pos (low f))) (le_of_eq (sym limit)))))
      in_units)

  pub product_over : 2 ^ suc (emax f) * down e ≤ m * up e * 2 ^ t → mul f (fin s m e) (power t) ≡ inf s
  product_over b =
      let j = (steps f e t (held f s m e h).1).0 in
      times f s m e t
      ∙ round_over f s (m * up e * 2 ^ t) (down e) m j (down_pos e) (held f s m e h).0
      (le_of_mul-le-mul_right (subst (λ (x : ℕ). 2 ^ (low f + suc (emax f)) * down e ≤ x) in_units (le_trans (le_of_eq limit) (mul-le-mul_right (2 ^ low f) b))) (down_pos e))
      in_units
