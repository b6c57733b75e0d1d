-- The least common multiple: Euclid's divisor divides both numbers and is a combination of them, so that the multiple
-- made with it divides every common multiple. Assumes nothing.
use mathlib.Core.Path.{◌≡◌, refl, ap}
use Prim.Native.Nat.{ℕ, zero, suc, ◌+◌, ◌*◌, ◌/◌, ◌%◌, ◌≤◌, ◌<◌, ◌∣◌}
use native.Mathlib.Nat.{mod-lt, div-add-mod, mul-div_cancel', mul-div_cancel_left, eq_of_mul-eq-mul_left, mul-pos}
use native.Mathlib.Nat.{dvd-mul_right, dvd_trans, dvd-add_iff_left, one-dvd}
use native.Mathlib.Omega.{arith}
use native.Mathlib.Decide.{dec_le}
use Rattle.kernel.specs.True.{euclid, gcd, lcm, lcm_to, lcm400}

-- g divides a and b, and is a sum of multiples of a and b less another
record Divisor (a b g : ℕ) : Type 0 where
  in_a : ℕ
  in_b : ℕ
  makes_a : g * in_a ≡ a
  makes_b : g * in_b ≡ b
  less_a : ℕ
  less_b : ℕ
  more_a : ℕ
  more_b : ℕ
  combined : g + less_a * a + less_b * b ≡ more_a * a + more_b * b

divisor_one : (a : ℕ) → Divisor a 0 a
divisor_one a = record {
  in_a = 1;
  in_b = 0;
  makes_a = omega arith;
  makes_b = omega arith;
  less_a = 0;
  less_b = 0;
  more_a = 1;
  more_b = 0;
  combined = omega arith;
}

-- a step: of b and the rest of a, then of a and b
divisor_step : (a b q r g : ℕ) → b * q + r ≡ a → Divisor b r g → Divisor a b g
divisor_step a b q r g e d = record {
  in_a = d.in_a * q + d.in_b;
  in_b = d.in_a;
  makes_a = omega (arith, ap (λ (t : ℕ). t * q) d.makes_a, d.makes_b);
  makes_b = d.makes_a;
  less_a = d.less_b;
  less_b = d.less_a + d.more_b * q;
  more_a = d.more_b;
  more_b = d.more_a + d.less_b * q;
  combined = omega (arith, d.combined, ap (λ (t : ℕ). d.less_b * t) e, ap (λ (t : ℕ). d.more_b * t) e);
}

euclid_divides : (n a b : ℕ) → b < n → Divisor a b (euclid n a b)
unfolding euclid
euclid_divides zero a b h = absurd (omega arith)
euclid_divides (suc n) a zero h = divisor_one a
euclid_divides (suc n) a (suc b) h =
    divisor_step a (suc b) (a / suc b) (a % suc b) (euclid n (suc b) (a % suc b)) (div-add-mod a (suc b))
    (euclid_divides n (suc b) (a % suc b) (omega (arith, mod-lt a {m = suc b} (omega arith))))

gcd_divides : (a b : ℕ) → Divisor a b (gcd a b)
unfolding gcd
gcd_divides a b = euclid_divides (suc b) a b (omega arith)

-- a common multiple c = ax = by, times multiples of a and b
scaled : (a b c i j x y : ℕ) → a * x ≡ c → b * y ≡ c → (i * a + j * b) * c ≡ a * b * (i * y + j * x)
scaled a b c i j x y ex ey = omega (arith, ap (λ (t : ℕ). i * a * t) ey, ap (λ (t : ℕ). j * b * t) ex)

gathered :
    (a b c g la lb ma mb x y : ℕ) → g + la * a + lb * b ≡ ma * a + mb * b → a * x ≡ c → b * y ≡ c →
    g * c + a * b * (la * y + lb * x) ≡ a * b * (ma * y + mb * x)
gathered a b c g la lb ma mb x y e ex ey =
    omega (arith, ap (λ (t : ℕ). t * c) e, scaled a b c la lb x y ex ey, scaled a b c ma mb x y ex ey)

-- with less and more for the sums, and m for the multiple ab/g
balanced : (a b c g m less more : ℕ) → g * m ≡ a * b → g * c + a * b * less ≡ a * b * more → g * (c + m * less) ≡ g * (m * more)
balanced a b c g m less more e h = omega (arith, ap (λ (t : ℕ). t * less) e, ap (λ (t : ℕ). t * more) e)

module _ (a b g : ℕ) (d : Divisor a b g) (ha : 0 < a) (hb : 0 < b) where
  divisor_positive : 0 < g
  divisor_positive = go g refl
    where
      go : (h : ℕ) → g ≡ h → 0 < h
      go zero e = omega (arith, ap (λ (t : ℕ). t * d.in_a) e, d.makes_a)
      go (suc h) e = omega arith

  -- the multiple is a times what g leaves of b, and b times what it leaves of a
  lcm_left : a * b / g ≡ a * d.in_b
  lcm_left =
      let e : a * b ≡ g * (a * d.in_b) = omega (arith, ap (λ (t : ℕ). a * t) d.makes_b) in
      rw e (mul-div_cancel_left (a * d.in_b) divisor_positive)

  lcm_right : a * b / g ≡ b * d.in_a
  lcm_right =
      let e : a * b ≡ g * (b * d.in_a) = omega (arith, ap (λ (t : ℕ). b * t) d.makes_a) in
      rw e (mul-div_cancel_left (b * d.in_a) divisor_positive)

  -- it divides whatever both divide
  lcm_under : (c : ℕ) → a ∣ c → b ∣ c → a * d.in_b ∣ c
  lcm_under c p q =
      let m : ℕ = a * d.in_b in
      let less : ℕ = d.less_a * (c / b) + d.less_b * (c / a) in
      let more : ℕ = d.more_a * (c / b) + d.more_b * (c / a) in
      let ex : a * (c / a) ≡ c = mul-div_cancel' a p in
      let ey : b * (c / b) ≡ c = mul-div_cancel' b q in
      let whole : g * c + a * b * less ≡ a * b * more =
      gathered a b c g d.less_a d.less_b d.more_a d.more_b (c / a) (c / b) d.combined ex ey
      in
      let makes : g * m ≡ a * b = omega (arith, ap (λ (t : ℕ). a * t) d.makes_b) in
      let both : c + m * less ≡ m * more =
      eq_of_mul-eq-mul_left g divisor_positive (c + m * less) (m * more) (balanced a b c g m less more makes whole)
      in
      (dvd-add_iff_left m (dvd-mul_right m less)).1 (rw both (dvd-mul_right m more))

  positive_in : 0 < d.in_b
  positive_in = go d.in_b refl
    where
      go : (h : ℕ) → d.in_b ≡ h → 0 < h
      go zero e = omega (arith, ap (λ (t : ℕ). g * t) e, d.makes_b)
      go (suc h) e = omega arith

module _ (a b : ℕ) (ha : 0 < a) (hb : 0 < b) where
  lcm_positive : 0 < lcm a b
  unfolding lcm
  lcm_positive = rw (lcm_left a b (gcd a b) (gcd_divides a b) ha hb) (mul-pos ha (positive_in a b (gcd a b) (gcd_divides a b) ha hb))

  lcm_of_left : a ∣ lcm a b
  unfolding lcm
  lcm_of_left = rw (lcm_left a b (gcd a b) (gcd_divides a b) ha hb) (dvd-mul_right a (gcd_divides a b).in_b)

  lcm_of_right : b ∣ lcm a b
  unfolding lcm
  lcm_of_right = rw (lcm_right a b (gcd a b) (gcd_divides a b) ha hb) (dvd-mul_right b (gcd_divides a b).in_a)

  lcm_least : (c : ℕ) → a ∣ c → b ∣ c → lcm a b ∣ c
  unfolding lcm
  lcm_least c p q = rw (lcm_left a b (gcd a b) (gcd_divides a b) ha hb) (lcm_under a b (gcd a b) (gcd_divides a b) ha hb c p q)

-- ---- of 1 to n
lcm_to_positive : (n : ℕ) → 0 < lcm_to n
unfolding lcm_to
lcm_to_positive zero = omega arith
lcm_to_positive (suc n) = lcm_positive (lcm_to n) (suc n) (lcm_to_positive n) (omega arith)

lcm_to_divides : (n m : ℕ) → 1 ≤ m → m ≤ n → m ∣ lcm_to n
unfolding lcm_to
lcm_to_divides zero m h k = absurd (omega arith)
lcm_to_divides (suc n) m h k =
    elim (dec_le m n) [
      | yes below ↦ dvd_trans m (lcm_to_divides n m h below) (lcm_of_left (lcm_to n) (suc n) (lcm_to_positive n) (omega arith))
      | no above ↦ (
          let e : m ≡ suc n = omega arith in
          rw e (lcm_of_right (lcm_to n) (suc n) (lcm_to_positive n) (omega arith))
          )
    ]

lcm_to_least : (n c : ℕ) → ((m : ℕ) → 1 ≤ m → m ≤ n → m ∣ c) → lcm_to n ∣ c
unfolding lcm_to
lcm_to_least zero c h = one-dvd c
lcm_to_least (suc n) c h =
    lcm_least (lcm_to n) (suc n) (lcm_to_positive n) (omega arith) c (lcm_to_least n c (λ m a b. h m a (omega arith)))
    (h (suc n) (omega arith) (omega arith))

-- ---- of 1 to 400
pub lcm400_positive : 0 < lcm400
unfolding lcm400
lcm400_positive = lcm_to_positive 400

pub lcm400_divided : (m : ℕ) → 1 ≤ m → m ≤ 400 → m ∣ lcm400
unfolding lcm400
lcm400_divided m h k = lcm_to_divides 400 m h k

pub lcm400_least : (c : ℕ) → ((m : ℕ) → 1 ≤ m → m ≤ 400 → m ∣ c) → lcm400 ∣ c
unfolding lcm400
lcm400_least c h = lcm_to_least 400 c h

-- a part of it: m of them make the whole, and it is not 0
pub lcm400_part : (m : ℕ) → 1 ≤ m → m ≤ 400 → m * (lcm400 / m) ≡ lcm400
lcm400_part m h k = mul-div_cancel' m (lcm400_divided m h k)

pub lcm400_some : (m : ℕ) → 1 ≤ m → m ≤ 400 → 0 < lcm400 / m
lcm400_some m h k = go (lcm400 / m) (lcm400_part m h k)
  where
    go : (q : ℕ) → m * q ≡ lcm400 → 0 < q
    go zero e = omega (arith, lcm400_positive)
    go (suc q) e = omega arith
