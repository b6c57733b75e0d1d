-- The cost in units, of R and a length, in whole numbers.
-- Assumes nothing.
use mathlib.Core.Path.{◌≡◌, sym, ap, ◌∙◌}
use Prim.Native.Nat.{ℕ, ◌+◌, ◌*◌, ◌/◌, ◌%◌, ◌≤◌, ◌<◌}
use native.Mathlib.Nat.{div-add-mod', mul-add-div_right, div-mul-le_self, lt-div-mul-add, le-div_iff_mul-le}
use native.Mathlib.Nat.{le_of_mul-le-mul_left, mul-le-mul_left, mul-le-mul_right, mul-lt-mul_of_pos_right, mul-pos}
use native.Mathlib.Omega.{arith}
use Rattle.kernel.specs.Cost.{units_of}

-- units with no product past 64 bits: quotient and remainder first
pub units_split : (r m : ℕ) → 0 < m → 4096 * (r / m) + 4096 * (r % m) / m ≡ units_of r m
units_split r m h =
    sym (ap (λ t. t / m) (omega (arith, ap (λ t. 4096 * t) (div-add-mod' r m))) ∙ mul-add-div_right h (4096 * (r / m)) (4096 * (r % m)))

-- the cost in units is 4,096 R / m rounded down
pub units_low : (r m : ℕ) → units_of r m * m ≤ 4096 * r
units_low r m = div-mul-le_self (4096 * r) m

pub units_high : (r m : ℕ) → 0 < m → 4096 * r < (units_of r m + 1) * m
units_high r m h = omega (arith, lt-div-mul-add {a = 4096 * r} h)

-- two parts of m and n samples with p and q for R, and w for the whole's: rounding down keeps p/m + q/n ≤ w/(m + n) ..
pub floors :
    (m n p q w : ℕ) → 0 < m → 0 < n → (m + n) * (n * p + m * q) ≤ m * n * w →
    units_of p m + units_of q n ≤ units_of w (m + n)
floors m n p q w hm hn h =
    (le-div_iff_mul-le {k = m + n} (omega arith)).1
    (le_of_mul-le-mul_left {k = m * n}
    (omega (
      arith,
      mul-le-mul_left ((m + n) * n) (div-mul-le_self (4096 * p) m),
      mul-le-mul_left ((m + n) * m) (div-mul-le_self (4096 * q) n),
      h,
    ))
    (mul-pos hm hn))

-- .. and so does the product with a number u that the three lengths divide: a, b, c are u/m, u/n, u/t, where t is the
-- whole length
pub exact_parts :
    (m n t p q w a b c u : ℕ) → 0 < m * n * t → m * a ≡ u → n * b ≡ u → t * c ≡ u → t * (n * p + m * q) ≤ m * n * w →
    p * a + q * b ≤ w * c
exact_parts m n t p q w a b c u some ea eb ec h =
    le_of_mul-le-mul_left {k = m * n * t}
    (omega (
      arith,
      mul-le-mul_left u h,
      ap (λ x. n * t * p * x) ea,
      ap (λ x. m * t * q * x) eb,
      ap (λ x. m * n * w * x) ec,
    ))
    some

-- 4,096 times R/m times u is at least the units times u, and less than one unit more, where a is u/m
pub exact_low : (r m a u : ℕ) → m * a ≡ u → u * units_of r m ≤ 4096 * (r * a)
exact_low r m a u e = omega (arith, mul-le-mul_right a (units_low r m), ap (λ t. units_of r m * t) e)

pub exact_high : (r m a u : ℕ) → m * a ≡ u → 0 < m → 0 < a → 4096 * (r * a) < u * (units_of r m + 1)
exact_high r m a u e h k =
    omega (arith, mul-lt-mul_of_pos_right (units_high r m h) k, ap (λ t. (units_of r m + 1) * t) e)
