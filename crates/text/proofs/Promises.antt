-- The decimal text of a number is read back as the number, and has no leading zero. Assumes nothing.
use Prim.Native.Nat.{ℕ, zero, suc, ◌+◌, ◌-◌, ◌*◌, ◌/◌, ◌%◌, ◌^◌, ◌<◌}
use mathlib.Core.Path.{◌≡◌, refl}
use mathlib.Core.List.{List, [], ◌∷◌, ◌++◌}
use native.Mathlib.Decide.{dec_lt}
use native.Mathlib.Nat.{div-lt_iff_lt-mul, pow-suc}
use native.Mathlib.Omega.{arith}
use borrow.Author.Tests.{lt-ltb, le-ltb}
use lib.ListN.{get_or}
use Rattle.text.specs.Text.{digits, decimal, said}

said_append : (v : ℕ) (l : List ℕ) (b : ℕ) → said v (l ++ (b ∷ [])) ≡ 10 * said v l + (b - 48)
said_append v [] b = refl
said_append v (a ∷ l) b = said_append (10 * v + (a - 48)) l b

first_of : (l r : List ℕ) → 48 < get_or l 0 0 → 48 < get_or (l ++ r) 0 0
first_of [] r h = absurd (omega arith)
first_of (b ∷ l) r h = h

digits_said : (f n : ℕ) → n < 10 ^ f → said 0 (digits f n) ≡ n
unfolding digits
digits_said zero n h = omega arith
digits_said (suc f) n h =
    elim (dec_lt n 10) [
      | yes l ↦ rw (lt-ltb n 10 l) (omega arith)
      | no l ↦
          rw (le-ltb n 10 (omega arith))
          (omega (
            arith,
            said_append 0 (digits f (n / 10)) (48 + n % 10),
            digits_said f (n / 10) ((div-lt_iff_lt-mul {k = 10} (omega arith)).1 (rw pow-suc at h)),
          ))
    ]

pub decimal_said : (n : ℕ) → n < 2 ^ 64 → said 0 (decimal n) ≡ n
decimal_said n h = digits_said 20 n (omega arith)

-- no leading zero: 48 is the byte of the digit 0
first_digit : (f n : ℕ) → 0 < n → n < 10 ^ f → 48 < get_or (digits f n) 0 0
unfolding digits
first_digit zero n h l = absurd (omega arith)
first_digit (suc f) n h l =
    elim (dec_lt n 10) [
      | yes g ↦ rw (lt-ltb n 10 g) (omega arith)
      | no g ↦
          (let less : n / 10 < 10 ^ f = (div-lt_iff_lt-mul {k = 10} (omega arith)).1 (rw pow-suc at l) in
          let rest : 48 < get_or (digits f (n / 10)) 0 0 = first_digit f (n / 10) (omega arith) less in
          rw (le-ltb n 10 (omega arith)) (first_of (digits f (n / 10)) ((48 + n % 10) ∷ []) rest))
    ]

pub decimal_first : (n : ℕ) → 0 < n → n < 2 ^ 64 → 48 < get_or (decimal n) 0 0
decimal_first n h l = first_digit 20 n h (omega arith)
