-- Pieces of text: one behind the other, the digits of a number, and how long they are. Assumes nothing.
use Prim.Native.Nat.{ℕ, zero, suc, ◌+◌, ◌-◌, ◌/◌, ◌%◌, ◌^◌, ◌≤◌, ◌<◌}
use mathlib.Core.Path.{◌≡◌, refl, ap, subst, ◌∙◌}
use mathlib.Core.List.{List, [], ◌∷◌, ◌++◌}
use native.Mathlib.Nat.{div-lt_iff_lt-mul, pow-suc}
use native.Mathlib.Decide.{dec_lt}
use native.Mathlib.Omega.{arith}
use lib.ListN.{length, length-append, take}
use lib.Seq.{take_at}
use borrow.Author.Tests.{lt-ltb, le-ltb}
use Rattle.buffer.proofs.Laid.{length_laid, laid_next, laid_is}
use Rattle.text.specs.declared.Text.{Text}
use Rattle.text.specs.Text.{digits, decimal, Grown}

-- no text, one text behind another, and the same text in other words
pub grown_nothing : (x : Text) → Grown x [] x
grown_nothing x = record { same_room = refl; put = record { buffer = refl; end = omega arith } }

pub grown : {x y z : Text} {s t : List ℕ} → Grown x s y → Grown y t z → Grown x (s ++ t) z
grown {x} {y} {z} {s} {t} g h = record {
  same_room = h.same_room ∙ g.same_room;
  put = record {
    buffer = h.put.buffer ∙ rw (g.put.buffer, g.put.end) (laid_next x.room.now x.end (x.end + length s) s t refl);
    end = omega (arith, g.put.end, h.put.end, length-append s t);
  };
}

pub retell : {x y : Text} {s t : List ℕ} → s ≡ t → Grown x s y → Grown x t y
retell {x} {y} e g = subst (λ (u : List ℕ). Grown x u y) e g

-- ---- digits
pub one_digit : (f n : ℕ) → 1 ≤ f → n < 10 → ((48 + n) ∷ []) ≡ digits f n
unfolding digits
one_digit zero n h l = absurd (omega arith)
one_digit (suc f) n h l = rw (lt-ltb n 10 l)

pub more_digits : (f n : ℕ) → 1 ≤ f → 10 ≤ n → digits (f - 1) (n / 10) ++ ((48 + n % 10) ∷ []) ≡ digits f n
unfolding digits
more_digits zero n h l = absurd (omega arith)
more_digits (suc f) n h l = let e : suc f - 1 ≡ f = omega arith in rw (e, le-ltb n 10 l)

-- what is left of a number that is 10 or more
pub fewer : (f n : ℕ) → 1 ≤ f → n < 10 ^ f → 10 ≤ n → (1 ≤ f - 1) × (n / 10 < 10 ^ (f - 1))
fewer zero n h l g = absurd (omega arith)
fewer (suc zero) n h l g = absurd (omega arith)
fewer (suc (suc f)) n h l g =
    let e : suc (suc f) - 1 ≡ suc f = omega arith in
    rw e (omega arith, (div-lt_iff_lt-mul {k = 10} (omega arith)).1 (rw pow-suc at l))

pub digits_length : (f n : ℕ) → length (digits f n) ≤ f
unfolding digits
digits_length zero n = omega arith
digits_length (suc f) n =
    elim (dec_lt n 10) [
      | yes h ↦ rw (lt-ltb n 10 h) (omega arith)
      | no h ↦ rw (le-ltb n 10 (omega arith)) (omega (arith, length-append (digits f (n / 10)) ((48 + n % 10) ∷ []), digits_length f (n / 10)))
    ]

pub decimal_length : (n : ℕ) → length (decimal n) ≤ 20
decimal_length n = digits_length 20 n

-- ---- the text at the front of a buffer that has room for it
pub front : {x y : Text} {text : List ℕ} → Grown x text y → x.end ≡ 0 → length text ≤ length x.room.now →
    (y.end ≤ length y.room.now) × (take y.end y.room.now ≡ text)
front {x} {y} {text} g z h =
    let long : length y.room.now ≡ length x.room.now = ap length g.put.buffer ∙ length_laid x.room.now x.end text in (
      omega (arith, g.put.end),
      rw (g.put.buffer, z, laid_is x.room.now 0 text (omega arith)) (take_at text _ y.end (omega (arith, g.put.end))),
    )
