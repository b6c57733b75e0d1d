-- What the judgement of a sample promises.
use Rattle.std.specs.Prelude.{Ok}
use mathlib.Core.Path.{◌≡◌, refl, ap, ◌∙◌}
use mathlib.Core.Logic.{◌↔◌}
use mathlib.Core.List.{map}
use Prim.Native.Nat.{ℕ, ◌*◌, ◌%◌, ◌≤◌, ◌<◌}
use native.Mathlib.Nat.{lt_of_le_of_lt, mul-lt-mul_of_pos_right, mul-div_cancel, mul-mod_left, mul-le-mul_right}
use mathlib.Core.Bool.{Bool}
use lib.Dec.{T, lit<}
use lib.IntN.{ℤ, pos, ◌+ℤ◌}
use lib.Ieee.{inf, fin, binary64, up, down, mul, fits, of_bits}
use lib.Ieee.Fits.{down_pos}
use lib.Ieee.Exact.{HasValue}
use borrow.Author.Tests.{le-ltb, le-leb, ne_eqb}
use Rattle.sample.specs.declared.Sample.{Sample}
use Rattle.sample.specs.declared.Sample.TheVariants.{Count, Share}
use Rattle.sample.specs.Level.{largest, scale, InRange, largest_level, level, power}
use Rattle.sample.specs.Judge.{NanOrInfinite, Outside, Broken, signed, judged_ratio, judged_share, judged_count, judged_of}
use Rattle.sample.specs.Code.{code_of}
use Rattle.sample.specs.Word.{sample_of}
use Rattle.sample.specs.Shares.{Shown, shares}
use Rattle.sample.proofs.Scaled.{product_exact}
use Rattle.sample.proofs.Product.{judged_product, product_judged}
use Rattle.sample.proofs.Nan.{is_nan_lem}
use Rattle.sample.proofs.Reasons.{says, if_not_finite, if_outside, if_broken}
use Rattle.sample.proofs.Range.{whole_in_range, level_is, level_le}

-- "The product by 65,536 loses nothing for every share whose x is in range." The share is m * up e / down e in size, and 65,536 is 2 ^ 16:
-- the floating product has the sign s and the size 65,536 * m * up e / down e, with no rounding.
pub product_loses_nothing :
    (s : Bool) (m : ℕ) (e : ℤ) → T (fits binary64 (fin s m e)) → m * up e * scale ≤ largest * down e →
    HasValue (mul binary64 (fin s m e) (power 16)) s (m * up e * scale) (down e)
product_loses_nothing s m e h l = product_exact binary64 s m e 16 h (lt_of_le_of_lt l (mul-lt-mul_of_pos_right (lit< tt) (down_pos e)))

-- The table of shares, with the edges: one proof, by computation.
pub shares_judged : map (λ (c : Shown). judged_of (sample_of 1 c.bits)) shares ≡ map (λ (c : Shown). c.reply) shares
unfolding of_bits judged_share judged_ratio
shares_judged = refl

-- "A share v becomes x = 65,536 times v, accepted only if that is whole and in range."
-- For the finite share of the sign s and the size m * up e / down e:
module _ (s : Bool) (m : ℕ) (e : ℤ) where
  -- in range and whole it is accepted, as that number: "Both zeros become 0."
  pub share_whole : (n : ℕ) → n ≤ largest → m * up e * scale ≡ n * down e → judged_of (Share (fin s m e)) ≡ Ok (signed s n)
  unfolding judged_share judged_ratio
  share_whole n h x = rw x (rw (le-ltb _ _ (mul-le-mul_right (down e) h), mul-mod_left n (down e), mul-div_cancel n (down_pos e)))

  -- "a finite share whose product is infinite is out of range"
  pub share_overflow :
      (t : Bool) → T (fits binary64 (fin s m e)) → mul binary64 (fin s m e) (power 16) ≡ inf t →
      code_of (judged_of (Share (fin s m e))) ≡ 10
  unfolding judged_product
  share_overflow t h p = ap code_of (product_judged s m e h ∙ ap judged_product p)

-- "NaN, either infinity: refused, 9": every NaN's bit pattern.
pub nan_refused : (kind word : ℕ) → (kind ≡ 0 → ⊥) → 0x7ff0_0000_0000_0000 < word % 0x8000_0000_0000_0000 → code_of (judged_of (sample_of kind word)) ≡ 9
unfolding judged_share
nan_refused kind word k h = rw (ne_eqb kind 0 k, is_nan_lem word h)

-- A count in range is accepted as itself.
pub count_whole : (n : ℤ) → InRange n → judged_of (Count n) ≡ Ok n
unfolding judged_count
count_whole n h = rw (le-leb _ _ h)

-- "A refusal is given only where its stated reason holds": of the samples just those have the code 9 that are NaN or infinite,
pub not_finite : (s : Sample) → (code_of (judged_of s) ≡ 9) ↔ NanOrInfinite s
not_finite s = (says s 9, if_not_finite s)

-- just those the code 10 that are out of range, whole or not,
pub out_of_range : (s : Sample) → (code_of (judged_of s) ≡ 10) ↔ Outside s
out_of_range s = (says s 10, if_outside s)

-- and just those the code 11 that are in range and not whole after scaling.
pub not_whole : (s : Sample) → (code_of (judged_of s) ≡ 11) ↔ Broken s
not_whole s = (says s 11, if_broken s)

-- What is accepted is in range, and its level is x + 1,000,000, from 0 to 2,000,000.
pub accepted_level : (s : Sample) (x : ℤ) → judged_of s ≡ Ok x → InRange x × (x +ℤ pos largest ≡ pos (level x)) × (level x ≤ largest_level)
accepted_level s x e = let r = whole_in_range s x e in (r, level_is x r, level_le x r)
