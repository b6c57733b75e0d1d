-- The sample that 8 bytes of a body stand for, as the number of 64 bits that they are.
use Rattle.std.specs.Prelude.{ℕ, ◌-◌, ◌^◌, cond, ltb, eqb, ℤ, pos, negsuc}
use Rattle.std.specs.Float.{binary64}
use Rattle.std.specs.Float.Ieee.{of_bits}
use Rattle.sample.specs.declared.Sample.{Sample}
use Rattle.sample.specs.declared.Sample.TheVariants.{Count, Share}

-- The signed number of a word w, in two's complement: from 2 ^ 63 on it is w - 2 ^ 64.
abbrev pub count_of : ℕ → ℤ
count_of w = cond (ltb w (2 ^ 63)) (pos w) (negsuc (2 ^ 64 - 1 - w))

-- The word of a signed number, the other way.
abbrev pub word_of : ℤ → ℕ
word_of (pos n) = n
word_of (negsuc n) = 2 ^ 64 - 1 - n

-- "sample kind (1; 0 count, 1 share)": kind 0 is a count, and any other a share.
-- "sample (8; a signed number or the bits of a share)": the bits are those of an IEEE binary64, and every NaN pattern is `nan`.
abbrev pub sample_of : ℕ → ℕ → Sample
sample_of kind w = cond (eqb kind 0) (Count (count_of w)) (Share (of_bits binary64 w))
