-- Every NaN has a bit pattern above that of an infinity, the sign aside, and every such pattern is a NaN.
use mathlib.Core.Path.{◌≡◌, refl, sym, ◌∙◌}
use Prim.Native.Nat.{ℕ, ◌<◌, ◌%◌}
use mathlib.Core.Bool.{true, false≢true}
use lib.Ieee.{Float, nan, inf, fin, binary64, is_nan, of_bits}
use lib.Ieee.Bits.{nan_bits_is, nan_bits_above}
use borrow.Author.Tests.{lt-ltb}

only_nan : (x : Float) → is_nan x ≡ true → x ≡ nan
unfolding is_nan
only_nan nan t = refl
only_nan (inf s) t = absurd (false≢true t)
only_nan (fin s m e) t = absurd (false≢true t)

pub is_nan_lem : (w : ℕ) → 0x7ff0_0000_0000_0000 < w % 0x8000_0000_0000_0000 → of_bits binary64 w ≡ nan
is_nan_lem w h = only_nan (of_bits binary64 w) (sym (nan_bits_is binary64 w) ∙ nan_bits_above binary64 w ∙ lt-ltb 0x7ff0_0000_0000_0000 (w % 0x8000_0000_0000_0000) h)
