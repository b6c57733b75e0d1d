-- `sample::share_of` meets its contract: the test is that of a NaN's pattern.
use Rattle.std.proofs.Common.{sym, ◌∙◌, subst, ◌%◌, Bool, arith}
use lib.Dec.{T}
use mathlib.Core.Bool.{not}
use lib.Ieee.{binary64}
use lib.Ieee.Bits.{nan_bits_above}
use borrow.Author.Tests.{le-ltb}
use Rattle.sample.proofs.Nan.{is_nan_lem}
use Rattle.sample.proofs.share_of.Goals as goal

pub returns-then-word-gt9218868437227405312 : goal.returns-then-word-gt9218868437227405312
returns-then-word-gt9218868437227405312 c =
    is_nan_lem 0x7ff8_0000_0000_0000 (omega arith) ∙ sym (is_nan_lem c.args.word c.if-word-gt9218868437227405312.true)

pub float_from_bits-result : goal.float_from_bits-result
float_from_bits-result c =
    let w = c.args.word in
    subst (λ (b : Bool). T (not b)) (sym (nan_bits_above binary64 w ∙ le-ltb 0x7ff0_0000_0000_0000 (w % 0x8000_0000_0000_0000) (omega arith))) tt
