-- `segment::write_summary` meets its contract: one number after the other. Assumes nothing.
use Rattle.std.proofs.Common.{◌≡◌, ◌∙◌, ap, arith, refl, rules}
use lib.IntN.{ℤ, pos, negsuc}
use mir.Syntax.{w64}
use mir.Val.{SFits, to_z, of_z}
use mir.ValLaws.{to_z-of_z}
use Rattle.sample.specs.Word.{word_of}
use Rattle.segment.specs.Bytes.{put_summary}
use Rattle.segment.proofs.write_summary.Goals as goal

-- the bits of a signed number are its word
bits_are : (z : ℤ) → of_z w64 z ≡ word_of z
bits_are (pos n) = refl
bits_are (negsuc n) = omega arith

bits_back : (z : ℤ) → SFits w64 z → of_z w64 (to_z w64 (of_z w64 z)) ≡ word_of z
bits_back z fits = ap (of_z w64) (to_z-of_z w64 z fits) ∙ bits_are z

pub returns : goal.returns
unfolding put_summary
returns c =
    let fits : SFits w64 c.args.summary.sum = search rules in
    rw (c.store-4.ensures, c.store-3.ensures, c.store-2.ensures, c.store.ensures, c.cast_unsigned.ensures, bits_back c.args.summary.sum fits)
