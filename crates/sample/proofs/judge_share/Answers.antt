-- `sample::judge_share` meets its contract. What each test tells of x, the product, is in `proofs/Product.antt`, with each number written `fin s m e`; the code's numbers stand by their bit patterns.
use Rattle.std.proofs.Common.{Bool, ◌≡◌, sym, ap, ◌∙◌, subst, true, Ok}
use Rattle.std.specs.Float.{float_is_finite, trunc}
use lib.Dec.{T}
use lib.Ieee.{Float, binary64, mul, ne, neg, of_bits, to_signed, fits}
use lib.Ieee.Casts.{to_signed_in}
use mir.Syntax.{w64}
use mir.ValLaws.{to_z-of_z}
use Rattle.sample.specs.Level.{power}
use Rattle.sample.specs.Judge.{judged_share}
use Rattle.sample.proofs.Product.{judged_product, not_finite, share_judged, too_low, too_high, not_whole, is_zero_whole, is_whole_cast}
use Rattle.sample.proofs.judge_share.Goals as goal

abbrev x_at : Float → Float
x_at v = mul binary64 v (power 16)

-- from the first test on, the judgement is x's
judged : (v : Float) → fits binary64 v ≡ true → float_is_finite v ≡ true → judged_share v ≡ judged_product (x_at v)
judged v f h = share_judged v (subst T (sym f) tt) h

-- the test of y, which is x without its fraction, is the test of x
tested : {b : Bool} (x y : Float) → y ≡ trunc binary64 x → ne y x ≡ b → ne (trunc binary64 x) x ≡ b
tested x y e t = sym (ap (λ (z : Float). ne z x) e) ∙ t

pub returns-then-not-is_finite : goal.returns-then-not-is_finite
returns-then-not-is_finite c = not_finite c.args.v (sym c.is_finite.ensures.value ∙ c.if-not-is_finite.true)

pub returns-then-x : goal.returns-then-x
unfolding of_bits neg
returns-then-x c = sym (judged c.args.v c.well_formed.0.1 (sym c.is_finite.ensures.value ∙ c.if-not-is_finite.false) ∙ too_low (x_at c.args.v) c.if-x.true)

pub returns-then-x-2 : goal.returns-then-x-2
unfolding of_bits
returns-then-x-2 c = sym (judged c.args.v c.well_formed.0.1 (sym c.is_finite.ensures.value ∙ c.if-not-is_finite.false) ∙ too_high (x_at c.args.v) c.if-x-2.true)

pub returns-then-x-3 : goal.returns-then-x-3
unfolding of_bits
returns-then-x-3 c = sym (judged c.args.v c.well_formed.0.1 (sym c.is_finite.ensures.value ∙ c.if-not-is_finite.false) ∙ is_zero_whole (x_at c.args.v) c.if-x-3.true)

pub returns-then-trunc-x : goal.returns-then-trunc-x
unfolding of_bits neg
returns-then-trunc-x c =
    sym (judged c.args.v c.well_formed.0.1 (sym c.is_finite.ensures.value ∙ c.if-not-is_finite.false) ∙ not_whole (x_at c.args.v) c.if-x.false c.if-x-2.false (tested _ _ c.trunc.ensures c.if-trunc-x.true))

pub float_to_int-result : goal.float_to_int-result
unfolding of_bits neg
float_to_int-result c = (is_whole_cast (x_at c.args.v) c.if-x.false c.if-x-2.false c.if-x-3.false (tested _ _ c.trunc.ensures c.if-trunc-x.false)).0

pub returns : goal.returns
unfolding of_bits neg
returns c =
    ap Ok (to_z-of_z w64 (to_signed 63 (x_at c.args.v)) (record { sfits = to_signed_in 63 (x_at c.args.v) }))
    ∙ sym (judged c.args.v c.well_formed.0.1 (sym c.is_finite.ensures.value ∙ c.if-not-is_finite.false) ∙ (is_whole_cast (x_at c.args.v) c.if-x.false c.if-x-2.false c.if-x-3.false (tested _ _ c.trunc.ensures c.if-trunc-x.false)).1)
