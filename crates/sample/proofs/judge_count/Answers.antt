-- `sample::judge_count` meets its contract: its two tests are the one of the count's size. n is read back from its 64 bits, which gives n again, since n fits.
use Rattle.std.proofs.Common.{◌≡◌, refl, ap, sym, ◌∙◌, Bool, true, false, ◌&&◌, ℤ, pos, negsuc, Ok}
use lib.Dec.{leb, leb-suc-suc}
use lib.IntN.{nat_abs}
use lib.Signed.{le_z}
use mir.Syntax.{w64}
use mir.ValLaws.{to_z-of_z}
use Rattle.sample.specs.Judge.{judged_count}
use Rattle.sample.proofs.judge_count.Goals as goal
use Rattle.sample.proofs.judge_count.Goals.{else-n-ge-SMALLEST-via-then-n-ge-SMALLEST+else-n-le-LARGEST, else-n-ge-SMALLEST-via-else-n-ge-SMALLEST}

both : (b : Bool) → b && true ≡ b
both true = refl
both false = refl

in_range : (n : ℤ) → leb (nat_abs n) 1000000 ≡ le_z (negsuc 999999) n && le_z n (pos 1000000)
in_range (pos n) = refl
in_range (negsuc n) = leb-suc-suc n 999999 ∙ sym (both (leb n 999999))

pub returns-then-n-le-LARGEST : goal.returns-then-n-le-LARGEST
unfolding judged_count
returns-then-n-le-LARGEST c =
    let back = to_z-of_z w64 c.args.n c.ranges.n in
    let low : le_z (negsuc 999999) c.args.n ≡ true = rw back at c.if-n-ge-SMALLEST.true in
    let high : le_z c.args.n (pos 1000000) ≡ true = rw back at c.if-n-le-LARGEST.true in
    rw (in_range c.args.n, low, high) (ap Ok back)

pub returns : goal.returns
unfolding judged_count
returns c =
    let back = to_z-of_z w64 c.args.n c.ranges.n in
    elim c.else-n-ge-SMALLEST.branch [
      | else-n-ge-SMALLEST-via-then-n-ge-SMALLEST+else-n-le-LARGEST w ↦
          let low : le_z (negsuc 999999) c.args.n ≡ true = rw back at w.if-n-ge-SMALLEST.true in
          let high : le_z c.args.n (pos 1000000) ≡ false = rw back at w.if-n-le-LARGEST.false in
          rw (in_range c.args.n, low, high)
      | else-n-ge-SMALLEST-via-else-n-ge-SMALLEST w ↦
          let low : le_z (negsuc 999999) c.args.n ≡ false = rw back at w.if-n-ge-SMALLEST.false in
          rw (in_range c.args.n, low)
    ]
