-- `sample::level_of` meets its contract: what is judged whole is in range (`proofs/Range.antt`), as `raised` requires.
use Rattle.std.proofs.Common.{rules, ℤ, sym, subst}
use mir.Syntax.{w64}
use mir.Val.{SFits}
use mir.ValLaws.{to_z-of_z}
use Rattle.sample.specs.Level.{InRange}
use Rattle.sample.proofs.Range.{whole_in_range}
use Rattle.sample.proofs.level_of.Goals as goal

pub raised-requires : goal.raised-requires
raised-requires c =
    let fits : SFits w64 c.in_ok-x.x = search rules in
    subst (λ (z : ℤ). InRange z) (sym (to_z-of_z w64 c.in_ok-x.x fits)) (whole_in_range c.args.s c.in_ok-x.x (sym c.in_ok-x.ensures))
