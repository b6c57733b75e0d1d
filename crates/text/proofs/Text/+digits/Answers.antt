-- `Text::digits` meets its contract: the last digit stands behind those of n / 10.
use Rattle.std.proofs.Common.{◌-◌, ◌/◌, arith}
use Rattle.text.proofs.Pieces.{grown, retell, more_digits, digits_length}
use Rattle.text.proofs.Text.+digits.Goals as goal

pub byte-requires-2 : goal.byte-requires-2
byte-requires-2 t c = omega (arith, digits_length (c.args.f - 1) (c.args.n / 10))

pub returns : goal.returns
returns t c = retell (more_digits c.args.f c.args.n c.requires.0 (omega arith)) (grown c.digits.ensures c.byte-2.ensures)
