-- `Text::number` meets its contract: a number has at most 20 digits.
use Rattle.std.proofs.Common.{arith}
use Rattle.text.proofs.Pieces.{decimal_length}
use Rattle.text.proofs.Text.number.Goals as goal

pub returns-clause-upper_bound : goal.returns-clause-upper_bound
returns-clause-upper_bound c = omega (arith, decimal_length c.args.n)
