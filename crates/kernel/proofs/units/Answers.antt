-- `kernel::units` meets its contract: `units_split` says what the sum is. Assumes nothing.
use Rattle.kernel.proofs.Rounding.{units_split}
use Rattle.kernel.proofs.units.Goals as goal

pub returns : goal.returns
returns c = units_split c.args.r c.args.m c.requires.0
