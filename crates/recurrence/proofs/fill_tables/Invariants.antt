-- `recurrence::fill_tables` meets its contract. The loop's invariant: the columns below t are filled, and the tails and the costs are those at t.
use mathlib.Core.Path.{◌≡◌}
use lib.ListN.{length}
use Rattle.table.specs.Fill.{fill}
use Rattle.cutting.specs.Limits.{least_length, start_bytes}
use Rattle.cutting.specs.Table.{start_at}
use Rattle.kernel.specs.Cost.{most_units}
use Rattle.recurrence.specs.Weight.{days_in, days_cost, Tails}
use Rattle.recurrence.proofs.Entries.{Held}
use Rattle.recurrence.proofs.fill_tables.Given as goal

abbrev pub invariant-loop-t : goal.invariant-loop-t
invariant-loop-t l = record {
  held : Held (days_cost l.days.kernels.now l.days.levels.now l.days.n) most_units least_length l.n l.dmax l.t l.initial.costs l.costs l.c;
  started : l.starts ≡ fill start_bytes l.n l.dmax (start_at (days_cost l.days.kernels.now l.days.levels.now l.days.n) least_length) l.t l.initial.starts;
  tails : Tails l.days.kernels.now (days_in l.days.n (length l.days.kernels.now) l.days.levels.now) l.t l.a;
  room : length l.a ≡ length l.initial.a;
}
