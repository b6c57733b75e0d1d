-- `recurrence::column` meets its contract. The loop's invariant: the rows below d of column t are filled, and nothing else has changed.
use mathlib.Core.Path.{◌≡◌}
use Rattle.table.specs.Fill.{fill_column}
use Rattle.cutting.specs.Limits.{cost_bytes, start_bytes}
use Rattle.recurrence.specs.Column.{cell_cost, cell_start}
use Rattle.recurrence.proofs.column.Given as goal

abbrev pub invariant-loop-d : goal.invariant-loop-d
invariant-loop-d l = record {
  costs_so_far : l.costs ≡ fill_column cost_bytes l.size.n (cell_cost l.size l.initial.costs l.c l.t) l.t l.d l.initial.costs;
  starts_so_far : l.starts ≡ fill_column start_bytes l.size.n (cell_start l.size l.initial.costs l.c l.t) l.t l.d l.initial.starts;
}
