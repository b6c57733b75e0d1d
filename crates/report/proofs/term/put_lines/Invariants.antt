-- `report::term::put_lines` meets its contract. The loop's invariant: the record is accepted, and the lines for the counts 1 to k are put behind the first. Assumes nothing.
use Rattle.std.proofs.Common.{◌+◌, ◌*◌, ◌≤◌, length}
use Rattle.engine.specs.Accepted.{Accepted}
use Rattle.text.specs.Text.{Grown}
use Rattle.report.specs.Limits.{line_length}
use Rattle.report.specs.Tables.{table_lines}
use Rattle.report.proofs.term.put_lines.Given as goal

abbrev pub invariant-loop-k : goal.invariant-loop-k
invariant-loop-k l = record {
  accepted : Accepted l.record.asked l.record.body.now (length l.fn.costs) (length l.fn.starts);
  put : Grown l.initial.text (table_lines l.record.asked l.record.body.now l.costs l.starts l.k) l.text;
  upper_bound : l.text.end ≤ l.initial.text.end + line_length * l.k;
}
