-- `report::line::put_cuts` meets its contract. The loop's invariant: the cuts of the starts so far are put. Assumes nothing.
use Rattle.std.proofs.Common.{◌+◌, ◌*◌, ◌≤◌, take}
use Rattle.text.specs.Text.{Grown}
use Rattle.report.specs.Limits.{cut_length}
use Rattle.report.specs.Lines.{cuts_text}
use Rattle.report.proofs.line.put_cuts.Given as goal

abbrev pub invariant-loop-start : goal.invariant-loop-start
invariant-loop-start l = record {
  put : Grown l.initial.text (cuts_text l.record.asked.channels l.record.body.now (take l.start-index l.starts)) l.text;
  upper_bound : l.text.end ≤ l.initial.text.end + cut_length * l.start-index;
}
