-- `file::contents::Entries::judge_entries` meets its contract. The loop's invariant: what is left to try gives the reply. Assumes nothing.
use Rattle.file.proofs.Judging.{Walking}
use Rattle.file.proofs.contents.Entries.judge_entries.Given as goal

abbrev pub invariant-loop-i : goal.invariant-loop-i
invariant-loop-i l = Walking l.self.contents l.self.bytes.now l.i l.due
