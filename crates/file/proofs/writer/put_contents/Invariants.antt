-- `file::writer::put_contents` meets its contract. The loop's invariant: what is still to be laid gives what is to be. Assumes nothing.
use Rattle.file.proofs.Writing.{Putting}
use Rattle.file.proofs.writer.put_contents.Given as goal

abbrev pub invariant-loop-i : goal.invariant-loop-i
invariant-loop-i l = Putting l.form l.lent.contents l.lent.bytes.now l.start l.initial.out l.i l.at l.out
