-- `file::writer::judge_write` meets its contract: the tries of the count, then of the entries, then of the room. Assumes nothing.
use Rattle.reply.proofs.Answers.{answers, reason_told, refusal_handed}
use Rattle.file.specs.Tries.{write_tries}
use Rattle.file.proofs.writer.judge_write.Goals as goal

pub returns-in_err-lent : goal.returns-in_err-lent
unfolding write_tries
returns-in_err-lent c = reason_told _ _ _ c.from_residual.ensures.1 (search (answers, c.in_err-lent.ensures.reply))

pub returns-in_err-judge : goal.returns-in_err-judge
unfolding write_tries
returns-in_err-judge c =
    refusal_handed _ _ _ c.from_residual-in_err-judge.ensures.1
    (search (answers, c.in_ok-lent.ensures.reply, rw (c.in_ok-lent.ensures.entries.0, c.in_ok-lent.ensures.entries.1) at c.in_err-judge.ensures))
