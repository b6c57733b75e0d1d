-- `walk::judge_shape` meets its contract: one list of tries after the other.
use Rattle.reply.proofs.Answers.{answers, reason_handed}
use Rattle.walk.proofs.judge_shape.Goals as goal

pub returns-in_err-judge_fit-clause-reply : goal.returns-in_err-judge_fit-clause-reply
returns-in_err-judge_fit-clause-reply c = reason_handed _ _ _ c.from_residual.ensures.1 (search (answers, c.in_err-judge_fit.ensures.reply))

pub returns-in_err-kernel-clause-reply : goal.returns-in_err-kernel-clause-reply
returns-in_err-kernel-clause-reply c =
    reason_handed _ _ _ c.from_residual-in_err-kernel.ensures.1 (search (answers, c.in_ok-judge_fit.ensures.reply, c.in_err-kernel.ensures.reply))

pub returns-in_err-judge_room-clause-reply : goal.returns-in_err-judge_room-clause-reply
returns-in_err-judge_room-clause-reply c =
    reason_handed _ _ _ c.from_residual-in_err-judge_room.ensures.1
    (search (answers, c.in_ok-judge_fit.ensures.reply, c.in_ok-kernel.ensures.reply, c.in_err-judge_room.ensures))

pub returns-clause-reply : goal.returns-clause-reply
returns-clause-reply c = search (answers, c.in_ok-judge_fit.ensures.reply, c.in_ok-kernel.ensures.reply, c.in_ok-judge_room.ensures)
