-- `engine::judge_shape` meets its contract: one list of tries after the other.
use Rattle.reply.proofs.Answers.{answers, reason_told, refusal_handed}
use Rattle.engine.proofs.judge_shape.Goals as goal

pub returns-in_err-judge_lent-clause-reply : goal.returns-in_err-judge_lent-clause-reply
returns-in_err-judge_lent-clause-reply c = refusal_handed _ _ _ c.from_residual.ensures.1 (search (answers, c.in_err-judge_lent.ensures.reply))

pub returns-in_err-judge_fit-clause-reply : goal.returns-in_err-judge_fit-clause-reply
returns-in_err-judge_fit-clause-reply c =
    reason_told _ _ _ c.from_residual-in_err-judge_fit.ensures.1
    (search (answers, c.in_ok-judge_lent.ensures.reply, (rw c.observation_bytes.ensures at c.in_err-judge_fit.ensures.reply)))

pub returns-in_err-judge_kernels-clause-reply : goal.returns-in_err-judge_kernels-clause-reply
returns-in_err-judge_kernels-clause-reply c =
    reason_told _ _ _ c.from_residual-in_err-judge_kernels.ensures.1
    (search (answers, c.in_ok-judge_lent.ensures.reply, (rw c.observation_bytes.ensures at c.in_ok-judge_fit.ensures.reply), c.in_err-judge_kernels.ensures))

pub returns-in_err-judge_room-clause-reply : goal.returns-in_err-judge_room-clause-reply
returns-in_err-judge_room-clause-reply c =
    reason_told _ _ _ c.from_residual-in_err-judge_room.ensures.1
    (search (answers, c.in_ok-judge_lent.ensures.reply, (rw c.observation_bytes.ensures at c.in_ok-judge_fit.ensures.reply), c.in_ok-judge_kernels.ensures, (rw c.observation_bytes.ensures at c.in_err-judge_room.ensures)))

pub returns-in_err-judge_room-2-clause-reply : goal.returns-in_err-judge_room-2-clause-reply
returns-in_err-judge_room-2-clause-reply c =
    reason_told _ _ _ c.from_residual-in_err-judge_room-2.ensures.1
    (search (answers, c.in_ok-judge_lent.ensures.reply, (rw c.observation_bytes.ensures at c.in_ok-judge_fit.ensures.reply), c.in_ok-judge_kernels.ensures, (rw c.observation_bytes.ensures at c.in_ok-judge_room.ensures), (rw c.observation_bytes.ensures at c.in_err-judge_room-2.ensures)))

pub returns-clause-reply : goal.returns-clause-reply
returns-clause-reply c =
    search (answers, c.in_ok-judge_lent.ensures.reply, (rw c.observation_bytes.ensures at c.in_ok-judge_fit.ensures.reply), c.in_ok-judge_kernels.ensures, (rw c.observation_bytes.ensures at c.in_ok-judge_room.ensures), (rw c.observation_bytes.ensures at c.in_ok-judge_room-2.ensures))
