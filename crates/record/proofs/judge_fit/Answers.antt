-- `record::judge_fit` meets its contract: one list of tries after the other.
use Rattle.reply.proofs.Answers.{answers, reason_handed}
use Rattle.record.proofs.judge_fit.Goals as goal

pub returns-in_err-judge_count-clause-reply : goal.returns-in_err-judge_count-clause-reply
returns-in_err-judge_count-clause-reply c = reason_handed _ _ _ c.from_residual.ensures.1 (search (answers, c.in_err-judge_count.ensures))

pub returns-in_err-judge_segments-clause-reply : goal.returns-in_err-judge_segments-clause-reply
returns-in_err-judge_segments-clause-reply c =
    reason_handed _ _ _ c.from_residual-in_err-judge_segments.ensures.1
    (search (answers, c.in_ok-judge_count.ensures, c.in_err-judge_segments.ensures))
