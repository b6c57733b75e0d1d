-- `segment::judge_stretch` meets its contract: one list of tries after the other.
use Rattle.reply.proofs.Answers.{answers, reason_told, refusal_handed}
use Rattle.segment.specs.Summary.{summary_reply}
use Rattle.segment.proofs.judge_stretch.Goals as goal

pub returns-in_err-judge_lent : goal.returns-in_err-judge_lent
unfolding summary_reply
returns-in_err-judge_lent c =
    refusal_handed _ _ _ c.from_residual.ensures.1
    (search (answers, c.in_err-judge_lent.ensures.reply))

pub returns-in_err-judge_count : goal.returns-in_err-judge_count
unfolding summary_reply
returns-in_err-judge_count c =
    reason_told _ _ _ c.from_residual-in_err-judge_count.ensures.1
    (search (answers, c.in_ok-judge_lent.ensures.reply, (rw c.observations-n.ensures at c.in_err-judge_count.ensures)))

pub returns-in_err-judge_kernels : goal.returns-in_err-judge_kernels
unfolding summary_reply
returns-in_err-judge_kernels c =
    reason_told _ _ _ c.from_residual-in_err-judge_kernels.ensures.1
    (search (answers, c.in_ok-judge_lent.ensures.reply, (rw c.observations-n.ensures at c.in_ok-judge_count.ensures), c.in_err-judge_kernels.ensures))

pub returns-in_err-judge_data : goal.returns-in_err-judge_data
unfolding summary_reply
returns-in_err-judge_data c =
    refusal_handed _ _ _ c.from_residual-in_err-judge_data.ensures.1
    (search (answers, c.in_ok-judge_lent.ensures.reply, (rw c.observations-n.ensures at c.in_ok-judge_count.ensures), c.in_ok-judge_kernels.ensures, (rw c.observations-n.ensures at c.in_err-judge_data.ensures)))

pub returns-in_err-judge_within : goal.returns-in_err-judge_within
unfolding summary_reply
returns-in_err-judge_within c =
    reason_told _ _ _ c.from_residual-in_err-judge_within.ensures.1
    (search (answers, c.in_ok-judge_lent.ensures.reply, (rw c.observations-n.ensures at c.in_ok-judge_count.ensures), c.in_ok-judge_kernels.ensures, (rw c.observations-n.ensures at c.in_ok-judge_data.ensures), (rw c.observations-n.ensures at c.in_err-judge_within.ensures)))

pub returns : goal.returns
unfolding summary_reply
returns c = search (answers, c.in_ok-judge_lent.ensures.reply, (rw c.observations-n.ensures at c.in_ok-judge_count.ensures), c.in_ok-judge_kernels.ensures, (rw c.observations-n.ensures at c.in_ok-judge_data.ensures), (rw c.observations-n.ensures at c.in_ok-judge_within.ensures))
