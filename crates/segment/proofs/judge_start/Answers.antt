-- `segment::judge_start` meets its contract: one list of tries after the other.
use Rattle.std.proofs.Common.{rules}
use Rattle.reply.proofs.Answers.{answers, reason_told, refusal_handed}
use Rattle.segment.specs.Date.{day_of, date_reply}
use Rattle.segment.proofs.judge_start.Goals as goal

pub returns-in_err-judge_count : goal.returns-in_err-judge_count
unfolding date_reply
returns-in_err-judge_count c = reason_told _ _ _ c.from_residual.ensures.1 (search (answers, c.in_err-judge_count.ensures))

pub returns-in_err-judge_rising : goal.returns-in_err-judge_rising
unfolding date_reply
returns-in_err-judge_rising c =
    refusal_handed _ _ _ c.from_residual-in_err-judge_rising.ensures.1
    (search (answers, c.in_ok-judge_count.ensures, c.in_err-judge_rising.ensures (day_of c.args.days.now) (λ i r b h. search rules)))

pub returns-in_err-judge_index : goal.returns-in_err-judge_index
unfolding date_reply
returns-in_err-judge_index c =
    reason_told _ _ _ c.from_residual-in_err-judge_index.ensures.1
    (search (answers, c.in_ok-judge_count.ensures, c.in_ok-judge_rising.ensures (day_of c.args.days.now) (λ i r b h. search rules), c.in_err-judge_index.ensures))

pub returns : goal.returns
unfolding date_reply
returns c = search (answers, c.in_ok-judge_count.ensures, c.in_ok-judge_rising.ensures (day_of c.args.days.now) (λ i r b h. search rules), c.in_ok-judge_index.ensures)
