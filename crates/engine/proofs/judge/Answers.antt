-- `engine::judge` meets its contract: the tries on numbers and lengths, those on the observations, and then 12, whose reason never holds.
-- Assumes nothing.
use Rattle.std.proofs.Common.{length}
use Rattle.reply.proofs.Answers.{answers, refusal_handed, some_number}
use Rattle.engine.specs.Solve.{solve_reply}
use Rattle.engine.proofs.Accepted.{shape_clear, data_clear, last_try, never_total}
use Rattle.engine.proofs.judge.Goals as goal

pub returns-in_err-judge_shape : goal.returns-in_err-judge_shape
unfolding solve_reply
returns-in_err-judge_shape c = refusal_handed _ _ _ c.from_residual.ensures.1 (search (answers, c.in_err-judge_shape.ensures.reply))

pub returns-in_err-judge_data : goal.returns-in_err-judge_data
unfolding solve_reply
returns-in_err-judge_data c =
    refusal_handed _ _ _ c.from_residual-in_err-judge_data.ensures.1
    (search (answers, c.in_ok-judge_shape.ensures.reply, (rw c.observations-n.ensures at c.in_err-judge_data.ensures)))

pub returns-in_err-judge_total : goal.returns-in_err-judge_total
returns-in_err-judge_total c =
    let asked = c.args.record.now.asked in
    let body = c.args.record.now.body.now in
    let shape = shape_clear asked (length body) c.args.costs c.args.starts c.in_ok-judge_shape.ensures.reply in
    let rest = data_clear asked body _ (rw c.observations-n.ensures at c.in_ok-judge_data.ensures) in
    absurd (some_number _ (never_total asked body c.args.costs c.args.starts shape rest _ (rw c.observations-n.ensures at c.in_err-judge_total.ensures)))

pub returns : goal.returns
returns c =
    let asked = c.args.record.now.asked in
    let body = c.args.record.now.body.now in
    last_try asked body c.args.costs c.args.starts
    (shape_clear asked (length body) c.args.costs c.args.starts c.in_ok-judge_shape.ensures.reply)
    (data_clear asked body _ (rw c.observations-n.ensures at c.in_ok-judge_data.ensures))
