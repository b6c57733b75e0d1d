-- `segment::summarize_to` meets its contract: the stretch is tried, and then the room.
use Rattle.std.proofs.Common.{List, ◌∙◌, ap, length, get_or, refl}
use lib.Ieee.{is_nan}
use Rattle.reply.specs.Reply.{done}
use Rattle.reply.proofs.Answers.{answers, reason_told, refusal_handed}
use Rattle.reply.proofs.Exactly.{passed}
use Rattle.segment.specs.declared.Summary.{Summary}
use Rattle.segment.specs.Summary.{no_summary}
use Rattle.segment.specs.Bytes.{room_try, summarize_reply}
use Rattle.segment.proofs.Stretch.{reply_told, reply_done, summaries_done, answer_accepted}
use Rattle.segment.proofs.Summaries.{stored}
use Rattle.segment.proofs.Lent.{left_refusal, left_reason, left_written}
use Rattle.segment.proofs.summarize_to.Goals as goal

pub returns-in_err-summaries-clause-reply : goal.returns-in_err-summaries-clause-reply
unfolding summarize_reply
returns-in_err-summaries-clause-reply c =
    refusal_handed _ _ _ c.from_residual.ensures.1 (search (answers, reply_told _ _ _ _ _ c.in_err-summaries.ensures))

pub returns-in_err-summaries-clause-out_after : goal.returns-in_err-summaries-clause-out_after
unfolding summarize_reply
returns-in_err-summaries-clause-out_after c =
    let a = c.args in
    left_refusal a.record.now.asked a.record.now.body.now a.first.0 a.len _ c.in_err-summaries.field-0.0
    (search (answers, reply_told _ _ _ _ _ c.in_err-summaries.ensures))

pub returns-in_err-judge_room-clause-reply : goal.returns-in_err-judge_room-clause-reply
unfolding summarize_reply
returns-in_err-judge_room-clause-reply c =
    reason_told _ _ _ c.from_residual-in_err-judge_room.ensures.1
    (search (answers, reply_done _ _ _ _ _ c.in_ok-summaries.ensures, c.in_err-judge_room.ensures))

pub returns-in_err-judge_room-clause-out_after : goal.returns-in_err-judge_room-clause-out_after
unfolding summarize_reply
returns-in_err-judge_room-clause-out_after c =
    let a = c.args in
    left_reason a.record.now.asked a.record.now.body.now a.first.0 a.len _ c.in_err-judge_room.field-0.0
    (search (answers, reply_done _ _ _ _ _ c.in_ok-summaries.ensures, c.in_err-judge_room.ensures))

pub write_summaries-requires-clause-room : goal.write_summaries-requires-clause-room
write_summaries-requires-clause-room c = passed (room_try (length c.args.out.now)) (search depth 20) done c.in_ok-judge_room.ensures refl

pub write_summaries-requires-clause-numbers : goal.write_summaries-requires-clause-numbers
write_summaries-requires-clause-numbers c = λ k _.
    let a = c.args in
    let accepted = answer_accepted a.record.now.asked a.record.now.body.now a.first.0 a.len _ c.in_ok-summaries.ensures in
    ap (λ (l : List Summary). is_nan (get_or l k no_summary).mean) (summaries_done _ _ _ _ _ c.in_ok-summaries.ensures)
    ∙ (stored _ _ _ _ accepted k).mean_number

pub returns-clause-reply : goal.returns-clause-reply
unfolding summarize_reply
returns-clause-reply c = search (answers, reply_done _ _ _ _ _ c.in_ok-summaries.ensures, c.in_ok-judge_room.ensures)

pub returns-clause-out_after : goal.returns-clause-out_after
unfolding summarize_reply
returns-clause-out_after c =
    let a = c.args in
    left_written a.record.now.asked a.record.now.body.now a.first.0 a.len _
    (search (answers, reply_done _ _ _ _ _ c.in_ok-summaries.ensures, c.in_ok-judge_room.ensures))
    _ (summaries_done _ _ _ _ _ c.in_ok-summaries.ensures) _ c.write_summaries.ensures
