-- `record::Channels::judge` meets its contract: what is done has passed.
use Rattle.reply.proofs.Answers.{answers, refusal_handed}
use Rattle.record.proofs.Accepted.{channels_passed}
use Rattle.record.proofs.channels.Channels.judge.Goals as goal

pub returns-in_err-judge_kinds-clause-reply : goal.returns-in_err-judge_kinds-clause-reply
returns-in_err-judge_kinds-clause-reply c = refusal_handed _ _ _ c.from_residual.ensures.1 (search (answers, c.in_err-judge_kinds.ensures))

pub returns-clause-channels : goal.returns-clause-channels
returns-clause-channels c = channels_passed _ c.args.place (search (answers, c.in_ok-judge_kinds.ensures))
