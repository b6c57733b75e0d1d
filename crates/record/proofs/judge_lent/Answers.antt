-- `record::judge_lent` meets its contract: the channels' tries, then the length.
use Rattle.reply.proofs.Answers.{answers, refusal_handed}
use Rattle.record.proofs.judge_lent.Goals as goal

pub returns-in_err-judge-clause-reply : goal.returns-in_err-judge-clause-reply
returns-in_err-judge-clause-reply c = refusal_handed _ _ _ c.from_residual.ensures.1 (search (answers, c.in_err-judge.ensures.reply))
