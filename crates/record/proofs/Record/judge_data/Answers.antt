-- `record::Record::judge_data` meets its contract: the days' tries, then the samples'.
use Rattle.std.proofs.Common.{rules}
use Rattle.reply.proofs.Answers.{refusal_handed, refused_stop}
use Rattle.record.specs.Body.{day_at}
use Rattle.record.proofs.Record.judge_data.Goals as goal

pub returns-in_err-judge_rising : goal.returns-in_err-judge_rising
returns-in_err-judge_rising c =
    refusal_handed _ _ _ c.from_residual.ensures.1
    (refused_stop _ _ _ _ _ (c.in_err-judge_rising.ensures (day_at c.args.self.now.asked.channels c.args.self.now.body.now) (λ i r b h. search rules)))
