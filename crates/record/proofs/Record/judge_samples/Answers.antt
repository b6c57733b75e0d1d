-- `record::Record::judge_samples` meets its contract. The loop's invariant: what is left to try from i on gives the reply.
use Rattle.std.proofs.Common.{refl, arith}
use Rattle.reply.proofs.Answers.{some_number, refusal_handed, each_stop, each_on, each_end}
use Rattle.record.proofs.Record.judge_samples.Goals as goal

pub returns-in_err-judge_channels : goal.returns-in_err-judge_channels
returns-in_err-judge_channels c =
    refusal_handed _ _ _ c.from_residual.ensures.1
    (each_stop _ _ _ _ c.loop-i.invariant (omega arith) _ c.in_err-judge_channels.ensures (some_number _))

pub loop-i-preserved : goal.loop-i-preserved
loop-i-preserved c = each_on _ _ _ _ c.loop-i.invariant (omega arith) _ c.in_ok-judge_channels.ensures refl

pub returns : goal.returns
returns c = each_end _ _ _ _ c.loop-i.invariant (omega arith)
