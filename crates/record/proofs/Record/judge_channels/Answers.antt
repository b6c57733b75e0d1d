-- `record::Record::judge_channels` meets its contract. The loop's invariant: what is left to try from channel c on gives the reply.
-- Assumes nothing.
use Rattle.std.proofs.Common.{◌∙◌, arith}
use Rattle.reply.proofs.Answers.{each_refused, each_clear, each_end}
use Rattle.record.proofs.Samples.{level_given, level_clear}
use Rattle.record.proofs.Record.judge_channels.Goals as goal

pub returns-in-Err : goal.returns-in-Err
returns-in-Err c =
    c.at.ensures
    ∙ each_refused _ _ _ _ c.loop-c.invariant (omega arith) c.from.result _ _
    (rw c.from.ensures (level_given _ c.args.at.0 _ c.in-Err.ensures))

pub loop-c-preserved : goal.loop-c-preserved
loop-c-preserved c = each_clear _ _ _ _ c.loop-c.invariant (omega arith) (level_clear _ c.args.at.0 _ c.in_default.ensures)

pub returns : goal.returns
returns c = each_end _ _ _ _ c.loop-c.invariant (omega arith)
