-- `record::Record::judge_samples` meets its contract. The loop's invariant: what is left to try from i on gives the reply.
use Rattle.reply.proofs.Answers.{Left}
use Rattle.record.specs.Body.{judged_at}
use Rattle.record.specs.Tries.{channels_try}
use Rattle.record.proofs.Record.judge_samples.Given as goal

abbrev pub invariant-loop-i : goal.invariant-loop-i
invariant-loop-i l = Left (channels_try (judged_at l.self.asked.channels l.self.body.now) l.self.asked.channels.count) 0 l.n l.i
