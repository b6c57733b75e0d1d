-- `file::contents::Entries::judge_held` meets its contract. The loop's invariant: what is left to try from entry i on gives the reply. Assumes nothing.
use Rattle.std.proofs.Common.{ap, arith}
use Rattle.reply.specs.declared.Reason.TheVariants.{RecordCount}
use Rattle.reply.proofs.Answers.{last_holds, each_refused, each_clear, each_end}
use Rattle.file.specs.declared.layout.Entry.{Entry}
use Rattle.file.proofs.contents.Entries.judge_held.Goals as goal

pub returns-then-held-entry : goal.returns-then-held-entry
returns-then-held-entry c =
    each_refused _ _ _ _ c.loop-i.invariant (omega arith) RecordCount _ _
    (last_holds _ _ (omega (arith, ap (λ (e : Entry). e.asked.channels.count) c.entry.ensures.0, c.channels_held-held.ensures)))

pub loop-i-preserved : goal.loop-i-preserved
loop-i-preserved c =
    each_clear _ _ _ _ c.loop-i.invariant (omega arith)
    (omega (arith, ap (λ (e : Entry). e.asked.channels.count) c.entry.ensures.0, c.channels_held-held.ensures))

pub returns : goal.returns
returns c = each_end _ _ _ _ c.loop-i.invariant (omega arith)
