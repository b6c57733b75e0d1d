-- `record::Channels::judge_kinds` meets its contract. The loop's invariant: what is left to try from channel c on gives the reply.
use Rattle.std.proofs.Common.{sym, ◌∙◌, arith}
use Rattle.reply.proofs.Answers.{last_holds, last_fails, refused_stop, done_on, each_refused, each_clear, each_end}
use Rattle.reply.specs.declared.Reason.TheVariants.{UnknownKind}
use Rattle.record.proofs.channels.Channels.judge_kinds.Goals as goal

pub returns-then-kind-gt-MOST_KIND : goal.returns-then-kind-gt-MOST_KIND
returns-then-kind-gt-MOST_KIND c =
    c.at.ensures ∙ refused_stop _ _ UnknownKind _ _ (each_refused _ _ _ _ c.loop-c.invariant (omega arith) UnknownKind _ _ (last_holds _ _ (omega (arith, c.kind.ensures.0))))

pub loop-c-preserved : goal.loop-c-preserved
loop-c-preserved c = each_clear _ _ _ _ c.loop-c.invariant (omega arith) (omega (arith, c.kind.ensures.0))

pub returns-then-pairs_from-ne0 : goal.returns-then-pairs_from-ne0
returns-then-pairs_from-ne0 c =
    c.at-then-pairs_from-ne0.ensures
    ∙ done_on _ _ _ (each_end _ _ _ _ c.loop-c.invariant (omega arith)) (last_holds _ _ (λ z. c.if-pairs_from-ne0.true (c.pairs_from.ensures ∙ z)))

pub returns : goal.returns
returns c = done_on _ _ _ (each_end _ _ _ _ c.loop-c.invariant (omega arith)) (last_fails _ _ (sym c.pairs_from.ensures ∙ c.if-pairs_from-ne0.false))
