-- `tawinrak::tawinrak_read_cuts` meets its contract: the reply fits one number.
use Rattle.std.proofs.Common.{◌∙◌}
use Rattle.walk.specs.Answer.{answer_of}
use Rattle.tawinrak.proofs.Fit.{packs_by, cuts_packs}
use Rattle.tawinrak.proofs.tawinrak_read_cuts.Goals as goal

pub packed-requires : goal.packed-requires
unfolding answer_of
packed-requires c = packs_by _ _ (c.from-r.ensures ∙ c.read_cuts_to.ensures.reply) (cuts_packs _ _ _)

pub returns-clause-reply : goal.returns-clause-reply
unfolding answer_of
returns-clause-reply c = rw (c.from-r.ensures ∙ c.read_cuts_to.ensures.reply) at c.packed.ensures
