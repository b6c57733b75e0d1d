-- `tawinrak::tawinrak_summarize` meets its contract: the reply fits one number. Assumes nothing.
use Rattle.std.proofs.Common.{◌∙◌}
use Rattle.tawinrak.proofs.Fit.{packs_by, summary_packs}
use Rattle.tawinrak.proofs.tawinrak_summarize.Goals as goal

pub packed-requires : goal.packed-requires
packed-requires c = packs_by _ _ (c.from-r.ensures ∙ c.summarize_to.ensures.reply) (summary_packs _ _ _ _ _)
