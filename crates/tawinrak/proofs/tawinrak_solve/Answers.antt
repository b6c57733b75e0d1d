-- `tawinrak::tawinrak_solve` meets its contract: the reply fits one number. Assumes nothing.
use Rattle.std.proofs.Common.{◌∙◌}
use Rattle.tawinrak.proofs.Fit.{packs_by, solve_packs}
use Rattle.tawinrak.proofs.tawinrak_solve.Goals as goal

pub packed-requires : goal.packed-requires
packed-requires c = packs_by _ _ (c.from-r.ensures ∙ c.solve.ensures.reply) (solve_packs _ _ _ _)
