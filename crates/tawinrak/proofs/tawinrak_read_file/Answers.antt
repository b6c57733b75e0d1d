-- `tawinrak::tawinrak_read_file` meets its contract: the reply fits one number.
use Rattle.std.proofs.Common.{◌∙◌, arith}
use Rattle.reply.specs.Reply.{Packs}
use Rattle.tawinrak.proofs.Fit.{packs_by, read_packs}
use Rattle.tawinrak.proofs.tawinrak_read_file.Goals as goal

pub packed-requires : goal.packed-requires
packed-requires c =
    let fits : Packs c.from-r.result = packs_by _ _ (c.from-r.ensures ∙ c.read_file.ensures.reply) (read_packs _) in
    record { code_fits = omega arith; place_fits = omega arith; position_fits = omega arith }
