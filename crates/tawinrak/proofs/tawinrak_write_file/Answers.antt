-- `tawinrak::tawinrak_write_file` meets its contract: the reply fits one number, as entries are bytes.
use Rattle.std.proofs.Common.{◌∙◌, arith, rules}
use Rattle.reply.specs.Reply.{Packs}
use Rattle.tawinrak.proofs.Fit.{packs_by, write_packs}
use Rattle.tawinrak.proofs.tawinrak_write_file.Goals as goal

pub packed-requires : goal.packed-requires
packed-requires c =
    let fits : Packs c.from-r.result = packs_by _ _ (c.from-r.ensures ∙ c.write_file.ensures.reply) (write_packs _ _ _ _ (search rules)) in
    record { code_fits = omega arith; place_fits = omega arith; position_fits = omega arith }
