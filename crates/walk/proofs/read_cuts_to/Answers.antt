-- `walk::read_cuts_to` meets its contract.
use Rattle.std.proofs.Common.{ap, ◌∙◌, sym, length}
use Rattle.reply.proofs.Answers.{left_refused, left_done}
use Rattle.walk.specs.declared.Answer.{Answer}
use Rattle.walk.specs.Answer.{row_of, out_left}
use Rattle.walk.proofs.Answers.{accepted, answer_reply}
use Rattle.walk.proofs.read_cuts_to.Goals as goal

pub returns-in_err-cuts-clause-out_after : goal.returns-in_err-cuts-clause-out_after
unfolding out_left
returns-in_err-cuts-clause-out_after c = left_refused _ _ _ _ _ _ (ap (λ (x : Answer). x.reply) c.in_err-cuts.ensures ∙ answer_reply _ _ _)

pub write_starts-requires : goal.write_starts-requires
write_starts-requires c =
    let a = c.args in
    ((accepted a.sought a.starts.now (length a.out.now)).0 (ap (λ (x : Answer). x.reply.code) (sym c.in_ok-cuts.ensures))).answer_room

pub returns-clause-out_after : goal.returns-clause-out_after
unfolding out_left
returns-clause-out_after c =
    c.write_starts.ensures
    ∙ ap (λ (x : Answer). row_of x.starts c.args.out.now) c.in_ok-cuts.ensures
    ∙ left_done _ _ _ (ap (λ (x : Answer). x.reply) c.in_ok-cuts.ensures ∙ answer_reply _ _ _)
