-- `engine::solve` meets its contract: the judged record is accepted, and its tables are filled in the room that its channels take.
use Rattle.std.proofs.Common.{ℕ, List, ◌≡◌, sym, ap, ◌∙◌}
use Rattle.reply.specs.Reply.{done}
use Rattle.reply.specs.declared.Reply.{Reply}
use Rattle.reply.proofs.Answers.{left_refused, left_done}
use Rattle.record.specs.declared.Asked.{Asked}
use Rattle.engine.specs.Solve.{solve_reply, costs_left, starts_left}
use Rattle.engine.specs.Accepted.{Accepted}
use Rattle.engine.proofs.Accepted.{accepted}
use Rattle.engine.proofs.solve.Goals as goal

-- the judged record is accepted
fits : (asked : Asked) (body : List ℕ) (costs starts : ℕ) → done ≡ solve_reply asked body costs starts → Accepted asked body costs starts
fits asked body costs starts e = (accepted _ _ _ _).0 (ap (λ (r : Reply). r.code) (sym e))

pub returns-in_err-judge-clause-costs_after : goal.returns-in_err-judge-clause-costs_after
unfolding costs_left
returns-in_err-judge-clause-costs_after c = left_refused _ _ _ _ _ _ c.in_err-judge.ensures

pub returns-in_err-judge-clause-starts_after : goal.returns-in_err-judge-clause-starts_after
unfolding starts_left
returns-in_err-judge-clause-starts_after c = left_refused _ _ _ _ _ _ c.in_err-judge.ensures

pub fill_one-requires-clause-accepted : goal.fill_one-requires-clause-accepted
fill_one-requires-clause-accepted c = fits _ _ _ _ c.in_ok-judge.ensures

pub fill_several-requires : goal.fill_several-requires
fill_several-requires c = record { accepted = fits _ _ _ _ c.in_ok-judge.ensures }

pub returns-then-record-eq1-clause-costs_after : goal.returns-then-record-eq1-clause-costs_after
unfolding costs_left
returns-then-record-eq1-clause-costs_after c = c.fill_one.ensures.costs_after ∙ left_done _ _ _ c.in_ok-judge.ensures

pub returns-then-record-eq1-clause-starts_after : goal.returns-then-record-eq1-clause-starts_after
unfolding starts_left
returns-then-record-eq1-clause-starts_after c = c.fill_one.ensures.starts_after ∙ left_done _ _ _ c.in_ok-judge.ensures

pub returns-else-record-eq1-clause-costs_after : goal.returns-else-record-eq1-clause-costs_after
unfolding costs_left
returns-else-record-eq1-clause-costs_after c = c.fill_several.ensures.costs_after ∙ left_done _ _ _ c.in_ok-judge.ensures

pub returns-else-record-eq1-clause-starts_after : goal.returns-else-record-eq1-clause-starts_after
unfolding starts_left
returns-else-record-eq1-clause-starts_after c = c.fill_several.ensures.starts_after ∙ left_done _ _ _ c.in_ok-judge.ensures
