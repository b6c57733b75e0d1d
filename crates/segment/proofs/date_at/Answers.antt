-- `segment::date_at` meets its contract. Assumes nothing.
use mathlib.Core.Path.{ap₂, ◌∙◌}
use borrow.Author.Tests.{eq-eqb, ne_eqb, le-leb, lt-leb}
use Rattle.segment.specs.Date.{midpoint_of, date_in}
use Rattle.segment.proofs.date_at.Goals as goal

pub returns-then-i-eq0 : goal.returns-then-i-eq0
unfolding date_in
returns-then-i-eq0 c = rw (eq-eqb _ _ c.if-i-eq0.true)

pub returns-then-observations-i : goal.returns-then-observations-i
unfolding date_in
returns-then-observations-i c = rw (ne_eqb _ _ c.if-i-eq0.false, le-leb _ _ (rw c.observations.ensures at c.if-observations-i.true))

pub returns : goal.returns
unfolding date_in
returns c =
    rw (ne_eqb _ _ c.if-i-eq0.false, lt-leb _ _ (rw c.observations.ensures at c.if-observations-i.false))
    (c.midpoint.ensures ∙ ap₂ midpoint_of c.day_at-before.ensures c.day_at-first.ensures)
