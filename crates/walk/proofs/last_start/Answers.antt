-- `walk::last_start` meets its contract: the entry lies in the table, and the tests are the walk's. Assumes nothing.
use native.Mathlib.Omega.{arith}
use Rattle.walk.proofs.Walk.{start_first, start_no_first, start_low, start_high, start_from}
use Rattle.walk.proofs.last_start.Goals as goal

pub returns-then-s-eq0 : goal.returns-then-s-eq0
returns-then-s-eq0 c = start_first _ _ _ _ c.load-s.ensures c.if-d-eq1.true c.if-s-eq0.true

pub returns-else-s-eq0 : goal.returns-else-s-eq0
returns-else-s-eq0 c = start_no_first _ _ _ _ c.load-s.ensures c.if-d-eq1.true c.if-s-eq0.false

pub returns-then-s-d : goal.returns-then-s-d
returns-then-s-d c = start_low _ _ _ _ c.load-s.ensures (omega arith) c.if-s-d.true

pub returns-then-end-s : goal.returns-then-end-s
returns-then-end-s c = start_high _ _ _ _ c.load-s.ensures (omega arith) c.if-s-d.false c.if-end-s.true

pub returns : goal.returns
returns c = start_from _ _ _ _ c.load-s.ensures (omega arith) c.if-s-d.false c.if-end-s.false
