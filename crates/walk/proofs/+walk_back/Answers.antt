-- `walk::walk_back` meets its contract: a walk goes by its last start.
use Rattle.std.proofs.Common.{◌+◌, ◌-◌, ◌∙◌, arith}
use native.Mathlib.Nat.{mul-le-mul_right}
use Rattle.walk.specs.Walk.{start_in}
use Rattle.walk.proofs.Walk.{walk_arrives, walk_lost, walk_onward}
use Rattle.walk.proofs.+walk_back.Goals as goal

pub returns-in_err-s : goal.returns-in_err-s
returns-in_err-s t c = c.from_residual.ensures ∙ walk_lost _ _ _ c.in_err-s.ensures

pub returns-then-d-eq1 : goal.returns-then-d-eq1
returns-then-d-eq1 t c = walk_arrives _ _ _ _ (omega arith) c.in_ok-s.ensures

pub walk_back-requires : goal.walk_back-requires
walk_back-requires t c =
    let a = c.args in
    let p = c.requires in
    let on = walk_onward (start_in a.starts.now a.n) (a.d - 1) a.end _ (omega arith) c.in_ok-s.ensures in (
      omega arith,
      (
        record {
          some_rows = omega arith;
          few_rows = omega (arith, p.0.few_rows);
          few_columns = p.0.few_columns;
          space = omega (arith, p.0.space, mul-le-mul_right {m = a.d - 1} {n = a.d} (a.n + 1) (omega arith));
        },
        omega (arith, p.1, on.below),
      ),
    )

pub returns-in_err-read : goal.returns-in_err-read
returns-in_err-read t c =
    c.from_residual-in_err-read.ensures ∙ (walk_onward _ _ _ _ (omega arith) c.in_ok-s.ensures).lost c.in_err-read.ensures

pub returns : goal.returns
returns t c = (walk_onward _ _ _ _ (omega arith) c.in_ok-s.ensures).goes _ c.in_ok-read.ensures
