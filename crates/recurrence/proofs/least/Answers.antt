-- `recurrence::least` meets its contract: of one start it is the least, and a turn has it of one start more.
use Rattle.std.specs.Prelude.{◌≡◌, ◌+◌, ◌-◌, ℕ}
use Rattle.std.proofs.Common.{refl, ◌∙◌, ap, sym, arith}
use Rattle.cutting.specs.Recurrence.{earliest}
use Rattle.cutting.proofs.Scan.{found_first, found_lower, found_keep}
use Rattle.recurrence.specs.Column.{sum_at}
use Rattle.recurrence.proofs.least.Goals as goal
use Rattle.recurrence.proofs.least.Goals.{then-x-cost, else-x-cost}

pub loop-i-init : goal.loop-i-init
loop-i-init c =
    let a = c.args in
    let f = sum_at a.costs.now a.row a.c.now in
    let first : a.lo ≡ a.lo + 0 = omega arith in
    (omega arith, (sym first ∙ (found_first f a.lo).0, omega (arith, ap f first)))

pub loop-i-preserved : goal.loop-i-preserved
loop-i-preserved c =
    let a = c.args in
    let l = c.loop-i in
    let f = sum_at a.costs.now a.row a.c.now in
    let s = a.lo + l.i in
    let next : s + 1 ≡ a.lo + (l.i + 1) = omega arith in
    let lower = found_lower f a.lo s l.cost (a.lo + l.past) (f s) (omega arith) l.invariant.1 refl in
    let keep = found_keep f a.lo s l.cost (a.lo + l.past) (f s) (omega arith) l.invariant.1 refl in
    let so_far : ℕ → ℕ = λ n. earliest f a.lo (n - (a.lo + 1)) in
    elim c.if-x-cost.branch [
      | then-x-cost w ↦ (
        omega (arith, w.past-is),
        (ap (λ n. a.lo + n) w.past-is ∙ (lower (omega arith)).0 ∙ ap so_far next, omega (arith, ap (λ n. f (a.lo + n)) w.past-is)),
      )
      | else-x-cost w ↦ (
        omega (arith, w.past-is),
        (ap (λ n. a.lo + n) w.past-is ∙ (keep (omega arith)).0 ∙ ap so_far next, omega (arith, ap (λ n. f (a.lo + n)) w.past-is)),
      )
    ]
