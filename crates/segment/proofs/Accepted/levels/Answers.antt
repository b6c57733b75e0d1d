-- `segment::Accepted::levels` meets its contract. The loop's invariant: the levels from the start to i are added.
use Rattle.std.proofs.Common.{ℕ, List, ◌+◌, ◌*◌, ◌≤◌, ◌<◌, ◌≡◌, sym, ap, ◌∙◌, arith, Result}
use lib.Seq.{slice}
use Rattle.cutting.specs.Limits.{most_observations}
use Rattle.kernel.specs.Channels.{column}
use Rattle.kernel.specs.Pairs.{sum}
use Rattle.sample.specs.Level.{level, largest_level}
use Rattle.sample.specs.declared.Fault.{Fault}
use Rattle.sample.specs.Code.{level_of}
use Rattle.record.specs.declared.channels.Channels.{Channels}
use Rattle.record.specs.Body.{samples, judged_at, level_number}
use Rattle.segment.specs.Summary.{Stretch}
use Rattle.segment.proofs.Sum.{one_added, added_small}
use Rattle.segment.proofs.Accepted.levels.Goals as goal

-- the level at i is added to the levels before it
module _ (ch : Channels) (body : List ℕ) (first len : ℕ) (stretch : Stretch ch body first len) (c : ℕ) (used : c < ch.count) (i total : ℕ)
    (from : first ≤ i) (upto : i < first + len) (sum_is : total ≡ sum level (slice first i (column c (samples ch body))))
    (v : Result ℕ Fault) (is : v ≡ level_of (judged_at ch body i c)) (u : ℕ) (at : u ≡ level_number v) where
  added : total + u ≡ sum level (slice first (i + 1) (column c (samples ch body)))
  added = ap (λ (u : ℕ). total + u) (at ∙ ap level_number is) ∙ one_added ch body first len stretch c used i total from upto sum_is

  added_fits : total + u ≤ most_observations * largest_level
  added_fits = omega (arith, added, added_small ch body first len stretch c used (i + 1) (omega arith))

pub overflow_add-total : goal.overflow_add-total
overflow_add-total c =
    let a = c.args.self.now in
    let l = c.loop-i in
    omega (arith, added_fits _ _ _ _ a.accepted.stretch _ c.requires l.i l.total l.auto.i c.loop-i-test.true l.invariant _ c.level_at.ensures _ (sym (ap level_number c.unwrap-total.ensures)))

pub loop-i-preserved : goal.loop-i-preserved
loop-i-preserved c =
    let a = c.args.self.now in
    let l = c.loop-i in
    added _ _ _ _ a.accepted.stretch _ c.requires l.i l.total l.auto.i c.loop-i-test.true l.invariant _ c.level_at.ensures _ (sym (ap level_number c.unwrap-total.ensures))
