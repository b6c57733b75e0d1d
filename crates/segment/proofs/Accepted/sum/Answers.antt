-- `segment::Accepted::sum` meets its contract.
use Rattle.std.proofs.Common.{ℕ, List, ◌+◌, ◌*◌, ◌≤◌, ◌<◌, ◌^◌, ◌≡◌, sym, ap, ◌∙◌, arith}
use mathlib.Core.Path.{ap₂}
use lib.IntN.{ℤ, pos, negsuc, nat_abs, ◌+ℤ◌, ◌-ℤ◌}
use mir.Syntax.{w64}
use mir.Val.{SFits, to_z}
use mir.ValLaws.{to_z_pos, to_z-of_z}
use Rattle.cutting.specs.Limits.{most_observations}
use Rattle.sample.specs.Level.{level, largest, largest_level}
use Rattle.kernel.proofs.Diff.{◌⊖◌, ⊖-eq, ⊖-add, ⊖-neg, pos-⊖}
use Rattle.kernel.specs.Pairs.{sum}
use Rattle.record.specs.declared.channels.Channels.{Channels}
use Rattle.record.specs.Body.{samples}
use Rattle.segment.specs.Summary.{Stretch, numbers_of, most_sum, sum_of}
use Rattle.segment.proofs.Sum.{levels_small, sum_is, sum_small}
use Rattle.segment.proofs.Accepted.sum.Goals as goal

difference : (a b : ℕ) → pos a -ℤ pos b ≡ a ⊖ b
difference a b =
    ap₂ ◌-ℤ◌ (pos-⊖ a) (pos-⊖ b)
    ∙ ap (λ (z : ℤ). (a ⊖ 0) +ℤ z) (⊖-neg b 0)
    ∙ ⊖-add a 0 0 b
    ∙ ⊖-eq (a + 0) (0 + b) a b (omega arith)

small_fits : (z : ℤ) → nat_abs z ≤ most_sum → SFits w64 z
small_fits (pos n) h = record { sfits = omega arith }
small_fits (negsuc n) h = record { sfits = omega arith }

module _ (ch : Channels) (body : List ℕ) (first len : ℕ) (stretch : Stretch ch body first len) (c : ℕ) (used : c < ch.count) (r : ℕ)
    (is : r ≡ sum level (numbers_of (samples ch body) first len c)) where
  levels_fit : r ≤ most_observations * largest_level
  levels_fit = omega (arith, is, levels_small ch body first len stretch c used)

  abbrev total : ℤ
  total = sum_of (numbers_of (samples ch body) first len c)

  is_sum : to_z w64 r -ℤ to_z w64 (largest * len) ≡ total
  is_sum =
      let l : r < 2 ^ 63 = omega (arith, levels_fit) in
      let m : largest * len < 2 ^ 63 = omega (arith, stretch.within, stretch.few) in
      rw (to_z_pos w64 r l, to_z_pos w64 (largest * len) m)
      (difference r (largest * len)
      ∙ ap (λ (n : ℕ). n ⊖ largest * len) is
      ∙ sym (sum_is ch body first len stretch c used))

  sum_fits : SFits w64 (to_z w64 r -ℤ to_z w64 (largest * len))
  sum_fits = rw is_sum (small_fits total (sum_small ch body first len stretch c used))

pub overflow_cast-result : goal.overflow_cast-result
overflow_cast-result c = omega (arith, levels_fit _ _ _ _ c.args.self.now.accepted.stretch _ c.requires _ c.levels-levels.ensures)

pub overflow_sub-result : goal.overflow_sub-result
overflow_sub-result c = sum_fits _ _ _ _ c.args.self.now.accepted.stretch _ c.requires _ c.levels-levels.ensures

pub returns : goal.returns
returns c =
    let t = c.args.self.now.accepted.stretch in
    to_z-of_z w64 _ (sum_fits _ _ _ _ t _ c.requires _ c.levels-levels.ensures) ∙ is_sum _ _ _ _ t _ c.requires _ c.levels-levels.ensures
