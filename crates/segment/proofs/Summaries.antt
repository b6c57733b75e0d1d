-- The four summaries of an accepted stretch: each channel's at its place, and none at the others; and what numbers they hold. Assumes nothing.
use Prim.Native.Nat.{ℕ, ◌≤◌, ◌<◌}
use mathlib.Core.Path.{◌≡◌, refl, sym, subst, ◌∙◌}
use mathlib.Core.Bool.{Bool, true, false, cond}
use mathlib.Core.List.{List}
use native.Mathlib.Decide.{dec_lt}
use native.Mathlib.Nat.{le_trans}
use native.Mathlib.Omega.{arith}
use lib.Dec.{T, eqb, lit≤}
use lib.ListN.{get_or, get_or-eq_default}
use lib.IntN.{ℤ, pos, nat_abs}
use lib.Ieee.{binary64, is_nan, fits, of_int}
use lib.Ieee.Fits.{div-fits}
use Rattle.cutting.specs.Limits.{most_observations}
use Rattle.kernel.specs.declared.Kernel.TheVariants.{Spelling}
use Rattle.kernel.specs.Kernel.{number_of}
use Rattle.kernel.specs.Limits.{most_channels}
use Rattle.lists.proofs.Values.{values_length, values_at}
use Rattle.record.specs.declared.Asked.{Asked}
use Rattle.record.specs.declared.channels.Channels.{Channels}
use Rattle.record.specs.Channels.{kernel_in}
use Rattle.record.specs.Body.{samples}
use Rattle.segment.specs.declared.Summary.{Summary}
use Rattle.segment.specs.Summary.{SummaryAccepted, numbers_of, most_sum, sum_of, mean_of, positive_zero, summary_of, no_summary, summary_at, summaries_of}
use Rattle.segment.proofs.Mean.{mean_number}
use Rattle.segment.proofs.Places.{filled_below, filled_beyond}
use Rattle.segment.proofs.Sum.{sum_small}

-- Numbers that take 8 bytes each, and a mean that is a number.
pub record Stored (s : Summary) : Type 0 where
  pub first_small : s.first.0 ≤ most_observations
  pub length_small : s.len ≤ most_observations
  pub sum_small : nat_abs s.sum ≤ most_sum
  pub mean_number : is_nan s.mean ≡ false
  pub mean_fits : T (fits binary64 s.mean)

none_stored : Stored no_summary
unfolding is_nan fits
none_stored = record { first_small = omega arith; length_small = omega arith; sum_small = omega arith; mean_number = refl; mean_fits = tt }

module _ (asked : Asked) (body : List ℕ) (first len : ℕ) (a : SummaryAccepted asked body first len) where
  abbrev ch : Channels
  ch = asked.channels

  abbrev xs : List (List ℤ)
  xs = samples ch body

  -- the summary at place c
  abbrev pub given : ℕ → Summary
  given c = get_or (summaries_of ch xs first len) c no_summary

  pub given_used : (c : ℕ) → c < ch.count → given c ≡ summary_of ch xs first len c
  unfolding summary_at
  given_used c used =
      let few = a.lent.channeled.few_channels in
      values_at (summary_at ch xs first len) most_channels c no_summary (omega arith)
      ∙ filled_below (summary_of ch xs first len) no_summary ch.count c used

  pub given_unused : (c : ℕ) → ch.count ≤ c → given c ≡ no_summary
  unfolding summary_at
  given_unused c beyond =
      elim (dec_lt c most_channels) [
        | yes h ↦
            values_at (summary_at ch xs first len) most_channels c no_summary h
            ∙ filled_beyond (summary_of ch xs first len) no_summary ch.count c beyond
        | no h ↦
            get_or-eq_default (summaries_of ch xs first len) no_summary {n = c}
            (omega (arith, values_length (summary_at ch xs first len) most_channels))
      ]

  -- what numbers it holds, whichever kernel the channel has
  module _ (c : ℕ) (used : c < ch.count) where
    abbrev total : ℤ
    total = sum_of (numbers_of xs first len c)

    either_stored : (b : Bool) → Stored (record {
      first = record { 0 = first };
      len = len;
      sum = cond b (pos 0) total;
      mean = cond b positive_zero (mean_of total len);
    })
    either_stored true = record {
      first_small = (let t = a.stretch in omega (arith, t.within, t.few));
      length_small = (let t = a.stretch in omega (arith, t.within, t.few));
      sum_small = none_stored.sum_small;
      mean_number = none_stored.mean_number;
      mean_fits = none_stored.mean_fits;
    }
    either_stored false =
        let t = a.stretch in
        let few : len ≤ most_observations = omega (arith, t.within, t.few) in
        let small = sum_small ch body first len t c used in
        record {
          first_small = omega (arith, t.within, t.few);
          length_small = few;
          sum_small = small;
          mean_number = mean_number total len (le_trans small (lit≤ tt)) a.some (le_trans few (lit≤ tt));
          mean_fits = div-fits binary64 (of_int binary64 total) (of_int binary64 (pos len));
        }

    used_stored : Stored (summary_of ch xs first len c)
    unfolding summary_of
    used_stored = either_stored (eqb (kernel_in ch c) (number_of Spelling))

  pub stored : (c : ℕ) → Stored (given c)
  stored c =
      elim (dec_lt c ch.count) [
        | yes h ↦ subst Stored (sym (given_used c h)) (used_stored c h)
        | no h ↦ subst Stored (sym (given_unused c (omega arith))) none_stored
      ]
