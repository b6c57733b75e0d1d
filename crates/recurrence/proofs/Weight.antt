-- The running sums: how a tail grows, that the tails of a segment's observations sum to its R, and how large they get. Assumes nothing.
use Prim.Native.Nat.{ℕ, zero, suc, ◌+◌, ◌-◌, ◌*◌, ◌^◌, ◌≤◌, ◌<◌}
use native.Mathlib.Numerals.{add-one}
use native.Mathlib.Omega.{arith}
use mathlib.Core.Path.{◌≡◌, sym, ◌∙◌, ap, ap₂, subst}
use mathlib.Core.List.{List, []}
use lib.ListN.{length, get_or}
use lib.Seq.{slice, slice-cons, length-slice}
use lib.IntN.{pos}
use Rattle.cutting.specs.Limits.{most_observations}
use Rattle.sample.specs.Level.{level, largest_level}
use Rattle.kernel.specs.declared.Kernel.{Kernel}
use Rattle.kernel.specs.Limits.{most_channels}
use Rattle.kernel.specs.Kernel.{far, dist}
use Rattle.kernel.specs.Channels.{level_dists}
use Rattle.lists.specs.Lists.{All}
use Rattle.lists.proofs.Slices.{all_slice, slice_none}
use Rattle.kernel.specs.Pairs.{sum, pairs}
use Rattle.kernel.specs.Cost.{units_of}
use Rattle.kernel.proofs.Slices.{sum_back, pairs_front}
use Rattle.kernel.proofs.Limits.{sum_le}
use Rattle.kernel.proofs.Level.{dist_le}
use Rattle.kernel.proofs.Channels.{levels_most}
use Rattle.recurrence.specs.Weight.{tail, Tails, total, level_cost, tail_cost, most_pair, most_tail}

-- ---- a pair
-- a day's levels are in range, in each of so many channels
abbrev pub LowIn : List Kernel → List ℕ → Type 0
LowIn ks x = (c : ℕ) → c < length ks → get_or x c (level (pos 0)) ≤ largest_level

module _ (ks : List Kernel) (few : length ks ≤ most_channels) where
  pub pair_small : (x y : List ℕ) → LowIn ks x → LowIn ks y → level_dists ks x y ≤ most_pair
  pair_small x y p q = omega (arith, levels_most ks x y p q)

  -- ---- a tail
  module _ (us : List (List ℕ)) where
    pub tail_none : (s : ℕ) → tail ks us s (s + 1) ≡ 0
    tail_none s = ap (sum (level_dists ks (get_or us s []))) (slice_none (suc s) (s + 1) us (omega arith))

    pub tail_more : (s t : ℕ) → s < t → t < length us → tail ks us s (t + 1) ≡ tail ks us s t + level_dists ks (get_or us s []) (get_or us t [])
    tail_more s t h b = rw add-one (sum_back (level_dists ks (get_or us s [])) (suc s) t us [] (omega arith) b)

    -- days in range: a tail holds at most `most_pair` for each observation
    pub tail_small : All (LowIn ks) us → (s t : ℕ) → LowIn ks (get_or us s []) → s < t → t ≤ length us → tail ks us s t ≤ most_pair * (t - s)
    tail_small low s t here h b =
        omega (
          arith,
          sum_le (LowIn ks) (level_dists ks (get_or us s [])) most_pair (λ x q. pair_small (get_or us s []) x here q)
              (slice (suc s) t us) (all_slice (LowIn ks) (suc s) t us low),
          length-slice (suc s) t us b,
        )

-- ---- the sum of the numbers from s on
module _ (a : List ℕ) (t : ℕ) (b : t ≤ length a) where
  pub total_none : (s : ℕ) → s ≡ t → total (slice s t a) ≡ 0
  total_none s e = ap total (slice_none s t a (omega arith))

  pub total_more : (s : ℕ) → s < t → total (slice s t a) ≡ get_or a s 0 + total (slice (suc s) t a)
  total_more s h = ap total (slice-cons s t a 0 h b)

  pub total_small : (c : ℕ) → ((s : ℕ) → s < t → get_or a s 0 ≤ c) → (m s : ℕ) → s + m ≡ t → total (slice s t a) ≤ m * c
  total_small c h zero s e = omega (arith, total_none s (omega arith))
  total_small c h (suc m) s e = omega (arith, total_more s (omega arith), h s (omega arith), total_small c h m (suc s) (omega arith))

  -- a sum that goes down from t: with one number more, how large it gets, and the cost from it
  pub total_back : (s : ℕ) → 0 < s → s ≤ t → total (slice s t a) + get_or a (s - 1) 0 ≡ total (slice (s - 1) t a)
  total_back s p q =
      let next : suc (s - 1) ≡ s = omega arith in
      omega (arith, total_more (s - 1) (omega arith), ap (λ (i : ℕ). total (slice i t a)) next)

  module _ (few : t ≤ most_observations) (tails : (s : ℕ) → s < t → get_or a s 0 ≤ most_tail) (costs : (s : ℕ) → s < t → tail_cost a s t < 2 ^ 63)
      (s : ℕ) (p : 0 < s) (q : s ≤ t) where
    pub total_room : total (slice s t a) + get_or a (s - 1) 0 ≤ most_tail * (t - (s - 1))
    total_room = omega (arith, total_back s p q, total_small most_tail tails (t - (s - 1)) (s - 1) (omega arith))

    pub units_room : units_of (total (slice s t a) + get_or a (s - 1) 0) (t - (s - 1)) < 2 ^ 63
    units_room = subst (λ (r : ℕ). units_of r (t - (s - 1)) < 2 ^ 63) (sym (total_back s p q)) (costs (s - 1) (omega arith))

  -- the tails of s .. t - 1 sum to the pairs of s .. t - 1
  tails_pairs : (ks : List Kernel) (us : List (List ℕ)) → t ≤ length us → Tails ks us t a →
      (m s : ℕ) → s + m ≡ t → total (slice s t a) ≡ pairs (level_dists ks) (slice s t us)
  tails_pairs ks us l h zero s e =
      total_none s (omega arith) ∙ sym (ap (pairs (level_dists ks)) (slice_none s t us (omega arith)))
  tails_pairs ks us l h (suc m) s e =
      total_more s (omega arith)
      ∙ ap₂ ◌+◌ (h s (omega arith)) (tails_pairs ks us l h m (suc s) (omega arith))
      ∙ sym (pairs_front (level_dists ks) s t us [] (omega arith) l)

  -- so both costs are one
  pub tail_costs : (ks : List Kernel) (us : List (List ℕ)) → t ≤ length us → Tails ks us t a → (s : ℕ) → s ≤ t → tail_cost a s t ≡ level_cost ks us s t
  tail_costs ks us l h s e = ap (λ (r : ℕ). units_of r (t - s)) (tails_pairs ks us l h (t - s) s (omega arith))

-- ---- a channel is joined
-- where a tail has room, a distance more fits 64 bits
pub joined_room : (k : Kernel) (x y v : ℕ) → x ≤ largest_level → y ≤ largest_level → v ≤ most_tail → v + dist k (far x y) < 2 ^ 64
joined_room k x y v p q r = omega (arith, dist_le k (far x y) (omega arith), r)
