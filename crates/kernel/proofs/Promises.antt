-- The promises about kernels and segment costs, in the words of the scope's "Kernels and segment cost". Each is said
-- once over the kernels of the channels.
-- Assumes nothing.
use Rattle.std.specs.Prelude.{Some}
use mathlib.Core.Path.{◌≡◌, refl, ap, ◌∙◌}
use mathlib.Core.Logic.{◌↔◌}
use mathlib.Core.Bool.{false}
use mathlib.Core.List.{List, [], ◌∷◌, map, reverse}
use Prim.Native.Nat.{ℕ, ◌+◌, ◌*◌, ◌≤◌, ◌/◌, ◌^◌, ◌<◌, ◌∣◌, min}
use native.Mathlib.Omega.{arith}
use lib.ListN.{length}
use lib.IntN.{ℤ, pos, negsuc, nat_abs, ◌+ℤ◌, +ℤ_idr}
use Rattle.cutting.specs.Cutting as cutting
use Rattle.cutting.proofs.Promises as cuttings
use Rattle.kernel.specs.declared.Kernel.{Kernel}
use Rattle.kernel.specs.declared.Kernel.TheVariants.{Linear, Energy}
use Rattle.kernel.proofs.Pairs as Pairs
use Rattle.kernel.proofs.Segment as Segment
use Rattle.kernel.proofs.Number as Number
use Rattle.cutting.specs.Limits.{most_observations}
use Rattle.cutting.specs.Costs.{Agree, mirror, Within, Splittable}
use Rattle.cutting.specs.Recurrence.{chosen_in}
use Rattle.kernel.specs.Channels.{channels, dists, InRanges, EachChanged}
use Rattle.kernel.specs.Limits.{most_channels}
use Rattle.kernel.specs.Cost.{A, B, R, units, cost, per_one, most_units}
use Rattle.kernel.specs.Kernel.{kernel, negative, number_of, named_of, gap}
use Rattle.lists.specs.Lists.{All}
use Rattle.kernel.specs.Pairs.{pairs}
use Rattle.kernel.specs.True.{euclid, gcd, lcm, lcm_to, lcm400, exact, true_cost, twice}
use Rattle.kernel.proofs.Channels.{law_channels, splits_channels}
use Rattle.kernel.proofs.Exact.{rounds, true_split}
use Rattle.kernel.proofs.Kernels.{gap_parts, gap_sym, gap_self, gap_origin, gap_zero, energy, law}
use Rattle.kernel.proofs.Law.{R_nat, A_nat, R_bound}
use Rattle.kernel.proofs.Limits.{owns_le}
use Rattle.kernel.proofs.Multiple.{lcm400_positive, lcm400_divided, lcm400_least}
use Rattle.kernel.proofs.Segment.{cost_kept, cost_most, cost_split}
use Rattle.kernel.proofs.Pairwise.{R_each, cost_each}
use Rattle.kernel.proofs.Sums.{every}

-- ---- the kernels
-- The kernel of a number: that number names it, and no other does.
pub named_number : (k : Kernel) → named_of (number_of k) ≡ Some k
named_number = Number.named_number

pub number_named : (n : ℕ) (k : Kernel) → named_of n ≡ Some k → n ≡ number_of k
number_named = Number.number_named

-- "This is the smaller magnitude where signs agree, and 0 where they differ or one is 0."
pub energy_agree : (x y : ℤ) → negative x ≡ negative y → kernel Energy x y ≡ pos (min (nat_abs x) (nat_abs y))
energy_agree (pos a) (pos b) h = energy (pos a) (pos b) ∙ ap pos (omega (arith, gap_parts (pos a) (pos b)))
energy_agree (pos a) (negsuc b) h = absurd (let z : ◌≡◌ {A = ℕ} 0 1 = cc in omega arith)
energy_agree (negsuc a) (pos b) h = absurd (let z : ◌≡◌ {A = ℕ} 0 1 = cc in omega arith)
energy_agree (negsuc a) (negsuc b) h = energy (negsuc a) (negsuc b) ∙ ap pos (omega (arith, gap_parts (negsuc a) (negsuc b)))

pub energy_differ : (x y : ℤ) → (negative x ≡ negative y → ⊥) → kernel Energy x y ≡ pos 0
energy_differ (pos a) (pos b) h = absurd (h refl)
energy_differ (pos a) (negsuc b) h = energy (pos a) (negsuc b) ∙ ap pos (omega (arith, gap_parts (pos a) (negsuc b)))
energy_differ (negsuc a) (pos b) h = energy (negsuc a) (pos b) ∙ ap pos (omega (arith, gap_parts (negsuc a) (pos b)))
energy_differ (negsuc a) (negsuc b) h = absurd (h refl)

pub energy_zero : (y : ℤ) → (kernel Energy (pos 0) y ≡ pos 0) × (kernel Energy y (pos 0) ≡ pos 0)
energy_zero y =
    let front : gap (pos 0) y ≡ nat_abs y = gap_origin y in
    let back : gap y (pos 0) ≡ nat_abs y = gap_sym y (pos 0) ∙ front in
    (energy (pos 0) y ∙ ap pos (omega arith), energy y (pos 0) ∙ ap pos (omega arith))

-- ---- several channels
-- "the kernel of two days is the sum over channels": of one channel it is that channel's kernel, so the base is the case of one; ..
pub one_kernel : (k : Kernel) (x y : ℤ) → channels (k ∷ []) (x ∷ []) (y ∷ []) ≡ kernel k x y
one_kernel k x y = +ℤ_idr (kernel k x y)

-- .. and a further channel adds its kernel.
pub one_more : (k : Kernel) (ks : List Kernel) (x y : ℤ) (r t : List ℤ) → channels (k ∷ ks) (x ∷ r) (y ∷ t) ≡ kernel k x y +ℤ channels ks r t
one_more k ks x y r t = refl

-- One channel costs what its kernel costs, whatever a day is written as.
pub one_cost : (k : Kernel) (l : List ℤ) (s t : ℕ) → cost (channels (k ∷ [])) (map (λ x. x ∷ []) l) s t ≡ cost (kernel k) l s t
one_cost k l = cost_kept (law k) (law_channels (k ∷ [])) (λ x. Unit {0}) (λ x. x ∷ []) (λ x y p q. omega arith) l (every (λ x. tt) l)

-- ---- R
-- "In pair form, over unordered pairs, R is the sum of squared differences (kernel 1), twice the number of unequal pairs
-- (2), and the sum of absolute differences (3)": `dist` has the three, by the gap |x - y|, and a pair of days adds what its channels add ..
pub pair_form : (ks : List Kernel) (l : List (List ℤ)) → R (channels ks) l ≡ pos (pairs (dists ks) l)
pair_form ks = R_nat (law_channels ks)

-- .. which of a channel is 0 exactly where the two are equal.
pub unequal : (x y : ℤ) → (gap x y ≡ 0) ↔ (x ≡ y)
unequal x y = (gap_zero x y, λ e. rw e (gap_self y))

-- "R = mA - B, never negative for these kernels."
pub never_negative : (ks : List Kernel) (l : List (List ℤ)) → negative (R (channels ks) l) ≡ false
never_negative ks l = rw (pair_form ks l)

-- R is at most m·A.
pub R_most : (ks : List Kernel) (l : List (List ℤ)) → nat_abs (R (channels ks) l) ≤ length l * nat_abs (A (channels ks) l)
R_most ks l = rw (pair_form ks l, A_nat (law_channels ks) l) (R_bound (law_channels ks) l)

-- "shift and sign are chosen per channel, recoding for each spelling channel": each channel changed by itself, all of them together keep R, ..
pub R_changed : (ks : List Kernel) (l m : List (List ℤ)) → length l ≡ length m → EachChanged ks l m → R (channels ks) m ≡ R (channels ks) l
R_changed ks l m same change = R_each ks l m same change

-- .. and so do the samples in the other order.
pub R_reverse : (ks : List Kernel) (l : List (List ℤ)) → R (channels ks) (reverse l) ≡ R (channels ks) l
R_reverse ks = Pairs.R_reverse (channels ks)

-- The same of every segment's cost, and so of every cost and cutting that is made of these.
pub cost_changed :
    (ks : List Kernel) (l m : List (List ℤ)) → length l ≡ length m → EachChanged ks l m → (s t : ℕ) → t ≤ length l →
    cost (channels ks) m s t ≡ cost (channels ks) l s t
cost_changed ks l m same change = cost_each ks l m same change

pub cost_reverse :
    (ks : List Kernel) (l : List (List ℤ)) (m : ℕ) →
    Agree (cost (channels ks) (reverse l)) (mirror (cost (channels ks) l) (length l)) m 0 (length l)
cost_reverse ks = Segment.cost_reverse (channels ks)

-- ---- bounds
-- The bound on totals, below 2⁶³ for 400 days of four channels with samples of at most 1,000,000: no segment costs more than four times
-- 4,096 · 10¹² units for each observation, ..
pub channels_small :
    (ks : List Kernel) → length ks ≤ most_channels → (l : List (List ℤ)) → All (InRanges ks) l → (m : ℕ) →
    Within (cost (channels ks) l) most_units m 0 (length l)
channels_small ks few l =
    cost_most (law_channels ks) (InRanges ks) 4000000000000 (λ x p. omega (arith, owns_le ks x p)) l

-- .. so no cutting's cost reaches 2⁶³, whatever its least length m.
pub channels_fit :
    (ks : List Kernel) → length ks ≤ most_channels → (l : List (List ℤ)) → All (InRanges ks) l → length l ≤ most_observations →
    (m d t : ℕ) (c : List ℕ) → cutting.Cutting m 0 d t c → t ≤ length l → cutting.cost (cost (channels ks) l) t c < 2 ^ 63
channels_fit ks few l p n m d t c g upto =
    omega (arith, cuttings.cost_within (cost (channels ks) l) most_units m 0 (length l) (channels_small ks few l p m) d t c g upto)

-- Splitting a segment never costs more, in units and in true costs.
pub channels_split : (ks : List Kernel) (l : List (List ℤ)) → All (InRanges ks) l → Splittable (cost (channels ks) l) 0 (length l)
channels_split ks = cost_split (law_channels ks) (InRanges ks) (splits_channels ks)

pub split_true :
    (ks : List Kernel) (l : List (List ℤ)) → All (InRanges ks) l → length l ≤ most_observations → Splittable (true_cost (channels ks) l) 0 (length l)
split_true ks = true_split (law_channels ks) (InRanges ks) (splits_channels ks)

-- ---- true costs
-- "the least common multiple of 1 to 400": each of them divides it, and it divides every number that they all divide.
pub multiple_of_all : (m : ℕ) → 1 ≤ m → m ≤ 400 → m ∣ lcm400
multiple_of_all = lcm400_divided

pub least_multiple : (c : ℕ) → ((m : ℕ) → 1 ≤ m → m ≤ 400 → m ∣ c) → lcm400 ∣ c
least_multiple = lcm400_least

pub multiple_positive : 0 < lcm400
multiple_positive = lcm400_positive

module _ (ks : List Kernel) (l : List (List ℤ)) (n : length l ≤ most_observations) (m : ℕ) (one : 1 ≤ m) where
  -- "So 4,096 times the true cost is at least the cost in units and less than that cost plus D."
  pub rounding :
      (d t : ℕ) (c : List ℕ) → cutting.Cutting m 0 d t c → t ≤ length l →
      (lcm400 * cutting.cost (cost (channels ks) l) t c ≤ per_one * cutting.cost (true_cost (channels ks) l) t c)
      × (per_one * cutting.cost (true_cost (channels ks) l) t c < lcm400 * (cutting.cost (cost (channels ks) l) t c + d))
  rounding =
      cuttings.rounding (true_cost (channels ks) l) (cost (channels ks) l) per_one lcm400 m 0 (length l) (rounds (channels ks) l n m one)

  -- "the chosen cutting's true cost exceeds the smallest true cost in D segments by less than D/4,096"
  pub near :
      (d t : ℕ) → 1 ≤ d → d * m ≤ t → t ≤ length l → (c : List ℕ) → cutting.Cutting m 0 d t c →
      per_one * cutting.cost (true_cost (channels ks) l) t (chosen_in (cost (channels ks) l) m 0 d t)
      < per_one * cutting.cost (true_cost (channels ks) l) t c + d * lcm400
  near d t h fits =
      cuttings.near (true_cost (channels ks) l) (cost (channels ks) l) per_one lcm400 m 0 (length l) (rounds (channels ks) l n m one) d t h
      (omega arith)

-- "Rounding the whole cutting's cost once in place of each segment's" is another cost: 0 0 1 twice, cut in the middle,
-- costs twice 2,730 units, and 4,096 times its true cost, rounded down once, is one unit more.
pub rounded_each :
    cutting.cost (cost (kernel Linear) twice) 6 (0 ∷ 3 ∷ []) + 1
    ≡ per_one * cutting.cost (true_cost (kernel Linear) twice) 6 (0 ∷ 3 ∷ []) / lcm400
unfolding units exact A B R kernel lcm400 lcm_to lcm gcd euclid
rounded_each = refl
