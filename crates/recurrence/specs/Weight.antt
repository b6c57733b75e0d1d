-- The cost of a segment in units from the days' levels, and the running sums that it is worked from.
use Rattle.std.specs.Prelude.{ℕ, suc, ◌+◌, ◌-◌, ◌*◌, ◌≤◌, ◌<◌, ◌≡◌, List, [], length, get_or}
use Rattle.std.proofs.Math.Seq.{slice}
use Rattle.lists.specs.Lists.{values_of}
use Rattle.cutting.specs.Limits.{most_observations, least_length}
use Rattle.cutting.specs.Costs.{Within}
use Rattle.sample.specs.Level.{largest_level}
use Rattle.kernel.specs.declared.Kernel.{Kernel}
use Rattle.kernel.specs.Limits.{most_channels}
use Rattle.kernel.specs.Channels.{level_dists}
use Rattle.kernel.specs.Pairs.{sum, pairs}
use Rattle.kernel.specs.Cost.{units_of, most_units}

-- u has the levels of m channels, n of each, one channel behind the other: those of day i, and all days
abbrev pub day_in : (n m : ℕ) → List ℕ → ℕ → List ℕ
day_in n m u i = values_of (λ c. get_or u (n * c + i) 0) m

abbrev pub days_in : (n m : ℕ) → List ℕ → List (List ℕ)
days_in n m u = values_of (day_in n m u) n

-- the tail of observation s of the first t days: what its pairs with those after it add to R, under the kernels of the channels
abbrev pub tail : List Kernel → List (List ℕ) → ℕ → ℕ → ℕ
tail ks us s t = sum (level_dists ks (get_or us s [])) (slice (suc s) t us)

-- a has the tails of the first t
abbrev pub Tails : List Kernel → List (List ℕ) → ℕ → List ℕ → Type 0
Tails ks us t a = (s : ℕ) → s < t → get_or a s 0 ≡ tail ks us s t

-- the sum of a list of numbers
abbrev pub total : List ℕ → ℕ
total l = sum (λ x. x) l

-- the cost of observations s .. t - 1 in pair form, by the days and by their levels in u, and from the tails of the first t
abbrev pub level_cost : List Kernel → List (List ℕ) → ℕ → ℕ → ℕ
level_cost ks us s t = units_of (pairs (level_dists ks) (slice s t us)) (t - s)

abbrev pub days_cost : List Kernel → List ℕ → ℕ → ℕ → ℕ → ℕ
days_cost ks u n = level_cost ks (days_in n (length ks) u)

abbrev pub tail_cost : List ℕ → ℕ → ℕ → ℕ
tail_cost a s t = units_of (total (slice s t a)) (t - s)

-- c has the costs of the last segments of the first t, by their starts
abbrev pub Prices : (ℕ → ℕ → ℕ) → ℕ → List ℕ → Type 0
Prices w t c = (s : ℕ) → s < t → get_or c s 0 ≡ w s t

-- the most that two levels add, that a pair of days adds, and that a tail holds
abbrev pub most_apart : ℕ
most_apart = largest_level * largest_level

abbrev pub most_pair : ℕ
most_pair = most_channels * most_apart

abbrev pub most_tail : ℕ
most_tail = most_observations * most_pair

-- Levels of n days that the tables can be filled from: of a few channels, n of each, all in range; and no segment costs more than samples in
-- range do, which levels alone do not say: they may lie twice as far apart.
pub record Observed (ks : List Kernel) (u : List ℕ) (n : ℕ) : Type 0 where
  pub few_channels : length ks ≤ most_channels
  pub few_days : n ≤ most_observations
  pub long : length u ≡ n * length ks
  pub small : (j : ℕ) → j < length u → get_or u j 0 ≤ largest_level
  pub cheap : Within (days_cost ks u n) most_units least_length 0 n
