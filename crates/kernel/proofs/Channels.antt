-- Several channels: a sample is the list of its channels' numbers, and the kernel is the sum of the
-- channels' kernels. It is lawful and it splits, over any number of channels, so every theorem on a lawful kernel holds
-- of it. Assumes nothing.
use mathlib.Core.Path.{◌≡◌, refl, sym, ap, ap₂, ◌∙◌}
use mathlib.Core.List.{List, [], ◌∷◌, map}
use Prim.Native.Nat.{ℕ, zero, suc, ◌+◌, ◌*◌, ◌≤◌, ◌<◌}
use native.Mathlib.Omega.{arith}
use lib.ListN.{length, get_or, take}
use lib.IntN.{ℤ, pos}
use Rattle.kernel.specs.declared.Kernel.{Kernel}
use Rattle.sample.specs.Level.{InRange, level}
use Rattle.kernel.specs.Channels.{first, others, channels, summed, dists, level_dists, owns, InRanges, kernel_at}
use Rattle.kernel.specs.Cost.{B}
use Rattle.kernel.specs.Kernel.{gap, far, dist}
use Rattle.kernel.specs.Pairs.{δ, sum}
use Rattle.kernel.proofs.Features.{splits_kernel}
use Rattle.kernel.proofs.Kernels.{law}
use Rattle.kernel.proofs.Law.{Law, law_add, law_part}
use Rattle.kernel.proofs.Level.{level_gap, dist_le}
use Rattle.kernel.proofs.Split.{Splits, splits_add, splits_part, splits_none}
use Rattle.kernel.proofs.Sums.{sum_z_pos}

law_none : {S : Type 0} → Law {S = S} (λ x y. pos 0) (λ x y. 0) (λ x. 0)
unfolding δ B
law_none =
    record {
      k_sym = λ x y. refl;
      apart = λ x y. refl;
      own = λ x. refl;
      whole = λ l. (_, sum_z_pos _ (λ x. sum (λ y. 0) l) (λ x. sum_z_pos _ (λ y. 0) (λ y. refl) l) l);
    }

pub law_channels : (ks : List Kernel) → Law (channels ks) (dists ks) (owns ks)
law_channels [] = law_none
law_channels (k ∷ ks) = law_add (law_part (first (pos 0)) (law k)) (law_part others (law_channels ks))

pub splits_channels : (ks : List Kernel) → Splits (InRanges ks) (dists ks)
splits_channels [] = splits_none (InRanges [])
splits_channels (k ∷ ks) =
    let here = λ (x y : List ℤ). dist k (gap (first (pos 0) x) (first (pos 0) y)) in
    splits_add here (λ x y. dists ks (others x) (others y)) (InRanges (k ∷ ks))
    (splits_part (InRanges (k ∷ ks)) InRange (first (pos 0)) (λ x p. p.0) here (λ x y. dist k (gap x y)) (λ x y p q. refl) (splits_kernel k))
    (splits_part (InRanges (k ∷ ks)) (InRanges ks) others (λ x p. p.1) (λ x y. dists ks (others x) (others y)) (dists ks)
    (λ x y p q. refl) (splits_channels ks))

-- ---- channel by channel
module _ {S : Type 0} (z : S) where
  first_at : (x : List S) → first z x ≡ get_or x 0 z
  first_at [] = refl
  first_at (a ∷ x) = refl

  others_at : (x : List S) (c : ℕ) → get_or (others x) c z ≡ get_or x (suc c) z
  others_at [] c = refl
  others_at (a ∷ x) c = refl

-- days that are as far apart in each channel add as much
pub summed_same :
    {S T : Type 0} (d : S → S → ℕ) (e : T → T → ℕ) (z : S) (w : T) (ks : List Kernel) (x y : List S) (u v : List T) →
    ((c : ℕ) → c < length ks → dist (kernel_at ks c) (d (get_or x c z) (get_or y c z)) ≡ dist (kernel_at ks c) (e (get_or u c w) (get_or v c w))) →
    summed d z ks x y ≡ summed e w ks u v
summed_same d e z w [] x y u v h = refl
summed_same d e z w (k ∷ ks) x y u v h =
    ap₂ ◌+◌
    (ap (dist k) (ap₂ d (first_at z x) (first_at z y)) ∙ h 0 (omega arith) ∙ sym (ap (dist k) (ap₂ e (first_at w u) (first_at w v))))
    (summed_same d e z w ks (others x) (others y) (others u) (others v)
    (λ c b.
    ap (dist (kernel_at ks c)) (ap₂ d (others_at z x c) (others_at z y c))
    ∙ h (suc c) (omega arith)
    ∙ sym (ap (dist (kernel_at ks c)) (ap₂ e (others_at w u c) (others_at w v c)))))

-- with one channel more at the end
pub summed_more :
    {S : Type 0} (d : S → S → ℕ) (z : S) (ks : List Kernel) (x y : List S) (c : ℕ) → c < length ks →
    summed d z (take (suc c) ks) x y ≡ summed d z (take c ks) x y + dist (kernel_at ks c) (d (get_or x c z) (get_or y c z))
summed_more d z [] x y c h = absurd (omega arith)
summed_more d z (k ∷ ks) x y zero h =
    let e = ap (dist k) (ap₂ d (first_at z x) (first_at z y)) in
    omega (arith, e)
summed_more d z (k ∷ ks) x y (suc c) h =
    let e = ap (dist (kernel_at ks c)) (ap₂ d (others_at z x c) (others_at z y c)) in
    omega (arith, summed_more d z ks (others x) (others y) c (omega arith), e)

-- a day is in range where each of its numbers is
pub in_ranges : (ks : List Kernel) (x : List ℤ) → ((c : ℕ) → c < length ks → InRange (get_or x c (pos 0))) → InRanges ks x
in_ranges [] x h = tt
in_ranges (k ∷ ks) [] h = (h 0 (omega arith), in_ranges ks [] (λ c b. h (suc c) (omega arith)))
in_ranges (k ∷ ks) (a ∷ x) h = (h 0 (omega arith), in_ranges ks x (λ c b. h (suc c) (omega arith)))

-- ---- on levels
first_level : (x : List ℤ) → first (level (pos 0)) (map level x) ≡ level (first (pos 0) x)
first_level [] = refl
first_level (a ∷ x) = refl

others_level : (x : List ℤ) → others (map level x) ≡ map level (others x)
others_level [] = refl
others_level (a ∷ x) = refl

pub level_apart : (ks : List Kernel) (x y : List ℤ) → InRanges ks x → InRanges ks y → level_dists ks (map level x) (map level y) ≡ dists ks x y
level_apart [] x y p q = refl
level_apart (k ∷ ks) x y p q =
    ap₂ ◌+◌
    (ap (dist k) (ap₂ far (first_level x) (first_level y) ∙ level_gap (first (pos 0) x) (first (pos 0) y) p.0 q.0))
    (ap₂ (level_dists ks) (others_level x) (others_level y) ∙ level_apart ks (others x) (others y) p.1 q.1)

-- levels in range: a pair of days adds so much for each channel at most
pub levels_most :
    (ks : List Kernel) (x y : List ℕ) → ((c : ℕ) → c < length ks → get_or x c (level (pos 0)) ≤ 2000000) →
    ((c : ℕ) → c < length ks → get_or y c (level (pos 0)) ≤ 2000000) → level_dists ks x y ≤ length ks * 4000000000000
levels_most [] x y p q = omega arith
levels_most (k ∷ ks) x y p q =
    let z : ℕ = level (pos 0) in
    let near : far (first z x) (first z y) ≤ 2000000 = omega (arith, first_at z x, first_at z y, p 0 (omega arith), q 0 (omega arith)) in
    let rest =
    levels_most ks (others x) (others y)
    (λ c b. omega (arith, others_at z x c, p (suc c) (omega arith)))
    (λ c b. omega (arith, others_at z y c, q (suc c) (omega arith)))
    in
    omega (arith, dist_le k (far (first z x) (first z y)) near, rest)
