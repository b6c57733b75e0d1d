-- Several channels: a day's sample is the list of its channels' numbers, and the kernel of two days is the sum over the channels of their
-- kernels. One channel is a list of one.
-- Assumes nothing.
use Rattle.std.specs.Prelude.{◌≡◌, List, [], ◌∷◌, ℕ, ◌+◌, ◌<◌, length, get_or, map, ℤ, pos, neg_ℤ, ◌+ℤ◌}
use Rattle.kernel.specs.declared.Kernel.{Kernel}
use Rattle.kernel.specs.declared.Kernel.TheVariants.{Linear, Spelling}
use Rattle.sample.specs.Level.{InRange, level}
use Rattle.kernel.specs.Kernel.{kernel, gap, far, dist, own, Recoded}

-- a day's number in the first channel, z where there is none, and its numbers in the others
abbrev pub first : {S : Type 0} → S → List S → S
first z [] = z
first z (x ∷ r) = x

abbrev pub others : {S : Type 0} → List S → List S
others [] = []
others (x ∷ r) = r

-- "the kernel of two days is the sum over channels"
abbrev pub channels : List Kernel → List ℤ → List ℤ → ℤ
channels [] x y = pos 0
channels (k ∷ ks) x y = kernel k (first (pos 0) x) (first (pos 0) y) +ℤ channels ks (others x) (others y)

-- what a pair of days adds to R, by how far apart two numbers of a channel are: the sum over the channels
abbrev pub summed : {S : Type 0} → (S → S → ℕ) → S → List Kernel → List S → List S → ℕ
summed apart z [] x y = 0
summed apart z (k ∷ ks) x y = dist k (apart (first z x) (first z y)) + summed apart z ks (others x) (others y)

-- .. of whole numbers, and of their levels
abbrev pub dists : List Kernel → List ℤ → List ℤ → ℕ
dists = summed gap (pos 0)

abbrev pub level_dists : List Kernel → List ℕ → List ℕ → ℕ
level_dists = summed far (level (pos 0))

-- k(x,x) of a day, and that it is in range in every channel
abbrev pub owns : List Kernel → List ℤ → ℕ
owns [] x = 0
owns (k ∷ ks) x = own k (first (pos 0) x) + owns ks (others x)

abbrev pub InRanges : List Kernel → List ℤ → Type 0
InRanges [] x = Unit {0}
InRanges (k ∷ ks) x = InRange (first (pos 0) x) × InRanges ks (others x)

-- the kernel and the numbers of channel c, day by day
abbrev pub kernel_at : List Kernel → ℕ → Kernel
kernel_at ks c = get_or ks c Linear

abbrev pub column : ℕ → List (List ℤ) → List ℤ
column c l = map (λ x. get_or x c (pos 0)) l

-- "Adding one whole number to all scaled samples, or changing all signs, .. For the spelling kernel so does any recoding": what a channel's numbers xs
-- become, ys
pub data Changed (k : Kernel) (xs ys : List ℤ) : Type 0 where
  shifted : (c : ℤ) → ys ≡ map (λ x. x +ℤ c) xs → Changed k xs ys
  signs_changed : ys ≡ map neg_ℤ xs → Changed k xs ys
  recoded : k ≡ Spelling → Recoded xs ys → Changed k xs ys

-- "shift and sign are chosen per channel, recoding for each spelling channel": each channel of the days l becomes that of the days m by a change of its own
abbrev pub EachChanged : List Kernel → List (List ℤ) → List (List ℤ) → Type 0
EachChanged ks l m = (c : ℕ) → c < length ks → Changed (kernel_at ks c) (column c l) (column c m)
