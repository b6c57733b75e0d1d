-- The cost of a record's observations s .. t-1, as the theory of cuttings asks for it: what keeps it, its mirror image,
-- its bound, and that splitting a segment never costs more. Over any lawful kernel. Assumes nothing.
use mathlib.Core.Path.{◌≡◌, sym, ap, ap₂, ◌∙◌}
use mathlib.Core.List.{List, map, reverse}
use Prim.Native.Nat.{ℕ, ◌+◌, ◌-◌, ◌*◌, ◌≤◌}
use native.Mathlib.Omega.{arith}
use lib.ListN.{length, length-reverse}
use lib.Seq.{slice, length-slice}
use lib.IntN.{ℤ, nat_abs}
use Rattle.kernel.specs.declared.Kernel.{Kernel}
use Rattle.sample.specs.Level.{level}
use Rattle.cutting.specs.Costs.{Agree, mirror, Within, Splittable}
use Rattle.kernel.specs.Cost.{units_of, units, cost}
use Rattle.kernel.specs.Channels.{channels, dists, level_dists, InRanges}
use Rattle.lists.specs.Lists.{All}
use Rattle.kernel.specs.Pairs.{pairs}
use Rattle.kernel.proofs.Channels.{law_channels, level_apart}
use Rattle.kernel.proofs.Law.{Law, units_nat, units_bound}
use Rattle.kernel.proofs.Limits.{sum_le}
use Rattle.kernel.proofs.Moves.{units_kept}
use Rattle.kernel.proofs.Pairs.{R_reverse}
use Rattle.kernel.proofs.Sums.{pairs_map}
use Rattle.lists.proofs.Slices.{slice_join, slice_reverse, all_slice, slice_map}
use Rattle.kernel.proofs.Split.{Splits, split_units}

-- a map f of samples, to another kind and kernel perhaps, that keeps the distance of all that have the property P
pub cost_kept :
    {S T : Type 0} {k : S → S → ℤ} {k' : T → T → ℤ} {d : S → S → ℕ} {d' : T → T → ℕ} {a : S → ℕ} {a' : T → ℕ} →
    Law k d a → Law k' d' a' → (P : S → Type 0) (f : S → T) → ((x y : S) → P x → P y → d' (f x) (f y) ≡ d x y) →
    (l : List S) → All P l → (s t : ℕ) → cost k' (map f l) s t ≡ cost k l s t
cost_kept {k' = k'} w w' P f keeps l p s t =
    ap (units k') (slice_map f s t l) ∙ units_kept w w' P f keeps (slice s t l) (all_slice P s t l p)

-- the samples in the other order: the mirror image, whatever the kernel
units_reverse : {S : Type 0} (k : S → S → ℤ) (l : List S) → units k (reverse l) ≡ units k l
unfolding units
units_reverse k l = ap₂ (λ r m. units_of (nat_abs r) m) (R_reverse k l) (length-reverse l)

pub cost_reverse :
    {S : Type 0} (k : S → S → ℤ) (l : List S) (m : ℕ) → Agree (cost k (reverse l)) (mirror (cost k l) (length l)) m 0 (length l)
cost_reverse k l m s t from long upto =
    ap (units k) (slice_reverse s t l (omega arith) upto) ∙ units_reverse k (slice (length l - t) (length l - s) l)

module _ {S : Type 0} {k : S → S → ℤ} {d : S → S → ℕ} {a : S → ℕ} (w : Law k d a) (P : S → Type 0) where
  -- where k(x,x) is at most c, no segment costs more than 4,096 c for each observation
  pub cost_most :
      (c : ℕ) → ((x : S) → P x → a x ≤ c) → (l : List S) → All P l → (m : ℕ) →
      Within (cost k l) (4096 * c) m 0 (length l)
  cost_most c most l p m s t from long upto =
      let part : length (slice s t l) + s ≡ t = omega (arith, length-slice s t l upto) in
      omega (
        arith,
        units_bound w (slice s t l),
        sum_le P a c most (slice s t l) (all_slice P s t l p),
        ap (λ (n : ℕ). n * c) part,
      )

  -- splitting a segment never costs more
  pub cost_split : Splits P d → (l : List S) → All P l → Splittable (cost k l) 0 (length l)
  cost_split h l p s m t from left right upto =
      rw (slice_join s m t l (omega arith) (omega arith) upto)
      (split_units w P h (slice s m l) (slice m t l) (all_slice P s m l p) (all_slice P m t l p))

-- on levels: the cost of a segment, by the distances of its days' levels
pub cost_level :
    (ks : List Kernel) (l : List (List ℤ)) → All (InRanges ks) l → (s t : ℕ) → t ≤ length l →
    cost (channels ks) l s t ≡ units_of (pairs (level_dists ks) (slice s t (map (map level) l))) (t - s)
cost_level ks l p s t upto =
    let part = slice s t l in
    let kept = pairs_map (InRanges ks) (map level) (dists ks) (level_dists ks) (level_apart ks) part (all_slice (InRanges ks) s t l p) in
    units_nat (law_channels ks) part
    ∙ ap₂ units_of (sym kept) (length-slice s t l upto)
    ∙ ap (λ (r : List (List ℕ)). units_of (pairs (level_dists ks) r) (t - s)) (sym (slice_map (map level) s t l))
