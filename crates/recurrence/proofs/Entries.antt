-- A column's entries are worked from the columns before it, so they stay what they are to be while it is filled; and where those hold
-- the table's entries, so does the column, for any least length l and any segment cost w that is at most b for each observation.
-- Assumes nothing.
use Prim.Native.Nat.{ℕ, suc, ◌+◌, ◌*◌, ◌^◌, ◌≤◌, ◌<◌}
use native.Mathlib.Nat.{mul-le-mul_left}
use native.Mathlib.Omega.{arith}
use mathlib.Core.Path.{◌≡◌, refl, sym, ◌∙◌, ap}
use mathlib.Core.List.{List}
use lib.ListN.{length}
use Rattle.table.specs.Fill.{fill, fill_column}
use Rattle.table.proofs.Fill.{column_none, column_more, column_other, column_ext, fill_more, fill_here}
use Rattle.cutting.specs.Costs.{Within}
use Rattle.cutting.specs.Limits.{cost_bytes, start_bytes}
use Rattle.cutting.specs.Recurrence.{room, least}
use Rattle.cutting.specs.Table.{cost_at, start_at, cost_from, start_from}
use Rattle.cutting.proofs.Bound.{least_most}
use Rattle.cutting.proofs.Same.{Alike}
use Rattle.cutting.proofs.Table.{cost_some, cost_most, cost_alike, start_alike, cost_from_lem, start_from_lem}
use Rattle.recurrence.specs.Column.{rows_of, prices_of}
use Rattle.recurrence.specs.Weight.{Prices}

-- while column t is filled, the rows before it stay: ys is the table xs with some of the column
module _ (n : ℕ) (f : ℕ → ℕ) (t m : ℕ) (xs ys : List ℕ) (upto : t ≤ n) (filled : ys ≡ fill_column cost_bytes n f t m xs) where
  pub row_kept : (d s : ℕ) → s < t → rows_of n ys d s ≡ rows_of n xs d s
  row_kept d s h =
      ap (λ (zs : List ℕ). rows_of n zs d s) filled ∙ column_other cost_bytes n f t xs m d s upto (omega arith) (omega arith)

  module _ (w : ℕ → ℕ → ℕ) (l : ℕ) (some : 1 ≤ l) (k x : ℕ) where
    kept : Alike w w l 0 (rows_of n ys) (rows_of n xs) k t
    kept = record { segments = λ s a b. refl; rows = λ j s a b c. row_kept j s (omega arith) }

    pub cost_kept : x ≡ cost_from w l (rows_of n ys) k t → x ≡ cost_from w l (rows_of n xs) k t
    cost_kept e = e ∙ cost_alike w w l _ _ k t kept

    pub start_kept : x ≡ start_from w l (rows_of n ys) k t → x ≡ start_from w l (rows_of n xs) k t
    start_kept e = e ∙ start_alike w w l _ _ k t kept

-- by which `recurrence::column` fills its rows, one a turn
pub ruleset row_by_row = (column_none, column_more, row_kept, cost_kept, start_kept)

-- A table vs whose columns below t are filled from us by the rule f, and its column t by g, is filled one column further, where g is f at t.
next :
    (k n m : ℕ) (f : ℕ → ℕ → ℕ) (g : ℕ → ℕ) (t : ℕ) (us vs zs : List ℕ) → ((d : ℕ) → d < m → g d ≡ f d t) →
    vs ≡ fill k n m f t us → zs ≡ fill_column k n g t m vs → zs ≡ fill k n m f (t + 1) us
next k n m f g t us vs zs same before e =
    e
    ∙ column_ext k n g (λ d. f d t) t vs m same
    ∙ ap (fill_column k n (λ d. f d t) t m) before
    ∙ sym (fill_more k n m f us t)

-- What holds of the cost table before column t is worked: its columns below t have the entries, ys for the lent xs, and cs has the costs
-- of the last segments; a segment has at least l observations, and costs at most b for each.
pub record Held (w : ℕ → ℕ → ℕ) (b l n m t : ℕ) (xs ys cs : List ℕ) : Type 0 where
  pub some : 1 ≤ l
  pub each : Within w b l 0 n
  pub whole : b * n < 2 ^ 63
  pub space : cost_bytes * (m * (n + 1)) ≤ length xs
  pub upto : t ≤ n
  pub filled : ys ≡ fill cost_bytes n m (cost_at w l) t xs
  pub priced : Prices w t cs

module _ {w : ℕ → ℕ → ℕ} {b l n m t : ℕ} {xs ys cs : List ℕ} (held : Held w b l n m t xs ys cs) where
  row_right : (d s : ℕ) → d < m → room l 0 d ≤ s → s < t → rows_of n ys d s ≡ least w l 0 d s
  row_right d s h g k =
      ap (λ (zs : List ℕ). rows_of n zs d s) held.filled
      ∙ fill_here cost_bytes n m (cost_at w l) xs t d s h k (omega arith) held.space
      (omega (arith, cost_most w b l n held.each (omega arith) d s (omega arith)))
      ∙ cost_some w l d s g

  alike : (d : ℕ) → d < m → Alike (prices_of cs) w l 0 (rows_of n ys) (least w l 0) d t
  alike d h = record {
    segments = λ s a k. held.priced s (omega arith);
    rows = λ j s a g k. row_right j s (omega arith) g (omega arith);
  }

  -- the sums that column t tries are small ..
  pub sums_right : (d s : ℕ) → suc d < m → room l 0 d ≤ s → s + l ≤ t → rows_of n ys d s + prices_of cs s t < 2 ^ 64
  sums_right d s h g k =
      omega (
        arith,
        row_right d s (omega arith) g (omega arith),
        held.priced s (omega arith),
        least_most w b l 0 n held.each d s g (omega arith),
        held.each s t (omega arith) k held.upto,
        mul-le-mul_left b held.upto,
      )

  -- .. and it comes out as the entries say, in both tables
  pub costs_more :
      (zs : List ℕ) → zs ≡ fill_column cost_bytes n (λ d. cost_from (prices_of cs) l (rows_of n ys) d t) t m ys →
      zs ≡ fill cost_bytes n m (cost_at w l) (t + 1) xs
  costs_more zs = next cost_bytes n m (cost_at w l) _ t xs ys zs (λ d h. cost_from_lem _ w l _ d t (alike d h)) held.filled

  pub starts_more :
      (us vs zs : List ℕ) → vs ≡ fill start_bytes n m (start_at w l) t us →
      zs ≡ fill_column start_bytes n (λ d. start_from (prices_of cs) l (rows_of n ys) d t) t m vs →
      zs ≡ fill start_bytes n m (start_at w l) (t + 1) us
  starts_more us vs zs = next start_bytes n m (start_at w l) _ t us vs zs (λ d h. start_from_lem _ w l _ d t (alike d h))

  -- so the next column finds what this one found
  pub held_more :
      (zs ds : List ℕ) → t < n → zs ≡ fill_column cost_bytes n (λ d. cost_from (prices_of cs) l (rows_of n ys) d t) t m ys → Prices w (t + 1) ds →
      Held w b l n m (t + 1) xs zs ds
  held_more zs ds below e p = record {
    some = held.some;
    each = held.each;
    whole = held.whole;
    space = held.space;
    upto = omega arith;
    filled = costs_more zs e;
    priced = p;
  }
