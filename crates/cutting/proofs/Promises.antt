-- The promises about cuttings, over any segment cost w, any least length l and any run p .. t-1, by the number d of segments.
-- Assumes nothing.
use Prim.Native.Nat.{ℕ, zero, suc, ◌+◌, ◌-◌, ◌*◌, ◌≤◌, ◌<◌}
use mathlib.Core.Path.{◌≡◌, refl, sym, ap, subst, ◌∙◌}
use mathlib.Core.Logic.{◌↔◌}
use mathlib.Core.List.{List, [], ◌∷◌, ◌++◌, reverse-cons}
use native.Mathlib.Nat.{mul-le-mul_left}
use native.Mathlib.Omega.{arith}
use lib.ListN.{length, get_or}
use Rattle.cutting.proofs.Least as Least
use Rattle.cutting.proofs.Order as Order
use Rattle.cutting.specs.Costs.{Agree, mirror, Rounds, Within, Splittable, forced}
use Rattle.cutting.specs.Cutting.{Cutting, cost, Choice, StartsAt, ChoiceAt, LeastOf}
use Rattle.cutting.specs.Recurrence.{room, least, last, walk, chosen, starts, least_in, chosen_in}
use Rattle.cutting.specs.Table.{cost_at, start_at}
use Rattle.cutting.proofs.Bound.{cost_bound}
use Rattle.cutting.proofs.Cuts.{cost_back, cuts_room}
use Rattle.cutting.proofs.Finer.{least_falls}
use Rattle.cutting.proofs.Forced.{StartsBack, to_back, from_back, forced_start, forced_back}
use Rattle.cutting.proofs.Joining.{joined}
use Rattle.cutting.proofs.Least.{least_bound, chosen_cuts, chosen_length, chosen_back}
use Rattle.cutting.proofs.Order.{to_cutting, ByCuts, by_cuts, cost_order, first_only, first_order}
use Rattle.cutting.proofs.Reversal.{mirror_least}
use Rattle.cutting.proofs.Rounding.{cost_rounds}
use Rattle.cutting.proofs.Same.{least_same, last_same, chosen_same}
use Rattle.cutting.proofs.Table.{cost_some, start_some, walk_starts}

-- d segments' observations, by d - 1 cuts
size : (d l : ℕ) → 1 ≤ d → suc (d - 1) * l ≡ d * l
size d l h = ap (◌* l) (omega arith)

-- the cost of a cutting is that of its cuts
cost_cuts : (w : ℕ → ℕ → ℕ) (l p d t : ℕ) (c : List ℕ) (q : ByCuts l p d t c) → cost w t c ≡ cost w t (starts p q.back)
cost_cuts w l p d t c q = ap (cost w t) (sym q.same)

module _ (w : ℕ → ℕ → ℕ) (l p d t : ℕ) where
  -- The least cost is at most the cost of every cutting into D segments ..
  pub least_below : (c : List ℕ) → Cutting l p d t c → least_in w l p d t ≤ cost w t c
  least_below c g =
      let q = by_cuts l p d t c g in
      omega (
        arith,
        least_bound w l p (d - 1) q.back t q.cuts (omega (arith, q.count)),
        cost_order w p q.back t,
        cost_cuts w l p d t c q,
      )

  -- .. and the chosen cutting has it.
  pub chosen_cost : cost w t (chosen_in w l p d t) ≡ least_in w l p d t
  chosen_cost = cost_order w p (chosen w l p (d - 1) t) t ∙ Least.chosen_cost w l p (d - 1) t

  module _ (h : 1 ≤ d) (fits : p + d * l ≤ t) where
    -- the chosen cutting is a cutting into d segments
    pub chosen_cutting : Cutting l p d t (chosen_in w l p d t)
    chosen_cutting =
        let count : suc (length (chosen w l p (d - 1) t)) ≡ d = omega (arith, chosen_length w l p (d - 1) t) in
        rw count at (to_cutting l p (chosen w l p (d - 1) t) t (chosen_cuts w l p (d - 1) t (omega (arith, size d l h))))

    -- The choice among equals is just as the rules say it (last segment earliest, then the one before it, and so on) ..
    pub choice : Choice w l p d t (chosen_in w l p d t)
    choice =
        let segments : suc (d - 1) ≡ d = omega arith in
        first_order w l p (d - 1) t (Cutting l p d t) (λ b. Unit {0}) (λ b g. rw segments g) (λ b g. tt)
        (chosen w l p (d - 1) t) chosen_cutting (chosen_back w l p (d - 1) t)

  -- .. and that rule admits one cutting only.
  pub choice_only : (b c : List ℕ) → Choice w l p d t b → Choice w l p d t c → b ≡ c
  choice_only = first_only (Cutting l p d t) (cost w t)

-- Where no segment is empty, each but the first starts behind the run's first observation, and before its end.
pub starts_inside :
    (l p d t : ℕ) (c : List ℕ) → 1 ≤ l → Cutting l p d t c → (i : ℕ) → 1 ≤ i → i < d → (p < get_or c i 0) × (get_or c i 0 < t)
starts_inside = Order.starts_inside

-- A cutting into d segments exists exactly where there are l observations for each of them.
pub cutting_exists : (l p d t : ℕ) → 1 ≤ d → ((c : List ℕ) × Cutting l p d t c) ↔ (p + d * l ≤ t)
cutting_exists l p d t h = (needs, λ fits. (chosen_in (λ s r. 0) l p d t, chosen_cutting (λ s r. 0) l p d t h fits))
  where
    needs : (c : List ℕ) × Cutting l p d t c → p + d * l ≤ t
    needs g =
        let q = by_cuts l p d t g.0 g.1 in
        subst (λ (k : ℕ). p + k * l ≤ t) q.count (cuts_room l p q.back t q.cuts)

-- "the cutting of the first s observations in D-1 segments is itself read by the same rule with a smaller count": the
-- chosen cutting into one segment more is that of what lies before its last start, and that start.
pub chosen_one : (w : ℕ → ℕ → ℕ) (l p t : ℕ) → chosen_in w l p 1 t ≡ p ∷ []
unfolding walk
chosen_one w l p t = refl

starts_more :
    (w : ℕ → ℕ → ℕ) (l p k t : ℕ) →
    starts p (chosen w l p (suc k) t) ≡ starts p (chosen w l p k (last w l p (suc k) t)) ++ (last w l p (suc k) t ∷ [])
unfolding walk
starts_more w l p k t =
    ap (λ (c : List ℕ). p ∷ c) (reverse-cons (last w l p (suc k) t) (chosen w l p k (last w l p (suc k) t)))

-- so the last of the starts is the one that the recurrence gives
last_start :
    (w : ℕ → ℕ → ℕ) (l p k t : ℕ) → (b : List ℕ) × (starts p (chosen w l p k t) ≡ b ++ (last w l p k t ∷ []))
unfolding walk last
last_start w l p zero t = ([], refl)
last_start w l p (suc k) t = (starts p (chosen w l p k (last w l p (suc k) t)), starts_more w l p k t)

pub chosen_more :
    (w : ℕ → ℕ → ℕ) (l p d t : ℕ) → 1 ≤ d →
    chosen_in w l p (d + 1) t ≡ chosen_in w l p d (last w l p d t) ++ (last w l p d t ∷ [])
chosen_more w l p d t h =
    let cuts : d + 1 - 1 ≡ d = omega arith in
    let one_more : suc (d - 1) ≡ d = omega arith in
    rw cuts
    (subst
    (λ (j : ℕ). starts p (chosen w l p j t) ≡ starts p (chosen w l p (d - 1) (last w l p j t)) ++ (last w l p j t ∷ []))
    one_more
    (starts_more w l p (d - 1) t))

-- The tables: row k has the least costs of k + 1 segments and the start of the chosen cutting's last one, and reading
-- the starts back gives the chosen cutting.
pub cost_entry_lem : (w : ℕ → ℕ → ℕ) (l k t : ℕ) → (k + 1) * l ≤ t → cost_at w l k t ≡ least_in w l 0 (k + 1) t
cost_entry_lem w l k t h =
    let cuts : k + 1 - 1 ≡ k = omega arith in
    rw cuts (cost_some w l k t (omega arith))

pub start_entry_lem :
    (w : ℕ → ℕ → ℕ) (l k t : ℕ) → (k + 1) * l ≤ t →
    (b : List ℕ) × (chosen_in w l 0 (k + 1) t ≡ b ++ (start_at w l k t ∷ []))
start_entry_lem w l k t h =
    let cuts : k + 1 - 1 ≡ k = omega arith in
    let q = last_start w l 0 k t in
    (q.0, rw (cuts, start_some w l k t (omega arith)) q.1)

pub reading : (w : ℕ → ℕ → ℕ) (l d t : ℕ) → 1 ≤ d → d * l ≤ t → starts 0 (walk (start_at w l) (d - 1) t) ≡ chosen_in w l 0 d t
reading w l d t h fits = ap (starts 0) (walk_starts w l (d - 1) t (omega (arith, size d l h)))

-- Joining: of a segments before a place and b after it, the place that makes the sum of the two least costs least
-- gives the least cost of a + b.
pub joining :
    (w : ℕ → ℕ → ℕ) (l p a b t : ℕ) → 1 ≤ a → 1 ≤ b → p + (a + b) * l ≤ t →
    LeastOf (λ s. least_in w l p a s + least_in w l s b t) (λ s. (p + a * l ≤ s) × (s + b * l ≤ t)) (least_in w l p (a + b) t)
joining w l p a b t ha hb fits =
    let same : least w l p (suc (a - 1 + (b - 1))) t ≡ least_in w l p (a + b) t = ap (λ (k : ℕ). least w l p k t) (omega arith) in
    let q = joined w l p (a - 1) (b - 1) t (omega (arith, size a l ha, size b l hb)) in
    record {
      below = λ s g. omega (arith, q.below s (omega (arith, size a l ha), omega (arith, size b l hb)));
      where_at = q.where_at;
      there = (omega (arith, q.there, size a l ha), omega (arith, q.there, size b l hb));
      attained = omega (arith, q.attained);
    }

-- Reversal: the mirror image of n observations has the same least costs, part by part: that of p .. t-1 is n-t .. n-p-1.
pub reversal :
    (w : ℕ → ℕ → ℕ) (l p d t n : ℕ) → 1 ≤ d → p + d * l ≤ t → t ≤ n →
    least_in (mirror w n) l (n - t) d (n - p) ≡ least_in w l p d t
reversal w l p d t n h fits m = mirror_least w l p n (d - 1) t (omega (arith, size d l h)) m

-- Equal costs give equal results: least costs, last starts and chosen cuttings.
module _ (v w : ℕ → ℕ → ℕ) (l p d t n : ℕ) (same : Agree v w l p n) (h : 1 ≤ d) (fits : p + d * l ≤ t) (m : t ≤ n) where
  pub same_least : least_in v l p d t ≡ least_in w l p d t
  same_least = least_same v w l p n same (d - 1) t (omega (arith, size d l h)) m

  pub same_last : last v l p (d - 1) t ≡ last w l p (d - 1) t
  same_last = last_same v w l p n same (d - 1) t (omega (arith, size d l h)) m

  pub same_chosen : chosen_in v l p d t ≡ chosen_in w l p d t
  same_chosen = ap (starts p) (chosen_same v w l p n same (d - 1) t (omega (arith, size d l h)) m)

-- A cost rounded down by segment is off the truth by less than one unit a segment ..
module _ (v w : ℕ → ℕ → ℕ) (u m l p n : ℕ) (r : Rounds v w u m l p n) where
  pub rounding :
      (d t : ℕ) (c : List ℕ) → Cutting l p d t c → t ≤ n →
      (m * cost w t c ≤ u * cost v t c) × (u * cost v t c < m * (cost w t c + d))
  rounding d t c g b =
      let q = by_cuts l p d t c g in
      omega (
        arith,
        ap (λ (x : ℕ). m * x) (cost_cuts w l p d t c q ∙ cost_order w p q.back t),
        ap (λ (x : ℕ). u * x) (cost_cuts v l p d t c q ∙ cost_order v p q.back t),
        ap (λ (x : ℕ). m * x) q.count,
        cost_rounds v w u m l p n r q.back t q.cuts b,
      )

  -- .. so the chosen cutting's true cost exceeds any other's in D segments by less than D units.
  pub near :
      (d t : ℕ) → 1 ≤ d → p + d * l ≤ t → t ≤ n → (c : List ℕ) → Cutting l p d t c →
      u * cost v t (chosen_in w l p d t) < u * cost v t c + d * m
  near d t h fits b c g =
      let top = (rounding d t (chosen_in w l p d t) (chosen_cutting w l p d t h fits) b).1 in
      let low = (rounding d t c g b).0 in
      omega (arith, ap (λ (x : ℕ). m * x) (chosen_cost w l p d t), mul-le-mul_left m (least_below w l p d t c g))

-- A cost that is at most b for each observation bounds every cutting's, and so every least cost.
module _ (w : ℕ → ℕ → ℕ) (b l p n : ℕ) (most : Within w b l p n) where
  pub cost_within : (d t : ℕ) (c : List ℕ) → Cutting l p d t c → t ≤ n → cost w t c + b * p ≤ b * t
  cost_within d t c g m =
      let q = by_cuts l p d t c g in
      omega (arith, cost_cuts w l p d t c q, cost_order w p q.back t, cost_bound w b l p n most q.back t q.cuts m)

  pub least_within : (d t : ℕ) → 1 ≤ d → p + d * l ≤ t → t ≤ n → least_in w l p d t + b * p ≤ b * t
  least_within d t h fits m =
      omega (arith, chosen_cost w l p d t, cost_within d t (chosen_in w l p d t) (chosen_cutting w l p d t h fits) m)

-- One segment more never costs more, where splitting a segment never does and segments may have any length.
pub falling :
    (w : ℕ → ℕ → ℕ) (p n : ℕ) → Splittable w p n → (d t : ℕ) → 1 ≤ d → p + d < t → t ≤ n → least_in w 1 p (d + 1) t ≤ least_in w 1 p d t
falling w p n e d t h fits m =
    let cuts : suc (d - 1) ≡ d + 1 - 1 = omega arith in
    rw (← cuts) (least_falls w p n e (d - 1) t (omega arith) m)

-- Of the cuttings that have a start at i, if one costs less than big, the rule's choice is the chosen cutting of the
-- cost that forces i.
pub forcing :
    (w : ℕ → ℕ → ℕ) (big i l p d t : ℕ) → 1 ≤ l → p ≤ i → (b : List ℕ) → Cutting l p d t b → StartsAt i b → cost w t b < big →
    ChoiceAt i w l p d t (chosen_in (forced w big i) l p d t)
forcing w big i l p d t one a b g f m =
    let q = by_cuts l p d t b g in
    let back : List ℕ = chosen (forced w big i) l p (d - 1) t in
    let some : 1 ≤ d = omega (arith, q.count) in
    let count : length q.back ≡ d - 1 = omega (arith, q.count) in
    let segments : suc (d - 1) ≡ d = omega arith in
    let fits : p + d * l ≤ t = (cutting_exists l p d t some).0 (b, g) in
    let space : room l p (d - 1) ≤ t = omega (arith, size d l some) in
    let at : StartsBack i p q.back = to_back i p q.back (subst (StartsAt i) (sym q.same) f) in
    let cheap : cost_back w p t q.back < big = omega (arith, cost_cuts w l p d t b q, cost_order w p q.back t) in
    first_order w l p (d - 1) t (λ c. Cutting l p d t c × StartsAt i c) (StartsBack i p) (λ c x. rw segments x.0)
    (λ c x. to_back i p c x.1) back (
      chosen_cutting (forced w big i) l p d t some fits,
      from_back i p back (forced_start w big i l p one (d - 1) t space a q.back q.cuts count at cheap),
    )
    (forced_back w big i l p one (d - 1) t space a q.back q.cuts count at cheap)
