-- Joining: the least cost of a run is the least, over the places where it can be parted, of the sum of the two parts'
-- least costs.
-- Assumes nothing.
use Prim.Native.Nat.{ℕ, zero, suc, ◌+◌, ◌≤◌, ◌<◌}
use mathlib.Core.Path.{◌≡◌, refl, ap, subst}
use mathlib.Core.List.{List, [], ◌∷◌, ◌++◌}
use native.Mathlib.Omega.{arith}
use lib.ListN.{length, length-append}
use Rattle.cutting.specs.Cutting.{LeastOf}
use Rattle.cutting.specs.Recurrence.{room, least, chosen}
use Rattle.cutting.proofs.Cuts.{Cuts, cost_back, cuts_room, cuts_join, cost_join}
use Rattle.cutting.proofs.Least.{least_bound, chosen_cuts, chosen_length, chosen_cost}

-- a cutting, parted at the cut that has b cuts after it
record Parted (l p t : ℕ) (c : List ℕ) (b : ℕ) : Type 0 where
  place : ℕ
  before : List ℕ
  after : List ℕ
  whole : c ≡ after ++ (place ∷ before)
  cuts_before : Cuts l p place before
  cuts_after : Cuts l place t after
  count_after : length after ≡ b

part : (l p b : ℕ) (c : List ℕ) (t : ℕ) → Cuts l p t c → b < length c → Parted l p t c b
part l p zero [] t h m = absurd (omega arith)
part l p (suc b) [] t h m = absurd (omega arith)
part l p zero (s ∷ c) t h m = record {
  place = s;
  before = c;
  after = [];
  whole = refl;
  cuts_before = h.1;
  cuts_after = h.0;
  count_after = refl;
}
part l p (suc b) (s ∷ c) t h m =
    let q : Parted l p s c b = part l p b c s h.1 (omega arith) in
    record {
      place = q.place;
      before = q.before;
      after = s ∷ q.after;
      whole = ap (λ (d : List ℕ). s ∷ d) q.whole;
      cuts_before = q.cuts_before;
      cuts_after = (h.0, q.cuts_after);
      count_after = ap suc q.count_after;
    }

module _ (w : ℕ → ℕ → ℕ) (l p a b t : ℕ) where
  joined_below : (s : ℕ) → room l p a ≤ s → room l s b ≤ t → least w l p (suc (a + b)) t ≤ least w l p a s + least w l s b t
  joined_below s h k =
      let c : List ℕ = chosen w l p a s in
      let d : List ℕ = chosen w l s b t in
      omega (
        arith,
        least_bound w l p (suc (a + b)) (d ++ (s ∷ c)) t (cuts_join l p s c d t (chosen_cuts w l p a s h) (chosen_cuts w l s b t k))
            (omega (arith, length-append d (s ∷ c), chosen_length w l p a s, chosen_length w l s b t)),
        cost_join w p s c d t,
        chosen_cost w l p a s,
        chosen_cost w l s b t,
      )

  pub joined :
      room l p (suc (a + b)) ≤ t →
      LeastOf (λ s. least w l p a s + least w l s b t) (λ s. (room l p a ≤ s) × (room l s b ≤ t)) (least w l p (suc (a + b)) t)
  joined h =
      let c : List ℕ = chosen w l p (suc (a + b)) t in
      let count : length c ≡ suc (a + b) = chosen_length w l p (suc (a + b)) t in
      let q : Parted l p t c b = part l p b c t (chosen_cuts w l p (suc (a + b)) t h) (omega arith) in
      let count_before : length q.before ≡ a =
      omega (arith, q.count_after, ap length q.whole, length-append q.after (q.place ∷ q.before))
      in
      let before : room l p a ≤ q.place =
      subst (λ (j : ℕ). room l p j ≤ q.place) count_before (cuts_room l p q.before q.place q.cuts_before)
      in
      let after : room l q.place b ≤ t =
      subst (λ (j : ℕ). room l q.place j ≤ t) q.count_after (cuts_room l q.place q.after t q.cuts_after)
      in
      record {
        below = λ s g. joined_below s g.0 g.1;
        where_at = q.place;
        there = (before, after);
        attained = omega (
          arith,
          joined_below q.place before after,
          least_bound w l p a q.before q.place q.cuts_before count_before,
          least_bound w l q.place b q.after t q.cuts_after q.count_after,
          cost_join w p q.place q.before q.after t,
          ap (cost_back w p t) q.whole,
          chosen_cost w l p (suc (a + b)) t,
        );
      }
