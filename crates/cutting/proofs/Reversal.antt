-- A run and its mirror image have the same least costs.
-- Assumes nothing.
use Prim.Native.Nat.{ℕ, ◌-◌, ◌≤◌}
use mathlib.Core.Path.{◌≡◌, refl, ap₂}
use mathlib.Core.List.{List, [], ◌∷◌, ◌++◌}
use native.Mathlib.Omega.{arith}
use lib.ListN.{length, length-append}
use Rattle.cutting.specs.Costs.{mirror}
use Rattle.cutting.specs.Recurrence.{room, least, chosen}
use Rattle.cutting.proofs.Cuts.{Cuts, cost_back, cuts_join, cost_join}
use Rattle.cutting.proofs.Least.{least_bound, chosen_cuts, chosen_length, chosen_cost}
use Rattle.cutting.proofs.Same.{least_same}

-- a cutting's mirror image
mirrored : ℕ → List ℕ → List ℕ
mirrored n [] = []
mirrored n (s ∷ c) = mirrored n c ++ ((n - s) ∷ [])

mirrored_length : (n : ℕ) (c : List ℕ) → length (mirrored n c) ≡ length c
unfolding mirrored
mirrored_length n [] = refl
mirrored_length n (s ∷ c) = omega (arith, length-append (mirrored n c) ((n - s) ∷ []), mirrored_length n c)

mirrored_cuts : (l p n : ℕ) (c : List ℕ) (t : ℕ) → Cuts l p t c → t ≤ n → Cuts l (n - t) (n - p) (mirrored n c)
unfolding mirrored
mirrored_cuts l p n [] t h m = omega arith
mirrored_cuts l p n (s ∷ c) t h m =
    cuts_join l (n - t) (n - s) [] (mirrored n c) (n - p) (omega arith) (mirrored_cuts l p n c s h.1 (omega arith))

mirrored_cost :
    (w : ℕ → ℕ → ℕ) (l p n : ℕ) (c : List ℕ) (t : ℕ) → Cuts l p t c → t ≤ n →
    cost_back (mirror w n) (n - t) (n - p) (mirrored n c) ≡ cost_back w p t c
unfolding mirrored
mirrored_cost w l p n [] t h m = ap₂ w (omega arith) (omega arith)
mirrored_cost w l p n (s ∷ c) t h m =
    let here : w (n - (n - s)) (n - (n - t)) ≡ w s t = ap₂ w (omega arith) (omega arith) in
    omega (
      arith,
      cost_join (mirror w n) (n - t) (n - s) [] (mirrored n c) (n - p),
      mirrored_cost w l p n c s h.1 (omega arith),
    )

half : (w : ℕ → ℕ → ℕ) (l p n k t : ℕ) → room l p k ≤ t → t ≤ n → least (mirror w n) l (n - t) k (n - p) ≤ least w l p k t
half w l p n k t h m =
    let c : List ℕ = chosen w l p k t in
    let d : List ℕ = mirrored n c in
    omega (
      arith,
      least_bound (mirror w n) l (n - t) k d (n - p) (mirrored_cuts l p n c t (chosen_cuts w l p k t h) m)
          (omega (arith, mirrored_length n c, chosen_length w l p k t)),
      mirrored_cost w l p n c t (chosen_cuts w l p k t h) m,
      chosen_cost w l p k t,
    )

-- of any part of the run
pub mirror_least :
    (w : ℕ → ℕ → ℕ) (l p n k t : ℕ) → room l p k ≤ t → t ≤ n → least (mirror w n) l (n - t) k (n - p) ≡ least w l p k t
mirror_least w l p n k t h m =
    let back_p : n - (n - p) ≡ p = omega arith in
    let back_t : n - (n - t) ≡ t = omega arith in
    let twice : least (mirror (mirror w n) n) l p k t ≡ least w l p k t =
    least_same (mirror (mirror w n) n) w l p n (λ s r a b c. ap₂ w (omega arith) (omega arith)) k t h m
    in
    omega (
      arith,
      half w l p n k t h m,
      rw (back_p, back_t) at (half (mirror w n) l (n - t) n k (n - p) (omega arith) (omega arith)),
    )
