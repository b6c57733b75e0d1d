-- The levels of days, one channel behind the other: what stands where, and how the tails grow channel by channel. Assumes nothing.
use Prim.Native.Nat.{ℕ, ◌+◌, ◌-◌, ◌*◌, ◌^◌, ◌≤◌, ◌<◌}
use native.Mathlib.Nat.{mul-le-mul_left}
use native.Mathlib.Decide.{dec_lt}
use native.Mathlib.Numerals.{add-one}
use native.Mathlib.Omega.{arith}
use mathlib.Core.Path.{◌≡◌, sym, ap, ap₂, ◌∙◌}
use mathlib.Core.List.{List, []}
use lib.ListN.{length, get_or, set, take, drop, length-take}
use lib.Seq.{take-length, get_or-drop, get_or-take}
use lib.IntN.{pos}
use Rattle.std.proofs.lemmas.Grind.{get_or-set_at}
use Rattle.std.proofs.lemmas.List.{get_or-set_other}
use Rattle.lists.specs.Lists.{All}
use Rattle.lists.proofs.Values.{values_length, values_at, all_values}
use Rattle.sample.specs.Level.{level}
use Rattle.kernel.specs.declared.Kernel.{Kernel}
use Rattle.kernel.specs.Kernel.{far, dist}
use Rattle.kernel.specs.Channels.{summed, level_dists, kernel_at}
use Rattle.kernel.proofs.Channels.{summed_more, levels_most}
use Rattle.recurrence.specs.Weight.{day_in, days_in, tail, Tails, most_pair, most_tail, tail_cost, Observed}
use Rattle.recurrence.proofs.Weight.{LowIn, tail_none, tail_more, tail_small, tail_costs}

module _ {ks : List Kernel} {u : List ℕ} {n : ℕ} (o : Observed ks u n) where
  abbrev us : List (List ℕ)
  us = days_in n (length ks) u

  pub days_length : length us ≡ n
  days_length = values_length (day_in n (length ks) u) n

  -- ---- what stands where
  pub part_room : (c : ℕ) → c < length ks → n * c + n ≤ length u
  part_room c b = omega (arith, o.long, mul-le-mul_left n b)

  pub level_in : (i c : ℕ) → i < n → c < length ks → get_or (get_or us i []) c (level (pos 0)) ≡ get_or u (n * c + i) 0
  level_in i c a b =
      ap (λ (x : List ℕ). get_or x c (level (pos 0))) (values_at (day_in n (length ks) u) n i [] a)
      ∙ values_at (λ c. get_or u (n * c + i) 0) (length ks) c (level (pos 0)) b

  pub low_at : (i : ℕ) → i < n → LowIn ks (get_or us i [])
  low_at i a c b = omega (arith, level_in i c a b, o.small (n * c + i) (omega (arith, part_room c b)))

  low_all : All (LowIn ks) us
  low_all =
      all_values (LowIn ks) (day_in n (length ks) u) n
      (λ i a c b.
      omega (
        arith,
        values_at (λ c. get_or u (n * c + i) 0) (length ks) c (level (pos 0)) b,
        o.small (n * c + i) (omega (arith, part_room c b)),
      ))

  -- one channel's levels
  module _ (c p : ℕ) (b : c < length ks) (e : p ≡ n * c) where
    pub part_at : (i : ℕ) → i < n → get_or (take (p + n - p) (drop p u)) i 0 ≡ get_or u (n * c + i) 0
    part_at i a =
        get_or-take (p + n - p) (drop p u) i 0 (omega arith)
        ∙ get_or-drop p u i 0
        ∙ ap (λ (q : ℕ). get_or u (q + i) 0) e

  -- ---- tails, channel by channel
  -- what the days s and t add in the first c channels
  abbrev added : (s t c : ℕ) → ℕ
  added s t c = summed far (level (pos 0)) (take c ks) (get_or us s []) (get_or us t [])

  added_all : (s t : ℕ) → added s t (length ks) ≡ level_dists ks (get_or us s []) (get_or us t [])
  added_all s t = ap (λ (l : List Kernel). summed far (level (pos 0)) l (get_or us s []) (get_or us t [])) (take-length ks)

  added_more : (s t c : ℕ) → s < n → t < n → c < length ks →
      added s t (c + 1) ≡ added s t c + dist (kernel_at ks c) (far (get_or u (n * c + s) 0) (get_or u (n * c + t) 0))
  added_more s t c a b h =
      rw add-one
      (summed_more far (level (pos 0)) ks (get_or us s []) (get_or us t []) c h
      ∙ ap (λ (d : ℕ). added s t c + d) (ap (dist (kernel_at ks c)) (ap₂ far (level_in s c a h) (level_in t c b h))))

  -- What the loop over the channels keeps: the tails of the first t days have observation t in the first c channels.
  pub record Growing (t c : ℕ) (a₀ a : List ℕ) : Type 0 where
    pub long : length a ≡ length a₀
    pub grown : (s : ℕ) → s < t → get_or a s 0 ≡ tail ks us s t + added s t c

  module _ (t c : ℕ) (a₀ a : List ℕ) (g : Growing t c a₀ a) (here : t < n) where
    added_small : (s : ℕ) → s < n → added s t c ≤ most_pair
    added_small s b =
        let few : length (take c ks) ≤ length ks = omega (arith, length-take c ks) in
        let low = λ (i : ℕ) (j : i < n). λ (d : ℕ) (h : d < length (take c ks)). low_at i j d (omega arith) in
        omega (arith, levels_most (take c ks) (get_or us s []) (get_or us t []) (low s b) (low t here), o.few_channels)

    pub growing_room : (s : ℕ) → s < t → get_or a s 0 ≤ most_tail
    growing_room s b =
        omega (
          arith,
          g.grown s b,
          added_small s (omega arith),
          tail_small ks o.few_channels us low_all s t (low_at s (omega arith)) b (omega (arith, days_length)),
          o.few_days,
        )

    -- a channel more
    module _ (h : c < length ks) (v b : List ℕ) (k : Kernel) (kernel : k ≡ kernel_at ks c) (part : (i : ℕ) → i < n → get_or v i 0 ≡ get_or u (n * c + i) 0)
        (long : length b ≡ length a) (joined : (s : ℕ) → s < t → get_or b s 0 ≡ get_or a s 0 + dist k (far (get_or v s 0) (get_or v t 0))) where
      pub growing_more : Growing t (c + 1) a₀ b
      growing_more = record {
        long = long ∙ g.long;
        grown = λ s l.
            let more = added_more s t c (omega arith) here h in
            let same = ap₂ (λ (k : Kernel) (d : ℕ). dist k d) kernel (ap₂ far (part s (omega arith)) (part t here)) in
            omega (arith, joined s l, g.grown s l, more, same);
      }

    pub growing_done : c ≡ length ks → t < length a₀ → Tails ks us (t + 1) (set a t 0)
    growing_done e room s l =
        elim (dec_lt s t) [
          | yes b ↦
              get_or-set_other a t s 0 0 (λ q. omega arith)
              ∙ g.grown s b
              ∙ ap (λ (d : ℕ). tail ks us s t + d) (ap (added s t) e ∙ added_all s t)
              ∙ sym (tail_more ks o.few_channels us s t b (omega (arith, days_length)))
          | no b ↦
              let q : s ≡ t = omega arith in
              get_or-set_at a t s 0 0 q (omega (arith, g.long)) ∙ sym (tail_none ks o.few_channels us s) ∙ ap (λ (x : ℕ). tail ks us s (x + 1)) q
        ]

  -- ---- the tails of the first t days, and the costs that they come to
  module _ (t : ℕ) (a : List ℕ) (upto : t ≤ n) where
    pub tails_fit : Tails ks us t a → (s : ℕ) → s < t → get_or a s 0 ≤ most_tail
    tails_fit h s b =
        omega (
          arith,
          h s b,
          tail_small ks o.few_channels us low_all s t (low_at s (omega arith)) b (omega (arith, days_length)),
          o.few_days,
        )

    pub costs_fit : t ≤ length a → Tails ks us t a → (s : ℕ) → s < t → tail_cost a s t < 2 ^ 63
    costs_fit room h s b =
        let same = tail_costs a t room ks us (omega (arith, days_length)) h s (omega arith) in
        omega (arith, same, o.cheap s t (omega arith) (omega arith) upto, o.few_days)
