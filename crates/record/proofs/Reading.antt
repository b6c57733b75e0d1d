-- The levels of all channels, read one channel behind the other: what a channel's levels leave of those before it. Assumes nothing.
use Prim.Native.Nat.{ℕ, ◌+◌, ◌-◌, ◌*◌, ◌≤◌, ◌<◌}
use mathlib.Core.Path.{◌≡◌, sym, ap, ◌∙◌}
use mathlib.Core.List.{List, ◌++◌}
use native.Mathlib.Decide.{dec_lt}
use native.Mathlib.Nat.{mul-le-mul_left}
use native.Mathlib.Omega.{arith}
use lib.ListN.{length, get_or, take, drop, get_or-append, length-take, length-drop}
use lib.Seq.{get_or-take}
use Rattle.std.proofs.lemmas.List.{get_or-append_right}
use borrow.Rule.Slice.PartMut.{put_mid, post_of, same_len_mid}
use Rattle.sample.specs.Level.{largest_level}
use Rattle.sample.specs.Code.{level_of}
use Rattle.record.specs.declared.channels.Channels.{Channels}
use Rattle.record.specs.Body.{judged_at, level_number, LevelsRead}
use Rattle.record.proofs.Samples.{level_at_small}

-- ---- a list with ys in the place of its elements from the p-th on
module _ (p k : ℕ) (xs ys : List ℕ) (long : length ys ≡ k) (room : p + k ≤ length xs) where
  front : length (take p xs) ≡ p
  front = omega (arith, length-take p xs)

  pub put_before : (j : ℕ) → j < p → get_or (put_mid p k xs ys) j 0 ≡ get_or xs j 0
  put_before j h = get_or-append (take p xs) _ 0 j (omega (arith, front)) ∙ get_or-take p xs j 0 h

  pub put_there : (j : ℕ) → j < k → get_or (put_mid p k xs ys) (p + j) 0 ≡ get_or ys j 0
  put_there j h =
      let e : p + j - p ≡ j = omega arith in
      get_or-append_right (take p xs) _ p (p + j) 0 front (omega arith)
      ∙ ap (λ (i : ℕ). get_or (ys ++ post_of p k xs) i 0) e
      ∙ get_or-append ys (post_of p k xs) 0 j (omega arith)

  pub put_length : length (put_mid p k xs ys) ≡ length xs
  put_length = same_len_mid p k xs ys (omega (arith, length-take k (drop p xs), length-drop p xs))

-- ---- with a channel more
module _ (ch : Channels) (body : List ℕ) (n c : ℕ) (out ys : List ℕ) (k : ℕ) (few : k ≡ n) (long : length ys ≡ n) (room : n * c + n ≤ length out) where
  pub channel_read :
      LevelsRead ch body n c out → ((i : ℕ) → i < n → get_or ys i 0 ≡ level_number (level_of (judged_at ch body i c))) →
      LevelsRead ch body n (c + 1) (put_mid (n * c) k out ys)
  channel_read before here i d a b =
      let room_k : n * c + k ≤ length out = omega arith in
      elim (dec_lt d c) [
        | yes g ↦
            let below : n * d + i < n * c = omega (arith, mul-le-mul_left n g) in
            put_before (n * c) k out ys (long ∙ omega arith) room_k (n * d + i) below ∙ before i d a g
        | no g ↦
            let e : d ≡ c = omega arith in
            rw e (put_there (n * c) k out ys (long ∙ omega arith) room_k i (omega arith) ∙ here i a)
      ]

  pub channel_length : length (put_mid (n * c) k out ys) ≡ length out
  channel_length = put_length (n * c) k out ys (long ∙ omega arith) (omega arith)

  pub channel_small :
      ((j : ℕ) → j < n * c → get_or out j 0 ≤ largest_level) → ((i : ℕ) → i < n → get_or ys i 0 ≡ level_number (level_of (judged_at ch body i c))) →
      (j : ℕ) → j < n * (c + 1) → get_or (put_mid (n * c) k out ys) j 0 ≤ largest_level
  channel_small before here j b =
      let room_k : n * c + k ≤ length out = omega arith in
      elim (dec_lt j (n * c)) [
        | yes g ↦ omega (arith, put_before (n * c) k out ys (long ∙ omega arith) room_k j g, before j g)
        | no g ↦
            let i : ℕ = j - n * c in
            let e : n * c + i ≡ j = omega arith in
            let there : get_or (put_mid (n * c) k out ys) j 0 ≡ get_or ys i 0 =
            ap (λ (q : ℕ). get_or (put_mid (n * c) k out ys) q 0) (sym e) ∙ put_there (n * c) k out ys (long ∙ omega arith) room_k i (omega arith) in
            omega (arith, there, here i (omega arith), level_at_small ch body i c)
      ]
