-- Reading cuts off a table of the chosen last starts gives the chosen cutting. Assumes nothing.
use Rattle.std.specs.Prelude.{Some, None}
use Prim.Native.Nat.{ℕ, zero, suc, ◌+◌, ◌-◌, ◌*◌, ◌≤◌, ◌<◌}
use mathlib.Core.Path.{◌≡◌, refl, sym, ap, ◌∙◌}
use mathlib.Core.List.{List, [], ◌∷◌, ◌++◌, append_assoc, reverse-cons}
use native.Mathlib.Nat.{mul-le-mul_right, zero-add}
use native.Mathlib.Omega.{arith}
use lib.ListN.{length, get_or, set, replicate, length-reverse}
use lib.Seq.{set_at}
use Rattle.table.specs.Fill.{entry, fill}
use Rattle.table.specs.Kept.{KeptBeyond}
use Rattle.table.proofs.Promises.{row_entry, kept_beyond}
use Rattle.cutting.specs.Limits.{most_segments, least_length, start_bytes}
use Rattle.cutting.specs.Cutting.{InOrder}
use Rattle.cutting.specs.Recurrence.{room, last, walk, chosen, starts, chosen_in}
use Rattle.cutting.proofs.Least.{last_room, chosen_length}
use Rattle.cutting.proofs.Promises.{chosen_cutting}
use Rattle.kernel.specs.declared.Kernel.{Kernel}
use Rattle.kernel.specs.Kernel.{named_of, number_of}
use Rattle.kernel.proofs.Number.{known}
use Rattle.recurrence.specs.Tables.{start_table}
use Rattle.recurrence.proofs.Tables.{start_is}
use Rattle.reply.specs.declared.Reply.{Reply}
use Rattle.reply.specs.Reply.{done}
use Rattle.reply.specs.Tries.{first_of}
use Rattle.reply.proofs.First.{if_done_lem}
use Rattle.reply.proofs.Exactly.{code_of, clear_done}
use Rattle.record.specs.Accepted.{Fit, Numbered}
use Rattle.walk.specs.declared.Answer.{Answer}
use Rattle.walk.specs.Walk.{start_in, Walks, zeros, met}
use Rattle.walk.specs.Answer.{seeking, answer_bytes, cuts_tries, cuts_reply, answer_of, row_of, out_left}
use Rattle.walk.specs.Accepted.{CutsAccepted}
use Rattle.walk.proofs.Answers.{clear_accepted, answer_reply}

-- ---- the starts of a cutting, and zeros after them, are no larger than its end
zeros_at : (j i : ℕ) → ◌≡◌ {A = ℕ} (get_or (replicate j 0) i 0) 0
zeros_at zero i = refl
zeros_at (suc j) zero = refl
zeros_at (suc j) (suc i) = zeros_at j i

padded_below : (c : List ℕ) (t j i : ℕ) → InOrder least_length t c → get_or (c ++ replicate j 0) i 0 ≤ t
padded_below [] t j i h = omega (arith, zeros_at j i)
padded_below (s ∷ []) t j zero h = omega arith
padded_below (s ∷ []) t j (suc i) h = omega (arith, zeros_at j i)
padded_below (s ∷ (r ∷ c)) t j zero h = omega (arith, padded_below (r ∷ c) t j zero h.1)
padded_below (s ∷ (r ∷ c)) t j (suc i) h = padded_below (r ∷ c) t j i h.1

-- ---- `at` holds the last starts of w in the rows below m, up to the column n
module _ (w : ℕ → ℕ → ℕ) (m n : ℕ) (at : ℕ → ℕ → ℕ)
    (holds : (k t : ℕ) → k < m → room least_length 0 k ≤ t → t ≤ n → at k t ≡ last w least_length 0 k t) where
  walks_through : (k t : ℕ) → k < m → room least_length 0 k ≤ t → t ≤ n → Walks at k t
  unfolding last
  walks_through zero t row fits upto = holds 0 t row fits upto
  walks_through (suc k) t row fits upto =
      let s = last w least_length 0 (suc k) t in
      let e : at (suc k) t ≡ s = holds (suc k) t row fits upto in
      let r = last_room w least_length 0 k t fits in
      rw e (omega arith, (omega arith, walks_through k s (omega arith) r.0 (omega arith)))

  met_chosen : (k t : ℕ) → k < m → m ≤ most_segments → room least_length 0 k ≤ t → t ≤ n →
      met at k t ≡ starts 0 (chosen w least_length 0 k t) ++ replicate (11 - k) 0
  unfolding met walk
  met_chosen zero t row few fits upto = refl
  met_chosen (suc k) t row few fits upto =
      let s = last w least_length 0 (suc k) t in
      let r = last_room w least_length 0 k t fits in
      let before : List ℕ = starts 0 (chosen w least_length 0 k s) in
      let one : 11 - k ≡ suc (11 - suc k) = omega arith in
      let long : length before ≡ suc k = omega (arith, length-reverse (chosen w least_length 0 k s), chosen_length w least_length 0 k s) in
      rw (holds (suc k) t row fits upto)
      (ap (λ (l : List ℕ). set l (suc k) s) (met_chosen k s (omega arith) few r.0 (omega arith) ∙ ap (λ (j : ℕ). before ++ replicate j 0) one)
      ∙ set_at before 0 (replicate (11 - suc k) 0) s (suc k) long
      ∙ sym (
      ap (λ (c : List ℕ). (0 ∷ c) ++ replicate (11 - suc k) 0) (reverse-cons s (chosen w least_length 0 k s))
      ∙ append_assoc before (s ∷ []) (replicate (11 - suc k) 0)
      ))

-- ---- the table for up to dmax segments of n observations, read for D of them
module _ (w : ℕ → ℕ → ℕ) (n dmax : ℕ) (ys : List ℕ) (space : start_bytes * (dmax * (n + 1)) ≤ length ys) (small : dmax ≤ most_segments)
    (D kernel : ℕ) (fit : Fit n D) (numbered : Numbered kernel) (asked : D ≤ dmax) where
  abbrev table : List ℕ
  table = start_table w n dmax ys

  holds : (k t : ℕ) → k < dmax → room least_length 0 k ≤ t → t ≤ n → start_in table n k t ≡ last w least_length 0 k t
  holds k t row fits upto =
      let back : suc k - 1 ≡ k = omega arith in
      rw back at (start_is w n dmax fit.count.few_days (suc k) t (omega arith) row upto ys space (rw back fits))

  read_accepted : (lent : ℕ) → answer_bytes ≤ lent → CutsAccepted (seeking n D kernel) table lent
  read_accepted lent h =
      let s = fit.segments in
      let kept = (kept_beyond start_bytes _ _ _ ys table refl).same_length in
      record {
        fit = fit;
        kernel = numbered;
        table_room = omega (arith, kept, mul-le-mul_right (n + 1) asked);
        answer_room = h;
        walk = walks_through w dmax n (start_in table n) holds (D - 1) n (omega (arith, s.some_segments)) (omega (arith, s.some_segments, s.fits_days)) (omega arith);
      }

  -- "The answer carries its kernel and an array of 12 starts, unused places 0."
  pub reading :
      (lent : ℕ) → answer_bytes ≤ lent → (k : Kernel) → kernel ≡ number_of k →
      answer_of (seeking n D kernel) table lent
      ≡ record { reply = done; kernel = Some k; starts = chosen_in w least_length 0 D n ++ replicate (most_segments - D) 0 }
  unfolding answer_of cuts_reply
  reading lent h k named =
      let s = fit.segments in
      let ok = clear_done (cuts_tries (seeking n D kernel) table lent) ((clear_accepted (seeking n D kernel) table lent).1 (read_accepted lent h)) in
      let left : 11 - (D - 1) ≡ most_segments - D = omega (arith, s.some_segments) in
      let starts-are = met_chosen w dmax n (start_in table n) holds (D - 1) n (omega (arith, s.some_segments)) small (omega (arith, s.some_segments, s.fits_days)) (omega arith) in
      let r = first_of (cuts_tries (seeking n D kernel) table lent) in
      rw (
        if_done_lem r (named_of kernel) None (code_of ok),
        if_done_lem r (met (start_in table n) (D - 1) n) zeros (code_of ok),
        ok,
        ← (known k kernel named),
        starts-are,
        left,
      )

  -- "Read starts go to 24 lent bytes, 2 each", and bytes beyond them stay.
  pub reading_out :
      (k : Kernel) → kernel ≡ number_of k → (out : List ℕ) → answer_bytes ≤ length out →
      ((i : ℕ) → i < most_segments →
      entry start_bytes (out_left (seeking n D kernel) table out) i ≡ get_or (chosen_in w least_length 0 D n ++ replicate (most_segments - D) 0) i 0)
      × KeptBeyond start_bytes most_segments out (out_left (seeking n D kernel) table out)
  unfolding out_left
  reading_out k named out h =
      let s = fit.segments in
      let l = chosen_in w least_length 0 D n ++ replicate (most_segments - D) 0 in
      let f : ℕ → ℕ → ℕ = λ d i. get_or l i 0 in
      let e = reading (length out) h k named in
      let order = (chosen_cutting w least_length 0 D n s.some_segments (omega (arith, s.fits_days))).segments in
      let filled : out_left (seeking n D kernel) table out ≡ fill start_bytes (most_segments - 1) 1 f most_segments out =
      if_done_lem (cuts_reply (seeking n D kernel) table (length out)) _ _
      (ap (λ (r : Reply). r.code) (sym (answer_reply (seeking n D kernel) table (length out))) ∙ ap (λ (a : Answer). a.reply.code) e)
      ∙ ap (λ (a : Answer). row_of a.starts out) e
      in (
        λ i b.
            ap (entry start_bytes (out_left (seeking n D kernel) table out)) (sym (zero-add i))
            ∙ row_entry start_bytes (most_segments - 1) 1 f out _ filled h 1 i (omega arith) (omega arith) (omega arith) (get_or l i 0) refl
            (omega (arith, fit.count.few_days, padded_below (chosen_in w least_length 0 D n) n (most_segments - D) i order)),
        kept_beyond start_bytes (most_segments - 1) 1 f out _ filled,
      )
