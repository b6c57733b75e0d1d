-- Summaries in lent bytes: each number is read back, and no byte beyond them changes. Assumes nothing.
use Prim.Native.Nat.{ℕ, zero, suc, ◌+◌, ◌-◌, ◌*◌, ◌^◌, ◌≤◌, ◌<◌}
use mathlib.Core.Path.{◌≡◌, refl, ap, ◌∙◌}
use mathlib.Core.List.{List}
use native.Mathlib.Decide.{dec_lt}
use native.Mathlib.Omega.{arith}
use borrow.Author.Tests.{lt-ltb, le-ltb}
use lib.ListN.{length, get_or}
use lib.IntN.{ℤ, pos, negsuc, nat_abs}
use lib.Ieee.{binary64, of_bits, to_bits}
use lib.Ieee.Bits.{of_bits-to_bits, to_bits-lt}
use Rattle.sample.specs.Word.{count_of, word_of}
use Rattle.table.specs.Num.{num}
use Rattle.table.proofs.Num.{length_put, put_above, num_put, num_put_before}
use Rattle.segment.specs.declared.Summary.{Summary}
use Rattle.segment.specs.Summary.{most_sum, no_summary}
use Rattle.segment.specs.Bytes.{number_bytes, summary_bytes, length_offset, sum_offset, mean_offset, put_summary, Stands, put_first}
use Rattle.segment.proofs.Summaries.{Stored}

-- ---- a number of a summary
-- the sum is read back from its word
pub word_small : (z : ℤ) → nat_abs z ≤ most_sum → word_of z < 2 ^ 64
word_small (pos n) h = omega arith
word_small (negsuc n) h = omega arith

pub word_back : (z : ℤ) → nat_abs z ≤ most_sum → count_of (word_of z) ≡ z
word_back (pos n) h = rw (lt-ltb n (2 ^ 63) (omega arith))
word_back (negsuc n) h =
    let back : 2 ^ 64 - 1 - (2 ^ 64 - 1 - n) ≡ n = omega arith in
    rw (le-ltb (2 ^ 64 - 1 - n) (2 ^ 63) (omega arith), back)

-- ---- a summary
module _ (s : Summary) (place : ℕ) (out : List ℕ) where
  pub summary_length : length (put_summary s place out) ≡ length out
  unfolding put_summary
  summary_length = length_put number_bytes _ _ _ ∙ length_put number_bytes _ _ _ ∙ length_put number_bytes _ _ _ ∙ length_put number_bytes _ _ _

  -- a number before it stays, and a byte behind it
  pub summary_before : (j : ℕ) → j + number_bytes ≤ place → num number_bytes (put_summary s place out) j ≡ num number_bytes out j
  unfolding put_summary
  summary_before j h =
      num_put_before number_bytes number_bytes _ _ _ j (omega arith)
      ∙ num_put_before number_bytes number_bytes _ _ _ j (omega arith)
      ∙ num_put_before number_bytes number_bytes _ _ _ j (omega arith)
      ∙ num_put_before number_bytes number_bytes _ _ _ j h

  pub summary_behind : (j : ℕ) → place + summary_bytes ≤ j → get_or (put_summary s place out) j 0 ≡ get_or out j 0
  unfolding put_summary
  summary_behind j h =
      put_above number_bytes _ _ _ j (omega arith)
      ∙ put_above number_bytes _ _ _ j (omega arith)
      ∙ put_above number_bytes _ _ _ j (omega arith)
      ∙ put_above number_bytes _ _ _ j (omega arith)

  module _ (h : Stored s) (room : place + summary_bytes ≤ length out) where
    first_here : num number_bytes (put_summary s place out) place ≡ s.first.0
    unfolding put_summary
    first_here =
        num_put_before number_bytes number_bytes _ _ _ place (omega arith)
        ∙ num_put_before number_bytes number_bytes _ _ _ place (omega arith)
        ∙ num_put_before number_bytes number_bytes _ _ _ place (omega arith)
        ∙ num_put number_bytes out place s.first.0 (omega arith) (omega (arith, h.first_small))

    length_here : num number_bytes (put_summary s place out) (place + length_offset) ≡ s.len
    unfolding put_summary
    length_here =
        num_put_before number_bytes number_bytes _ _ _ (place + length_offset) (omega arith)
        ∙ num_put_before number_bytes number_bytes _ _ _ (place + length_offset) (omega arith)
        ∙ num_put number_bytes _ (place + length_offset) s.len (simp length_put (omega arith)) (omega (arith, h.length_small))

    sum_here : num number_bytes (put_summary s place out) (place + sum_offset) ≡ word_of s.sum
    unfolding put_summary
    sum_here =
        num_put_before number_bytes number_bytes _ _ _ (place + sum_offset) (omega arith)
        ∙ num_put number_bytes _ (place + sum_offset) (word_of s.sum) (simp length_put (omega arith)) (word_small s.sum h.sum_small)

    mean_here : num number_bytes (put_summary s place out) (place + mean_offset) ≡ to_bits binary64 s.mean
    unfolding put_summary
    mean_here =
        num_put number_bytes _ (place + mean_offset) (to_bits binary64 s.mean) (simp length_put (omega arith)) (to_bits-lt binary64 s.mean h.mean_fits)

    pub summary_stands : Stands (put_summary s place out) place s
    summary_stands = record {
      first_read = first_here;
      length_read = length_here;
      sum_read = ap count_of sum_here ∙ word_back s.sum h.sum_small;
      mean_bits = mean_here;
      mean_read = ap (of_bits binary64) mean_here ∙ of_bits-to_bits binary64 s.mean h.mean_fits;
    }

-- ---- the first k summaries
module _ (l : List Summary) (out : List ℕ) where
  pub first_length : (k : ℕ) → length (put_first l k out) ≡ length out
  unfolding put_first
  first_length zero = refl
  first_length (suc k) = summary_length _ (summary_bytes * k) _ ∙ first_length k

  pub first_behind : (k j : ℕ) → summary_bytes * k ≤ j → get_or (put_first l k out) j 0 ≡ get_or out j 0
  unfolding put_first
  first_behind zero j h = refl
  first_behind (suc k) j h = summary_behind _ (summary_bytes * k) _ j (omega arith) ∙ first_behind k j (omega arith)

  -- a number of summary c stays where later ones are written
  first_kept : (k c j : ℕ) → c < k → j + number_bytes ≤ summary_bytes * suc c → num number_bytes (put_first l k out) j ≡ num number_bytes (put_first l (suc c) out) j
  unfolding put_first
  first_kept zero c j h b = absurd (omega arith)
  first_kept (suc k) c j h b =
      elim (dec_lt c k) [
        | yes g ↦ summary_before _ (summary_bytes * k) _ j (omega arith) ∙ first_kept k c j g b
        | no g ↦ let e : c ≡ k = omega arith in rw e refl
      ]

  module _ (k c : ℕ) (below : c < k) (h : Stored (get_or l c no_summary)) (room : summary_bytes * k ≤ length out) where
    here : Stands (put_first l (suc c) out) (summary_bytes * c) (get_or l c no_summary)
    unfolding put_first
    here = summary_stands (get_or l c no_summary) (summary_bytes * c) (put_first l c out) h (rw (first_length c) (omega arith))

    kept : (offset : ℕ) → offset + number_bytes ≤ summary_bytes →
        num number_bytes (put_first l k out) (summary_bytes * c + offset) ≡ num number_bytes (put_first l (suc c) out) (summary_bytes * c + offset)
    kept offset b = first_kept k c (summary_bytes * c + offset) below (omega arith)

    pub first_stands : Stands (put_first l k out) (summary_bytes * c) (get_or l c no_summary)
    first_stands = record {
      first_read = first_kept k c (summary_bytes * c) below (omega arith) ∙ here.first_read;
      length_read = kept length_offset (omega arith) ∙ here.length_read;
      sum_read = ap count_of (kept sum_offset (omega arith)) ∙ here.sum_read;
      mean_bits = kept mean_offset (omega arith) ∙ here.mean_bits;
      mean_read = ap (of_bits binary64) (kept mean_offset (omega arith)) ∙ here.mean_read;
    }
