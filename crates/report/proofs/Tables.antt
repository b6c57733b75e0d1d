-- The lines that are read off the tables that a solve leaves are the term's. Assumes nothing.
use Prim.Native.Nat.{ℕ, zero, suc, ◌+◌, ◌-◌, ◌≤◌, ◌<◌}
use mathlib.Core.Path.{◌≡◌, refl, sym, ap, ap₂, ◌∙◌}
use mathlib.Core.Bool.{Bool, true, false, cond}
use mathlib.Core.List.{List, ◌++◌}
use native.Mathlib.Numerals.{add-one}
use native.Mathlib.Omega.{arith}
use lib.Dec.{eqb}
use lib.ListN.{length, length-set}
use Rattle.table.specs.Fill.{entry, cell}
use Rattle.cutting.specs.Limits.{most_segments, cost_bytes}
use Rattle.reply.specs.Reply.{if_done}
use Rattle.record.specs.declared.Asked.{Asked}
use Rattle.record.specs.Body.{observations}
use Rattle.record.specs.Channels.{kernel_in}
use Rattle.record.specs.Accepted.{Fit, Numbered}
use Rattle.record.specs.Cost.{cost_of, least_of}
use Rattle.std.specs.Prelude.{Some}
use Rattle.kernel.specs.declared.Kernel.{Kernel}
use Rattle.kernel.specs.Kernel.{named_of}
use Rattle.kernel.proofs.Number.{number_named, known_number}
use Rattle.engine.specs.Solve.{costs_left, starts_left}
use Rattle.engine.specs.Accepted.{Accepted}
use Rattle.engine.proofs.Accepted.{starts_space}
use Rattle.engine.proofs.Entries.{starts_solved, cost_is}
use Rattle.walk.specs.declared.Sought.{Sought}
use Rattle.walk.specs.declared.Answer.{Answer}
use Rattle.walk.specs.Walk.{start_in, zeros, met}
use Rattle.walk.specs.Answer.{seeking, answer_bytes, cuts_reply, answer_of}
use Rattle.walk.proofs.Reading.{reading}
use Rattle.report.specs.declared.line.Line.{Line}
use Rattle.report.specs.Lines.{line_text, chosen_line, cut_lines}
use Rattle.report.specs.Tables.{line_at, table_lines}

-- ---- an answer has 12 starts
met_length : (at : ℕ → ℕ → ℕ) (k t : ℕ) → length (met at k t) ≡ most_segments
unfolding met
met_length at zero t = refl
met_length at (suc k) t = length-set (met at k (at (suc k) t)) (suc k) (at (suc k) t) ∙ met_length at k (at (suc k) t)

either_length : (b : Bool) (l : List ℕ) → length l ≡ most_segments → length (cond b l zeros) ≡ most_segments
either_length true l h = h
either_length false l h = refl

pub answer_length : (sought : Sought) (starts : List ℕ) (room : ℕ) → length (answer_of sought starts room).starts ≡ most_segments
unfolding answer_of if_done
answer_length sought starts room =
    either_length (eqb (cuts_reply sought starts room).code 0) (met (start_in starts sought.n) (sought.d - 1) sought.n)
    (met_length (start_in starts sought.n) (sought.d - 1) sought.n)

-- ---- one line more
pub lines_more :
    (asked : Asked) (body costs starts : List ℕ) (k : ℕ) (l : Line) → l ≡ line_at asked body costs starts k →
    table_lines asked body costs starts k ++ line_text asked.channels body l ≡ table_lines asked body costs starts (k + 1)
unfolding table_lines
lines_more asked body costs starts k l e =
    ap (λ (x : Line). table_lines asked body costs starts k ++ line_text asked.channels body x) e ∙ sym (ap (table_lines asked body costs starts) (add-one k))

-- ---- off solved tables
module _ (asked : Asked) (body costs starts : List ℕ) (a : Accepted asked body (length costs) (length starts)) where
  -- the kernel of the first channel
  first_numbered : Numbered (kernel_in asked.channels 0)
  first_numbered = a.kernels 0 (omega (arith, a.lent.channeled.some_channels))

  first_kernel : (k : Kernel) × (named_of (kernel_in asked.channels 0) ≡ Some k)
  first_kernel = known_number (kernel_in asked.channels 0) first_numbered.some_kernel first_numbered.known_kernel

  fit : (k : ℕ) → k < asked.dmax → Fit (observations asked.channels body) (k + 1)
  fit k h =
      let f = a.fit in
      record {
        count = f.count;
        segments = record {
          some_segments = omega arith;
          few_segments = omega (arith, f.segments.few_segments);
          fits_days = omega (arith, f.segments.fits_days);
        };
      }

  -- the line of k + 1 segments says the least cost and the chosen cutting
  same_line : (k : ℕ) → k < asked.dmax →
      line_at asked body (costs_left asked body costs starts) (starts_left asked body costs starts) k ≡ chosen_line asked body (k + 1)
  same_line k h =
      let n = observations asked.channels body in
      let f = fit k h in
      let known = first_kernel in
      let back : k + 1 - 1 ≡ k = omega arith in
      let cost : entry cost_bytes (costs_left asked body costs starts) (cell n k n) ≡ least_of asked body (k + 1) n =
      ap (λ (j : ℕ). entry cost_bytes (costs_left asked body costs starts) (cell n j n)) (sym back)
      ∙ cost_is asked body costs starts a (k + 1) n (omega arith) (omega arith) (omega arith) f.segments.fits_days
      in
      let read =
      ap (λ (ys : List ℕ). (answer_of (seeking n (k + 1) (kernel_in asked.channels 0)) ys answer_bytes).starts) (starts_solved asked body costs starts a)
      ∙ ap (λ (x : Answer). x.starts)
      (reading (cost_of asked body) n asked.dmax starts (starts_space a) a.fit.segments.few_segments (k + 1) (kernel_in asked.channels 0) f first_numbered (omega arith)
      answer_bytes (omega arith) known.0 (number_named (kernel_in asked.channels 0) known.0 known.1))
      in
      λ i. record { d = k + 1; cost = cost i; starts = read i }

  pub solved_lines : (k : ℕ) → k ≤ asked.dmax →
      table_lines asked body (costs_left asked body costs starts) (starts_left asked body costs starts) k ≡ cut_lines asked body k
  unfolding table_lines cut_lines
  solved_lines zero h = refl
  solved_lines (suc k) h =
      ap₂ ◌++◌ (solved_lines k (omega arith))
      (ap (line_text asked.channels body) (same_line k (omega arith)) ∙ ap (λ (j : ℕ). line_text asked.channels body (chosen_line asked body j)) (add-one k))
