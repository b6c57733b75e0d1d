-- The lines of a term, as they are put after its solve, and how long they are at most. Assumes nothing.
use Prim.Native.Nat.{ℕ, zero, suc, ◌-◌, ◌*◌, ◌≤◌}
use mathlib.Core.Path.{◌≡◌, refl, sym, ap, ◌∙◌}
use mathlib.Core.Bool.{Bool, true, false, cond}
use mathlib.Core.List.{List, [], ◌++◌, append-nil}
use native.Mathlib.Omega.{arith}
use lib.Dec.{eqb}
use lib.ListN.{length, replicate, length-append, length-reverse, length-replicate}
use borrow.Author.Tests.{eqb-true}
use Rattle.cutting.specs.Limits.{most_segments, least_length}
use Rattle.cutting.specs.Recurrence.{chosen, chosen_in}
use Rattle.cutting.proofs.Least.{chosen_length}
use Rattle.reply.specs.declared.Reply.{Reply}
use Rattle.reply.specs.Reply.{if_done}
use Rattle.reply.proofs.First.{if_done_lem, if_refused}
use Rattle.record.specs.declared.Asked.{Asked}
use Rattle.record.specs.Body.{observations}
use Rattle.record.specs.Cost.{cost_of}
use Rattle.engine.specs.Solve.{solve_reply, costs_left, starts_left}
use Rattle.engine.specs.Accepted.{Accepted}
use Rattle.engine.proofs.Promises.{solve_accepted}
use Rattle.report.specs.Limits.{cost_room, start_room, line_length, lines_length}
use Rattle.report.specs.Lines.{head_text, line_text, chosen_line, cut_lines, term_reply, lines_of}
use Rattle.report.specs.Tables.{table_lines}
use Rattle.report.proofs.Lengths.{head_length_lem, line_length_lem}
use Rattle.report.proofs.Tables.{solved_lines}

module _ (term : ℕ) (asked : Asked) (body costs starts : List ℕ) (costs-long : length costs ≡ cost_room) (starts-long : length starts ≡ start_room)
    (r : Reply) (told : r ≡ solve_reply asked body (length costs) (length starts)) where
  the_reply : r ≡ term_reply asked body
  the_reply = told ∙ rw (costs-long, starts-long)

  code_is : r.code ≡ (term_reply asked body).code
  code_is = ap (λ (x : Reply). x.code) the_reply

  pub refused_lines : (r.code ≡ 0 → ⊥) → head_text term r ≡ lines_of term asked body
  unfolding lines_of
  refused_lines h =
      ap (head_text term) the_reply
      ∙ sym (append-nil (head_text term (term_reply asked body)))
      ∙ ap (head_text term (term_reply asked body) ++◌) (sym (if_refused (term_reply asked body) _ _ (λ z. h (code_is ∙ z))))

  module _ (none : r.code ≡ 0) where
    pub accepted : Accepted asked body (length costs) (length starts)
    accepted = (solve_accepted asked body (length costs) (length starts)).0 (ap (λ (x : Reply). x.code) (sym told) ∙ none)

    pub accepted_lines :
        head_text term r ++ table_lines asked body (costs_left asked body costs starts) (starts_left asked body costs starts) asked.dmax
        ≡ lines_of term asked body
    unfolding lines_of
    accepted_lines =
        ap (head_text term r ++◌)
        (solved_lines asked body costs starts accepted asked.dmax (omega arith)
        ∙ sym (if_done_lem (term_reply asked body) (cut_lines asked body asked.dmax) [] (sym code_is ∙ none)))
        ∙ ap (λ (x : Reply). head_text term x ++ if_done (term_reply asked body) (cut_lines asked body asked.dmax) []) the_reply

-- ---- lengths
module _ (asked : Asked) (body : List ℕ) where
  twelve : (k : ℕ) → suc k ≤ most_segments → most_segments ≤ length (chosen_line asked body (suc k)).starts
  twelve k h =
      let n = observations asked.channels body in
      let w = cost_of asked body in
      let back : suc k - 1 ≡ k = omega arith in
      let cuts : length (chosen w least_length 0 (suc k - 1) n) ≡ k = chosen_length w least_length 0 (suc k - 1) n ∙ back in
      omega (
        arith,
        length-append (chosen_in w least_length 0 (suc k) n) (replicate (most_segments - suc k) 0),
        length-reverse (chosen w least_length 0 (suc k - 1) n),
        cuts,
        length-replicate {A = ℕ} (most_segments - suc k) 0,
      )

  cut_lines_length : (k : ℕ) → k ≤ most_segments → length (cut_lines asked body k) ≤ line_length * k
  unfolding cut_lines
  cut_lines_length zero h = omega arith
  cut_lines_length (suc k) h =
      omega (
        arith,
        length-append (cut_lines asked body k) (line_text asked.channels body (chosen_line asked body (suc k))),
        cut_lines_length k (omega arith),
        line_length_lem asked.channels body (chosen_line asked body (suc k)) h (twelve k h),
      )

  either : (d : ℕ) (b : Bool) → (b ≡ true → d ≤ most_segments) → length (cond b (cut_lines asked body d) []) ≤ line_length * most_segments
  either d true h = omega (arith, cut_lines_length d (h refl), h refl)
  either d false h = omega arith

  -- How large a buffer must be at most: all lines of a term fit 6,127 bytes
  pub lines_length_lem : (term : ℕ) → length (lines_of term asked body) ≤ lines_length
  unfolding lines_of if_done
  lines_length_lem term =
      let r = term_reply asked body in
      let rest = cond (eqb r.code 0) (cut_lines asked body asked.dmax) [] in
      omega (
        arith,
        length-append (head_text term r) rest,
        head_length_lem term r,
        either asked.dmax (eqb r.code 0)
            (λ e. ((solve_accepted asked body cost_room start_room).0 (eqb-true r.code 0 e)).fit.segments.few_segments),
      )
