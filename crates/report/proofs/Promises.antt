-- What is promised of the lines, and of what the program prints. Assumes nothing.
use Prim.Native.Nat.{ℕ, zero, suc, ◌+◌, ◌*◌, ◌<◌, ◌≤◌}
use mathlib.Core.Path.{◌≡◌, refl, sym, ap, ◌∙◌}
use mathlib.Core.List.{List, [], ◌∷◌, ◌++◌, append_assoc, append-nil}
use native.Mathlib.Omega.{arith}
use lib.ListN.{length, take, drop, set, get_or}
use lib.Seq.{take-suc, take-length}
use borrow.Author.Tests.{lt-ltb, le-ltb}
use Rattle.table.specs.Num.{num, le}
use Rattle.cutting.specs.Recurrence.{earliest, place, least, last, walk}
use Rattle.kernel.specs.Kernel.{kernel, named_of}
use Rattle.kernel.specs.Cost.{A, B, R, units}
use Rattle.sample.specs.Judge.{judged_count}
use Rattle.reply.specs.declared.Reply.{Reply}
use Rattle.reply.specs.Reply.{if_done}
use Rattle.reply.specs.Tries.{first_from, first_of}
use Rattle.lists.specs.Lists.{values_of}
use Rattle.record.specs.Channels.{pairs_from}
use Rattle.record.specs.Body.{observations, day_at, judged_at}
use Rattle.record.specs.Cost.{cost_of, shortest, chosen_of}
use Rattle.segment.specs.Date.{date_in, days_of, dated_of, DateAccepted}
use Rattle.segment.proofs.Promises.{body_dated, date_of_body}
use Rattle.cutting.proofs.Promises.{chosen_cutting, starts_inside}
use Rattle.engine.proofs.Promises.{solve_accepted}
use Rattle.engine.specs.Total.{some}
use Rattle.engine.specs.Solve.{solve_reply}
use Rattle.text.specs.Text.{digits}
use Rattle.file.specs.Layout.{field, entry_at, size_of}
use Rattle.file.specs.Example.{example}
use Rattle.buffer.proofs.Laid.{there_laid, after_laid}
use Rattle.reply.proofs.First.{if_done_lem, if_refused}
use Rattle.file.specs.Contents.{entries_from, due_in, count_in}
use Rattle.file.specs.Tries.{read_tries, read_reply}
use Rattle.file.specs.Items.{Item, no_item, paired, items_of, item_at}
use Rattle.file.proofs.Promises.{items_count}
use Rattle.report.specs.Example.{example_text, misplaced_text, empty_text}
use Rattle.report.specs.Limits.{lines_length, file_line_length, cost_room, start_room}
use Rattle.report.specs.Lines.{head_text, file_text, cut_lines, term_reply, lines_of, item_text}
use Rattle.report.specs.Printed.{text_of, printed, text_to}
use Rattle.report.specs.Written.{written_number, written_bytes, written_of, out_left}
use Rattle.report.proofs.Lengths.{file_length_lem}
use Rattle.report.proofs.Solved as solved

-- ---- one term
-- "In two accepted files that hold the same entry fields (offset aside) and body for a term, that term's lines are equal.", be the files of one form or
-- of two.
pub same_lines :
    (f g : List ℕ) → (read_reply f).code ≡ 0 → (read_reply g).code ≡ 0 → (i j : ℕ) → i < count_in f → j < count_in g →
    (item_at f i).entry ≡ (item_at g j).entry → (item_at f i).body ≡ (item_at g j).body → item_text (item_at f i) ≡ item_text (item_at g j)
same_lines f g a b i j h k entry body = rw (entry, body)

-- "A refused record has only its first line."
pub refused_line :
    (x : Item) → ((term_reply x.entry.asked x.body).code ≡ 0 → ⊥) →
    item_text x ≡ head_text x.entry.term (term_reply x.entry.asked x.body)
unfolding lines_of
refused_line x h =
    ap (head_text x.entry.term (term_reply x.entry.asked x.body) ++◌) (if_refused (term_reply x.entry.asked x.body) _ _ h)
    ∙ append-nil _

-- "for each segment after the first its first index, a colon and its change date": every cut of an accepted record has a change date, the one printed.
module _ (x : Item) (accepted : (term_reply x.entry.asked x.body).code ≡ 0) where
  pub cut_dated :
      (D i : ℕ) → D ≤ x.entry.asked.dmax → 1 ≤ i → i < D → (s : ℕ) →
      s ≡ get_or (chosen_of x.entry.asked x.body D (observations x.entry.asked.channels x.body)) i 0 →
      DateAccepted (days_of x.entry.asked.channels x.body) s
      × (date_in x.entry.asked.channels x.body s ≡ (dated_of (days_of x.entry.asked.channels x.body) s).day.0)
  cut_dated D i few later below s e =
      let a = (solve_accepted x.entry.asked x.body cost_room start_room).0 accepted in
      let ch = x.entry.asked.channels in
      let n = observations ch x.body in
      let w = cost_of x.entry.asked x.body in
      let l = shortest x.entry.asked in
      let fits : 0 + D * l ≤ n = omega (arith, a.fit.segments.fits_days) in
      let cutting = chosen_cutting w l 0 D n (omega arith) fits in
      let inside = starts_inside l 0 D n _ (omega arith) cutting i later below in (
        body_dated ch x.body a.fit.count a.rising s (omega (arith, e, inside.0)) (omega (arith, e, inside.1)),
        date_of_body ch x.body a.fit.count a.rising s,
      )

-- How large a buffer they need at most.
pub lines_length_lem : (x : Item) → length (item_text x) ≤ lines_length
lines_length_lem x = solved.lines_length_lem x.entry.asked x.body x.entry.term

-- Where the buffer has room the lines stand at its front, and behind them what it had; where it is too short it is as it was.
module _ (text out : List ℕ) where
  pub written_front :
      length text ≤ length out →
      (written_number (written_of text (length out)) ≡ 0)
      × (written_bytes (written_of text (length out)) ≡ length text)
      × (take (length text) (out_left text out) ≡ text)
      × (drop (length text) (out_left text out) ≡ drop (length text) out)
  unfolding written_of out_left
  written_front h =
      let fits : 0 + length text ≤ length out = omega arith in
      let none : 0 + length text ≡ length text = omega arith in
      rw (le-ltb (length out) (length text) h) (refl, refl, there_laid out 0 text fits, rw none at (after_laid out 0 text fits))

  pub written_nothing :
      length out < length text →
      (written_number (written_of text (length out)) ≡ 7) × (written_bytes (written_of text (length out)) ≡ 0) × (out_left text out ≡ out)
  unfolding written_of out_left
  written_nothing h = rw (lt-ltb (length out) (length text) h) (refl, refl, refl)

-- ---- a whole file
-- "A refused file prints only `file code C place P`", ` at B` behind it.
pub printed_refused : (f : List ℕ) → ((read_reply f).code ≡ 0 → ⊥) → printed f ≡ file_text (read_reply f)
unfolding printed
printed_refused f h = if_refused (read_reply f) _ _ h

-- which is no longer than this.
pub refused_length : (r : Reply) → length (file_text r) ≤ file_line_length
refused_length = file_length_lem

-- An accepted file prints its terms' lines, in order.
pub printed_terms : (f : List ℕ) → (read_reply f).code ≡ 0 → printed f ≡ text_of (items_of f)
unfolding printed
printed_terms f h = if_done_lem (read_reply f) _ _ h

text_append : (xs ys : List Item) → text_of (xs ++ ys) ≡ text_of xs ++ text_of ys
unfolding text_of
text_append [] ys = refl
text_append (x ∷ xs) ys = ap (item_text x ++◌) (text_append xs ys) ∙ sym (append_assoc (item_text x) (text_of xs) (text_of ys))

-- "so one refused record doesn't stop the others": its first line stands between the lines of those before it and of those after it.
pub refused_alone :
    (xs : List Item) (x : Item) (ys : List Item) → ((term_reply x.entry.asked x.body).code ≡ 0 → ⊥) →
    text_of (xs ++ (x ∷ ys)) ≡ text_of xs ++ (head_text x.entry.term (term_reply x.entry.asked x.body) ++ text_of ys)
unfolding text_of
refused_alone xs x ys h = text_append xs (x ∷ ys) ∙ ap (λ (t : List ℕ). text_of xs ++ (t ++ text_of ys)) (refused_line x h)

-- Record after record, each by its index, is the same text: so the program's loop goes.
text_to_lem : (f : List ℕ) (k : ℕ) → k ≤ length (items_of f) → text_to f k ≡ text_of (take k (items_of f))
unfolding text_to text_of
text_to_lem f zero h = refl
text_to_lem f (suc k) h =
    ap (◌++ item_text (item_at f k)) (text_to_lem f k (omega arith))
    ∙ ap (text_of (take k (items_of f)) ++◌) (sym (append-nil (item_text (item_at f k))))
    ∙ sym (ap text_of (take-suc (items_of f) k no_item h) ∙ text_append (take k (items_of f)) (get_or (items_of f) k no_item ∷ []))

pub printed_loop : (f : List ℕ) → (read_reply f).code ≡ 0 → printed f ≡ text_to f (count_in f)
printed_loop f h =
    printed_terms f h
    ∙ sym (text_to_lem f (count_in f) (omega (arith, items_count f)) ∙ ap (λ (k : ℕ). text_of (take k (items_of f))) (sym (items_count f)) ∙ ap text_of (take-length (items_of f)))

-- "For 50 bytes holding one record .. it prints exactly" the three lines: by computation, from the file's bytes.
pub printed_example : printed example ≡ example_text
unfolding printed text_of lines_of cut_lines digits date_in solve_reply some least last place earliest walk kernel named_of A B R units judged_count if_done first_of first_from pairs_from day_at judged_at values_of read_tries due_in items_of paired entries_from entry_at field size_of num le
printed_example = refl

-- The example with another offset, and no bytes at all: refused files, with a position and without one.
pub printed_misplaced : printed (set example 10 15) ≡ misplaced_text
unfolding printed digits if_done first_of first_from read_tries due_in entry_at field size_of pairs_from num le
printed_misplaced = refl

pub printed_empty : printed [] ≡ empty_text
unfolding printed digits if_done first_of first_from read_tries num
printed_empty = refl
