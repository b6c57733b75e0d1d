-- How long the texts are: a number has at most 20 digits. Assumes nothing.
use Prim.Native.Nat.{ℕ, ◌+◌, ◌*◌, ◌≤◌}
use mathlib.Core.List.{List, [], ◌∷◌, ◌++◌}
use native.Mathlib.Omega.{arith}
use lib.ListN.{length, length-append}
use lib.Seq.{slice, length-slice}
use Rattle.cutting.specs.Limits.{most_segments}
use Rattle.reply.specs.declared.Reply.{Reply}
use Rattle.text.specs.Text.{decimal}
use Rattle.text.proofs.Pieces.{decimal_length}
use Rattle.record.specs.declared.channels.Channels.{Channels}
use Rattle.segment.specs.Date.{date_in}
use Rattle.report.specs.declared.line.Line.{Line}
use Rattle.report.specs.Limits.{reply_length, head_length, file_line_length, cut_length, line_length}
use Rattle.report.specs.Lines.{code_word, place_word, term_word, file_word, at_word, reply_text, head_text, file_text, cut_text, cuts_text, line_text}

-- two texts, one behind the other
both : (x y : List ℕ) (a b : ℕ) → length x ≤ a → length y ≤ b → length (x ++ y) ≤ a + b
both x y a b h k = omega (arith, length-append x y)

pub reply_length_lem : (r : Reply) → length (reply_text r) ≤ reply_length
reply_length_lem r =
    both code_word (decimal r.code ++ (place_word ++ decimal r.place)) 6 47 (omega arith)
    (both (decimal r.code) (place_word ++ decimal r.place) 20 27 (decimal_length r.code)
    (both place_word (decimal r.place) 7 20 (omega arith) (decimal_length r.place)))

pub head_length_lem : (term : ℕ) (r : Reply) → length (head_text term r) ≤ head_length
head_length_lem term r =
    both term_word (decimal term ++ (reply_text r ++ (10 ∷ []))) 5 74 (omega arith)
    (both (decimal term) (reply_text r ++ (10 ∷ [])) 20 54 (decimal_length term)
    (both (reply_text r) (10 ∷ []) 53 1 (reply_length_lem r) (omega arith)))

pub file_length_lem : (r : Reply) → length (file_text r) ≤ file_line_length
file_length_lem r =
    both file_word (reply_text r ++ (at_word ++ (decimal r.position ++ (10 ∷ [])))) 4 78 (omega arith)
    (both (reply_text r) (at_word ++ (decimal r.position ++ (10 ∷ []))) 53 25 (reply_length_lem r)
    (both at_word (decimal r.position ++ (10 ∷ [])) 4 21 (omega arith)
    (both (decimal r.position) (10 ∷ []) 20 1 (decimal_length r.position) (omega arith))))

pub cut_length_lem : (ch : Channels) (body : List ℕ) (s : ℕ) → length (cut_text ch body s) ≤ cut_length
cut_length_lem ch body s =
    both (32 ∷ []) (decimal s ++ ((58 ∷ []) ++ decimal (date_in ch body s))) 1 41 (omega arith)
    (both (decimal s) ((58 ∷ []) ++ decimal (date_in ch body s)) 20 21 (decimal_length s)
    (both (58 ∷ []) (decimal (date_in ch body s)) 1 20 (omega arith) (decimal_length (date_in ch body s))))

pub cuts_length_lem : (ch : Channels) (body c : List ℕ) → length (cuts_text ch body c) ≤ cut_length * length c
cuts_length_lem ch body [] = omega arith
cuts_length_lem ch body (s ∷ c) =
    omega (arith, both (cut_text ch body s) (cuts_text ch body c) cut_length (cut_length * length c) (cut_length_lem ch body s) (cuts_length_lem ch body c))

pub line_length_lem : (ch : Channels) (body : List ℕ) (l : Line) → l.d ≤ most_segments → most_segments ≤ length l.starts → length (line_text ch body l) ≤ line_length
line_length_lem ch body l h k =
    let c = slice 1 l.d l.starts in
    let few : length c ≤ 11 = omega (arith, length-slice 1 l.d l.starts (omega arith)) in
    both (decimal l.d) ((32 ∷ []) ++ (decimal l.cost ++ (cuts_text ch body c ++ (10 ∷ [])))) 20 484 (decimal_length l.d)
    (both (32 ∷ []) (decimal l.cost ++ (cuts_text ch body c ++ (10 ∷ []))) 1 483 (omega arith)
    (both (decimal l.cost) (cuts_text ch body c ++ (10 ∷ [])) 20 463 (decimal_length l.cost)
    (both (cuts_text ch body c) (10 ∷ []) 462 1 (omega (arith, cuts_length_lem ch body c)) (omega arith))))
