-- The lines of one term, by the term number, what is asked of its record, and the record's body alone.
use Rattle.std.specs.Prelude.{ℕ, zero, suc, ◌-◌, List, [], ◌∷◌, ◌++◌, replicate}
use Rattle.std.proofs.Math.Seq.{slice}
use Rattle.cutting.specs.Limits.{most_segments}
use Rattle.reply.specs.declared.Reply.{Reply}
use Rattle.reply.specs.Reply.{if_done}
use Rattle.record.specs.declared.Asked.{Asked}
use Rattle.record.specs.declared.channels.Channels.{Channels}
use Rattle.record.specs.Body.{observations}
use Rattle.record.specs.Cost.{least_of, chosen_of}
use Rattle.segment.specs.Date.{date_in}
use Rattle.engine.specs.Solve.{solve_reply}
use Rattle.file.specs.Items.{Item}
use Rattle.text.specs.Text.{decimal}
use Rattle.report.specs.declared.line.Line.{Line}
use Rattle.report.specs.Limits.{cost_room, start_room}

-- the bytes of `term `, ` code `, ` place `, `file` and ` at `
abbrev pub term_word : List ℕ
term_word = 116 ∷ 101 ∷ 114 ∷ 109 ∷ 32 ∷ []

abbrev pub code_word : List ℕ
code_word = 32 ∷ 99 ∷ 111 ∷ 100 ∷ 101 ∷ 32 ∷ []

abbrev pub place_word : List ℕ
place_word = 32 ∷ 112 ∷ 108 ∷ 97 ∷ 99 ∷ 101 ∷ 32 ∷ []

abbrev pub file_word : List ℕ
file_word = 102 ∷ 105 ∷ 108 ∷ 101 ∷ []

abbrev pub at_word : List ℕ
at_word = 32 ∷ 97 ∷ 116 ∷ 32 ∷ []

-- a reply's code and place
abbrev pub reply_text : Reply → List ℕ
reply_text r = code_word ++ (decimal r.code ++ (place_word ++ decimal r.place))

-- "The first line is the term number, code and place", to the line's end (10)
abbrev pub head_text : ℕ → Reply → List ℕ
head_text term r = term_word ++ (decimal term ++ (reply_text r ++ (10 ∷ [])))

-- "A refused file prints only `file code C place P`", and the position "ends a refused file's line after `at`".
abbrev pub file_text : Reply → List ℕ
file_text r = file_word ++ (reply_text r ++ (at_word ++ (decimal r.position ++ (10 ∷ []))))

-- "for each segment after the first its first index, a colon and its change date", each behind a space (32); 58 is the colon
abbrev pub pair_text : ℕ → ℕ → List ℕ
pair_text index date = (32 ∷ []) ++ (decimal index ++ ((58 ∷ []) ++ decimal date))

abbrev pub cut_text : Channels → List ℕ → ℕ → List ℕ
cut_text ch body s = pair_text s (date_in ch body s)

abbrev pub cuts_text : Channels → List ℕ → List ℕ → List ℕ
cuts_text ch body [] = []
cuts_text ch body (s ∷ c) = cut_text ch body s ++ cuts_text ch body c

-- "Each line after is D, the cost in units, then" the cuts: the starts of all segments but the first
abbrev pub line_text : Channels → List ℕ → Line → List ℕ
line_text ch body l =
    decimal l.d ++ ((32 ∷ []) ++ (decimal l.cost ++ (cuts_text ch body (slice 1 l.d l.starts) ++ (10 ∷ []))))

-- what the line for D segments says: the least cost, and the chosen cutting
abbrev pub chosen_line : Asked → List ℕ → ℕ → Line
chosen_line asked body D = record {
  d = D;
  cost = least_of asked body D (observations asked.channels body);
  starts = chosen_of asked body D (observations asked.channels body) ++ replicate (most_segments - D) 0;
}

-- the lines for D = 1 to k
unfoldable pub cut_lines : Asked → List ℕ → ℕ → List ℕ
cut_lines asked body zero = []
cut_lines asked body (suc k) = cut_lines asked body k ++ line_text asked.channels body (chosen_line asked body (suc k))

-- the reply to a term's record, with the largest tables
abbrev pub term_reply : Asked → List ℕ → Reply
term_reply asked body = solve_reply asked body cost_room start_room

-- All lines of a term. "A refused record has only its first line."
unfoldable pub lines_of : ℕ → Asked → List ℕ → List ℕ
lines_of term asked body = head_text term (term_reply asked body) ++ if_done (term_reply asked body) (cut_lines asked body asked.dmax) []

-- the lines of a file's record: by its entry's fields, offset aside, and its body
abbrev pub item_text : Item → List ℕ
item_text x = lines_of x.entry.term x.entry.asked x.body
