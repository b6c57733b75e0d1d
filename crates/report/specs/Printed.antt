-- What the program prints of a file.
use Rattle.std.specs.Prelude.{ℕ, zero, suc, List, [], ◌∷◌, ◌++◌}
use Rattle.reply.specs.Reply.{if_done}
use Rattle.file.specs.Tries.{read_reply}
use Rattle.file.specs.Items.{Item, items_of, item_at}
use Rattle.report.specs.Lines.{file_text, item_text}

-- the lines of records, in order
unfoldable pub text_of : List Item → List ℕ
text_of [] = []
text_of (x ∷ xs) = item_text x ++ text_of xs

-- "A refused file prints only" its line, and an accepted one each term's lines in order
unfoldable pub printed : List ℕ → List ℕ
printed f = if_done (read_reply f) (text_of (items_of f)) (file_text (read_reply f))

-- the lines of the first k records of a file, as a loop over them prints
unfoldable pub text_to : List ℕ → ℕ → List ℕ
text_to f zero = []
text_to f (suc k) = text_to f k ++ item_text (item_at f k)
