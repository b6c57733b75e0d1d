-- The entries of a file, and those that are lent: where they stand, and what is due of each.
use Rattle.std.specs.Prelude.{ℕ, zero, suc, ◌+◌, ◌*◌, ◌/◌, List, [], ◌∷◌, length}
use Rattle.table.specs.Num.{num}
use Rattle.file.specs.declared.layout.Entry.{Entry}
use Rattle.file.specs.declared.contents.Contents.{Contents}
use Rattle.file.specs.declared.contents.Due.{Due}
use Rattle.file.specs.Limits.{count_bytes, form_bytes, head_bytes}
use Rattle.file.specs.Layout.{widths_of, as_lent, width_of, to_offset, entry_at, offset_at, size_of}

-- "The file's second byte, always 0 so far, becomes its form": the first is the count of records.
abbrev pub count_in : List ℕ → ℕ
count_in f = num count_bytes f 0

abbrev pub form_in : List ℕ → ℕ
form_in f = num form_bytes f count_bytes

-- "the first beginning where the contents end": where the bodies of n records begin.
abbrev pub bodies_at : (form n : ℕ) → ℕ
bodies_at form n = head_bytes + width_of (widths_of form) * n

-- The contents of a file: "then the contents", 12 or 19 bytes an entry; "then the bodies".
abbrev pub filed : List ℕ → Contents
filed f = record {
  widths = widths_of (form_in f);
  count = count_in f;
  from = head_bytes;
  start = bodies_at (form_in f) (count_in f);
  limit = length f;
}

-- Lent entries, whose bodies are a run of so many bytes.
abbrev pub lent_bytes : ℕ
lent_bytes = width_of as_lent

abbrev pub count_lent : List ℕ → ℕ
count_lent es = length es / lent_bytes

abbrev pub lent : List ℕ → (run : ℕ) → Contents
lent es run = record { widths = as_lent; count = count_lent es; from = 0; start = 0; limit = run }

-- Entry i of the contents c in s.
abbrev pub place_in : Contents → ℕ → ℕ
place_in c i = c.from + width_of c.widths * i

abbrev pub entry_in : Contents → List ℕ → ℕ → Entry
entry_in c s i = entry_at c.widths s (place_in c i)

-- All of them: the k entries from entry i on.
unfoldable pub entries_from : Contents → List ℕ → (k i : ℕ) → List Entry
entries_from c s zero i = []
entries_from c s (suc k) i = entry_in c s i ∷ entries_from c s k (suc i)

abbrev pub entries_in : Contents → List ℕ → List Entry
entries_in c s = entries_from c s c.count 0

-- What is due of entry i: a term number above that of the entry before it, and its body where the one before ends.
unfoldable pub due_in : Contents → List ℕ → ℕ → Due
due_in c s zero = record { floor = 0; at = c.start }
due_in c s (suc i) = record { floor = (entry_in c s i).term + 1; at = (due_in c s i).at + size_of (entry_in c s i) }

-- Its offset.
abbrev pub offset_in : Contents → List ℕ → ℕ → ℕ
offset_in c s i = offset_at c.widths s (place_in c i) (due_in c s i).at

-- Where that field begins.
abbrev pub offset_field_in : Contents → ℕ → ℕ
offset_field_in c i = to_offset c.widths (place_in c i)
