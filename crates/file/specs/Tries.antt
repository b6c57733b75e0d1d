-- What is tried of a file, and of what is lent to the writer, in the scope's order: each fact with its code, its place and its position.
use Rattle.std.specs.Prelude.{ℕ, ◌+◌, ◌%◌, List, [], ◌∷◌, length}
use Rattle.buffer.specs.Laid.{laid}
use Rattle.record.specs.Tries.{channel_tries}
use Rattle.reply.specs.declared.Reply.{Reply}
use Rattle.reply.specs.Reply.{if_done}
use Rattle.reply.specs.Facts.{Fact, ◌is◌, ◌is_not◌, ◌is_below◌, ◌is_above◌, ◌or◌}
use Rattle.reply.specs.Tries.{Tries, try, try_at, ◌then◌, each, first_of}
use Rattle.file.specs.declared.layout.Entry.{Entry}
use Rattle.file.specs.declared.contents.Contents.{Contents}
use Rattle.file.specs.declared.contents.Due.{Due}
use Rattle.file.specs.Limits.{most_bytes, most_records, most_form, head_bytes}
use Rattle.file.specs.Layout.{channels_held, size_of}
use Rattle.file.specs.Contents.{count_in, form_in, bodies_at, filed, lent_bytes, count_lent, lent, entry_in, due_in, offset_in, offset_field_in}
use Rattle.file.specs.Items.{file_of, lent_items}

-- "21: count of records 0 or above 64", "also for an unknown form"
abbrev pub bad_shape : (n form : ℕ) → Fact
bad_shape n form = n is 0 or n is_above most_records or form is_above most_form

abbrev pub shape_try : (n form : ℕ) → Tries
shape_try n form = try (bad_shape n form) 21 0

-- "or in the writer for more than one channel in form 0": for more than a form can say, which in form 1 no entry has. All entries are tried for it
-- before any is tried for the rest, and the place is 0.
abbrev pub held_tries : (form : ℕ) → Contents → List ℕ → Tries
held_tries form c s = each 0 c.count (λ i. try ((entry_in c s i).asked.channels.count is_above channels_held form) 21 0)

-- "entry by entry 23, 24, 22", with 29 "between 23 and 24 on its entry", then "28, a body past the end, is tried right after it on the same entry":
-- entry i of the contents c, with its offset and what is due of it. The position is "where the entry's offset field begins, or the file's length (in the
-- writer, the run's)".
abbrev pub entry_tries : Contents → Entry → (offset : ℕ) → Due → (i : ℕ) → Tries
entry_tries c e offset due i =
    try (e.term is_below due.floor) 23 i
    then channel_tries e.asked.channels i
    then try_at (offset is_not due.at) 22 i (offset_field_in c i)
    then try_at (due.at + size_of e is_above c.limit) 28 i c.limit

-- The codes of a wrong body; of an entry, for which "place is the entry"; and of a lent one, which has no offset that could be wrong, so that 28
-- "replaces the writer's 22".
abbrev pub body_codes : List ℕ
body_codes = 22 ∷ 28 ∷ []

abbrev pub entry_codes : List ℕ
entry_codes = 23 ∷ 29 ∷ 24 ∷ body_codes

abbrev pub lent_codes : List ℕ
lent_codes = 23 ∷ 29 ∷ 24 ∷ 28 ∷ []

abbrev pub tries_in : Contents → List ℕ → ℕ → Tries
tries_in c s i = entry_tries c (entry_in c s i) (offset_in c s i) (due_in c s i) i

abbrev pub contents_tries : Contents → List ℕ → Tries
contents_tries c s = each 0 c.count (tries_in c s)

-- "25: bytes after the last body"
abbrev pub left_try : Contents → List ℕ → Tries
left_try c s = try ((due_in c s c.count).at is_below c.limit) 25 0

abbrev pub entries_tries : Contents → List ℕ → Tries
entries_tries c s = contents_tries c s then left_try c s

-- "Reading tries 26, 20 for the count, 21, 20 for the contents, ..
abbrev pub head_tries : List ℕ → Tries
head_tries f =
    try (length f is_above most_bytes) 26 0
    then try (length f is_below head_bytes) 20 0
    then shape_try (count_in f) (form_in f)
    then try (length f is_below bodies_at (form_in f) (count_in f)) 20 0

-- .. then entry by entry 23, 24, 22", with 29 and 28, "then 25."
unfoldable pub read_tries : List ℕ → Tries
read_tries f = head_tries f then entries_tries (filed f) f

abbrev pub read_codes : List ℕ
read_codes = 26 ∷ 20 ∷ 21 ∷ 25 ∷ entry_codes

abbrev pub read_reply : List ℕ → Reply
read_reply f = first_of (read_tries f)

-- How long the file is that is written of what is lent, and what is tried of that length and of the room for it: "26, 27".
abbrev pub lent_length : (form : ℕ) → (es bs : List ℕ) → ℕ
lent_length form es bs = bodies_at form (count_lent es) + length bs

abbrev pub room_tries : (long room : ℕ) → Tries
room_tries long room = try (long is_above most_bytes) 26 0 then try (room is_below long) 27 0

-- "It tries 20 for a last entry cut short, 21, .., whatever the run
abbrev pub whole_tries : (form : ℕ) → List ℕ → Tries
whole_tries form es =
    try (length es % lent_bytes is_not 0) 20 0 then shape_try (count_lent es) form then held_tries form (lent es 0) es

-- .. then each entry for 23, 24", with 29 and 28; "then 25 (bytes left over), 26, 27."
unfoldable pub write_tries : (form : ℕ) → (es bs : List ℕ) → ℕ → Tries
write_tries form es bs room =
    whole_tries form es then entries_tries (lent es (length bs)) es then room_tries (lent_length form es bs) room

abbrev pub write_codes : List ℕ
write_codes = 20 ∷ 21 ∷ 25 ∷ 26 ∷ 27 ∷ lent_codes

abbrev pub write_reply : (form : ℕ) → (es bs : List ℕ) → ℕ → Reply
write_reply form es bs room = first_of (write_tries form es bs room)

-- What the output o is on return: the file of what is lent, laid over it, "Output past the file's end keeps its bytes"; or, refused, as it was.
abbrev pub file_left : (form : ℕ) → (es bs o : List ℕ) → List ℕ
file_left form es bs o = if_done (write_reply form es bs (length o)) (laid o 0 (file_of form (lent_items es bs))) o
