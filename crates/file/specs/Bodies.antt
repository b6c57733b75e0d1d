-- A wrong entry: which it is told of, and of a wrong body at which byte position.
use Rattle.std.specs.Prelude.{ℕ, ◌+◌, ◌≤◌, ◌<◌, ◌≡◌, ◌⊎◌, List}
use Rattle.reply.specs.declared.Reply.{Reply}
use Rattle.reply.specs.Tries.{Clear}
use Rattle.reply.specs.Answered.{Placed}
use Rattle.kernel.specs.Limits.{most_channels}
use Rattle.file.specs.declared.contents.Contents.{Contents}
use Rattle.file.specs.Limits.{most_records}
use Rattle.file.specs.Layout.{size_of}
use Rattle.file.specs.Contents.{entry_in, due_in, offset_in, offset_field_in}
use Rattle.file.specs.Tries.{tries_in}
use Rattle.file.specs.Sound.{InOrder}

-- POSITIONS: "where the entry's offset field begins, or the file's length (in the writer, the run's). It stands beside the place, 0 in every other
-- reply".
pub record Positioned (c : Contents) (r : Reply) : Type 0 where
  pub misplaced : r.code ≡ 22 → r.position ≡ offset_field_in c r.place
  pub past_end : r.code ≡ 28 → r.position ≡ c.limit
  pub other : (r.code ≡ 22 → ⊥) → (r.code ≡ 28 → ⊥) → r.position ≡ 0

-- Where a reply to entries points: for these codes "place is the entry".
abbrev pub Pointed : List ℕ → Contents → Reply → Type 0
Pointed cs c r = Placed cs c.count most_records r × Positioned c r

-- ENTRIES: the channels of entry i are tried where no entry before it has anything wrong, and its own term number is in order; its body, where its
-- channels are in order too.
pub record Reached (c : Contents) (s : List ℕ) (i : ℕ) : Type 0 where
  pub there : i < c.count
  pub before : (j : ℕ) → j < i → Clear (tries_in c s j)
  pub rising : (due_in c s i).floor ≤ (entry_in c s i).term

pub record Tried (c : Contents) (s : List ℕ) (i : ℕ) : Type 0 where
  pub reached : Reached c s i
  pub channels : InOrder (entry_in c s i)

-- "29 for a channel count of 0 or above 4"
pub record Miscounted (c : Contents) (s : List ℕ) (i : ℕ) : Type 0 where
  pub reached : Reached c s i
  pub wrong : ((entry_in c s i).asked.channels.count ≡ 0) ⊎ (most_channels < (entry_in c s i).asked.channels.count)

-- "22 now means only a wrong offset": it differs from where the body is due.
pub record Misplaced (c : Contents) (s : List ℕ) (i : ℕ) : Type 0 where
  pub tried : Tried c s i
  pub wrong : offset_in c s i ≡ (due_in c s i).at → ⊥

-- "28, a body past the end": it is where it is due, and passes the end of the file, or of the run.
pub record PastEnd (c : Contents) (s : List ℕ) (i : ℕ) : Type 0 where
  pub tried : Tried c s i
  pub placed : offset_in c s i ≡ (due_in c s i).at
  pub past : c.limit < (due_in c s i).at + size_of (entry_in c s i)
