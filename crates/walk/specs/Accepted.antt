-- What is accepted: a start table off which the cuts that are sought are read.
use Rattle.std.specs.Prelude.{ℕ, ◌+◌, ◌-◌, ◌*◌, ◌/◌, ◌≤◌, List, length}
use Rattle.cutting.specs.Limits.{start_bytes}
use Rattle.record.specs.Accepted.{Fit, Numbered}
use Rattle.walk.specs.declared.Sought.{Sought}
use Rattle.walk.specs.Walk.{start_in, Walks}
use Rattle.walk.specs.Answer.{answer_bytes}

-- Numbers that fit, a known kernel, a table with room, room for the starts, and a walk.
pub record CutsAccepted (sought : Sought) (starts : List ℕ) (room : ℕ) : Type 0 where
  pub fit : Fit sought.n sought.d
  pub kernel : Numbered sought.kernel
  pub table_room : sought.d * (sought.n + 1) ≤ length starts / start_bytes
  pub answer_room : answer_bytes ≤ room
  pub walk : Walks (start_in starts sought.n) (sought.d - 1) sought.n
