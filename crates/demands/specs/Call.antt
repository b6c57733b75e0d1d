-- A solve as its caller sees it: what is asked and lent, and what is left. The contract of `engine::solve` says that its reply is `reply_to`, and
-- that the lent tables are `costs_now` and `starts_now` on return.
use Rattle.std.specs.Prelude.{ℕ, ◌≡◌, List, length, ℤ}
use Rattle.kernel.specs.declared.Kernel.{Kernel}
use Rattle.recurrence.specs.Tables as tables
use Rattle.reply.specs.declared.Reply.{Reply}
use Rattle.record.specs.declared.Asked.{Asked}
use Rattle.record.specs.Channels.{kernels_of}
use Rattle.record.specs.Body.{observations, samples}
use Rattle.record.specs.Cost.{cost_of}
use Rattle.engine.specs.Solve.{solve_reply, costs_left, starts_left}

-- "There a record is a file body's bytes", with its channels and a count of segments: what is asked of it, its body, and the two tables as they are lent.
pub record Call : Type 0 where
  pub asked : Asked
  pub body : List ℕ
  pub costs : List ℕ
  pub starts : List ℕ

abbrev pub reply_to : Call → Reply
reply_to q = solve_reply q.asked q.body (length q.costs) (length q.starts)

abbrev pub costs_now : Call → List ℕ
costs_now q = costs_left q.asked q.body q.costs q.starts

abbrev pub starts_now : Call → List ℕ
starts_now q = starts_left q.asked q.body q.costs q.starts

-- "where none does, the reply is 0"
abbrev pub Solved : Call → Type 0
Solved q = (reply_to q).code ≡ 0

-- n, how many channels there are and their kernels, each day's sample as "the list of its channels' numbers", and the cost in units of the segment s .. t - 1
abbrev pub days : Call → ℕ
days q = observations q.asked.channels q.body

abbrev pub width : Call → ℕ
width q = q.asked.channels.count

abbrev pub kernels : Call → List Kernel
kernels q = kernels_of q.asked.channels

abbrev pub numbers : Call → List (List ℤ)
numbers q = samples q.asked.channels q.body

abbrev pub weight : Call → ℕ → ℕ → ℕ
weight q = cost_of q.asked q.body

-- what stands in row D and column t of the tables on return
abbrev pub cost_entry : Call → (D t : ℕ) → ℕ
cost_entry q = tables.cost_entry (days q) (costs_now q)

abbrev pub start_entry : Call → (D t : ℕ) → ℕ
start_entry q = tables.start_entry (days q) (starts_now q)

-- "the reported cost": that of all n observations in D segments
abbrev pub reported : Call → ℕ → ℕ
reported q D = cost_entry q D (days q)
