-- `segment::Accepted::summaries` meets its contract. The loop's invariant: the places below c hold their channels' summaries, and the others none.
-- Assumes nothing.
use Rattle.std.proofs.Common.{ℕ, ◌≡◌, length, get_or}
use Rattle.kernel.specs.Limits.{most_channels}
use Rattle.record.specs.Body.{samples}
use Rattle.segment.specs.Summary.{summary_of, no_summary}
use Rattle.segment.proofs.Places.{filled}
use Rattle.segment.proofs.Accepted.summaries.Given as goal

abbrev pub invariant-loop-c : goal.invariant-loop-c
invariant-loop-c l =
    let r = l.self.record.now in
    let of = summary_of r.asked.channels (samples r.asked.channels r.body.now) l.self.first.0 l.self.len in
    (length l.summaries ≡ most_channels) × ((j : ℕ) → get_or l.summaries j no_summary ≡ filled of no_summary l.c j)
