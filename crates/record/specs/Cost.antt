-- What a record's segments cost, and its least cost and chosen cutting for each number of segments.
use Rattle.std.specs.Prelude.{ℕ, List, ℤ}
use Rattle.cutting.specs.Limits.{least_length}
use Rattle.cutting.specs.Cutting.{Cutting, Choice}
use Rattle.cutting.specs.Recurrence.{least_in, chosen_in}
use Rattle.kernel.specs.Channels.{channels}
use Rattle.kernel.specs.Cost.{cost}
use Rattle.record.specs.declared.Asked.{Asked}
use Rattle.record.specs.declared.channels.Channels.{Channels}
use Rattle.record.specs.Channels.{kernels_of}
use Rattle.record.specs.Body.{samples}

-- the segment cost of days under channels: the cost in units of those from s to t - 1, by "the sum over channels" of their kernels
abbrev pub cost_under : Channels → List (List ℤ) → ℕ → ℕ → ℕ
cost_under ch xs = cost (channels (kernels_of ch)) xs

-- the segment cost of a record
abbrev pub cost_of : Asked → List ℕ → ℕ → ℕ → ℕ
cost_of asked body = cost_under asked.channels (samples asked.channels body)

-- how many observations a segment has at least
abbrev pub shortest : Asked → ℕ
shortest asked = least_length

-- "A cutting into D segments is the list of its segments' first indices; the first is 0 and every segment is nonempty.", of the first t
abbrev pub CuttingOf : Asked → (D t : ℕ) → List ℕ → Type 0
CuttingOf asked = Cutting (shortest asked) 0

-- "Among least-cost cuttings, take the one whose last segment starts earliest; then .. the one whose segment before it starts earliest; and so on."
abbrev pub ChoiceOf : Asked → List ℕ → (D t : ℕ) → List ℕ → Type 0
ChoiceOf asked body = Choice (cost_of asked body) (shortest asked) 0

-- the least cost of the first t observations in D segments, and the cutting that is chosen among those that have it
abbrev pub least_of : Asked → List ℕ → (D t : ℕ) → ℕ
least_of asked body = least_in (cost_of asked body) (shortest asked) 0

abbrev pub chosen_of : Asked → List ℕ → (D t : ℕ) → List ℕ
chosen_of asked body = chosen_in (cost_of asked body) (shortest asked) 0
