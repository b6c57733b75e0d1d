-- The reasons of the scope's table, by number, and the reply of a call by what it answers.
use Rattle.std.specs.Prelude.{ℕ, Result, Ok, Err}
use Rattle.reply.specs.declared.Refusal.{Refusal}
use Rattle.reply.specs.declared.Reply.{Reply}
use Rattle.reply.specs.declared.Reason.{Reason}
use Rattle.reply.specs.declared.Reason.TheVariants.{NoObservations, TooManyObservations, ObservationCutShort, SegmentsOutOfRange, SegmentsExceedN, UnknownKernel, LentTooShort, DayNotAbove, ShareNotFinite, SampleOutOfRange, ShareNotWhole, TotalTooLarge, NoWalk, NoStretch, FileTooShort, RecordCount, BodyMisplaced, TermNotAbove, UnknownKind, BytesLeftOver, FileTooLong, OutputTooShort, BodyPastEnd, ChannelCount}
use Rattle.reply.specs.Reply.{refusal_at, done}

-- "| code | when |"
abbrev pub number_of : Reason → ℕ
number_of NoObservations = 1
number_of TooManyObservations = 2
number_of ObservationCutShort = 3
number_of SegmentsOutOfRange = 4
number_of SegmentsExceedN = 5
number_of UnknownKernel = 6
number_of LentTooShort = 7
number_of DayNotAbove = 8
number_of ShareNotFinite = 9
number_of SampleOutOfRange = 10
number_of ShareNotWhole = 11
number_of TotalTooLarge = 12
number_of NoWalk = 13
number_of NoStretch = 14
number_of FileTooShort = 20
number_of RecordCount = 21
number_of BodyMisplaced = 22
number_of TermNotAbove = 23
number_of UnknownKind = 24
number_of BytesLeftOver = 25
number_of FileTooLong = 26
number_of OutputTooShort = 27
number_of BodyPastEnd = 28
number_of ChannelCount = 29

-- the number of what a call tells from numbers and lengths alone: 0 where there is no reason to refuse
abbrev pub code_in : {T : Type 0} → Result T Reason → ℕ
code_in (Ok x) = 0
code_in (Err r) = number_of r

-- "Every refusal gives the code, a place": a refusal in numbers.
abbrev pub told : Refusal → Reply
told f = refusal_at (number_of f.reason) f.place f.position

-- The reply of a call that answers so: "where none does, the reply is 0."
abbrev pub reply_of : {T : Type 0} → Result T Refusal → Reply
reply_of (Ok x) = done
reply_of (Err f) = told f
