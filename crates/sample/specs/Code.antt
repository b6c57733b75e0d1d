-- The numbers of a judgement: the reply's code for each case, and the level of a sample that is accepted.
use Rattle.std.specs.Prelude.{ℕ, Ok, Err, Result}
use Rattle.sample.specs.Judge.{Judged}
use Rattle.sample.specs.declared.Fault.{Fault}
use Rattle.sample.specs.declared.Fault.TheVariants.{NotFinite, OutOfRange, NotWhole}
use Rattle.sample.specs.Level.{level}

-- "0 done", "9 share NaN or infinite", "10 sample out of range", "11 share not whole after scaling".
abbrev pub code_of : Judged → ℕ
code_of (Ok x) = 0
code_of (Err NotFinite) = 9
code_of (Err OutOfRange) = 10
code_of (Err NotWhole) = 11

-- x as a level, or what is wrong with it.
abbrev pub level_of : Judged → Result ℕ Fault
level_of (Ok x) = Ok (level x)
level_of (Err f) = Err f
