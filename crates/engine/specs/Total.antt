-- "12: a total of units would exceed 9,223,372,036,854,775,807".
use Rattle.std.specs.Prelude.{ℕ, zero, suc, ◌+◌, Bool, false, ◌&&◌, ◌||◌, List, ltb, leb}
use Rattle.record.specs.declared.Asked.{Asked}
use Rattle.record.specs.Body.{observations}
use Rattle.record.specs.Cost.{least_of}

abbrev pub most_total : ℕ
most_total = 9223372036854775807

-- so many observations have no total past it, of four channels
abbrev pub most_totalled : ℕ
most_totalled = 562

-- P holds at an index below n
unfoldable pub some : (ℕ → Bool) → ℕ → Bool
some P zero = false
some P (suc n) = P n || some P n

-- the least cost of the first t observations in k + 1 segments passes it, for some t that has as many and some k below Dmax
abbrev pub exceeds : Asked → List ℕ → Bool
exceeds asked body =
    some (λ k. some (λ t. leb (suc k) t && ltb most_total (least_of asked body (suc k) t)) (observations asked.channels body + 1)) asked.dmax
