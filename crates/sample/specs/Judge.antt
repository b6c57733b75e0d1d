-- What a sample is judged to be: the whole number x that it stands for, or why there is none.
-- A finite share `fin s m e` is the number m * 2 ^ e, negative where s is true (`Rattle.std.specs.Float`); 2 ^ e is the fraction up e / down e.
-- No floating operation is used.
use Rattle.std.specs.Prelude.{ℕ, ◌*◌, ◌/◌, ◌%◌, ◌≤◌, ◌<◌, ◌≡◌, Bool, cond, ltb, leb, eqb, ℤ, pos, neg_ℤ, nat_abs, Float, Ok, Err, Result}
use Rattle.std.specs.Float.{nan, inf, fin}
use Rattle.std.specs.Float.Ieee.{up, down}
use Rattle.sample.specs.Level.{largest, scale}
use Rattle.sample.specs.declared.Sample.{Sample}
use Rattle.sample.specs.declared.Sample.TheVariants.{Count, Share}
use Rattle.sample.specs.declared.Fault.{Fault}
use Rattle.sample.specs.declared.Fault.TheVariants.{NotFinite, OutOfRange, NotWhole}

-- What a sample is judged to be: the whole number x, or what is wrong with it.
abbrev pub Judged : Type 0
Judged = Result ℤ Fault

-- The number of size n, negative where s is true: "Both zeros become 0."
abbrev pub signed : Bool → ℕ → ℤ
signed s n = cond s (neg_ℤ (pos n)) (pos n)

-- The x of size a / c, negative where s is true: "Range is judged before wholeness".
unfoldable pub judged_ratio : Bool → ℕ → ℕ → Judged
judged_ratio s a c = cond (ltb (largest * c) a) (Err OutOfRange) (cond (eqb (a % c) 0) (Ok (signed s (a / c))) (Err NotWhole))

-- "A share v becomes x = 65,536 times v, accepted only if that is whole and in range."; "NaN, either infinity: refused, 9".
unfoldable pub judged_share : Float → Judged
judged_share nan = Err NotFinite
judged_share (inf s) = Err NotFinite
judged_share (fin s m e) = judged_ratio s (m * up e * scale) (down e)

-- A count stands for itself, and is in range (`InRange`) or not.
unfoldable pub judged_count : ℤ → Judged
judged_count n = cond (leb (nat_abs n) largest) (Ok n) (Err OutOfRange)

-- "Each sample arrives either as a signed count or as a 64-bit floating share."
abbrev pub judged_of : Sample → Judged
judged_of (Count n) = judged_count n
judged_of (Share v) = judged_share v

-- The reasons of the refusals: "9: share NaN or infinite",
abbrev pub NanOrInfinite : Sample → Type 0
NanOrInfinite (Count n) = ⊥
NanOrInfinite (Share nan) = Unit {0}
NanOrInfinite (Share (inf s)) = Unit {0}
NanOrInfinite (Share (fin s m e)) = ⊥

-- "10: sample out of range",
abbrev pub Outside : Sample → Type 0
Outside (Count n) = largest < nat_abs n
Outside (Share nan) = ⊥
Outside (Share (inf s)) = ⊥
Outside (Share (fin s m e)) = largest * down e < m * up e * scale

-- "11: share not whole after scaling", which only a share in range is tried for.
abbrev pub Broken : Sample → Type 0
Broken (Count n) = ⊥
Broken (Share nan) = ⊥
Broken (Share (inf s)) = ⊥
Broken (Share (fin s m e)) = (m * up e * scale ≤ largest * down e) × (m * up e * scale % down e ≡ 0 → ⊥)
