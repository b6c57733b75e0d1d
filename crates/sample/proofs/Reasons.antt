-- Each refusal of a sample has its reason, and each reason its refusal. Assumes nothing.
use Rattle.std.specs.Prelude.{Ok, Err}
use Prim.Native.Nat.{ℕ, ◌*◌, ◌/◌, ◌%◌, ◌≤◌, ◌<◌}
use mathlib.Core.Path.{◌≡◌, refl, subst}
use mathlib.Core.Bool.{Bool, true, false, cond}
use lib.IntN.{ℤ, nat_abs}
use lib.Dec.{ltb, leb, eqb}
use lib.Ieee.{nan, inf, fin, up, down}
use borrow.Author.Tests.{ltb-true, ltb-false, leb-false, eqb-false, lt-ltb, le-ltb, lt-leb, ne_eqb}
use Rattle.sample.specs.declared.Sample.{Sample}
use Rattle.sample.specs.declared.Sample.TheVariants.{Count, Share}
use Rattle.sample.specs.declared.Fault.TheVariants.{OutOfRange, NotWhole}
use Rattle.sample.specs.Level.{largest, scale}
use Rattle.sample.specs.Judge.{signed, judged_ratio, judged_share, judged_count, judged_of, NanOrInfinite, Outside, Broken}
use Rattle.sample.specs.Code.{code_of}

-- what a code says of a sample
abbrev pub Says : ℕ → Sample → Type 0
Says c s = cond (eqb c 9) (NanOrInfinite s) (cond (eqb c 10) (Outside s) (cond (eqb c 11) (Broken s) (Unit {0})))

ratio_said :
    (s : Bool) (a c : ℕ) (x : Sample) → (largest * c < a → Outside x) → (a ≤ largest * c → (a % c ≡ 0 → ⊥) → Broken x) →
    Says (code_of (judged_ratio s a c)) x
unfolding judged_ratio
ratio_said s a c x out broken = go (ltb (largest * c) a) (eqb (a % c) 0) refl refl
  where
    go :
        (p q : Bool) → ltb (largest * c) a ≡ p → eqb (a % c) 0 ≡ q →
        Says (code_of (cond p (Err OutOfRange) (cond q (Ok (signed s (a / c))) (Err NotWhole)))) x
    go true q h k = out (ltb-true (largest * c) a h)
    go false false h k = broken (ltb-false (largest * c) a h) (eqb-false (a % c) 0 k)
    go false true h k = tt

count_said : (n : ℤ) → Says (code_of (judged_count n)) (Count n)
unfolding judged_count
count_said n = go (leb (nat_abs n) largest) refl
  where
    go : (p : Bool) → leb (nat_abs n) largest ≡ p → Says (code_of (cond p (Ok n) (Err OutOfRange))) (Count n)
    go true x = tt
    go false x = leb-false (nat_abs n) largest x

said : (s : Sample) → Says (code_of (judged_of s)) s
unfolding judged_share
said (Count n) = count_said n
said (Share nan) = tt
said (Share (inf s)) = tt
said (Share (fin s m e)) = ratio_said s (m * up e * scale) (down e) (Share (fin s m e)) (λ h. h) (λ h k. (h, k))

pub says : (s : Sample) (c : ℕ) → code_of (judged_of s) ≡ c → Says c s
says s c e = subst (λ (x : ℕ). Says x s) e (said s)

-- and the other way round
pub if_not_finite : (s : Sample) → NanOrInfinite s → code_of (judged_of s) ≡ 9
unfolding judged_share
if_not_finite (Count n) h = absurd h
if_not_finite (Share nan) h = refl
if_not_finite (Share (inf s)) h = refl
if_not_finite (Share (fin s m e)) h = absurd h

pub if_outside : (s : Sample) → Outside s → code_of (judged_of s) ≡ 10
unfolding judged_count judged_share judged_ratio
if_outside (Count n) h = rw (lt-leb _ _ h)
if_outside (Share nan) h = absurd h
if_outside (Share (inf s)) h = absurd h
if_outside (Share (fin s m e)) h = rw (lt-ltb _ _ h)

pub if_broken : (s : Sample) → Broken s → code_of (judged_of s) ≡ 11
unfolding judged_share judged_ratio
if_broken (Count n) h = absurd h
if_broken (Share nan) h = absurd h
if_broken (Share (inf s)) h = absurd h
if_broken (Share (fin s m e)) h = rw (le-ltb _ _ h.0, ne_eqb _ _ h.1)
