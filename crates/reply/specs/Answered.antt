-- All that is promised of the reply to a call, by what the call tries.
use Rattle.std.specs.Prelude.{ℕ, ◌≤◌, ◌<◌, ◌≡◌, true, ◌⊎◌, ◌↔◌, List, ◌∷◌}
use Rattle.reply.specs.declared.Reply.{Reply}
use Rattle.reply.specs.Codes.{among}
use Rattle.reply.specs.Tries.{Tries, first_of, Clear, Refused}

-- "Place is 0 unless stated": for these codes it is an index below n, which is then at most `most`.
abbrev pub Placed : List ℕ → (n most : ℕ) → Reply → Type 0
Placed cs n most r = (r.place ≡ 0) ⊎ ((among r.code cs ≡ true) × ((r.place < n) × (n ≤ most)))

-- A place and no position, which is "0 in every other reply" than those to a wrong body.
abbrev pub PlacedOnly : List ℕ → (n most : ℕ) → Reply → Type 0
PlacedOnly cs n most r = Placed cs n most r × (r.position ≡ 0)

-- r answers the tries, whose replies have codes of cs, and has the property P, which says what places and positions there are.
pub record Answered (cs : List ℕ) (P : Reply → Type 0) (ts : Tries) (r : Reply) : Type 0 where
  -- the tries and nothing else decide
  pub decided : r ≡ first_of ts
  -- "where none does, the reply is 0": it is 0 exactly where no fact that is tried holds
  pub accepted : (r.code ≡ 0) ↔ Clear ts
  -- "A refusal is given only where its stated reason holds": it is a refusal exactly for the first fact that does
  pub refused : (s : Reply) → (s.code ≡ 0 → ⊥) → (r ≡ s) ↔ Refused ts s
  -- "a numbered reply": 0, or one of the codes, each of which fits a byte
  pub numbered : among r.code (0 ∷ cs) ≡ true
  pub small : r.code < 256
  pub placed : P r
