-- What a solve promises of its reply, for all that is asked. Assumes nothing.
use Prim.Native.Nat.{ℕ, ◌≤◌}
use mathlib.Core.Path.{◌≡◌, refl, sym, ◌∙◌}
use mathlib.Core.Bool.{false}
use mathlib.Core.Logic.{inl, inr, ⊎_elim, ◌↔◌}
use mathlib.Core.List.{List, ◌∷◌}
use Rattle.cutting.specs.Limits.{most_observations}
use Rattle.reply.specs.Reply.{done}
use Rattle.reply.specs.Codes.{among}
use Rattle.reply.specs.Tries.{first_of, Coded, Within, Every}
use Rattle.reply.specs.Answered.{Answered, PlacedOnly}
use Rattle.reply.proofs.Exactly.{told, some_code, clear_done, refused_gives, answered, not_among}
use Rattle.reply.proofs.Answers.{last_fails, past, placed}
use Rattle.record.specs.declared.Asked.{Asked}
use Rattle.record.specs.Body.{observations}
use Rattle.record.specs.Tries.{index_codes}
use Rattle.engine.specs.Total.{exceeds}
use Rattle.engine.specs.Solve.{solve_tries, given_tries, solve_codes, solve_reply}
use Rattle.engine.specs.Accepted.{Accepted}
use Rattle.engine.proofs.Limit as limit
use Rattle.engine.proofs.Accepted as accept

module _ (asked : Asked) (body : List ℕ) (costs starts : ℕ) where
  given_coded : Coded (given_tries asked body costs starts)
  given_coded = search depth 20

  -- 12 is tried last, and its reason does not hold where all else is clear
  given_all : solve_reply asked body costs starts ≡ first_of (given_tries asked body costs starts)
  unfolding solve_reply
  given_all =
      ⊎_elim
      (λ h.
      sym (past _ _ done h.0 (past _ _ done h.1 (last_fails _ _ (accept.no_total asked body costs starts h.0 h.1))))
      ∙ sym (clear_done (given_tries asked body costs starts) h))
      (λ r.
      refused_gives (solve_tries asked body costs starts) _ (some_code (given_tries asked body costs starts) given_coded _ r)
      (⊎_elim inl (λ p. inr (p.0, inl p.1)) r))
      (told (given_tries asked body costs starts) given_coded)

  -- "A refusal is given only where its stated reason holds; where none does, the reply is 0." "For a record: 3, then 1, 2, 4, 5, 6, 7, then 8 over all
  -- indices, then samples by index, where one sample is tried for 9, 10, 11.", 29 and 24 before them. "place is the later index", "place is its index", and "0 unless stated".
  pub solve_answered :
      Answered solve_codes (PlacedOnly index_codes (observations asked.channels body) most_observations) (given_tries asked body costs starts)
      (solve_reply asked body costs starts)
  unfolding among
  solve_answered =
      let within : Within solve_codes (given_tries asked body costs starts) = search depth 20 in
      let places : Every (PlacedOnly index_codes (observations asked.channels body) most_observations) (given_tries asked body costs starts) = (
        search placed depth 20,
        λ shape. let few : observations asked.channels body ≤ most_observations = shape.1.0.0.1 in search placed depth 20,
      ) in
      rw given_all (answered solve_codes (PlacedOnly index_codes (observations asked.channels body) most_observations) (given_tries asked body costs starts) given_coded within (inl refl, refl) places)

  -- It is 0 exactly for a record that is `Accepted`.
  pub solve_accepted : ((solve_reply asked body costs starts).code ≡ 0) ↔ Accepted asked body costs starts
  solve_accepted = accept.accepted asked body costs starts

  -- 12: its reason never holds where all else is fit, and it is never given.
  pub never_exceeds : Accepted asked body costs starts → exceeds asked body ≡ false
  never_exceeds a = limit.never_exceeds asked body (accept.few_channels a) a.fit.count.few_days (accept.all_whole a)

  pub never_12 : (solve_reply asked body costs starts).code ≡ 12 → ⊥
  unfolding among
  never_12 = not_among 12 (solve_reply asked body costs starts).code (0 ∷ solve_codes) refl solve_answered.numbered
