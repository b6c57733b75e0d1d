-- A record is accepted exactly where it is `Accepted`, and 12 is never given. Assumes nothing.
use Prim.Native.Nat.{ℕ, ◌+◌, ◌*◌, ◌≤◌}
use mathlib.Core.Path.{◌≡◌, refl, ◌∙◌}
use mathlib.Core.Bool.{false, cond}
use mathlib.Core.Logic.{◌↔◌}
use mathlib.Core.List.{List}
use native.Mathlib.Nat.{mul-le-mul}
use native.Mathlib.Omega.{arith}
use lib.Dec.{ltb}
use lib.ListN.{length}
use borrow.Author.Tests.{le-ltb}
use Rattle.cutting.specs.Limits.{most_observations, cost_bytes, start_bytes}
use Rattle.kernel.specs.Limits.{most_channels}
use Rattle.reply.specs.Reply.{done}
use Rattle.reply.specs.Tries.{Clear, Coded, first_of}
use Rattle.reply.proofs.Exactly.{accepted_iff, passed}
use Rattle.reply.proofs.Answers.{last_fails, past}
use Rattle.record.specs.declared.Asked.{Asked}
use Rattle.record.specs.Body.{observations}
use Rattle.record.specs.Accepted.{Channeled, Fit, AllWhole}
use Rattle.record.specs.Tries.{data_tries}
use Rattle.record.proofs.Accepted.{lent, fit, all_numbered}
use Rattle.record.proofs.Whole.{data_whole, whole_sampled, sampled_clear, sampled_whole}
use Rattle.engine.specs.Total.{most_totalled, exceeds}
use Rattle.engine.specs.Solve.{shape_tries, solve_tries, solve_reply}
use Rattle.engine.specs.Accepted.{Accepted}
use Rattle.engine.proofs.Limit.{never_exceeds}

module _ (asked : Asked) (body : List ℕ) (costs starts : ℕ) where
  abbrev n : ℕ
  n = observations asked.channels body

  -- what passes the tries on numbers and lengths, and on the observations
  module _ (shape : Clear (shape_tries asked (length body) costs starts)) (rest : Clear (data_tries asked.channels body n)) where
    shape_channels : Channeled asked.channels
    shape_channels = ((lent asked.channels (length body)).0 shape.0).channeled

    shape_fit : Fit n asked.dmax
    shape_fit = (fit n asked.dmax).0 shape.1.0

    pub no_total : exceeds asked body ≡ false
    no_total = never_exceeds asked body shape_channels.few_channels shape_fit.count.few_days (data_whole asked.channels body rest)

    passed_accepted : Accepted asked body costs starts
    passed_accepted = record {
      lent = (lent asked.channels (length body)).0 shape.0;
      fit = shape_fit;
      kernels = (all_numbered asked.channels).0 shape.1.1.0;
      costs_room = shape.1.1.1.0;
      starts_room = shape.1.1.1.1;
      rising = rest.0;
      whole = whole_sampled asked.channels body (data_whole asked.channels body rest);
    }

    -- the code's own test for 12, which the bound on each observation gives, agrees
    pub never_total : (code : ℕ) → code ≡ cond (ltb most_totalled n) 12 0 → code ≡ 0
    never_total code e = let few = shape_fit.count.few_days in e ∙ rw (le-ltb most_totalled n (omega arith))

    pub last_try : done ≡ solve_reply asked body costs starts
    unfolding solve_reply
    last_try =
        past (shape_tries asked (length body) costs starts) _ done shape
        (past (data_tries asked.channels body n) _ done rest (last_fails _ _ no_total))

  pub solve_coded : Coded (solve_tries asked body costs starts)
  solve_coded = search depth 20

  pub clear_accepted : Clear (solve_tries asked body costs starts) ↔ Accepted asked body costs starts
  clear_accepted = (
    λ h. passed_accepted h.0 h.1.0,
    λ a.
        let days = sampled_clear asked.channels body a.rising a.whole in
        let few = a.fit.count.few_days in (
          (
            (lent asked.channels (length body)).1 a.lent,
            ((fit n asked.dmax).1 a.fit, ((all_numbered asked.channels).1 a.kernels, (a.costs_room, a.starts_room))),
          ),
          (days, never_exceeds asked body a.lent.channeled.few_channels few (data_whole asked.channels body days)),
        ),
  )

  pub accepted : ((solve_reply asked body costs starts).code ≡ 0) ↔ Accepted asked body costs starts
  unfolding solve_reply
  accepted =
      let iff = accepted_iff (solve_tries asked body costs starts) solve_coded in
      (λ z. clear_accepted.0 (iff.0 z), λ a. iff.1 (clear_accepted.1 a))

-- ---- what is done is clear
pub shape_clear : (asked : Asked) (bytes costs starts : ℕ) → done ≡ first_of (shape_tries asked bytes costs starts) → Clear (shape_tries asked bytes costs starts)
shape_clear asked bytes costs starts e = passed (shape_tries asked bytes costs starts) (search depth 20) done e refl

pub data_clear : (asked : Asked) (body : List ℕ) (n : ℕ) → done ≡ first_of (data_tries asked.channels body n) → Clear (data_tries asked.channels body n)
data_clear asked body n e = passed (data_tries asked.channels body n) (search depth 20) done e refl

-- ---- what an accepted record has
module _ {asked : Asked} {body : List ℕ} {costs starts : ℕ} (a : Accepted asked body costs starts) where
  pub all_whole : AllWhole asked.channels body
  all_whole = sampled_whole asked.channels body a.whole

  pub few_channels : asked.channels.count ≤ most_channels
  few_channels = a.lent.channeled.few_channels

  -- room for the tables, in bytes
  pub costs_space : cost_bytes * (asked.dmax * (observations asked.channels body + 1)) ≤ costs
  costs_space = omega (arith, a.costs_room)

  pub starts_space : start_bytes * (asked.dmax * (observations asked.channels body + 1)) ≤ starts
  starts_space = omega (arith, a.starts_room)

  -- its levels are no more than those of four channels of 400 days
  pub levels_few : observations asked.channels body * asked.channels.count ≤ most_observations * most_channels
  levels_few =
      mul-le-mul {n₁ = observations asked.channels body} {m₁ = asked.channels.count} {n₂ = most_observations} {m₂ = most_channels}
      a.fit.count.few_days few_channels
