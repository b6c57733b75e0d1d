-- What reading cuts promises, for all that is sought. Assumes nothing.
use Rattle.std.specs.Prelude.{Some, None}
use Prim.Native.Nat.{ℕ}
use mathlib.Core.Path.{◌≡◌, refl, sym}
use mathlib.Core.Logic.{◌↔◌}
use mathlib.Core.List.{List}
use native.Mathlib.Omega.{arith}
use lib.ListN.{length}
use Rattle.kernel.specs.declared.Kernel.{Kernel}
use Rattle.kernel.specs.declared.Kernel.TheVariants.{Linear, Spelling, Energy}
use Rattle.reply.specs.Codes.{among}
use Rattle.reply.specs.Tries.{Within, Every}
use Rattle.reply.specs.Answered.{Answered}
use Rattle.reply.proofs.First.{if_refused}
use Rattle.reply.proofs.Exactly.{answered}
use Rattle.walk.specs.declared.Sought.{Sought}
use Rattle.walk.specs.Answer.{Bare, carried_number, cuts_tries, cuts_codes, cuts_reply, refused_answer, answer_of, out_left}
use Rattle.walk.specs.Accepted.{CutsAccepted}
use Rattle.walk.proofs.Answers as answers

-- "'no kernel', told apart from all three"
pub no_kernel_apart : (k : Kernel) → carried_number (Some k) ≡ carried_number None → ⊥
no_kernel_apart Linear e = omega arith
no_kernel_apart Spelling e = omega arith
no_kernel_apart Energy e = omega arith

module _ (sought : Sought) (starts : List ℕ) (room : ℕ) where
  -- "Reading cuts is given n, D and the kernel, and tries 1, 2, 4, 5, 6, 7, 13, with D for Dmax in each." Its places are 0.
  pub cuts_answered : Answered cuts_codes Bare (cuts_tries sought starts room) (answer_of sought starts room).reply
  unfolding among answer_of cuts_reply
  cuts_answered =
      let within : Within cuts_codes (cuts_tries sought starts room) = search depth 20 in
      let bare : Every Bare (cuts_tries sought starts room) = search depth 20 in
      answered cuts_codes Bare (cuts_tries sought starts room) (answers.cuts_coded sought starts room) within refl bare

  -- The reply is 0 exactly for a table that is `CutsAccepted`.
  pub cuts_accepted : ((answer_of sought starts room).reply.code ≡ 0) ↔ CutsAccepted sought starts room
  cuts_accepted = answers.accepted sought starts room

  -- "A refused answer carries "no kernel" .. and 12 zeros."
  pub refused_zeros :
      ((answer_of sought starts room).reply.code ≡ 0 → ⊥) →
      answer_of sought starts room ≡ refused_answer (answer_of sought starts room).reply.code
  unfolding answer_of
  refused_zeros h = sym (answers.answer_refused sought starts (cuts_reply sought starts room) _ (sym cuts_answered.placed) h)

-- "Every refusal .. writes nothing lent."
pub nothing_read :
    (sought : Sought) (starts out : List ℕ) → ((answer_of sought starts (length out)).reply.code ≡ 0 → ⊥) → out_left sought starts out ≡ out
unfolding out_left answer_of
nothing_read sought starts out h = if_refused (cuts_reply sought starts (length out)) _ _ h
