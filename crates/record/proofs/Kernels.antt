-- A kernel's number: what is tried of it is whether it names a kernel.
use Rattle.std.proofs.Common.{◌≡◌, ℕ, ◌≤◌, Option, Some, None, Result, arith, refl}
use Rattle.std.specs.Prelude.{ok_or}
use mathlib.Core.Logic.{⊎_elim}
use Rattle.kernel.specs.declared.Kernel.{Kernel}
use Rattle.kernel.specs.declared.Kernel.TheVariants.{Linear, Spelling, Energy}
use Rattle.kernel.specs.Kernel.{number_of, named_of}
use Rattle.kernel.proofs.Number.{number_named, known_number}
use Rattle.reply.specs.declared.Reason.{Reason}
use Rattle.reply.specs.declared.Reason.TheVariants.{UnknownKernel}
use Rattle.reply.specs.Reply.{refusal}
use Rattle.reply.specs.Refusal.{code_in}
use Rattle.reply.specs.Facts.{◌is◌, ◌or◌, ◌is_above◌}
use Rattle.reply.specs.Tries.{first_of}
use Rattle.reply.proofs.Facts.{decide}
use Rattle.reply.proofs.Answers.{last_holds, last_fails}
use Rattle.record.specs.Limits.{most_kernel}
use Rattle.record.specs.Tries.{kernel_tries}

-- a kernel's number is one of the three
one_of_three : (k : Kernel) → (1 ≤ number_of k) × (number_of k ≤ most_kernel)
one_of_three Linear = (omega arith, omega arith)
one_of_three Spelling = (omega arith, omega arith)
one_of_three Energy = (omega arith, omega arith)

module _ (n : ℕ) where
  told_as : (v : Option Kernel) → named_of n ≡ v → refusal (code_in (ok_or v UnknownKernel)) 0 ≡ first_of (kernel_tries n)
  told_as (Some k) e =
      let same = number_named n k e in
      let bounds = one_of_three k in
      last_fails (n is 0 or n is_above most_kernel) _ (λ z. omega arith, omega arith)
  told_as None e =
      ⊎_elim (last_holds _ _)
      (λ g.
      let some = known_number n (let h = g.0 in omega arith) g.1 in
      let z : ◌≡◌ {A = ℕ} 0 1 = cc (some.1) in absurd (omega arith))
      (decide (n is 0 or n is_above most_kernel))

pub told_kernel : (n : ℕ) (r : Result Kernel Reason) → r ≡ ok_or (named_of n) UnknownKernel → refusal (code_in r) 0 ≡ first_of (kernel_tries n)
told_kernel n r e = rw e (told_as n (named_of n) refl)
