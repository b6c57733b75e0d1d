-- `segment::Accepted::summary` meets its contract.
use Rattle.std.proofs.Common.{◌≤◌, ◌≡◌, ℕ, sym, ap, ◌∙◌, subst, Some, true, false, eqb, arith}
use lib.IntN.{ℤ, nat_abs}
use lib.Ieee.{of_bits}
use mir.Syntax.{w64}
use mir.Val.{SFits, to_z, of_z}
use mir.ValLaws.{to_z-of_z}
use borrow.Author.Tests.{eq-eqb, ne_eqb}
use Rattle.kernel.specs.declared.Kernel.{Kernel}
use Rattle.kernel.specs.declared.Kernel.TheVariants.{Spelling}
use Rattle.kernel.specs.Kernel.{number_of, named_of}
use Rattle.kernel.proofs.Number.{number_named, named_number}
use Rattle.segment.specs.Summary.{most_sum, mean_of, summary_of}
use Rattle.segment.proofs.Sum.{sum_small}
use Rattle.segment.proofs.Accepted.summary.Goals as goal

-- the number that comes back is the sum
back : (z t : ℤ) → SFits w64 z → z ≡ t → to_z w64 (of_z w64 z) ≡ t
back z t fits e = to_z-of_z w64 z fits ∙ e

-- a kernel is the spelling kernel just where its number is 2
spelling : (n : ℕ) (k : Kernel) → named_of n ≡ Some k → k ≡ Spelling → eqb n 2 ≡ true
spelling n k e s = eq-eqb n 2 (number_named n k e ∙ ap number_of s)

other : (n : ℕ) (k : Kernel) → named_of n ≡ Some k → (k ≡ Spelling → ⊥) → eqb n 2 ≡ false
other n k e not = ne_eqb n 2 (λ z. not (let s : Some k ≡ Some Spelling = sym e ∙ ap named_of z ∙ named_number Spelling in cc))

pub returns-in-Spelling : goal.returns-in-Spelling
unfolding summary_of of_bits
returns-in-Spelling c = rw (spelling _ _ c.kernel.ensures c.in-Spelling.is)

pub mean_of-mean-requires : goal.mean_of-mean-requires
mean_of-mean-requires c =
    let t = c.args.self.now.accepted.stretch in
    let is = back c.sum-sum.result _ (record { sfits = c.sum-sum.type_inv }) c.sum-sum.ensures in (
      subst (λ (z : ℤ). nat_abs z ≤ most_sum) (sym is) (sum_small _ _ _ _ t _ c.requires),
      omega (arith, t.within, t.few),
    )

pub returns : goal.returns
unfolding summary_of
returns c =
    let a = c.args.self.now in
    let total = back c.sum-sum.result _ (record { sfits = c.sum-sum.type_inv }) c.sum-sum.ensures in
    let mean = c.mean_of-mean.ensures ∙ ap (λ (z : ℤ). mean_of z a.len) total in
    rw (other _ _ c.kernel.ensures c.in_default.not-Spelling)
    (λ i. record { first = a.first; len = a.len; sum = total i; mean = mean i })
