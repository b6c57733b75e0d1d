-- `segment::Accepted::kernel` meets its contract: every channel's kernel is one of the three.
use Rattle.std.specs.Prelude.{ok_or}
use Rattle.std.proofs.Common.{◌≡◌, ◌∙◌, ap, refl, Option, Some, None, Result, Ok}
use Rattle.kernel.specs.declared.Kernel.{Kernel}
use Rattle.kernel.specs.Kernel.{named_of}
use Rattle.kernel.proofs.Number.{known_number}
use Rattle.reply.specs.declared.Reason.{Reason}
use Rattle.reply.specs.declared.Reason.TheVariants.{UnknownKernel}
use Rattle.record.specs.Accepted.{Numbered}
use Rattle.segment.proofs.Accepted.kernel.Goals as goal

-- a kernel that is named is found, and is the one that is named
found : (v : Option Kernel) (r : Result Kernel Reason) (k : Kernel) → r ≡ ok_or v UnknownKernel → v ≡ Some k → r ≡ Ok k
found v r k e n = e ∙ ap (λ (w : Option Kernel). ok_or w UnknownKernel) n

named : (v : Option Kernel) (r : Result Kernel Reason) (k : Kernel) → r ≡ ok_or v UnknownKernel → r ≡ Ok k → v ≡ Some k
named (Some j) r k e h = cc
named None r k e h = absurd cc

pub unwrap-requires : goal.unwrap-requires
unwrap-requires c =
    let n : Numbered c.kernel.result = rw c.kernel.ensures.0 (c.args.self.now.accepted.kernels c.args.channel c.requires) in
    let k = known_number c.kernel.result n.some_kernel n.known_kernel in
    rw (found (named_of c.kernel.result) c.try_from.result k.0 c.try_from.ensures k.1) refl

pub returns : goal.returns
returns c = rw (← (c.kernel.ensures.0)) (named (named_of c.kernel.result) c.try_from.result _ c.try_from.ensures c.unwrap.ensures)
