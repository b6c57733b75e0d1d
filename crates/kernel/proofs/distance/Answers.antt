-- `kernel::distance` meets its contract. Assumes nothing.
use borrow.Author.Tests.{eq-eqb, ne_eqb}
use mathlib.Core.Path.{◌≡◌}
use mathlib.Core.Bool.{true, false}
use Prim.Native.Nat.{ℕ}
use lib.Dec.{eqb}
use native.Mathlib.Omega.{arith}
use Rattle.kernel.specs.Kernel.{dist, far}
use Rattle.kernel.proofs.distance.Goals as goal

-- two levels are equal just where they lie 0 apart
equal : (u v : ℕ) → u ≡ v → eqb (far u v) 0 ≡ true
equal u v h = eq-eqb (far u v) 0 (omega arith)

unequal : (u v : ℕ) → (u ≡ v → ⊥) → eqb (far u v) 0 ≡ false
unequal u v h = ne_eqb (far u v) 0 λ e. h (omega arith)

pub returns-in-Linear : goal.returns-in-Linear
unfolding dist
returns-in-Linear c = cc

pub returns-then-u-v : goal.returns-then-u-v
unfolding dist
returns-then-u-v c = rw (c.in-Spelling.is, equal _ _ c.if-u-v.true)

pub returns-else-u-v : goal.returns-else-u-v
unfolding dist
returns-else-u-v c = rw (c.in-Spelling.is, unequal _ _ c.if-u-v.false)

pub returns-in-Energy : goal.returns-in-Energy
unfolding dist
returns-in-Energy c = cc
