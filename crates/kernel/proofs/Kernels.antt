-- The three kernels are lawful. The distance that each gives is a function of the gap |x - y| alone.
-- Assumes nothing.
use mathlib.Core.Path.{◌≡◌, refl, sym, ap, ap₂, ◌∙◌}
use mathlib.Core.Bool.{Bool, true, false, cond}
use mathlib.Core.List.{List, [], ◌∷◌}
use Prim.Native.Nat.{ℕ, suc, ◌+◌, ◌*◌, ◌-◌, ◌/◌}
use native.Mathlib.Omega.{arith}
use lib.Dec.{eqb}
use lib.IntN.{ℤ, pos, negsuc, nat_abs, ◌+ℤ◌, ◌-ℤ◌, ◌*ℤ◌, *ℤ_comm, *ℤ-zero}
use borrow.Author.Tests.{eqb-true, eqb-false, eq-eqb, ne_eqb}
use Rattle.kernel.specs.declared.Kernel.{Kernel}
use Rattle.kernel.specs.declared.Kernel.TheVariants.{Linear, Spelling, Energy}
use Rattle.kernel.specs.Cost.{sum_z, B}
use Rattle.kernel.specs.Kernel.{eq_z, overlap, half, kernel, gap, far, dist, own}
use Rattle.kernel.specs.Pairs.{δ, sum}
use Rattle.kernel.proofs.Diff.{up, dn, ⊖-eq, view, pos-⊖, nat_abs-⊖, diff}
use Rattle.kernel.proofs.Law.{Law}
use Rattle.kernel.proofs.Sums.{sum_z_cong, sum_z_pos}

-- the gap in naturals
pub gap_parts : (x y : ℤ) → gap x y ≡ far (up x + dn y) (dn x + up y)
gap_parts x y = ap₂ gap (view x) (view y) ∙ simp (diff, nat_abs-⊖)

pub gap_sym : (x y : ℤ) → gap x y ≡ gap y x
gap_sym x y = omega (arith, gap_parts x y, gap_parts y x)

pub gap_self : (x : ℤ) → gap x x ≡ 0
gap_self x = omega (arith, gap_parts x x)

pub gap_origin : (y : ℤ) → gap (pos 0) y ≡ nat_abs y
gap_origin (pos b) = omega (arith, gap_parts (pos 0) (pos b))
gap_origin (negsuc b) = omega (arith, gap_parts (pos 0) (negsuc b))

pub gap_zero : (x y : ℤ) → gap x y ≡ 0 → x ≡ y
gap_zero x y h = view x ∙ ⊖-eq (up x) (dn x) (up y) (dn y) (omega (arith, gap_parts x y)) ∙ sym (view y)

-- ---- kernel 1
square : (z : ℤ) → z *ℤ z ≡ pos (nat_abs z * nat_abs z)
square (pos n) = refl
square (negsuc n) = refl

linear : (x y : ℤ) → x *ℤ x +ℤ y *ℤ y -ℤ pos 2 *ℤ (x *ℤ y) ≡ (x -ℤ y) *ℤ (x -ℤ y)
linear x y = rw (view x, view y) (simp diff (⊖-eq _ _ _ _ (omega arith)))

-- ---- kernel 2
-- two tests that agree
pub agree : (a b c d : ℕ) → (a ≡ b → c ≡ d) → (c ≡ d → a ≡ b) → eqb a b ≡ eqb c d
agree a b c d f g = go (eqb a b) refl
  where
    go : (t : Bool) → eqb a b ≡ t → t ≡ eqb c d
    go true e = sym (eq-eqb c d (f (eqb-true a b e)))
    go false e = sym (ne_eqb c d (λ h. eqb-false a b e (g h)))

pub eq_z_gap : (x y : ℤ) → eq_z x y ≡ eqb (gap x y) 0
eq_z_gap (pos a) (pos b) =
    agree a b (gap (pos a) (pos b)) 0
    (λ h. omega (arith, gap_parts (pos a) (pos b))) (λ h. omega (arith, gap_parts (pos a) (pos b)))
eq_z_gap (pos a) (negsuc b) =
    sym (ne_eqb (gap (pos a) (negsuc b)) 0 (λ h. omega (arith, gap_parts (pos a) (negsuc b))))
eq_z_gap (negsuc a) (pos b) =
    sym (ne_eqb (gap (negsuc a) (pos b)) 0 (λ h. omega (arith, gap_parts (negsuc a) (pos b))))
eq_z_gap (negsuc a) (negsuc b) =
    agree a b (gap (negsuc a) (negsuc b)) 0
    (λ h. omega (arith, gap_parts (negsuc a) (negsuc b))) (λ h. omega (arith, gap_parts (negsuc a) (negsuc b)))

-- ---- kernel 3: the sum of the magnitudes less the gap is even, and no less than 0
abbrev pub common : ℤ → ℤ → ℕ
common x y = (nat_abs x + nat_abs y - gap x y) / 2

pub common_twice : (x y : ℤ) → nat_abs x + nat_abs y ≡ 2 * common x y + gap x y
common_twice (pos a) (pos b) = omega (arith, gap_parts (pos a) (pos b))
common_twice (pos a) (negsuc b) = omega (arith, gap_parts (pos a) (negsuc b))
common_twice (negsuc a) (pos b) = omega (arith, gap_parts (negsuc a) (pos b))
common_twice (negsuc a) (negsuc b) = omega (arith, gap_parts (negsuc a) (negsuc b))

less : (a b c g : ℕ) → a + b ≡ 2 * c + g → pos a +ℤ pos b -ℤ pos g ≡ pos (2 * c)
less a b c g e = ap (λ z. pos a +ℤ pos b -ℤ z) (pos-⊖ g) ∙ simp diff (⊖-eq _ _ _ _ (omega arith))

overlap_twice : (x y : ℤ) → overlap x y ≡ pos (2 * common x y)
overlap_twice (pos a) (pos b) = less a b _ _ (common_twice (pos a) (pos b))
overlap_twice (pos a) (negsuc b) = less a (suc b) _ _ (common_twice (pos a) (negsuc b))
overlap_twice (negsuc a) (pos b) = less (suc a) b _ _ (common_twice (negsuc a) (pos b))
overlap_twice (negsuc a) (negsuc b) = less (suc a) (suc b) _ _ (common_twice (negsuc a) (negsuc b))

pub energy : (x y : ℤ) → kernel Energy x y ≡ pos (common x y)
unfolding kernel
energy x y = ap half (overlap_twice x y) ∙ ap pos (omega arith)

-- ---- B: kernel 1 has the square of the sum, and the others a sum of naturals
*ℤ_dist : (a b c : ℤ) → a *ℤ (b +ℤ c) ≡ a *ℤ b +ℤ a *ℤ c
*ℤ_dist a b c = rw (view a, view b, view c) (simp diff (⊖-eq _ _ _ _ (omega arith)))

times_sum : (a : ℤ) (l : List ℤ) → sum_z (λ y. a *ℤ y) l ≡ a *ℤ sum_z (λ y. y) l
times_sum a [] = sym (*ℤ-zero a)
times_sum a (y ∷ l) = ap (λ t. a *ℤ y +ℤ t) (times_sum a l) ∙ sym (*ℤ_dist a y (sum_z (λ y. y) l))

pub B_linear : (l : List ℤ) → B (kernel Linear) l ≡ sum_z (λ x. x) l *ℤ sum_z (λ x. x) l
unfolding B kernel
B_linear l =
    let s = sum_z (λ y. y) l in
    sum_z_cong (λ x. sum_z (λ y. x *ℤ y) l) (λ x. s *ℤ x) (λ x. times_sum x l ∙ *ℤ_comm x s) l ∙ times_sum s l

B_pos :
    (k : ℤ → ℤ → ℤ) (f : ℤ → ℤ → ℕ) → ((x y : ℤ) → k x y ≡ pos (f x y)) → (l : List ℤ) →
    B k l ≡ pos (sum (λ x. sum (f x) l) l)
unfolding B
B_pos k f e l = sum_z_pos (λ x. sum_z (k x) l) (λ x. sum (f x) l) (λ x. sum_z_pos (k x) (f x) (e x) l) l

-- ---- the three together
spelled : (t : Bool) → pos 1 +ℤ pos 1 -ℤ pos 2 *ℤ pos (cond t 1 0) ≡ pos (cond t 0 2)
spelled true = refl
spelled false = refl

eq_z_self : (x : ℤ) → eq_z x x ≡ true
eq_z_self x = eq_z_gap x x ∙ eq-eqb (gap x x) 0 (gap_self x)

balanced : (a b c g : ℕ) → a + b ≡ 2 * c + g → pos a +ℤ pos b -ℤ pos 2 *ℤ pos c ≡ pos g
balanced a b c g h = simp diff (⊖-eq _ _ _ _ (omega arith))

pub kernel_sym : (k : Kernel) (x y : ℤ) → kernel k x y ≡ kernel k y x
unfolding kernel
kernel_sym Linear x y = *ℤ_comm x y
kernel_sym Spelling x y = ap (λ t. pos (cond t 1 0)) (eq_z_gap x y ∙ ap (λ g. eqb g 0) (gap_sym x y) ∙ sym (eq_z_gap y x))
kernel_sym Energy x y = energy x y ∙ ap pos (omega (arith, gap_sym x y)) ∙ sym (energy y x)

kernel_apart : (k : Kernel) (x y : ℤ) → δ (kernel k) x y ≡ pos (dist k (gap x y))
unfolding kernel dist δ
kernel_apart Linear x y = linear x y ∙ square (x -ℤ y)
kernel_apart Spelling x y = rw (eq_z_self x, eq_z_self y, eq_z_gap x y) (spelled (eqb (gap x y) 0))
kernel_apart Energy x y =
    rw (energy x x, energy y y, energy x y)
    (balanced (common x x) (common y y) (common x y) (gap x y)
    (omega (arith, common_twice x x, common_twice y y, common_twice x y, gap_self x, gap_self y)))

kernel_own : (k : Kernel) (x : ℤ) → kernel k x x ≡ pos (own k x)
unfolding kernel own
kernel_own Linear x = square x
kernel_own Spelling x = ap (λ t. pos (cond t 1 0)) (eq_z_self x)
kernel_own Energy x = energy x x ∙ ap pos (omega (arith, common_twice x x, gap_self x))

kernel_whole : (k : Kernel) (l : List ℤ) → (b : ℕ) × (B (kernel k) l ≡ pos b)
unfolding B kernel
kernel_whole Linear l = (_, B_linear l ∙ square (sum_z (λ x. x) l))
kernel_whole Spelling l = (_, B_pos (kernel Spelling) (λ x y. cond (eq_z x y) 1 0) (λ x y. refl) l)
kernel_whole Energy l = (_, B_pos (kernel Energy) common energy l)

pub law : (k : Kernel) → Law (kernel k) (λ x y. dist k (gap x y)) (own k)
law k = record { k_sym = kernel_sym k; apart = kernel_apart k; own = kernel_own k; whole = kernel_whole k }
