-- The scope's table of shares, by their bit patterns, with the cases next to an edge.
use Rattle.std.specs.Prelude.{List, [], ◌∷◌, ℕ, pos, negsuc, Ok, Err}
use Rattle.sample.specs.Judge.{Judged}
use Rattle.sample.specs.declared.Fault.TheVariants.{NotFinite, OutOfRange, NotWhole}

-- A share by its bit pattern, and what it is judged to be.
pub record Shown : Type 0 where
  pub bits : ℕ
  pub reply : Judged

abbrev shown : ℕ → Judged → Shown
shown b j = record { bits = b; reply = j }

-- The table of shares, then the edges.
abbrev pub shares : List Shown
shares =
    -- 0.5, 15.2587890625, 16.0, 0.1, a NaN, both infinities
    shown 0x3fe0_0000_0000_0000 (Ok (pos 32768))
    ∷ shown 0x402e_8480_0000_0000 (Ok (pos 1000000))
    ∷ shown 0x4030_0000_0000_0000 (Err OutOfRange)
    ∷ shown 0x3fb9_9999_9999_999a (Err NotWhole)
    ∷ shown 0x7ff8_0000_0000_0000 (Err NotFinite)
    ∷ shown 0x7ff0_0000_0000_0000 (Err NotFinite)
    ∷ shown 0xfff0_0000_0000_0000 (Err NotFinite)
    -- the other NaNs: quiet and negative, and of each sign the signaling NaN of the smallest and of the largest pattern, and the largest NaN
    ∷ shown 0xfff8_0000_0000_0000 (Err NotFinite)
    ∷ shown 0x7ff0_0000_0000_0001 (Err NotFinite)
    ∷ shown 0xfff0_0000_0000_0001 (Err NotFinite)
    ∷ shown 0x7ff7_ffff_ffff_ffff (Err NotFinite)
    ∷ shown 0xfff7_ffff_ffff_ffff (Err NotFinite)
    ∷ shown 0x7fff_ffff_ffff_ffff (Err NotFinite)
    ∷ shown 0xffff_ffff_ffff_ffff (Err NotFinite)
    -- both zeros; of each sign the smallest and the largest subnormal
    ∷ shown 0x0000_0000_0000_0000 (Ok (pos 0))
    ∷ shown 0x8000_0000_0000_0000 (Ok (pos 0))
    ∷ shown 0x0000_0000_0000_0001 (Err NotWhole)
    ∷ shown 0x8000_0000_0000_0001 (Err NotWhole)
    ∷ shown 0x000f_ffff_ffff_ffff (Err NotWhole)
    ∷ shown 0x800f_ffff_ffff_ffff (Err NotWhole)
    -- -15.2587890625, and the values next to either end of the range
    ∷ shown 0xc02e_8480_0000_0000 (Ok (negsuc 999999))
    ∷ shown 0x402e_8480_0000_0001 (Err OutOfRange)
    ∷ shown 0xc02e_8480_0000_0001 (Err OutOfRange)
    ∷ shown 0x402e_847f_ffff_ffff (Err NotWhole)
    ∷ shown 0xc02e_847f_ffff_ffff (Err NotWhole)
    -- 2 ^ -16, -2 ^ -16, 2 ^ -17
    ∷ shown 0x3ef0_0000_0000_0000 (Ok (pos 1))
    ∷ shown 0xbef0_0000_0000_0000 (Ok (negsuc 0))
    ∷ shown 0x3ee0_0000_0000_0000 (Err NotWhole)
    -- 2 ^ 1008, whose product overflows, the value before it, and the largest finite value of each sign
    ∷ shown 0x7ef0_0000_0000_0000 (Err OutOfRange)
    ∷ shown 0x7eef_ffff_ffff_ffff (Err OutOfRange)
    ∷ shown 0x7fef_ffff_ffff_ffff (Err OutOfRange)
    ∷ shown 0xffef_ffff_ffff_ffff (Err OutOfRange)
    ∷ []
