-- Records whose summaries are computed: that of the scope's printed example, and one of several channels.
use Rattle.std.specs.Prelude.{ℕ, ◌+◌, ◌*◌, List, [], ◌∷◌}
use Rattle.record.specs.declared.channels.Channels.{Channels}
use Rattle.record.specs.Limits.{byte_limit, pair_limit}
use Rattle.record.specs.Channels.{one_channel}

-- days 10, 11, 14 and samples 0, 0, 10
abbrev pub example_channels : Channels
example_channels = one_channel 1 0

abbrev pub example_body : List ℕ
example_body =
    10 ∷ 0 ∷ 0 ∷ 0 ∷ 0 ∷ 0 ∷ 0 ∷ 0 ∷ 0 ∷ 0 ∷ 0 ∷ 0
    ∷ 11 ∷ 0 ∷ 0 ∷ 0 ∷ 0 ∷ 0 ∷ 0 ∷ 0 ∷ 0 ∷ 0 ∷ 0 ∷ 0
    ∷ 14 ∷ 0 ∷ 0 ∷ 0 ∷ 10 ∷ 0 ∷ 0 ∷ 0 ∷ 0 ∷ 0 ∷ 0 ∷ 0
    ∷ []

-- Three channels: linear counts, spelling counts, and energy shares. On day 10 they have 3, 7 and the share 0.5, on day 11 -6, 7 and the share 1.0.
abbrev pub several_channels : Channels
several_channels = record { count = 3; pairs = 1 + pair_limit * (2 + pair_limit * (3 + byte_limit * 1)) }

abbrev pub several_body : List ℕ
several_body =
    10 ∷ 0 ∷ 0 ∷ 0
    ∷ 3 ∷ 0 ∷ 0 ∷ 0 ∷ 0 ∷ 0 ∷ 0 ∷ 0
    ∷ 7 ∷ 0 ∷ 0 ∷ 0 ∷ 0 ∷ 0 ∷ 0 ∷ 0
    ∷ 0 ∷ 0 ∷ 0 ∷ 0 ∷ 0 ∷ 0 ∷ 224 ∷ 63
    ∷ 11 ∷ 0 ∷ 0 ∷ 0
    ∷ 250 ∷ 255 ∷ 255 ∷ 255 ∷ 255 ∷ 255 ∷ 255 ∷ 255
    ∷ 7 ∷ 0 ∷ 0 ∷ 0 ∷ 0 ∷ 0 ∷ 0 ∷ 0
    ∷ 0 ∷ 0 ∷ 0 ∷ 0 ∷ 0 ∷ 0 ∷ 240 ∷ 63
    ∷ []
