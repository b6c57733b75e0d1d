-- How many channels a record has at most, by name.
use Rattle.std.specs.Prelude.{ℕ}

-- "A record then holds 1 to 4 channels"
abbrev pub most_channels : ℕ
most_channels = 4
