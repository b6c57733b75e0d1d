-- The channels of a record: "1 to 4 channels, each with its own kernel and sample kind", as C and a file give them. They are a count, and four pairs
-- of a kernel's number and a sample kind as one number of 8 bytes, the first channel's lowest.
use Rattle.std.specs.Prelude.{ℕ, zero, suc, ◌+◌, ◌*◌, ◌/◌, ◌%◌, min, cond, eqb, List, length}
use Rattle.std.specs.Option.{unwrap_or}
use Rattle.lists.specs.Lists.{values_of}
use Rattle.table.specs.Num.{num}
use Rattle.kernel.specs.declared.Kernel.{Kernel}
use Rattle.kernel.specs.declared.Kernel.TheVariants.{Linear}
use Rattle.kernel.specs.Kernel.{named_of}
use Rattle.record.specs.declared.channels.Channels.{Channels}
use Rattle.record.specs.Limits.{byte_limit, pair_limit, pair_bytes, pairs_bytes, day_bytes, sample_bytes}

-- the pairs from channel c on
unfoldable pub pairs_from : Channels → ℕ → ℕ
pairs_from ch zero = ch.pairs
pairs_from ch (suc c) = pairs_from ch c / pair_limit

-- the kernel's number and the sample kind of channel c: a byte each, "kernel then sample kind"
abbrev pub kernel_in : Channels → ℕ → ℕ
kernel_in ch c = pairs_from ch c % byte_limit

abbrev pub kind_in : Channels → ℕ → ℕ
kind_in ch c = pairs_from ch c / byte_limit % byte_limit

-- the kernels of all channels. A number that names none is taken for linear: it is refused (6), so nothing hangs on which.
abbrev pub kernel_of : ℕ → Kernel
kernel_of n = unwrap_or (named_of n) Linear

abbrev pub kernels_of : Channels → List Kernel
kernels_of ch = values_of (λ c. kernel_of (kernel_in ch c)) ch.count

-- "an observation is the day and 8 bytes per channel"
abbrev pub observation_bytes : Channels → ℕ
observation_bytes ch = day_bytes + sample_bytes * ch.count

-- One channel, as form 0 has it.
abbrev pub one_channel : (kernel kind : ℕ) → Channels
one_channel kernel kind = record { count = 1; pairs = kernel + byte_limit * kind }

-- As C lends them: "`channels` is 2 bytes a channel, kernel then sample kind; the channel count is half its length." An odd length has none.
unfoldable pub channels_in : List ℕ → Channels
channels_in bytes = record {
  count = cond (eqb (length bytes % pair_bytes) 0) (length bytes / pair_bytes) 0;
  pairs = num (min (length bytes) pairs_bytes) bytes 0;
}
