-- The numbers that words may have, each with its limits.
use Rattle.std.specs.Prelude.{◌&&◌, ◌==◌, ◌%◌, ◌^◌, ◌<◌, ◌≤◌, ℕ, Bool, nat_le, nat_lt, if◌then◌else◌, decimal}
use Rattle.std.specs.Prelude.{Option, Some, None}
use Rattle.std.specs.Str.{bytes_eq}
use Rattle.std.specs.Str.Parse.{digits_value}
use Rattle.clap.specs.Words.{Text}
use Rattle.vol_units.specs.Size.{IsVolumeSize}

-- the number below 2^64 whose decimal text that is, if there is one
abbrev pub number_of : Text → Option ℕ
number_of text = let number = digits_value 10 text in
    if nat_lt number (2 ^ 64) && bytes_eq text (decimal number) then Some number else None

-- the number, if it lies between two limits or is one of them
abbrev pub within : ℕ → ℕ → ℕ → Option ℕ
within least most number = if nat_le least number && nat_le number most then Some number else None

-- the test for a size of a volume, `IsVolumeSize`: whole pages, from one page to 1 GiB
abbrev pub is_size : ℕ → Bool
is_size bytes = bytes % 2097152 == 0 && (nat_le 2097152 bytes && nat_le bytes 1073741824)

-- the number as a size, if it is one
abbrev pub size_of : ℕ → Option ℕ
size_of bytes = if is_size bytes then Some bytes else None

-- the number as a count of streams: 1 to 15
abbrev pub streams_of : ℕ → Option ℕ
streams_of = within 1 15

-- the number as a count of calls: 1 to 4,096
abbrev pub calls_of : ℕ → Option ℕ
calls_of = within 1 4096

-- the number as a count of replicas: 1 to 8
abbrev pub replicas_of : ℕ → Option ℕ
replicas_of = within 1 8

-- the number as a count of sessions: 1 to 16
abbrev pub sessions_of : ℕ → Option ℕ
sessions_of = within 1 16

-- the numbers of a load that may be asked for: any number below 2^64, 1 to 15 streams, and 1 to 4,096 calls in each
pub record AreLoadNumbers (number streams calls : ℕ) : Type 0 where
  pub small_number : number < 2 ^ 64
  pub some_streams : 1 ≤ streams
  pub few_streams : streams ≤ 15
  pub some_calls : 1 ≤ calls
  pub few_calls : calls ≤ 4096

-- the numbers of what may be served: a size of a volume, 1 to 8 replicas, and 1 to 16 sessions
pub record AreServeNumbers (size replicas sessions : ℕ) : Type 0 where
  pub good_size : IsVolumeSize size
  pub some_replicas : 1 ≤ replicas
  pub few_replicas : replicas ≤ 8
  pub some_sessions : 1 ≤ sessions
  pub few_sessions : sessions ≤ 16
