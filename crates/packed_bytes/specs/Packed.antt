-- A list of bytes as runs, one byte and a count of four each, where these are shorter than the list.
-- The format is this project's own.
use Rattle.std.specs.Prelude.{ℕ, ◌*◌, Bool, true, false, nat_lt, List, [], ◌∷◌, length, take, drop, flat_map}
use Rattle.std.specs.Prelude.{if◌then◌else◌}
use Rattle.std.specs.Int.{to_le_bytes, from_le_bytes}
use mir.Syntax.{w32}
use Rattle.image_runs.specs.Runs.{ByteRun, run_of, runs, run_bytes}

-- a run, the count low byte first
abbrev pub run_code : ByteRun → List ℕ
run_code r = r.byte ∷ to_le_bytes w32 r.count

abbrev pub run_codes : List ByteRun → List ℕ
run_codes rs = flat_map run_code rs

-- the same of a byte that stands alone
abbrev pub lone_code : ℕ → List ℕ
lone_code b = b ∷ 1 ∷ 0 ∷ 0 ∷ 0 ∷ []

-- the runs that some bytes are the codes of
abbrev pub coded_runs : List ℕ → List ByteRun
coded_runs (a ∷ b ∷ c ∷ d ∷ e ∷ rest) = run_of a (from_le_bytes w32 (b ∷ c ∷ d ∷ e ∷ [])) ∷ coded_runs rest
coded_runs _ = []

-- the runs of a list are shorter than the list
abbrev pub is_shorter : List ℕ → Bool
is_shorter list = nat_lt (5 * length (runs list)) (length list)

-- what a list is kept as
abbrev pub packed : List ℕ → List ℕ
packed list = if is_shorter list then run_codes (runs list) else list

-- some bytes of what is kept
abbrev pub part : List ℕ → ℕ → ℕ → List ℕ
part store at until = drop at (take until store)

-- the runs of what is kept in a part, as codes or as it is, and the list
abbrev pub runs_in : Bool → List ℕ → List ByteRun
runs_in true kept = coded_runs kept
runs_in false kept = runs kept

abbrev pub list_in : Bool → List ℕ → List ℕ
list_in true kept = run_bytes (coded_runs kept)
list_in false kept = kept
