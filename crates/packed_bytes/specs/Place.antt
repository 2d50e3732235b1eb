-- Where a list stands in the store.
use Rattle.std.specs.Prelude.{◌≡◌, ℕ, ◌+◌, ◌≤◌, ◌<◌, ◌^◌, Bool, true, false, nat_lt, List, ◌++◌, length}
use Rattle.segment_list.specs.Listed.{Listed}
use Rattle.image_runs.specs.Runs.{runs}
use Rattle.packed_bytes.specs.declared.list.Place.{Place}
use Rattle.packed_bytes.specs.Packed.{packed, is_shorter, part, list_in, runs_in}

-- it is kept as runs
abbrev pub is_packed : Place → Bool
is_packed p = nat_lt p.taken p.count

-- what is kept there, and the list
abbrev pub kept_at : List ℕ → Place → List ℕ
kept_at store p = part store p.at (p.at + p.taken)

abbrev pub list_at : List ℕ → Place → List ℕ
list_at store p = list_in (is_packed p) (kept_at store p)

-- the place of a list that is put behind the others
abbrev pub place_of : List ℕ → List ℕ → Place
place_of store list = record { at = length store; taken = length (packed list); count = length list }

-- a list stands there, as runs if these are shorter, with runs as long as can be
pub record IsPlace (store : List ℕ) (p : Place) : Type 0 where
  pub within : p.at + p.taken ≤ length store
  pub count : length (list_at store p) ≡ p.count
  pub shorter : is_packed p ≡ is_shorter (list_at store p)
  pub longest : runs_in (is_packed p) (kept_at store p) ≡ runs (list_at store p)
  pub small : p.taken < 2 ^ 32

-- a list was put behind the others, and stands there now
pub record IsPut (old new : Listed ℕ) (list : List ℕ) (p : Place) : Type 0 where
  pub items : new.items ≡ old.items ++ packed list
  pub place : p ≡ place_of old.items list
  pub room : new.room + length (packed list) ≡ old.room

-- a list was put as its runs, and they are shorter
pub record IsPutShorter (old new : Listed ℕ) (list : List ℕ) (p : Place) : Type 0 where
  pub shorter : is_shorter list ≡ true
  pub put : IsPut old new list p

-- nothing was put, since the runs are not shorter
pub record IsLeft (old new : Listed ℕ) (list : List ℕ) : Type 0 where
  pub plain : is_shorter list ≡ false
  pub same : new ≡ old

-- the first bytes of a part, and those behind them
pub record IsFirstPart (store : List ℕ) (at until : ℕ) (bytes : List ℕ) : Type 0 where
  pub some : 0 < length bytes
  pub within : at + length bytes ≤ until
  pub is : part store at until ≡ bytes ++ part store (at + length bytes) until
