-- The text of a run's time.
use Rattle.std.specs.Prelude.{◌≡◌, ℕ, ◌≤◌, Bool, true, ◌&&◌, nat_le, List, length}
use Rattle.std.specs.List.{list_all}

-- a character of ASCII that is printed, blanks among them
abbrev pub is_printed : ℕ → Bool
is_printed byte = nat_le 0x20 byte && nat_le byte 0x7e

-- at most 40 such characters
pub record IsTimeText (text : List ℕ) : Type 0 where
  pub most : length text ≤ 40
  pub bytes : list_all is_printed text ≡ true
