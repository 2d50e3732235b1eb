-- A chain of layers: from a named one to its parent, and so on down.
use Rattle.std.specs.Prelude.{ℕ, Bool, false, List, [], ◌∷◌, Option, None, Some, if◌then◌else◌}
use Rattle.std.specs.Str.{bytes_eq}

-- that name is wanted
abbrev pub is_named : Option (List ℕ) → List ℕ → Bool
is_named None name = false
is_named (Some wanted) name = bytes_eq wanted name

-- layers of any type X have names and parents' names
module _ {X : Type 0} (name_of : X → List ℕ) (parent_of : X → Option (List ℕ)) where
  -- the named layer, its parent, and so on down, of layers of which a parent stands behind its child
  abbrev pub chain_from : List X → Option (List ℕ) → List X
  chain_from [] wanted = []
  chain_from (x ∷ older) wanted =
      if is_named wanted (name_of x) then x ∷ chain_from older (parent_of x) else chain_from older wanted
