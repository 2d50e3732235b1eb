-- The order in which layers come where nothing tells how old each is.
use Rattle.std.specs.Prelude.{◌≡◌, ℕ, false, List, [], ◌∷◌, reverse, Option, Some, None, All, Contains, map}
use Rattle.volume_model.specs.Purge.{is_before}
use Rattle.volume_model.specs.Snapshots.{Snapshot}
use Rattle.replica_node.specs.Node.{Node}
use Rattle.replica_node.specs.Fold.{tree_of}

-- a layer on that parent can come once these names are there
abbrev pub IsReady : List (List ℕ) → Option (List ℕ) → Type 0
IsReady done None = Unit {0}
IsReady done (Some parent) = Contains done parent

-- The layers, the oldest first, where these names are there already: each is, in byte order of names, the first of those
-- left whose parent is there.
abbrev pub AreInTurn : List (List ℕ) → List Snapshot → Type 0
AreInTurn done [] = Unit {0}
AreInTurn done (s ∷ ss) =
    (Contains done s.name → ⊥) × IsReady done s.parent
    × All (λ (m : Snapshot). IsReady done m.parent → is_before m.name s.name ≡ false) ss
    × AreInTurn (s.name ∷ done) ss

-- the layers of the replica, which stand the newest first, are in this order
abbrev pub IsInOrder : Node → Type 0
IsInOrder node = AreInTurn [] (reverse (tree_of node))

-- what the layers read as, the newest first
abbrev pub disks_of : Node → List (List ℕ)
disks_of node = map (λ k. k.disk) node.layers
