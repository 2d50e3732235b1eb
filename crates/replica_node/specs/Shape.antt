-- The layers of a replica as a tree, by their names and those of their parents.
use Rattle.std.specs.Prelude.{List}
use Rattle.layer_chain.specs.Layers.{IsTree}
use Rattle.replica_node.specs.Node.{Kept}

-- no name comes twice, and each parent is an older layer
abbrev pub AreLayers : List Kept → Type 0
AreLayers = IsTree (λ (k : Kept). k.meta.name) (λ (k : Kept). k.meta.parent)
