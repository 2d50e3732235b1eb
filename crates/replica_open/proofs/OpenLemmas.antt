-- What the calls make of a replica that is built.
use Rattle.std.proofs.Common.{◌≡◌, ℕ, ◌/◌, List, Option, Result, Ok, IfOk}
use Rattle.std.proofs.Common.{subst, ◌∙◌}
use Rattle.sparse_image.specs.Image.{Tables}
use Rattle.shelf_traits.specs.Files.{Files}
use Rattle.layer_chain.specs.Changes.{headed}
use Rattle.layer_chain.specs.Tree.{Tree}
use Rattle.replica_node.specs.Node.{Node}
use Rattle.replica_node.specs.Places.{IsBuiltOf}
use Rattle.folder_checks.specs.Told.{Told}
use Rattle.folder_checks.specs.declared.parts.ImageParts.{ImageParts}
use Rattle.folder_checks.specs.declared.parts.FolderParts.{FolderParts}
use Rattle.folder_checks.specs.declared.parts.Damage.{Damage}
use Rattle.folder_layers.specs.declared.order.OrderedLayer.{OrderedLayer}
use Rattle.replica_open.specs.Reading.{IsPartRead}
use Rattle.replica_open.specs.Building.{AreLayersRead, HasLayers, HasSizes, CanBeBuilt}
use Rattle.replica_open.specs.Building.{IsBuilt, IsReadReplica}
use Rattle.replica_open.proofs.NameLemmas.{order_is}
use Rattle.replica_open.proofs.FolderLemmas.{folder_of}
use Rattle.folder_checks.proofs.ToldLemmas.{told_two, told_back}

pub if_ok_is : {T E : Type 0} (r : Result T E) (v : T) (P : T → Type 0) → r ≡ Ok v → IfOk r P → P v
if_ok_is r v P is all = subst (λ x. IfOk x P) is all

pub built_is : (size : ℕ) (parts : FolderParts) (ordered : List OrderedLayer) (below : Option (List ℕ)) (node : Node) (t : Tree)
    (head : Tables) → CanBeBuilt size parts ordered below → HasLayers (size / 4096) ordered t
    → IsBuiltOf (headed t parts.volume.head below head) size node → IsBuilt size parts ordered below node
built_is size parts ordered below node t head can has built = record {
  number = built.number;
  on = built.on;
  size = built.disk;
  metas = built.metas ∙ has.metas;
  in_order = order_is node ordered (built.metas ∙ has.metas) can.in_turn.turn;
}

pub opened_is : (a b : Option Files) (shelf size : ℕ) (parts : FolderParts) (list : List ImageParts) (ordered : List OrderedLayer)
    (below : Option (List ℕ)) (node : Node) (t : Tree) (head : Tables) (found : Result Tree Damage) (got : Result Tables Damage) → b ≡ a
    → list ≡ parts.snapshots.items → found ≡ Ok t → got ≡ Ok head → CanBeBuilt size parts ordered below
    → HasLayers (size / 4096) ordered t → IsBuiltOf (headed t parts.volume.head below head) size node → HasSizes size node
    → Told a (λ files. AreLayersRead (files shelf) size list ordered found)
    → Told b (λ files. IsPartRead (files shelf) size parts.head got)
    → Told a (λ files. IsReadReplica (files shelf) size parts (Ok node))
opened_is a b shelf size parts list ordered below node t head found got same of is got_is can has built sizes layers read =
    let Layers : List ImageParts → Result Tree Damage → Files → Type 0 =
    λ ps r files. AreLayersRead (files shelf) size ps ordered r in
    let Head : Result Tables Damage → Files → Type 0 = λ r files. IsPartRead (files shelf) size parts.head r in
    told_two a (Layers parts.snapshots.items (Ok t)) (Head (Ok head)) _
    (subst (λ ps. Told a (Layers ps (Ok t))) of (subst (λ r. Told a (Layers list r)) is layers))
    (told_back a b (Head (Ok head)) same (subst (λ r. Told b (Head r)) got_is read))
    (λ files were now. folder_of (files shelf) size parts ordered below node (headed t parts.volume.head below head) can built sizes
    (built.metas ∙ has.metas) built.number built.on were now)
