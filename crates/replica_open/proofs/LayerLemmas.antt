-- Layers that are pushed, one after another.
use Rattle.std.proofs.Common.{◌≡◌, ℕ, ◌+◌, ◌*◌, ◌<◌, ◌≤◌, List, [], ◌∷◌, ◌++◌, length, map, get_or, Option, None, Some, Result, Ok, Err}
use Rattle.std.proofs.Common.{inl, inr, ⊎_elim, sym, ap, subst, ◌∙◌, arith, length-append}
use Rattle.std.specs.Prelude.{All, Contains, reverse}
use Rattle.std.proofs.lemmas.List.{map-append, reverse-append, length-reverse, length-map}
use Rattle.std.proofs.lemmas.List.Elements.{All-cons, Contains-append_right}
use Rattle.shelf_traits.specs.Files.{Files}
use Rattle.sparse_image.specs.Image.{Tables}
use Rattle.layer_chain.specs.Changes.{metas_in, pushed}
use Rattle.layer_chain.specs.Layers.{Has}
use Rattle.layer_chain.specs.Tree.{Tree, name_of, parent_of, IsNew, IsThere}
use Rattle.layer_chain.specs.declared.layer.Layer.{Layer}
use Rattle.layer_chain.specs.declared.layer.LayerMeta.{LayerMeta}
use Rattle.coalesce.specs.Folding.{snapshot_of}
use Rattle.replica_node.specs.Node.{HasPlaces}
use Rattle.replica_compare.specs.Order.{AreInTurn, IsReady}
use Rattle.replica_compare.proofs.OrderLemmas.{among, first_in, later_in}
use Rattle.folder_checks.specs.Told.{Told}
use Rattle.folder_checks.specs.declared.parts.ImageParts.{ImageParts}
use Rattle.folder_checks.specs.declared.parts.Damage.{Damage}
use Rattle.folder_layers.specs.declared.order.OrderedLayer.{OrderedLayer}
use Rattle.replica_open.specs.Reading.{IsPartRead}
use Rattle.replica_open.specs.Building.{IsLayerRead, AreLayersRead, HasLayers}
use Rattle.folder_checks.proofs.ToldLemmas.{told_map, told_two, told_back}

-- ---- names

abbrev names_in : List Layer → List (List ℕ)
names_in xs = map name_of xs

pub new_of : (xs : List Layer) (name : List ℕ) → (Contains (map name_of xs) name → ⊥) → IsNew name xs
new_of [] name none = tt
new_of (x ∷ xs) name none = (
  (λ same. none (subst (Contains (names_in (x ∷ xs))) same (first_in (name_of x) (names_in xs)))),
  new_of xs name (λ c. none (later_in (name_of x) name (names_in xs) c)),
)

has_of : (xs : List Layer) (name : List ℕ) → Contains (map name_of xs) name → Has name_of parent_of name xs
has_of [] name c = absurd (omega (arith, c.1))
has_of (x ∷ xs) name c =
    ⊎_elim (λ same. inl same) (λ older. inr (has_of xs name older)) (among (name_of x) name (names_in xs) c)

pub there_of : (xs : List Layer) (on : Option (List ℕ)) → IsReady (map name_of xs) on → IsThere on xs
there_of xs None ready = tt
there_of xs (Some name) ready = has_of xs name ready

-- ---- what is next

-- the layer that is next, where these are pushed and these are left
pub record IsNext (t : Tree) (x : OrderedLayer) (left : List OrderedLayer) : Type 0 where
  pub new : IsNew x.meta.name t.layers
  pub parent : IsThere x.meta.parent t.layers
  pub turn : AreInTurn (x.meta.name ∷ map name_of t.layers) (map (λ o. snapshot_of o.meta) left)

pub next_is : (t : Tree) (rest left : List OrderedLayer) (x : OrderedLayer) → rest ≡ x ∷ left
    → AreInTurn (map name_of t.layers) (map (λ o. snapshot_of o.meta) rest) → IsNext t x left
next_is t rest left x e turn =
    let now = subst (λ l. AreInTurn (map name_of t.layers) (map (λ (o : OrderedLayer). snapshot_of o.meta) l)) e turn in
    record { new = new_of t.layers x.meta.name now.0; parent = there_of t.layers x.meta.parent now.1; turn = now.3 }

-- it is one of all
pub one_of : (all done rest left : List OrderedLayer) (x : OrderedLayer) → done ++ rest ≡ all → rest ≡ x ∷ left → Contains all x
one_of all done rest left x whole is =
    subst (λ l. Contains l x) (ap (λ r. done ++ r) (sym is) ∙ whole) (Contains-append_right done (x ∷ left) x (first_in x left))

pub room_left : (blocks : ℕ) (t : Tree) (all done rest left : List OrderedLayer) (x : OrderedLayer) → HasLayers blocks done t
    → done ++ rest ≡ all → rest ≡ x ∷ left → length all + 1 ≤ 250 → length t.layers + 1 < 250
room_left blocks t all done rest left x has whole is few =
    omega (
      arith,
      length-map t.layers (λ (l : Layer). l.meta),
      ap length has.metas,
      length-reverse (map (λ (o : OrderedLayer). o.meta) done),
      length-map done (λ (o : OrderedLayer). o.meta),
      ap length whole,
      length-append done rest,
      ap length is,
    )

pub layers_next : (blocks : ℕ) (old new : Tree) (done : List OrderedLayer) (x : OrderedLayer) (image : Tables)
    → new ≡ pushed old (record { meta = x.meta; image = image }) → length image * 512 ≡ blocks → HasLayers blocks done old
    → HasLayers blocks (done ++ x ∷ []) new
layers_next blocks old new done x image push places has =
    let m = λ (o : OrderedLayer). o.meta in
    let l : Layer = record { meta = x.meta; image = image } in
    let layers : new.layers ≡ l ∷ old.layers = ap (λ (t : Tree). t.layers) push in
    record {
      metas = ap metas_in layers ∙ ap (λ (ms : List LayerMeta). x.meta ∷ ms) has.metas
          ∙ sym (ap reverse (map-append m done (x ∷ [])) ∙ reverse-append (map m done) (x.meta ∷ []));
      places = subst (All (HasPlaces blocks)) (sym layers) (All-cons (HasPlaces blocks) l old.layers places has.places);
    }

pub turn_next : (old new : Tree) (x : OrderedLayer) (left : List OrderedLayer) (image : Tables)
    → new ≡ pushed old (record { meta = x.meta; image = image }) → IsNext old x left
    → AreInTurn (map name_of new.layers) (map (λ o. snapshot_of o.meta) left)
turn_next old new x left image push next =
    subst (λ (t : Tree). AreInTurn (map name_of t.layers) (map (λ (o : OrderedLayer). snapshot_of o.meta) left)) (sym push) next.turn

pub read_next : (a b : Option Files) (shelf size : ℕ) (snapshots : List ImageParts) (all : List OrderedLayer) (old new : Tree)
    (x : OrderedLayer) (image : Tables) (part : ImageParts) (found : Result Tables Damage)
    → new ≡ pushed old (record { meta = x.meta; image = image }) → b ≡ a → found ≡ Ok image → Contains all x
    → get_or snapshots x.place part ≡ part
    → Told a (λ files. All (IsLayerRead (files shelf) size snapshots all) old.layers)
    → Told b (λ files. IsPartRead (files shelf) size part found)
    → Told a (λ files. All (IsLayerRead (files shelf) size snapshots all) new.layers)
read_next a b shelf size snapshots all old new x image part found push same is one at before read =
    let l : Layer = record { meta = x.meta; image = image } in
    let layers : new.layers ≡ l ∷ old.layers = ap (λ (t : Tree). t.layers) push in
    let Read : Result Tables Damage → Files → Type 0 = λ r files. IsPartRead (files shelf) size part r in
    let Are : List Layer → Files → Type 0 = λ ls files. All (IsLayerRead (files shelf) size snapshots all) ls in
    told_two a (Are old.layers) (Read (Ok image)) (Are new.layers) before
    (told_back a b _ same (subst (λ r. Told b (Read r)) is read))
    (λ files were now. subst (λ ls. Are ls files) (sym layers)
    (All-cons (IsLayerRead (files shelf) size snapshots all) l old.layers
    (record { place = x.place; one = one; part = part; at = at; read = now }) were))

-- an image that fell short
pub short_next : (a b : Option Files) (shelf size place : ℕ) (snapshots : List ImageParts) (all : List OrderedLayer) (damage : Damage)
    (part : ImageParts) (found : Result Tables Damage) → b ≡ a → found ≡ Err damage → place < length snapshots
    → get_or snapshots place part ≡ part → Told b (λ files. IsPartRead (files shelf) size part found)
    → Told a (λ files. AreLayersRead (files shelf) size snapshots all (Err damage))
short_next a b shelf size place snapshots all damage part found same is within at read =
    let Read : Result Tables Damage → Files → Type 0 = λ r files. IsPartRead (files shelf) size part r in
    told_map a (Read (Err damage)) _ (told_back a b _ same (subst (λ r. Told b (Read r)) is read))
    (λ files short. (part, (place, within, at), short))

-- ---- all of them

pub whole_next : (all done rest left : List OrderedLayer) (x : OrderedLayer) → done ++ rest ≡ all → rest ≡ x ∷ left
    → done ++ (x ∷ left) ≡ all
whole_next all done rest left x whole is = ap (λ r. done ++ r) (sym is) ∙ whole
