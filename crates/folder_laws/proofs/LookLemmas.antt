-- Layers looked up by a name: the first that has it, or none.
use Rattle.std.proofs.Common.{◌≡◌, ◌⊎◌, inl, inr, ℕ, zero, suc, ◌<◌, Bool, true, false, cond, List, [], ◌∷◌, length}
use Rattle.std.proofs.Common.{Some, None, refl, sym, ap, ◌∙◌, arith}
use Rattle.std.specs.Str.{bytes_eq}
use Rattle.std.proofs.lemmas.Bool.{false≢true}
use Rattle.std.proofs.lemmas.Slice.Eq.{bytes_eq-Decides}
use Rattle.replica_node.specs.Node.{Kept, disk_named}
use Rattle.replica_node.specs.Places.{kept_at}
use Rattle.replica_shelf.specs.Folder.{layer_meta_of}
use Rattle.replica_compare.specs.Comparing.{shape_in}
use Rattle.folder_laws.specs.Told.{told_of_name}

-- the layer at that place is the first of the name
pub record IsFirst (now : List ℕ) (ks : List Kept) (name : List ℕ) (place : ℕ) : Type 0 where
  pub within : place < length ks
  pub named : (kept_at ks place).meta.name ≡ name
  pub told : told_of_name now ks name ≡ Some (layer_meta_of now (kept_at ks place).meta)
  pub shape : shape_in ks name ≡ Some ((kept_at ks place).meta.parent, (kept_at ks place).meta.marked)

-- no layer has the name
pub record IsAbsent (now : List ℕ) (ks : List Kept) (name : List ℕ) : Type 0 where
  pub none : (place : ℕ) → place < length ks → (kept_at ks place).meta.name ≡ name → ⊥
  pub told : told_of_name now ks name ≡ None
  pub shape : shape_in ks name ≡ None
  pub disk : disk_named ks name ≡ []

abbrev pub IsLooked : List ℕ → List Kept → List ℕ → Type 0
IsLooked now ks name = ((place : ℕ) × IsFirst now ks name place) ⊎ IsAbsent now ks name

first_here : (now : List ℕ) (k : Kept) (ks : List Kept) (name : List ℕ) → bytes_eq name k.meta.name ≡ true
    → IsFirst now (k ∷ ks) name 0
first_here now k ks name is = record {
  within = omega arith;
  named = sym ((bytes_eq-Decides name k.meta.name).0 is);
  told = ap (λ t. cond t (Some (layer_meta_of now k.meta)) (told_of_name now ks name)) is;
  shape = ap (λ t. cond t (Some (k.meta.parent, k.meta.marked)) (shape_in ks name)) is;
}

first_later : (now : List ℕ) (k : Kept) (ks : List Kept) (name : List ℕ) (place : ℕ) → bytes_eq name k.meta.name ≡ false
    → IsFirst now ks name place → IsFirst now (k ∷ ks) name (suc place)
first_later now k ks name place not at = record {
  within = omega (arith, at.within);
  named = at.named;
  told = ap (λ t. cond t (Some (layer_meta_of now k.meta)) (told_of_name now ks name)) not ∙ at.told;
  shape = ap (λ t. cond t (Some (k.meta.parent, k.meta.marked)) (shape_in ks name)) not ∙ at.shape;
}

absent_too : (now : List ℕ) (k : Kept) (ks : List Kept) (name : List ℕ) → bytes_eq name k.meta.name ≡ false
    → IsAbsent now ks name → IsAbsent now (k ∷ ks) name
absent_too now k ks name not older = record {
  none = none;
  told = ap (λ t. cond t (Some (layer_meta_of now k.meta)) (told_of_name now ks name)) not ∙ older.told;
  shape = ap (λ t. cond t (Some (k.meta.parent, k.meta.marked)) (shape_in ks name)) not ∙ older.shape;
  disk = ap (λ t. cond t k.disk (disk_named ks name)) not ∙ older.disk;
}
  where
    none : (place : ℕ) → place < length (k ∷ ks) → (kept_at (k ∷ ks) place).meta.name ≡ name → ⊥
    none zero less same = false≢true (sym not ∙ (bytes_eq-Decides name k.meta.name).1 (sym same))
    none (suc place) less same = older.none place (omega (arith, less)) same

pub look : (now : List ℕ) (ks : List Kept) (name : List ℕ) → IsLooked now ks name
look now [] name = inr (record { none = λ place less same. omega (arith, less); told = refl; shape = refl; disk = refl })
look now (k ∷ ks) name = by_test (bytes_eq name k.meta.name) refl (look now ks name)
  where
    by_test : (t : Bool) → bytes_eq name k.meta.name ≡ t → IsLooked now ks name → IsLooked now (k ∷ ks) name
    by_test true is older = inl (0, first_here now k ks name is)
    by_test false not (inl (place, at)) = inl (suc place, first_later now k ks name place not at)
    by_test false not (inr none) = inr (absent_too now k ks name not none)
