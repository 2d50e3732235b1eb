-- Values of JSON, as a script's members want them.
use Rattle.std.specs.Prelude.{◌≡◌, ℕ, List, [], ◌∷◌, Option, Some, option_and_then}
use Rattle.std.specs.Option.{option_map_or}
use Rattle.serde_json.specs.Data.{Data, Items, no_items, item}
use Rattle.serde_json.specs.Find.{get, as_array, as_number, as_u64}

-- a whole number, written without sign, fraction or exponent
abbrev pub whole : Data → Option ℕ
whole d = option_and_then as_u64 (as_number d)

-- what each of the items is
abbrev pub AreItems : {A : Type 0} → (Data → A → Type 0) → Items → List A → Type 0
AreItems IsItem no_items [] = Unit {0}
AreItems IsItem (item d ds) (a ∷ more) = IsItem d a × AreItems IsItem ds more
AreItems IsItem _ _ = ⊥

-- the value is there, and a list of such items
abbrev pub HasItems : {A : Type 0} → (Data → A → Type 0) → Option Data → List A → Type 0
HasItems IsItem value list = (items : Items) × (option_and_then as_array value ≡ Some items) × AreItems IsItem items list

-- the value of a member that has to be there
abbrev pub member : {A : Type 0} → (Data → Option A) → List ℕ → Data → Option A
member f name d = option_and_then f (get name d)

-- the value of a member that may be missing, and is that one then
abbrev pub member_or : {A : Type 0} → A → (Data → Option A) → List ℕ → Data → Option A
member_or missing f name d = option_map_or f (get name d) (Some missing)
