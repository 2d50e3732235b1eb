-- A map of objects, once one was set or removed.
use Rattle.std.proofs.Common.{◌≡◌, ◌≢◌, ℕ, false, cond, List, Option, Vec, Global, String, option_map, refl, sym, ap, ◌∙◌}
use Rattle.std.proofs.lemmas.Bool.{false_from_ne_true}
use Rattle.std.proofs.lemmas.Slice.Eq.{bytes_eq-Decides}
use Rattle.std.specs.Str.{bytes_eq}
use Rattle.std.specs.Map.{update}
use Rattle.std.specs.BTreeMap.{BTreeMap, get_by_text}
use Rattle.target_traits.specs.Objects.{ObjectBecomes}
use Rattle.target_memory.specs.Kept.{objects_in}

abbrev Kept : Type 0
Kept = BTreeMap (String Global) (Vec ℕ Global)

-- one key was set or removed, so one object was
pub becomes : (name : List ℕ) (old new : Kept) (value : Option (Vec ℕ Global))
    → ((other : List ℕ) → get_by_text new other ≡ update bytes_eq (get_by_text old) name value other)
    → ObjectBecomes name (option_map (λ (v : Vec ℕ Global). v.items) value) (objects_in old) (objects_in new)
becomes name old new value updates = record {
  here = ap shown (updates name ∙ ap (λ b. cond b value (get_by_text old name)) ((bytes_eq-Decides name name).1 refl));
  others = λ other differs. ap shown (updates other ∙ ap (λ b. cond b value (get_by_text old other)) (unequal other differs));
}
  where
    shown : Option (Vec ℕ Global) → Option (List ℕ)
    shown = option_map (λ (v : Vec ℕ Global). v.items)

    unequal : (other : List ℕ) → other ≢ name → bytes_eq name other ≡ false
    unequal other differs =
        false_from_ne_true (bytes_eq name other) (λ e. differs (sym ((bytes_eq-Decides name other).0 e)))
