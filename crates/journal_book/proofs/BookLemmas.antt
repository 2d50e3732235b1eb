-- What one entry more leaves, for callers of `push_reserved`.
use Rattle.std.proofs.Common.{◌≡◌, ℕ, List, [], ◌∷◌, ◌++◌, refl}
use Rattle.volume_model.specs.declared.entry.Entry.{Entry}
use Rattle.volume_model.specs.declared.names.UsedName.{UsedName}
use Rattle.volume_model.specs.Names.{layers_after, layers_after_entry, names_after, names_after_entry}

pub layers_after-push : (layers : ℕ) (es : List Entry) (e : Entry)
    → layers_after layers (es ++ e ∷ []) ≡ layers_after_entry (layers_after layers es) e
layers_after-push layers [] e = refl
layers_after-push layers (x ∷ es) e = layers_after-push (layers_after_entry layers x) es e

pub names_after-push : (names : List UsedName) (es : List Entry) (e : Entry)
    → names_after names (es ++ e ∷ []) ≡ names_after_entry (names_after names es) e
names_after-push names [] e = refl
names_after-push names (x ∷ es) e = names_after-push (names_after_entry names x) es e
