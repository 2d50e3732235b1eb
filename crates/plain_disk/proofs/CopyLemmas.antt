-- The copies under other names, as a filter.
use Rattle.std.proofs.Common.{◌≡◌, ℕ, cond, Bool, true, false, List, [], ◌∷◌, refl, ap, ◌∙◌}
use Rattle.std.specs.Prelude.{not}
use Rattle.std.specs.List.{filter}
use Rattle.std.specs.Str.{bytes_eq}
use Rattle.volume_model.specs.PlainState.{Copy, without}

-- the copy has another name
abbrev pub is_other : List ℕ → Copy → Bool
is_other name c = not (bytes_eq name c.name)

cond-not : (b : Bool) (xs ys : List Copy) → cond (not b) xs ys ≡ cond b ys xs
cond-not true xs ys = refl
cond-not false xs ys = refl

pub filter_others : (name : List ℕ) (copies : List Copy) → filter (is_other name) copies ≡ without copies name
filter_others name [] = refl
filter_others name (c ∷ cs) =
    cond-not (bytes_eq name c.name) (c ∷ filter (is_other name) cs) (filter (is_other name) cs)
    ∙ ap (λ rest. cond (bytes_eq name c.name) rest (c ∷ rest)) (filter_others name cs)
