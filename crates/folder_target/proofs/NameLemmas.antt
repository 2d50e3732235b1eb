-- The parts of paths, and the file beside an object.
use Rattle.std.proofs.Common.{◌≡◌, ◌≢◌, ◌↔◌, ℕ, ◌<◌, Bool, true, false, true≢false, List}
use Rattle.std.proofs.Common.{[], ◌∷◌, ◌++◌, Option, Some, None, Bor, arith, length, get_or, refl, sym, ap, subst, ◌∙◌}
use Rattle.std.proofs.lemmas.Bool.{false_from_ne_true}
use Rattle.std.proofs.lemmas.Bool.Decides.{Decides-eqb}
use Rattle.std.proofs.lemmas.List.Elements.{All-nil, All-cons, All-head, All-tail, All-from_get_or}
use Rattle.std.proofs.lemmas.List.Splits.{slice_split_none, slice_split_at}
use Rattle.std.specs.Prelude.{◌==◌, All, codes}
use Rattle.std.proofs.lemmas.Str.Pattern.{IsSplitOnceResult, split_parts}
use Rattle.std.proofs.lemmas.Slice.Eq.{ends_is}
use Rattle.std.specs.List.{slice_split}
use Rattle.std.specs.Path.{slash}
use Rattle.folder_target.specs.ObjectNames.{IsPart, IsPath, IsObjectName, beside_of, is_beside}

abbrev is_slash : ℕ → Bool
is_slash b = b == slash

-- no slash is in the text
abbrev pub IsFree : List ℕ → Type 0
IsFree text = (k : ℕ) → k < length text → get_or text k 0 ≢ slash

none : (text : List ℕ) → IsFree text → All (λ b. is_slash b ≡ false) text
none text free = All-from_get_or (λ b. is_slash b ≡ false) text 0
    (λ k less. false_from_ne_true (is_slash (get_or text k 0)) (λ e. free k less ((Decides-eqb (get_or text k 0) slash).0 e)))

-- what the text is that was cut at its first slash
pub cut_at : (text : List ℕ) (r : Option (Bor (List ℕ) × Bor (List ℕ))) (x : Bor (List ℕ) × Bor (List ℕ))
    → IsSplitOnceResult slash text r → r ≡ Some x → (text ≡ x.0.now ++ slash ∷ x.1.now) × IsFree x.0.now
cut_at text r x split is = rw is at (split_parts slash text r split (omega arith))

pub uncut : (text : List ℕ) (r : Option (Bor (List ℕ) × Bor (List ℕ))) → IsSplitOnceResult slash text r → r ≡ None → IsFree text
uncut text r split is = rw is at (split_parts slash text r split (omega arith))

-- a text without a slash is the one part
pub path_end : (rest : List ℕ) → IsFree rest → IsPath rest ↔ IsPart rest
path_end rest free =
    let is = slice_split_none is_slash rest (none rest free) in (
      λ path. All-head IsPart rest [] (subst (All IsPart) is path),
      λ plain. subst (All IsPart) (sym is) (All-cons IsPart rest [] plain (All-nil IsPart)),
    )

first : (rest folder behind : List ℕ) → rest ≡ folder ++ slash ∷ behind → IsFree folder
    → slice_split is_slash rest ≡ folder ∷ slice_split is_slash behind
first rest folder behind is free = ap (slice_split is_slash) is ∙ slice_split_at is_slash folder slash behind (none folder free) refl

-- where the first part is plain, what stands behind decides
pub path_more : (rest folder behind : List ℕ) → rest ≡ folder ++ slash ∷ behind → IsFree folder → IsPart folder
    → IsPath rest ↔ IsPath behind
path_more rest folder behind is free plain =
    let parts = slice_split is_slash behind in
    let split = first rest folder behind is free in (
      λ path. All-tail IsPart folder parts (subst (All IsPart) split path),
      λ path. subst (All IsPart) (sym split) (All-cons IsPart folder parts plain path),
    )

-- where the first part is not plain, it is no path
pub no_path : (rest folder behind : List ℕ) → rest ≡ folder ++ slash ∷ behind → IsFree folder → (IsPart folder → ⊥)
    → IsPath rest → ⊥
no_path rest folder behind is free other path =
    other (All-head IsPart folder (slice_split is_slash behind) (subst (All IsPart) (first rest folder behind is free) path))

ends_beside : (name : List ℕ) → is_beside (beside_of name) ≡ true
ends_beside name = (ends_is Decides-eqb (beside_of name) (codes ".tmp") (is_beside (beside_of name)) refl).1 name refl

-- no object has the name of the file beside one
pub not_beside : (name other : List ℕ) → other ≡ beside_of name → IsObjectName other → ⊥
not_beside name other is object =
    true≢false (sym (ends_beside name) ∙ ap is_beside (sym is) ∙ object.whole)
