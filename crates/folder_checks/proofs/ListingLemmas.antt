-- The names of snapshots among the names of files.
use Rattle.std.proofs.Common.{◌≡◌, ◌≢◌, ⊎_elim, ℕ, ◌+◌, ◌<◌, ◌≤◌, List, [], ◌∷◌, ◌++◌, length, get_or, map, Option, codes}
use Rattle.std.proofs.Common.{sym, ap, subst, ◌∙◌, arith, below_more}
use Rattle.std.specs.Prelude.{Contains}
use Rattle.std.specs.Cmp.Lexicographic.{pointwise, same_text, nat_list_eq_equiv}
use Rattle.std.specs.Prelude.{IsPermutation, nat_eq}
use Rattle.std.specs.List.{dedup}
use Rattle.std.proofs.lemmas.List.{get_or_default, map-append}
use Rattle.std.proofs.lemmas.List.Elements.{Contains-push, Contains-push_cases, Contains-append_left}
use Rattle.std.proofs.lemmas.List.Kept.{Contains-dedup, Contains-from_dedup}
use Rattle.std.proofs.lemmas.List.Sorted.{IsPermutation-sym, Contains-permutation}
use Rattle.shelf_traits.specs.Files.{Files, Lists}
use Rattle.vol_units.specs.Name.{IsName}
use Rattle.chain_meta.specs.ImageNames.{snapshot_file}
use Rattle.folder_names.specs.Files.{meta_of}
use Rattle.folder_names.proofs.NameLemmas.{one_front, snapshots_differ}
use Rattle.folder_checks.specs.Told.{Told}
use Rattle.folder_checks.specs.Snapshots.{AreRising, AreSnapshots}
use Rattle.folder_checks.specs.Listing.{AddsSnapshot, NoSnapshot, OneMore, HasSnapshots}
use Rattle.folder_checks.proofs.ToldLemmas.{told_map}

-- ---- one file more

pub names_more : (files : List (List ℕ)) (place : ℕ) (file : List ℕ) (old new : List (List ℕ)) → place < length files
    → get_or files place [] ≡ file → AddsSnapshot file old new → HasSnapshots files place old → HasSnapshots files (place + 1) new
names_more files place file old new within is (NoSnapshot not) had = record {
  there = had.there;
  all = below_more _ _ had.all (λ name meta. absurd (not name (meta.0, sym is ∙ meta.1)));
}
names_more files place file old new within is (OneMore name meta) had = record {
  there = λ n c. ⊎_elim (had.there n)
      (λ (same : name ≡ n). subst (λ m. IsName m × Contains files (meta_of (snapshot_file m))) same
      (meta.0, (place, within, get_or_default files place (meta_of (snapshot_file name)) [] within ∙ is ∙ meta.1)))
      (Contains-push_cases old name n c);
  all = below_more _ _ (λ k less n other. Contains-append_left old (name ∷ []) n (had.all k less n other))
      (λ n other. subst (Contains (old ++ name ∷ [])) (snapshots_differ name n
      (one_front file (codes ".meta") (snapshot_file name) (snapshot_file n) meta.1 (sym is ∙ other.1))) (Contains-push old name));
}

pub one_more : {X : Type 0} (f : X → List ℕ) (file image name : List ℕ) (items new : List X) (x : X) → new ≡ items ++ x ∷ []
    → f x ≡ name → IsName name → file ≡ image ++ codes ".meta" → image ≡ snapshot_file name → AddsSnapshot file (map f items) (map f new)
one_more f file image name items new x is text named e i =
    subst (AddsSnapshot file (map f items)) (sym (ap (map f) is ∙ map-append f items (x ∷ []) ∙ ap (λ n. map f items ++ n ∷ []) text))
    (OneMore name (named, e ∙ ap meta_of i))

pub no_meta : (file : List ℕ) (old : List (List ℕ)) → ((rest : List ℕ) → file ≢ rest ++ codes ".meta") → AddsSnapshot file old old
no_meta file old not = NoSnapshot (λ name meta. not (snapshot_file name) meta.1)

pub no_name : (file image : List ℕ) (old : List (List ℕ)) → file ≡ image ++ codes ".meta"
    → ((name : List ℕ) → IsName name × (image ≡ snapshot_file name) → ⊥) → AddsSnapshot file old old
no_name file image old cut not =
    NoSnapshot (λ name meta. not name (meta.0, one_front file (codes ".meta") image (snapshot_file name) cut meta.1))

-- ---- the whole list, in order and each name once

-- what is left of names that were sorted
pub record Leaves (unsorted names : List (List ℕ)) : Type 0 where
  pub sorted : List (List ℕ)
  pub moved : IsPermutation unsorted sorted
  pub is : names ≡ dedup (pointwise nat_eq) sorted

came : (unsorted names : List (List ℕ)) (name : List ℕ) → Leaves unsorted names → Contains names name → Contains unsorted name
came unsorted names name left c =
    Contains-permutation left.sorted unsorted name (IsPermutation-sym unsorted left.sorted left.moved)
    (Contains-from_dedup (pointwise nat_eq) left.sorted name (subst (λ l. Contains l name) left.is c))

stays : (unsorted names : List (List ℕ)) (name : List ℕ) → Leaves unsorted names → Contains unsorted name → Contains names name
stays unsorted names name left c =
    subst (λ l. Contains l name) (sym left.is)
    (Contains-dedup nat_list_eq_equiv (λ x y e. same_text x y (sym e)) left.sorted name
    (Contains-permutation unsorted left.sorted name left.moved c))

are_snapshots : (shelf : ℕ) (files : Files) (listed unsorted names : List (List ℕ)) (count : ℕ) → Lists shelf listed files
    → length listed ≤ count → HasSnapshots listed count unsorted → Leaves unsorted names → AreRising names
    → AreSnapshots (files shelf) names
are_snapshots shelf files listed unsorted names count lists enough had left rising = record {
  there = λ name c.
      let one = had.there name (came unsorted names name left c) in (one.0, lists.there (meta_of (snapshot_file name)) one.1);
  all = λ name has.
      let c : Contains listed (meta_of (snapshot_file name)) = lists.all (meta_of (snapshot_file name)) has.1 in
      stays unsorted names name left (had.all c.0 (omega (arith, c.1)) name
      (has.0, get_or_default listed c.0 [] (meta_of (snapshot_file name)) c.1 ∙ c.2));
  rising = rising;
}

pub told_snapshots : (a : Option Files) (shelf : ℕ) (listed unsorted names : List (List ℕ)) (count : ℕ)
    → Told a (λ files. Lists shelf listed files) → length listed ≤ count → HasSnapshots listed count unsorted → Leaves unsorted names
    → AreRising names → Told a (λ files. AreSnapshots (files shelf) names)
told_snapshots a shelf listed unsorted names count lists enough had left rising =
    told_map a (λ files. Lists shelf listed files) _ lists
    (λ files l. are_snapshots shelf files listed unsorted names count l enough had left rising)

pub still_named : (files : List (List ℕ)) (count : ℕ) (unsorted names : List (List ℕ)) → HasSnapshots files count unsorted
    → Leaves unsorted names → (name : List ℕ) → Contains names name → IsName name
still_named files count unsorted names had left name c = (had.there name (came unsorted names name left c)).0
