-- Names of backups among those of objects, in byte order.
use Rattle.std.proofs.Common.{◌≡◌, ◌≢◌, ◌⊎◌, ◌↔◌, ⊎_elim, ℕ, ◌+◌, ◌<◌, ◌≤◌, List, [], ◌∷◌, ◌++◌, length, take, get_or, map, codes}
use Rattle.std.proofs.Common.{Option, None, Some, Result, Ok, Err, String, Global, string_bytes, Bor, inl, inr, sym, ap, subst, ◌∙◌, arith}
use Rattle.std.specs.Prelude.{Contains, MatchOption, OkIff, IsPermutation, IsSorted, IsSome, nat_eq}
use Rattle.std.specs.Cmp.Lexicographic.{pointwise, slice_cmp, same_text, nat_list_eq_equiv, texts_ties}
use Rattle.std.specs.List.{dedup}
use Rattle.std.specs.List.Retain.{DiffersFromLast, IsFiltered}
use Rattle.std.specs.List.Sorted.{IsStrictlySortedBy}
use Rattle.std.specs.Ordering.{nat_cmp}
use Rattle.std.specs.Result.{result_ok}
use Rattle.std.proofs.lemmas.Cmp.{nat_list_cmp_total}
use Rattle.std.proofs.lemmas.List.{append_cancel_left, append_cancel_right, take_more, take_all, get_or-map, length-map}
use Rattle.std.proofs.lemmas.List.Elements.{Contains-push, Contains-push_cases, Contains-append_left}
use Rattle.std.proofs.lemmas.List.Filters.{dedup_is}
use Rattle.std.proofs.lemmas.List.Kept.{Contains-dedup, Contains-from_dedup, IsStrictlySortedBy-dedup}
use Rattle.std.proofs.lemmas.List.Sorted.{IsPermutation-sym, Contains-permutation}
use Rattle.target_traits.specs.Objects.{Objects, ListsObjects}
use Rattle.vol_units.specs.Name.{IsPlainName}
use Rattle.vol_units.specs.declared.error.BadName.{BadName}
use Rattle.backup_units.specs.Names.{cfg_prefix}
use Rattle.backup_restore.specs.Listed.{AreBackups}
use Rattle.backup_restore.specs.Listing.{IsCfgName, AddsName, AreNamesIn}

-- ---- one object

pub cut_both : (text front back rest : List ℕ) (r : Option (Bor (List ℕ))) → text ≡ front ++ rest
    → MatchOption r ((m : List ℕ) → rest ≢ m ++ back) (λ m. rest ≡ m.now ++ back)
    → MatchOption r ((m : List ℕ) → text ≢ front ++ (m ++ back)) (λ m. text ≡ front ++ (m.now ++ back))
cut_both text front back rest None cut none = λ m e. none m (append_cancel_left front rest (m ++ back) (sym cut ∙ e))
cut_both text front back rest (Some m) cut is = cut ∙ ap (λ r. front ++ r) is

-- an object is the cfg of one backup
one_name : (prefix object a b : List ℕ) → object ≡ prefix ++ (a ++ codes ".cfg") → object ≡ prefix ++ (b ++ codes ".cfg") → a ≡ b
one_name prefix object a b is too =
    append_cancel_right a b (codes ".cfg") (append_cancel_left prefix (a ++ codes ".cfg") (b ++ codes ".cfg") (sym is ∙ too))

pub name_read : (prefix object name : List ℕ) (r : Result (List ℕ) BadName) (o : Option (List ℕ)) → o ≡ result_ok r
    → object ≡ prefix ++ (name ++ codes ".cfg") → OkIff r (IsPlainName name) name
    → MatchOption o ((n : List ℕ) → IsCfgName prefix n object → ⊥) (λ n. IsCfgName prefix n object)
name_read prefix object name (Ok n) o same cut (plain, is) =
    subst (λ x. MatchOption x ((n : List ℕ) → IsCfgName prefix n object → ⊥) (λ n. IsCfgName prefix n object)) (sym same)
    (subst (λ n. IsCfgName prefix n object) (sym is) (plain, cut))
name_read prefix object name (Err e) o same cut none =
    subst (λ x. MatchOption x ((n : List ℕ) → IsCfgName prefix n object → ⊥) (λ n. IsCfgName prefix n object)) (sym same)
    (λ n is. none (subst IsPlainName (one_name prefix object n name is.1 cut) is.0))

pub name_added : (prefix object name : List ℕ) (old new : List (List ℕ)) → new ≡ old ++ name ∷ [] → IsCfgName prefix name object
    → AddsName prefix object old new
name_added prefix object name old new pushed is = λ n. (there n, back n)
  where
    there : (n : List ℕ) → Contains new n → Contains old n ⊎ IsCfgName prefix n object
    there n c = ⊎_elim (λ was. inl was) (λ same. inr (subst (λ x. IsCfgName prefix x object) same is))
        (Contains-push_cases old name n (subst (λ l. Contains l n) pushed c))

    back : (n : List ℕ) → Contains old n ⊎ IsCfgName prefix n object → Contains new n
    back n (inl was) = subst (λ l. Contains l n) (sym pushed) (Contains-append_left old (name ∷ []) n was)
    back n (inr cfg) =
        subst (λ l. Contains l n) (sym pushed)
        (subst (Contains (old ++ name ∷ [])) (one_name prefix object name n is.1 cfg.1) (Contains-push old name))

-- ---- all objects

pub names_none : (prefix : List ℕ) → AreNamesIn prefix [] []
names_none prefix = λ n. (λ c. absurd (omega (arith, c.1)), λ c. absurd (omega (arith, c.1.1)))

one_more : (prefix : List ℕ) (objects : List (List ℕ)) (object : List ℕ) (old new : List (List ℕ)) → AddsName prefix object old new
    → AreNamesIn prefix objects old → AreNamesIn prefix (objects ++ object ∷ []) new
one_more prefix objects object old new adds had = λ n. (there n, back n)
  where
    there : (n : List ℕ) → Contains new n → IsPlainName n × Contains (objects ++ object ∷ []) (prefix ++ (n ++ codes ".cfg"))
    there n c = by ((adds n).0 c)
      where
        by : Contains old n ⊎ IsCfgName prefix n object
            → IsPlainName n × Contains (objects ++ object ∷ []) (prefix ++ (n ++ codes ".cfg"))
        by (inl was) =
            let h = (had n).0 was in (h.0, Contains-append_left objects (object ∷ []) (prefix ++ (n ++ codes ".cfg")) h.1)
        by (inr is) = (is.0, subst (Contains (objects ++ object ∷ [])) is.1 (Contains-push objects object))

    back : (n : List ℕ) → IsPlainName n × Contains (objects ++ object ∷ []) (prefix ++ (n ++ codes ".cfg")) → Contains new n
    back n (plain, c) = (adds n).1 (by (Contains-push_cases objects object (prefix ++ (n ++ codes ".cfg")) c))
      where
        by : Contains objects (prefix ++ (n ++ codes ".cfg")) ⊎ (object ≡ prefix ++ (n ++ codes ".cfg"))
            → Contains old n ⊎ IsCfgName prefix n object
        by (inl was) = inl ((had n).1 (plain, was))
        by (inr is) = inr (plain, is)

pub names_more : (prefix : List ℕ) (objects : List (String Global)) (i : ℕ) (object : String Global) (text : List ℕ)
    (old new : List (List ℕ)) → i < length objects → object ≡ get_or objects i object → text ≡ string_bytes object
    → AddsName prefix text old new → AreNamesIn prefix (take i (map string_bytes objects)) old
    → AreNamesIn prefix (take (i + 1) (map string_bytes objects)) new
names_more prefix objects i object text old new within is spelled adds had =
    let texts = map (string_bytes {Z = Global}) objects in
    let at : get_or texts i [] ≡ text =
    get_or-map string_bytes objects i object [] within ∙ ap string_bytes (sym is) ∙ sym spelled in
    subst (λ l. AreNamesIn prefix l new)
    (sym (take_more texts i [] (omega (arith, within, length-map objects (string_bytes {Z = Global})))
    ∙ ap (λ t. take i texts ++ t ∷ []) at))
    (one_more prefix (take i texts) text old new adds had)

pub names_all : (prefix : List ℕ) (objects : List (String Global)) (i : ℕ) (names : List (List ℕ)) → length objects ≤ i
    → AreNamesIn prefix (take i (map string_bytes objects)) names → AreNamesIn prefix (map string_bytes objects) names
names_all prefix objects i names past had =
    let texts = map (string_bytes {Z = Global}) objects in
    subst (λ l. AreNamesIn prefix l names)
    (take_all i texts (omega (arith, past, length-map objects (string_bytes {Z = Global})))) had

-- ---- in order

pub same_names : (unsorted sorted names : List (List ℕ)) → IsPermutation unsorted sorted
    → IsFiltered (DiffersFromLast (pointwise nat_eq)) [] sorted names → (name : List ℕ) → Contains names name ↔ Contains unsorted name
same_names unsorted sorted names moved kept name = (
  λ c. Contains-permutation sorted unsorted name (IsPermutation-sym unsorted sorted moved)
      (Contains-from_dedup (pointwise nat_eq) sorted name (subst (λ l. Contains l name) is c)),
  λ c. subst (λ l. Contains l name) (sym is)
      (Contains-dedup nat_list_eq_equiv (λ x y e. same_text x y (sym e)) sorted name (Contains-permutation unsorted sorted name moved c)),
)
  where
    is : names ≡ dedup (pointwise nat_eq) sorted
    is = dedup_is (pointwise nat_eq) sorted names kept

pub names_rise : (sorted names : List (List ℕ)) → IsSorted (slice_cmp nat_cmp) sorted
    → IsFiltered (DiffersFromLast (pointwise nat_eq)) [] sorted names → IsStrictlySortedBy (slice_cmp nat_cmp) names
names_rise sorted names in_order kept =
    subst (IsStrictlySortedBy (slice_cmp nat_cmp)) (sym (dedup_is (pointwise nat_eq) sorted names kept))
    (IsStrictlySortedBy-dedup nat_list_cmp_total texts_ties sorted in_order)

-- ---- on a target

pub are_backups : (objects : Objects) (volume prefix : List ℕ) (listed unsorted names : List (List ℕ)) → prefix ≡ cfg_prefix volume
    → ListsObjects prefix listed objects → AreNamesIn prefix listed unsorted
    → ((name : List ℕ) → Contains names name ↔ Contains unsorted name) → IsStrictlySortedBy (slice_cmp nat_cmp) names
    → AreBackups objects volume names
are_backups objects volume prefix listed unsorted names is lists had same rising = record {
  exact = λ n. (
    λ c. let h = (had n).0 ((same n).0 c) in
        (h.0, subst (λ p. IsSome (objects (p ++ (n ++ codes ".cfg")))) is ((lists.exact (n ++ codes ".cfg")).0 h.1)),
    λ c. (same n).1 ((had n).1
        (c.0, (lists.exact (n ++ codes ".cfg")).1 (subst (λ p. IsSome (objects (p ++ (n ++ codes ".cfg")))) (sym is) c.1))),
  );
  ascending = rising;
}
