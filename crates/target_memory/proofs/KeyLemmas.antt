-- The names of the objects that a map keeps.
use Rattle.std.proofs.Common.{◌≡◌, ℕ, Bool, true, false, true≢false, cond, List, [], ◌∷◌, ◌++◌, map, length, drop, Option, Some, inl, inr}
use Rattle.std.proofs.Common.{Vec, Global, String, string_bytes, option_map, IsSome, refl, sym, ap, subst, ◌∙◌, rules, Less}
use Rattle.std.proofs.lemmas.Bool.Decides.{Decides-eqb}
use Rattle.std.proofs.lemmas.List.{append-nil}
use Rattle.std.proofs.lemmas.Slice.Eq.{bytes_eq-Decides, starts_is}
use Rattle.std.proofs.lemmas.Map.Text.{is_eq-slice_cmp}
use Rattle.std.specs.List.{AllByRecursion}
use Rattle.std.specs.List.Sorted.{IsStrictlySortedBy}
use Rattle.std.specs.Ordering.{nat_cmp, is_eq}
use Rattle.std.specs.Cmp.Lexicographic.{slice_cmp}
use Rattle.std.specs.String.{string_cmp}
use Rattle.std.specs.Map.{lookup}
use Rattle.std.specs.BTreeMap.{BTreeMap, is_at, keys, IsOrdered}
use Rattle.target_traits.specs.Objects.{ListsObjects}
use Rattle.target_memory.specs.Kept.{objects_in}
use Rattle.target_memory.proofs.NameLemmas.{named, In, in_from, in_to, begins, begins_so, named_in, in_named, Apart, apart_named, distinct}

abbrev Entries : Type 0
Entries = List (String Global × Vec ℕ Global)

abbrev names_of : Entries → List (List ℕ)
names_of es = map string_bytes (map (λ (e : String Global × Vec ℕ Global). e.0) es)

abbrev shown : Option (Vec ℕ Global) → Option (List ℕ)
shown o = option_map (λ (v : Vec ℕ Global). v.items) o

abbrev found : List ℕ → Entries → Option (Vec ℕ Global)
found name es = lookup (is_at (λ (k : String Global). slice_cmp nat_cmp name (string_bytes k))) es

abbrev is_key : List ℕ → String Global → Bool
is_key name k = is_eq (slice_cmp nat_cmp name (string_bytes k))

-- keys that ascend differ
apart_sorted : (ks : List (String Global)) → IsStrictlySortedBy string_cmp ks → Apart (map string_bytes ks)
unfolding IsStrictlySortedBy
apart_sorted [] h = tt
apart_sorted (k ∷ ks) (below, more) = (none ks below, apart_sorted ks more)
  where
    self : (x : List ℕ) → is_eq (slice_cmp nat_cmp x x) ≡ true
    self x = is_eq-slice_cmp x x ∙ (bytes_eq-Decides x x).1 refl

    no_less : (x y : List ℕ) → slice_cmp nat_cmp x y ≡ Less → y ≡ x → ⊥
    no_less x y less e = true≢false (sym (self x) ∙ ap (λ z. is_eq (slice_cmp nat_cmp x z)) (sym e) ∙ ap is_eq less)

    none : (ks : List (String Global)) → AllByRecursion (λ y. string_cmp k y ≡ Less) ks → In (map string_bytes ks) (string_bytes k) → ⊥
    none [] b h = h
    none (y ∷ ys) (b, bs) (inl e) = no_less (string_bytes k) (string_bytes y) b e
    none (y ∷ ys) (b, bs) (inr h) = none ys bs h

-- what is among the names has an object
there : (name : List ℕ) (es : Entries) → In (names_of es) name → IsSome (shown (found name es))
there name [] h = absurd h
there name ((k, v) ∷ es) (inl e) =
    let is = is_eq-slice_cmp name (string_bytes k) ∙ (bytes_eq-Decides name (string_bytes k)).1 (sym e) in
    subst (λ b. IsSome (shown (cond b (Some v) (found name es)))) (sym is) (search rules)
there name ((k, v) ∷ es) (inr h) = by_test (there name es h) (is_key name k)
  where
    by_test : IsSome (shown (found name es)) → (b : Bool) → IsSome (shown (cond b (Some v) (found name es)))
    by_test more true = search rules
    by_test more false = more

-- what has an object is among the names
from_there : (name : List ℕ) (es : Entries) → IsSome (shown (found name es)) → In (names_of es) name
from_there name [] h = search rules
from_there name ((k, v) ∷ es) h = by_test (from_there name es) (is_key name k) refl h
  where
    by_test : (IsSome (shown (found name es)) → In (names_of es) name) → (b : Bool) → is_key name k ≡ b
        → IsSome (shown (cond b (Some v) (found name es))) → In (names_of ((k, v) ∷ es)) name
    by_test more true is h =
        inl (sym ((bytes_eq-Decides name (string_bytes k)).0 (sym (is_eq-slice_cmp name (string_bytes k)) ∙ is)))
    by_test more false is h = inr (more h)

-- the keys that begin so are the names of the objects that do
pub lists_keys : (prefix : List ℕ) (m : BTreeMap (String Global) (Vec ℕ Global)) → IsOrdered string_cmp m
    → ListsObjects prefix (named prefix (map string_bytes (keys m))) (objects_in m)
lists_keys prefix m ordered = record {
  exact = λ rest. let name = prefix ++ rest in (
    λ has. there name m.entries (named_in prefix names name (in_from _ _ has)).0,
    λ is. in_to _ _ (in_named prefix names name (begins_so prefix rest) (from_there name m.entries is)),
  );
  prefixed = λ name has. (
    drop (length prefix) name,
    (starts_is Decides-eqb name prefix (begins prefix name) refl).0 (named_in prefix names name (in_from _ _ has)).1,
  );
  once = distinct _ (apart_named prefix _ (apart_sorted (keys m) ordered));
}
  where
    names : List (List ℕ)
    names = map string_bytes (keys m)

-- the end of the loop over the names: nothing is left
pub lists : (prefix : List ℕ) (m : BTreeMap (String Global) (Vec ℕ Global)) (names : List (List ℕ)) (left : List (String Global))
    → left ≡ [] → names ++ named prefix (map string_bytes left) ≡ named prefix (map string_bytes (keys m))
    → IsOrdered string_cmp m → ListsObjects prefix names (objects_in m)
lists prefix m names left none so_far ordered =
    let at_end = ap (λ (ks : List (String Global)). names ++ named prefix (map string_bytes ks)) (sym none) in
    subst (λ xs. ListsObjects prefix xs (objects_in m)) (sym (sym (append-nil names) ∙ at_end ∙ so_far)) (lists_keys prefix m ordered)
