-- The map of the names that were taken, and the list that contracts see of it.
use Rattle.std.proofs.Common.{◌≡◌, ℕ, Bool, true, false, cond, ◌||◌, not, List, [], ◌∷◌, ◌++◌, map, refl, sym, ap, ◌∙◌}
use Rattle.std.specs.Prelude.{Option, Some, None, is_some, reverse}
use Rattle.std.specs.List.{list_any, IsDistinct, AllByRecursion}
use Rattle.std.specs.Map.{keys_of, lookup, set_value}
use Rattle.std.specs.Str.{bytes_eq}
use Rattle.std.proofs.lemmas.Bool.{cond-true, cond-false, or_parts}
use Rattle.std.proofs.lemmas.List.{reverse-append, map-append, append-nil}
use Rattle.std.proofs.lemmas.List.Folds.{list_any-append}
use Rattle.std.proofs.lemmas.Map.Keys.{IsDistinct-head, IsDistinct-tail}
use Rattle.std.proofs.lemmas.Map.Made.{is_some-lookup}
use Rattle.std.proofs.lemmas.Slice.Eq.{bytes_eq-Decides}
use Rattle.volume_model.specs.declared.names.UsedName.{UsedName}
use Rattle.volume_model.specs.Names.{is_used_in, is_live_in, name_marked}
use Rattle.journal_book.specs.Taken.{used_name, taken_of, with_found}

-- the oldest name is the last
taken-cons : (e : List ℕ × Bool) (es : List (List ℕ × Bool)) → taken_of (e ∷ es) ≡ taken_of es ++ used_name e ∷ []
taken-cons e es = reverse-append (used_name e ∷ []) (map used_name es)

-- and the newest the first
taken-push : (es : List (List ℕ × Bool)) (e : List ℕ × Bool) → taken_of (es ++ e ∷ []) ≡ used_name e ∷ taken_of es
taken-push es e = ap reverse (map-append used_name es (e ∷ [])) ∙ reverse-append (map used_name es) (used_name e ∷ [])

-- ---- whether a name was taken

or_turned : (a b c : Bool) → a ≡ c → (a || (b || false)) ≡ (b || c)
or_turned true true c e = refl
or_turned true false c e = e
or_turned false true c e = refl
or_turned false false c e = e

-- it is one of the keys
is_used-taken : (es : List (List ℕ × Bool)) (q : List ℕ) → is_used_in (taken_of es) q ≡ list_any (bytes_eq q) (keys_of es)
is_used-taken [] q = refl
is_used-taken (e ∷ es) q =
    ap (λ ns. is_used_in ns q) (taken-cons e es)
    ∙ list_any-append (λ (n : UsedName). bytes_eq q n.name) (taken_of es) (used_name e ∷ [])
    ∙ or_turned (is_used_in (taken_of es) q) (bytes_eq q e.0) (list_any (bytes_eq q) (keys_of es)) (is_used-taken es q)

pub used_there : (es : List (List ℕ × Bool)) (q : List ℕ) → is_used_in (taken_of es) q ≡ is_some (lookup (bytes_eq q) es)
used_there es q = is_used-taken es q ∙ sym (is_some-lookup (bytes_eq q) es)

-- a key is in the map once
alone : (q k : List ℕ) (ks : List (List ℕ)) → bytes_eq q k ≡ true → AllByRecursion (λ y. bytes_eq k y ≡ false) ks
    → list_any (bytes_eq q) ks ≡ false
alone q k [] same none = refl
alone q k (x ∷ xs) same none =
    ap (λ b. b || list_any (bytes_eq q) xs) (ap (λ p. bytes_eq p x) ((bytes_eq-Decides q k).0 same) ∙ none.0) ∙ alone q k xs same none.1

unused : (q : List ℕ) (e : List ℕ × Bool) (es : List (List ℕ × Bool)) → bytes_eq q e.0 ≡ true
    → IsDistinct bytes_eq (keys_of (e ∷ es)) → is_used_in (taken_of es) q ≡ false
unused q e es same distinct = is_used-taken es q ∙ alone q e.0 (keys_of es) same (IsDistinct-head bytes_eq e.0 (keys_of es) distinct)

-- ---- whether its snapshot can be used

-- what the map says of a name
abbrev pub live_at : Option Bool → Bool
live_at None = false
live_at (Some marked) = not marked

either : (b m u l r : Bool) → cond b m (cond u l r) ≡ cond (b || u) (cond b m l) r
either true m u l r = refl
either false m u l r = refl

is_live-append : (xs ys : List UsedName) (q : List ℕ) → is_live_in (xs ++ ys) q ≡ cond (is_used_in xs q) (is_live_in xs q) (is_live_in ys q)
is_live-append [] ys q = refl
is_live-append (x ∷ xs) ys q =
    ap (cond (bytes_eq q x.name) (not x.marked)) (is_live-append xs ys q)
    ∙ either (bytes_eq q x.name) (not x.marked) (is_used_in xs q) (is_live_in xs q) (is_live_in ys q)

live_used : (xs : List UsedName) (q : List ℕ) → cond (is_used_in xs q) (is_live_in xs q) false ≡ is_live_in xs q
live_used xs q = sym (is_live-append xs [] q) ∙ ap (λ ns. is_live_in ns q) (append-nil xs)

pub live_there : (es : List (List ℕ × Bool)) (q : List ℕ) → IsDistinct bytes_eq (keys_of es)
    → is_live_in (taken_of es) q ≡ live_at (lookup (bytes_eq q) es)
live_there [] q distinct = refl
live_there (e ∷ es) q distinct =
    ap (λ ns. is_live_in ns q) (taken-cons e es) ∙ is_live-append (taken_of es) (used_name e ∷ []) q
    ∙ one (bytes_eq q e.0) refl (live_there es q (IsDistinct-tail bytes_eq e.0 (keys_of es) distinct))
  where
    one : (b : Bool) → bytes_eq q e.0 ≡ b → is_live_in (taken_of es) q ≡ live_at (lookup (bytes_eq q) es)
        → cond (is_used_in (taken_of es) q) (is_live_in (taken_of es) q) (cond b (not e.1) false) ≡ live_at
        (cond b (Some e.1) (lookup (bytes_eq q) es))
    one true same rest = ap (λ u. cond u (is_live_in (taken_of es) q) (not e.1)) (unused q e es same distinct)
    one false other rest = live_used (taken_of es) q ∙ rest

-- ---- one name more

-- the map does not have it
pub none_there : (o : Option Bool) → is_some o ≡ false → o ≡ None
none_there None none = refl
none_there (Some marked) none = absurd cc

-- one that was not there
pub taken_new : (es : List (List ℕ × Bool)) (q : List ℕ) (marked : Bool) → lookup (bytes_eq q) es ≡ None
    → taken_of (es ++ (q, marked) ∷ []) ≡ with_found (taken_of es) q marked
taken_new es q marked new =
    taken-push es (q, marked)
    ∙ sym (cond-false (is_used_in (taken_of es) q) (taken_of es) (used_name (q, marked) ∷ taken_of es) (used_there es q ∙ ap is_some new))

-- and one that was
pub taken_again : (es : List (List ℕ × Bool)) (q : List ℕ) (marked : Bool) → is_some (lookup (bytes_eq q) es) ≡ true
    → taken_of es ≡ with_found (taken_of es) q marked
taken_again es q marked there =
    sym (cond-true (is_used_in (taken_of es) q) (taken_of es) (used_name (q, marked) ∷ taken_of es)
    (used_there es q ∙ there))

-- ---- a name's mark

-- a name that was not taken
unmarked : (q : List ℕ) (ns : List UsedName) → is_used_in ns q ≡ false → map (name_marked q) ns ≡ ns
unmarked q [] none = refl
unmarked q (n ∷ ns) none =
    let parts = or_parts (bytes_eq q n.name) (is_used_in ns q) none in
    ap (λ b. cond b (record n { marked = true }) n ∷ map (name_marked q) ns) parts.0 ∙ ap (λ l. n ∷ l) (unmarked q ns parts.1)

pub taken_unmarked : (es : List (List ℕ × Bool)) (q : List ℕ) → lookup (bytes_eq q) es ≡ None
    → taken_of es ≡ map (name_marked q) (taken_of es)
taken_unmarked es q new = sym (unmarked q (taken_of es) (used_there es q ∙ ap is_some new))

-- one write in the map
pub taken_marked : (es : List (List ℕ × Bool)) (q : List ℕ) → IsDistinct bytes_eq (keys_of es)
    → taken_of (set_value (bytes_eq q) es true) ≡ map (name_marked q) (taken_of es)
taken_marked [] q distinct = refl
taken_marked (e ∷ es) q distinct =
    one (bytes_eq q e.0) refl (taken_marked es q (IsDistinct-tail bytes_eq e.0 (keys_of es) distinct))
    ∙ sym (ap (map (name_marked q)) (taken-cons e es) ∙ map-append (name_marked q) (taken_of es) (used_name e ∷ []))
  where
    one : (b : Bool) → bytes_eq q e.0 ≡ b → taken_of (set_value (bytes_eq q) es true) ≡ map (name_marked q) (taken_of es)
        → taken_of (cond b ((e.0, true) ∷ es) (e ∷ set_value (bytes_eq q) es true)) ≡ map (name_marked q) (taken_of es)
        ++ cond b (record { name = e.0; marked = true }) (used_name e) ∷ []
    one true same rest =
        taken-cons (e.0, true) es ∙ ap (λ ns. ns ++ used_name (e.0, true) ∷ [])
        (sym (unmarked q (taken_of es) (unused q e es same distinct)))
    one false other rest = taken-cons e (set_value (bytes_eq q) es true) ∙ ap (λ ns. ns ++ used_name e ∷ []) rest
