-- A list that is read item after item.
use Rattle.std.proofs.Common.{◌≡◌, ℕ, zero, suc, ◌+◌, ◌<◌, List, [], ◌∷◌, ◌++◌, length, get_or, take, drop, Option}
use Rattle.std.proofs.Common.{Some, option_and_then, Err, refl, sym, ap, subst, arith}
use Rattle.std.proofs.lemmas.List.{take_more, take-append-drop}
use Rattle.serde_json.specs.Data.{Data, Items}
use Rattle.serde_json.specs.Find.{as_array}
use Rattle.serde_json.specs.View.{view, items_view}
use Rattle.serde_json.specs.declared.value.Value.{Value}
use Rattle.script_head.specs.declared.error.HeadError.{HeadError}
use Rattle.script_head.specs.declared.member.Member.{Member}
use Rattle.script_head.specs.Refusals.{Reads}
use Rattle.script_head.specs.Values.{AreItems, HasItems}
use Rattle.script_head.proofs.OneValue.{same_value, one_list}
use Rattle.script_head.proofs.Readers.{Reads-err}

-- items behind items
AreItems-append : {A : Type 0} (IsItem : Data → A → Type 0) (vs ws : List Value) (xs ys : List A)
    → AreItems IsItem (items_view vs) xs → AreItems IsItem (items_view ws) ys → AreItems IsItem (items_view (vs ++ ws)) (xs ++ ys)
AreItems-append IsItem [] ws [] ys none are = are
AreItems-append IsItem [] ws (x ∷ xs) ys none are = absurd none
AreItems-append IsItem (v ∷ vs) ws [] ys none are = absurd none
AreItems-append IsItem (v ∷ vs) ws (x ∷ xs) ys (is, more) are = (is, AreItems-append IsItem vs ws xs ys more are)

-- one item more is read
pub one_more : {A : Type 0} (IsItem : Data → A → Type 0) (vs : List Value) (i : ℕ) (v : Value) (xs : List A) (x : A)
    → i < length vs → v ≡ get_or vs i v
    → AreItems IsItem (items_view (take i vs)) xs → IsItem (view v) x → AreItems IsItem (items_view (take (i + 1) vs)) (xs ++ x ∷ [])
one_more IsItem vs i v xs x within there are is =
    let here : IsItem (view (get_or vs i v)) x = subst (λ (w : Value). IsItem (view w) x) there is in
    rw (take_more vs i v within) (AreItems-append IsItem (take i vs) (get_or vs i v ∷ []) xs (x ∷ []) are (here, tt))

-- each of the items is something
each_is : {A : Type 0} (IsItem : Data → A → Type 0) (vs : List Value) (i : ℕ) (v : Value) (xs : List A) → i < length vs
    → AreItems IsItem (items_view vs) xs → (x : A) × IsItem (view (get_or vs i v)) x
each_is IsItem [] i v xs within are = absurd (omega arith)
each_is IsItem (w ∷ ws) i v [] within are = absurd are
each_is IsItem (w ∷ ws) zero v (x ∷ xs) within (is, more) = (x, is)
each_is IsItem (w ∷ ws) (suc i) v (x ∷ xs) within (is, more) = each_is IsItem ws i v xs (omega arith) more

-- where one item is nothing, the items are no list
pub one_refused : {A : Type 0} (m : Member) (IsItem : Data → A → Type 0) (vs : List Value) (i : ℕ) (v : Value)
    (e : HeadError) → i < length vs → v ≡ get_or vs i v
    → Reads m (IsItem (view v)) (Err e) → Reads m (AreItems IsItem (items_view vs)) (Err e)
one_refused m IsItem vs i v e within there =
    Reads-err m (IsItem (view v)) (AreItems IsItem (items_view vs)) e
    (λ xs are. let found = each_is IsItem vs i v xs within are in (found.0, subst (λ w. IsItem (view w) found.0) (sym there) found.1))

-- nor a good list of some kind
pub one_refused_of : {A : Type 0} (m : Member) (IsItem : Data → A → Type 0) (Is : List A → Type 0) (vs : List Value) (i : ℕ)
    (v : Value) (e : HeadError) → i < length vs → v ≡ get_or vs i v
    → Reads m (IsItem (view v)) (Err e) → Reads m (λ xs. AreItems IsItem (items_view vs) xs × Is xs) (Err e)
one_refused_of m IsItem Is vs i v e within there refused =
    Reads-err m (AreItems IsItem (items_view vs)) (λ xs. AreItems IsItem (items_view vs) xs × Is xs) e (λ xs both. (xs, both.0))
    (one_refused m IsItem vs i v e within there refused)

-- the first of the items are the first of the list
AreItems-front : {A : Type 0} (IsItem : Data → A → Type 0) (vs ws : List Value) (zs : List A) → AreItems IsItem (items_view (vs ++ ws)) zs
    → (xs : List A) × (ys : List A) × AreItems IsItem (items_view vs) xs × (zs ≡ xs ++ ys)
AreItems-front IsItem [] ws zs are = ([], zs, tt, refl)
AreItems-front IsItem (v ∷ vs) ws [] are = absurd are
AreItems-front IsItem (v ∷ vs) ws (z ∷ zs) (is, more) =
    let front = AreItems-front IsItem vs ws zs more in (z ∷ front.0, front.1, (is, front.2), ap (λ l. z ∷ l) front.3)

-- where the first items are a list that may not be so, as each front of a good list is, all items are no good list
pub none_behind : {A : Type 0} (IsItem : Data → A → Type 0) → ((d : Data) (a b : A) → IsItem d a → IsItem d b → a ≡ b)
    → (Is : List A → Type 0) → ((xs ys : List A) → Is (xs ++ ys) → Is xs)
    → (vs : List Value) (i : ℕ) (v : Value) (xs : List A) (x : A) → i < length vs → v ≡ get_or vs i v
    → AreItems IsItem (items_view (take i vs)) xs → IsItem (view v) x → (Is (xs ++ x ∷ []) → ⊥)
    → (zs : List A) → AreItems IsItem (items_view vs) zs × Is zs → ⊥
none_behind IsItem one Is front vs i v xs x within there are is bad zs (all, good) =
    let cut = AreItems-front IsItem (take (i + 1) vs) (drop (i + 1) vs) zs
    (subst (λ l. AreItems IsItem (items_view l) zs) (sym (take-append-drop (i + 1) vs)) all) in
    let same = one_list IsItem one (items_view (take (i + 1) vs)) cut.0 (xs ++ x ∷ []) cut.2
    (one_more IsItem vs i v xs x within there are is) in
    bad (subst Is same (front cut.0 cut.1 (subst Is cut.3 good)))

-- there are as many
pub length-AreItems : {A : Type 0} (IsItem : Data → A → Type 0) (vs : List Value) (xs : List A)
    → AreItems IsItem (items_view vs) xs → length xs ≡ length vs
length-AreItems IsItem [] [] are = refl
length-AreItems IsItem [] (x ∷ xs) are = absurd are
length-AreItems IsItem (v ∷ vs) [] are = absurd are
length-AreItems IsItem (v ∷ vs) (x ∷ xs) (is, more) = ap suc (length-AreItems IsItem vs xs more)

-- the list that is there is that of these values
pub items_there : {A : Type 0} (IsItem : Data → A → Type 0) (found : Option Data) (vs : List Value) (xs : List A)
    → option_and_then as_array found ≡ Some (items_view vs)
    → HasItems IsItem found xs → AreItems IsItem (items_view vs) xs
items_there IsItem found vs xs there (items, here, are) = subst (λ (ds : Items). AreItems IsItem ds xs) (same_value _ here there) are
