-- Files one after another.
use Rattle.std.proofs.Common.{◌≡◌, ◌≢◌, ◌⊎◌, ℕ, zero, suc, ◌<◌, true, false, cond}
use Rattle.std.proofs.Common.{List, [], ◌∷◌, ◌++◌, length, get_or, set, remove, Option, Some, None, inl, inr}
use Rattle.std.proofs.Common.{refl, sym, ap, subst, ◌∙◌, arith}
use Rattle.std.specs.List.{All}
use Rattle.std.specs.Prelude.{unwrap_or}
use Rattle.std.proofs.lemmas.Bool.{and_parts, and_from, eq-eqb}
use Rattle.std.proofs.lemmas.List.Elements.{All-head, All-tail}
use Rattle.std.proofs.lemmas.Slice.Eq.{bytes_eq-Decides}
use Rattle.shelf_traits.specs.Files.{Becomes, OthersStay}
use Rattle.shelf_memory.specs.Kept.{Kept, SameName, Makes, is_file, files_of, kept_at, IsAt}

pub files-here : (k : Kept) (ks : List Kept) (shelf : ℕ) (name : List ℕ) → is_file shelf name k ≡ true
    → files_of (k ∷ ks) shelf name ≡ Some k.held
unfolding files_of
files-here k ks shelf name is = ap (λ t. cond t (Some k.held) (files_of ks shelf name)) is

pub files-further : (k : Kept) (ks : List Kept) (shelf : ℕ) (name : List ℕ) → is_file shelf name k ≡ false
    → files_of (k ∷ ks) shelf name ≡ files_of ks shelf name
unfolding files_of
files-further k ks shelf name is = ap (λ t. cond t (Some k.held) (files_of ks shelf name)) is

pub files_nowhere : (ks : List Kept) (shelf : ℕ) (name : List ℕ) → All (λ k. is_file shelf name k ≡ false) ks
    → files_of ks shelf name ≡ None
unfolding files_of
files_nowhere [] shelf name none = refl
files_nowhere (k ∷ ks) shelf name none =
    files-further k ks shelf name (All-head (λ k. is_file shelf name k ≡ false) k ks none)
    ∙ files_nowhere ks shelf name (All-tail (λ k. is_file shelf name k ≡ false) k ks none)

behind_first : (k : Kept) (ks : List Kept) (shelf : ℕ) (name : List ℕ) (i : ℕ) → IsAt (k ∷ ks) shelf name (suc i)
    → IsAt ks shelf name i
behind_first k ks shelf name i at = record {
  within = omega (arith, at.within);
  named = at.named;
  first = λ j less. at.first (suc j) (omega arith);
}

pub files_at : (ks : List Kept) (shelf : ℕ) (name : List ℕ) (i : ℕ) → IsAt ks shelf name i
    → files_of ks shelf name ≡ Some (kept_at ks i).held
files_at [] shelf name i at = absurd (omega (arith, at.within))
files_at (k ∷ ks) shelf name zero at = files-here k ks shelf name at.named
files_at (k ∷ ks) shelf name (suc i) at =
    files-further k ks shelf name (at.first 0 (omega arith))
    ∙ files_at ks shelf name i (behind_first k ks shelf name i at)

-- ---- another file at that place

pub files-set_at : (ks : List Kept) (shelf : ℕ) (name : List ℕ) (i : ℕ) (k : Kept) → IsAt ks shelf name i
    → is_file shelf name k ≡ true → files_of (set ks i k) shelf name ≡ Some k.held
files-set_at [] shelf name i k at is = absurd (omega (arith, at.within))
files-set_at (x ∷ ks) shelf name zero k at is = files-here k ks shelf name is
files-set_at (x ∷ ks) shelf name (suc i) k at is =
    files-further x _ shelf name (at.first 0 (omega arith))
    ∙ files-set_at ks shelf name i k (behind_first x ks shelf name i at) is

-- a file of one name is none of another
other_file : (k : Kept) (shelf s : ℕ) (name f : List ℕ) → is_file shelf name k ≡ true → (s ≢ shelf) ⊎ (f ≢ name)
    → is_file s f k ≡ false
other_file k shelf s name f is (inl other) = grind (arith, and_parts, is, other)
other_file k shelf s name f is (inr other) = grind (arith, and_parts, is, other, bytes_eq-Decides)

pub files-set_other : (ks : List Kept) (s : ℕ) (f : List ℕ) (i : ℕ) (k : Kept) → is_file s f (kept_at ks i) ≡ false
    → is_file s f k ≡ false → files_of (set ks i k) s f ≡ files_of ks s f
unfolding files_of
files-set_other [] s f i k was is = refl
files-set_other (x ∷ ks) s f zero k was is = files-further k ks s f is ∙ sym (files-further x ks s f was)
files-set_other (x ∷ ks) s f (suc i) k was is = ap (λ rest. cond (is_file s f x) (Some x.held) rest) (files-set_other ks s f i k was is)

-- a file more, where there was none
files-push : (ks : List Kept) (k : Kept) (s : ℕ) (f : List ℕ) → is_file s f k ≡ false
    → files_of (ks ++ k ∷ []) s f ≡ files_of ks s f
unfolding files_of
files-push [] k s f is = files-further k [] s f is
files-push (x ∷ ks) k s f is = ap (λ rest. cond (is_file s f x) (Some x.held) rest) (files-push ks k s f is)

files-push_here : (ks : List Kept) (k : Kept) (s : ℕ) (f : List ℕ) → All (λ k. is_file s f k ≡ false) ks
    → is_file s f k ≡ true → files_of (ks ++ k ∷ []) s f ≡ Some k.held
files-push_here [] k s f none is = files-here k [] s f is
files-push_here (x ∷ ks) k s f none is =
    files-further x (ks ++ k ∷ []) s f (All-head (λ k. is_file s f k ≡ false) x ks none)
    ∙ files-push_here ks k s f (All-tail (λ k. is_file s f k ≡ false) x ks none) is

itself : (shelf : ℕ) (name held : List ℕ)
    → is_file shelf name (record { shelf = shelf; name = name; held = held }) ≡ true
itself shelf name held = grind (arith, and_from, eq-eqb shelf shelf refl, bytes_eq-Decides name name)

pub put_behind : (ks : List Kept) (shelf : ℕ) (name held : List ℕ) → All (λ k. is_file shelf name k ≡ false) ks
    → Becomes shelf name (Some held) (files_of ks) (files_of (ks ++ record { shelf = shelf; name = name; held = held } ∷ []))
put_behind ks shelf name held none =
    let k : Kept = record { shelf = shelf; name = name; held = held } in
    record {
      here = files-push_here ks k shelf name none (itself shelf name held);
      others = λ s f other. files-push ks k s f (other_file k shelf s name f (itself shelf name held) other);
    }

abbrev no_files : List Kept
no_files = []

-- a file goes
pub files-removed : (ks : List Kept) (s : ℕ) (f : List ℕ) (i : ℕ) → is_file s f (kept_at ks i) ≡ false
    → files_of (remove ks i) s f ≡ files_of ks s f
unfolding files_of
files-removed [] s f i is = ap (λ l. files_of l s f) (remove-nil i)
  where
    remove-nil : (i : ℕ) → remove no_files i ≡ []
    remove-nil zero = refl
    remove-nil (suc i) = refl
files-removed (x ∷ ks) s f zero is = sym (files-further x ks s f is)
files-removed (x ∷ ks) s f (suc i) is = ap (λ rest. cond (is_file s f x) (Some x.held) rest) (files-removed ks s f i is)

pub gone_other : (ks : List Kept) (shelf s : ℕ) (name f : List ℕ) (i : ℕ) → IsAt ks shelf name i
    → (s ≢ shelf) ⊎ (f ≢ name) → files_of (remove ks i) s f ≡ files_of ks s f
gone_other ks shelf s name f i at other = files-removed ks s f i (other_file (kept_at ks i) shelf s name f at.named other)

-- the file that is found at a place, whatever stands for one that is not there
pub kept_is : (ks : List Kept) (i : ℕ) (k : Kept) → i < length ks → k ≡ get_or ks i k → k ≡ kept_at ks i
kept_is ks i k within is = is ∙ any ks i k within
  where
    any : (ks : List Kept) (i : ℕ) (k : Kept) → i < length ks → get_or ks i k ≡ kept_at ks i
    any [] i k within = absurd (omega arith)
    any (x ∷ ks) zero k within = refl
    any (x ∷ ks) (suc i) k within = any ks i k (omega arith)

-- ---- the file at a place, once a call has changed it

there : (o : Option (List ℕ)) (held : List ℕ) → o ≡ Some held → o ≡ Some (unwrap_or o [])
there None held is = cc
there (Some x) held is = refl

-- a file that is there is made as it is
pub makes_itself : (ks : List Kept) (shelf : ℕ) (name : List ℕ) (place : ℕ) → IsAt ks shelf name place
    → Makes shelf name (files_of ks) (files_of ks)
makes_itself ks shelf name place at = there (files_of ks shelf name) (kept_at ks place).held (files_at ks shelf name place at)

-- a file that is pushed is empty, and no other is changed
pub makes_behind : (ks items new : List Kept) (shelf : ℕ) (name : List ℕ) (k : Kept)
    → All (λ x. is_file shelf name x ≡ false) ks → items ≡ ks → new ≡ items ++ k ∷ [] → k.shelf ≡ shelf → k.name ≡ name
    → k.held ≡ [] → Becomes shelf name (Some []) (files_of ks) (files_of new)
makes_behind ks items new shelf name k none same is on named empty =
    let blank : Kept = record { shelf = shelf; name = name; held = [] } in
    let whole : k ≡ blank = λ i. record { shelf = on i; name = named i; held = empty i } in
    let pushed : new ≡ ks ++ blank ∷ [] =
    is ∙ ap (λ (files : List Kept). files ++ k ∷ []) same ∙ ap (λ (x : Kept). ks ++ x ∷ []) whole in
    subst (λ (files : List Kept). Becomes shelf name (Some []) (files_of ks) (files_of files)) (sym pushed)
    (put_behind ks shelf name [] none)

pub makes_new : (ks new : List Kept) (shelf : ℕ) (name : List ℕ) → All (λ k. is_file shelf name k ≡ false) ks
    → Becomes shelf name (Some []) (files_of ks) (files_of new) → Makes shelf name (files_of ks) (files_of new)
makes_new ks new shelf name none made =
    made.here ∙ ap (λ (o : Option (List ℕ)). Some (unwrap_or o [])) (sym (files_nowhere ks shelf name none))

-- a file of the same name is that file
still_file : (shelf : ℕ) (name : List ℕ) (old new : Kept) → is_file shelf name old ≡ true → SameName old new
    → is_file shelf name new ≡ true
still_file shelf name old new is same = grind (arith, and_from, and_parts, is, same, bytes_eq-Decides)

-- what stands at the place is found there
found_at : (mid items : List Kept) (place : ℕ) (found : Kept) → items ≡ mid → place < length mid
    → found ≡ get_or items place found → kept_at mid place ≡ found
found_at mid items place found same within is =
    sym (kept_is items place found (subst (λ (ks : List Kept). place < length ks) (sym same) within) is
    ∙ ap (λ (ks : List Kept). kept_at ks place) same)

-- the file was made, and then changed at its place: no other is changed
pub others_at : (old mid items : List Kept) (shelf : ℕ) (name : List ℕ) (place : ℕ) (found k : Kept) → items ≡ mid
    → IsAt mid shelf name place → OthersStay shelf name (files_of old) (files_of mid) → found ≡ get_or items place found
    → SameName found k → OthersStay shelf name (files_of old) (files_of (set items place k))
others_at old mid items shelf name place found k same at others is named s f other =
    let here = found_at mid items place found same at.within is in
    let was = subst (λ (x : Kept). is_file shelf name x ≡ true) here at.named in
    let file = still_file shelf name found k was named in
    ap (λ (ks : List Kept). files_of (set ks place k) s f) same
    ∙ files-set_other mid s f place k (other_file (kept_at mid place) shelf s name f at.named other)
    (other_file k shelf s name f file other)
    ∙ others s f other

-- and it is what the change makes of what it was
pub becomes_at : (old mid items : List Kept) (shelf : ℕ) (name : List ℕ) (place : ℕ) (found k : Kept)
    (after : List ℕ → List ℕ) → items ≡ mid → IsAt mid shelf name place
    → OthersStay shelf name (files_of old) (files_of mid) → found ≡ get_or items place found → SameName found k
    → Makes shelf name (files_of old) (files_of mid) → k.held ≡ after found.held
    → Becomes shelf name (Some (after (unwrap_or (files_of old shelf name) []))) (files_of old) (files_of (set items place k))
becomes_at old mid items shelf name place found k after same at others is named made changed = record {
  here = ap (λ (ks : List Kept). files_of (set ks place k) shelf name) same ∙ files-set_at mid shelf name place k at file
      ∙ ap Some (changed ∙ ap after held);
  others = others_at old mid items shelf name place found k same at others is named;
}
  where
    here : kept_at mid place ≡ found
    here = found_at mid items place found same at.within is

    file : is_file shelf name k ≡ true
    file = still_file shelf name found k (subst (λ (x : Kept). is_file shelf name x ≡ true) here at.named) named

    values : {A : Type 0} {x y : A} → Some x ≡ Some y → x ≡ y
    values e = cc

    held : found.held ≡ unwrap_or (files_of old shelf name) []
    held = values (ap (λ (x : Kept). Some x.held) (sym here) ∙ sym (files_at mid shelf name place at) ∙ made)
