-- The names of a backup and of its snapshot are parted by the first blank of their text.
use Rattle.std.proofs.Common.{◌≡◌, ◌≢◌, ◌∙◌, ℕ, suc, ◌+◌, ◌-◌, ◌<◌, Bool, true, false, eqb, List, [], ◌∷◌, ◌++◌, length, get_or, refl, sym}
use Rattle.std.proofs.Common.{ap, subst, take, drop, arith}
use Rattle.std.specs.Prelude.{Some, None}
use Rattle.std.specs.List.{list_all, position}
use Rattle.std.proofs.lemmas.Bool.{and_parts, true≢false, eqb-true, eqb-false}
use Rattle.std.proofs.lemmas.Grind.{common_steps}
use Rattle.std.proofs.lemmas.List.{get_or-take, length-take, length-drop, take_all, take-append-drop, drop_more}
use Rattle.std.proofs.lemmas.List.Quantifiers.{position-Some}
use Rattle.std.proofs.lemmas.List.Sums.{fails_before_first}
use Rattle.vol_units.specs.Name.{is_name_byte, IsPlainName, IsLayerName}
use Rattle.volume_model.specs.Commands.{names_text, HasNoBlank, ArePartsOf, IsOfNoBackup}

no_blank : (c : ℕ) → is_name_byte c ≡ true → c ≢ 32
no_blank c named is = true≢false (sym (subst (λ b. is_name_byte b ≡ true) is named))

name_has_none : (bytes : List ℕ) → list_all is_name_byte bytes ≡ true → HasNoBlank bytes
name_has_none [] named = tt
name_has_none (c ∷ cs) named =
    let parts = and_parts (is_name_byte c) (list_all is_name_byte cs) named in
    (no_blank c parts.0, name_has_none cs parts.1)

-- two texts of names without a blank that are equal have the same names
parts_alike : (a b x y : List ℕ) → HasNoBlank a → HasNoBlank b → a ++ 32 ∷ x ≡ b ++ 32 ∷ y → (a ≡ b) × (x ≡ y)
parts_alike [] [] x y p q e = (refl, tails e)
  where
    tails : 32 ∷ x ≡ 32 ∷ y → x ≡ y
    tails h = cc
parts_alike [] (b ∷ bs) x y p q e = absurd (q.0 (heads e))
  where
    heads : 32 ∷ x ≡ b ∷ (bs ++ 32 ∷ y) → b ≡ 32
    heads h = cc
parts_alike (a ∷ as') [] x y p q e = absurd (p.0 (heads e))
  where
    heads : a ∷ (as' ++ 32 ∷ x) ≡ 32 ∷ y → a ≡ 32
    heads h = cc
parts_alike (a ∷ as') (b ∷ bs) x y p q e =
    let t = parts_alike as' bs x y p.1 q.1 (tails e) in (both (heads e) t.0, t.1)
  where
    heads : a ∷ (as' ++ 32 ∷ x) ≡ b ∷ (bs ++ 32 ∷ y) → a ≡ b
    heads h = cc

    tails : a ∷ (as' ++ 32 ∷ x) ≡ b ∷ (bs ++ 32 ∷ y) → as' ++ 32 ∷ x ≡ bs ++ 32 ∷ y
    tails h = cc

    both : a ≡ b → as' ≡ bs → a ∷ as' ≡ b ∷ bs
    both h k = cc

-- the names of two backups whose texts are equal
pub same_names : (b c m n : List ℕ) → IsPlainName b → IsPlainName c → names_text b m ≡ names_text c n → (b ≡ c) × (m ≡ n)
same_names b c m n first other =
    parts_alike b c m n (name_has_none b first.spelled.bytes) (name_has_none c other.spelled.bytes)

-- ---- the first blank

abbrev is_blank : ℕ → Bool
is_blank byte = eqb byte 32

none_where : (bytes : List ℕ) → ((k : ℕ) → k < length bytes → is_blank (get_or bytes k 0) ≡ false) → HasNoBlank bytes
none_where [] other = tt
none_where (byte ∷ bytes) other =
    (eqb-false byte 32 (other 0 (omega arith)), none_where bytes (λ k low. other (suc k) (omega (arith, low))))

parted_at : (text : List ℕ) (n : ℕ) → position is_blank text ≡ Some n → ArePartsOf text (take n text) (drop (n + 1) text)
parted_at text n found =
    let at = position-Some is_blank text n 0 found in
    record {
      whole = sym (take-append-drop n text)
          ∙ ap (λ l. take n text ++ l) (drop_more text n 0 at.0 ∙ ap (λ b. b ∷ drop (n + 1) text) (eqb-true _ _ at.1));
      first_blank = none_where (take n text) (λ k below.
          let front : k < n = omega (arith, below, length-take n text) in
          ap is_blank (get_or-take n text k 0 front) ∙ at.2 k front);
    }

-- the same of all that is left behind the blank
pub parted_into : (text : List ℕ) (n : ℕ) → position is_blank text ≡ Some n
    → ArePartsOf text (take n text) (take (length text - (n + 1)) (drop (n + 1) text))
parted_into text n found = subst (ArePartsOf text (take n text))
    (sym (take_all (length text - (n + 1)) (drop (n + 1) text) (omega (arith, length-drop (n + 1) text)))) (parted_at text n found)

pub parted_not : (text : List ℕ) → position is_blank text ≡ None → HasNoBlank text
parted_not text found = none_where text (λ k below. fails_before_first is_blank text k 0 (grind (arith, common_steps)))

-- a text without a blank has no names of a backup
pub no_names : (text b n : List ℕ) → HasNoBlank text → text ≡ names_text b n → ⊥
no_names text b n none is = go b (subst HasNoBlank is none)
  where
    go : (b : List ℕ) → HasNoBlank (names_text b n) → ⊥
    go [] none = none.0 refl
    go (x ∷ xs) none = go xs none.1

-- the parts are the only names that it can have
only_parts : (text first rest b n : List ℕ) → ArePartsOf text first rest → IsPlainName b → text ≡ names_text b n
    → (first ≡ b) × (rest ≡ n)
only_parts text first rest b n parts named is =
    parts_alike first b rest n parts.first_blank (name_has_none b named.spelled.bytes) (sym parts.whole ∙ is)

-- so it has none, where one of them is no such name
pub no_backup : (text first rest : List ℕ) → ArePartsOf text first rest → (IsPlainName first → IsLayerName rest → ⊥) → IsOfNoBackup text
no_backup text first rest parts none = λ b n named layer is. let same = only_parts text first rest b n parts named is in
    none (subst IsPlainName (sym same.0) named) (subst IsLayerName (sym same.1) layer)
