-- Pages that are looked at and written, one after another.
use Rattle.std.proofs.Common.{◌≡◌, ℕ, ◌+◌, ◌-◌, ◌*◌, ◌<◌, ◌≤◌, true, false, List, [], ◌∷◌, ◌++◌, length, take, drop, get_or}
use Rattle.std.proofs.Common.{Option, None, Some, Result, Ok, Err, refl, sym, ap, subst, ◌∙◌, append_assoc, arith, replicate}
use Rattle.std.proofs.lemmas.List.{append-nil, at_drop_more, take_more, take_all, get_or_read, take-append-drop, replicate-append-replicate}
use Rattle.std.specs.Prelude.{IfErr}
use Rattle.std.specs.Io.KnownBytes.{Appends}
use Rattle.outer_traits.specs.Passing.{WritesPrefix}
use Rattle.target_traits.specs.Objects.{Objects}
use Rattle.vol_units.specs.Bytes.{zeros}
use Rattle.backup_units.specs.Backups.{IsWhole, AreWhole, page_of, disk_of, listed_at}
use Rattle.backup_units.specs.Blocks.{IsBlock, HoldsBlock}
use Rattle.backup_units.specs.Names.{block_name}
use Rattle.backup_restore.specs.Errors.{is_refusal, is_target_fault}
use Rattle.backup_restore.specs.Restoring.{IsBad, IsBadPage, AnswersBlocks, RefusesBlock, RefusesPage, zeros_at_once}
use Rattle.backup_restore.specs.declared.error.Refusal.{Refusal}
use Rattle.backup_restore.specs.declared.error.Refusal.TheVariants.{Missing, Damaged, Syntax, Compressed, Backing}
use Rattle.backup_restore.specs.declared.error.RestoreError.{RestoreError}
use Rattle.backup_restore.specs.declared.error.RestoreError.TheVariants.{Refused, TargetFault, WriteFault, NoMemory}
use Rattle.backup_restore.specs.declared.error.StoredObject.{StoredObject}
use Rattle.backup_restore.specs.declared.error.StoredObject.TheVariants.{BackupCfg, VolumeCfg, Block}

abbrev Listed : Type 0
Listed = List (Option (List ℕ))

-- ---- what a page answers

pub refuses_page : (objects : Objects) (volume checksum : List ℕ) (page : Option (List ℕ)) (e : RestoreError)
    → page ≡ Some checksum → RefusesBlock objects volume checksum e → RefusesPage objects volume page e
refuses_page objects volume checksum page (Refused kind object) is bad =
    subst (λ p. IsBadPage objects volume p kind object) (sym is) bad
refuses_page objects volume checksum page TargetFault is r = tt
refuses_page objects volume checksum page WriteFault is r = tt
refuses_page objects volume checksum page NoMemory is r = tt

pub no_refusal : (objects : Objects) (volume : List ℕ) (page : Option (List ℕ)) (e : RestoreError) → is_refusal e ≡ false
    → RefusesPage objects volume page e
no_refusal objects volume page (Refused kind object) none = cc
no_refusal objects volume page TargetFault none = tt
no_refusal objects volume page WriteFault none = tt
no_refusal objects volume page NoMemory none = tt

-- ---- the answer to a list

pub first_bad : (objects : Objects) (volume : List ℕ) (listed : Listed) (i : ℕ) (page : Option (List ℕ)) (e : RestoreError)
    → i < length listed → page ≡ get_or listed i page → ((k : ℕ) → k < i → IsWhole objects volume (listed_at listed k))
    → RefusesPage objects volume page e → AnswersBlocks {T = Unit {0}} objects volume listed (Err e)
first_bad objects volume listed i page (Refused kind object) within is before bad = (
  i,
  record {
    within = within;
    bad = subst (λ p. IsBadPage objects volume p kind object) (get_or_read listed i page within is None) bad;
    before = before;
  },
)
first_bad objects volume listed i page TargetFault within is before r = tt
first_bad objects volume listed i page WriteFault within is before r = tt
first_bad objects volume listed i page NoMemory within is before r = tt

pub whole_more : (objects : Objects) (volume : List ℕ) (listed : Listed) (i : ℕ) (page : Option (List ℕ)) → i < length listed
    → page ≡ get_or listed i page → IsWhole objects volume page → IsWhole objects volume (listed_at listed i)
whole_more objects volume listed i page within is whole =
    subst (IsWhole objects volume) (get_or_read listed i page within is None) whole

-- a block that is whole is not bad
whole_block : (objects : Objects) (volume checksum bytes : List ℕ) (kind : Refusal) → HoldsBlock objects volume checksum bytes
    → IsBad (objects (block_name volume checksum)) checksum kind → ⊥
whole_block objects volume checksum bytes Missing held none = no_value (sym none ∙ held.there)
  where
    no_value : {A : Type 0} {x : A} → None ≡ Some x → ⊥
    no_value e = cc
whole_block objects volume checksum bytes Damaged held (other, there, bad) =
    bad (subst (IsBlock checksum) (same (sym held.there ∙ there)) held.block)
  where
    same : {A : Type 0} {x y : A} → Some x ≡ Some y → x ≡ y
    same e = cc
whole_block objects volume checksum bytes Syntax held bad = bad
whole_block objects volume checksum bytes Compressed held bad = bad
whole_block objects volume checksum bytes Backing held bad = bad

pub whole_page : (objects : Objects) (volume : List ℕ) (page : Option (List ℕ)) (kind : Refusal) (object : StoredObject)
    → IsWhole objects volume page → IsBadPage objects volume page kind object → ⊥
whole_page objects volume None kind object whole bad = bad
whole_page objects volume (Some checksum) kind (BackupCfg backup) whole bad = bad
whole_page objects volume (Some checksum) kind VolumeCfg whole bad = bad
whole_page objects volume (Some checksum) kind (Block named) (bytes, held) (is, bad) =
    whole_block objects volume checksum bytes kind held bad

-- a list of whole blocks is not refused
pub not_bad : (objects : Objects) (volume : List ℕ) (listed : Listed) (e : RestoreError) → AreWhole objects volume listed
    → AnswersBlocks {T = Unit {0}} objects volume listed (Err e) → is_refusal e ≡ true → ⊥
not_bad objects volume listed (Refused kind object) whole (page, first) so =
    whole_page objects volume (listed_at listed page) kind object (whole page first.within) first.bad
not_bad objects volume listed TargetFault whole a so = cc
not_bad objects volume listed WriteFault whole a so = cc
not_bad objects volume listed NoMemory whole a so = cc

-- ---- what is written

pub appends_none : (a : Option (List ℕ)) → Appends a a []
appends_none None = tt
appends_none (Some xs) = sym (append-nil xs)

pub appends_then : (a b c : Option (List ℕ)) (xs ys : List ℕ) → Appends a b xs → Appends b c ys → Appends a c (xs ++ ys)
appends_then None b c xs ys p q = tt
appends_then (Some a) None c xs ys p q = absurd p
appends_then (Some a) (Some b) None xs ys p q = absurd q
appends_then (Some a) (Some b) (Some c) xs ys p q = q ∙ ap (λ s. s ++ ys) p ∙ append_assoc a xs ys

disk_append : (objects : Objects) (volume : List ℕ) (xs ys : Listed)
    → disk_of objects volume (xs ++ ys) ≡ disk_of objects volume xs ++ disk_of objects volume ys
disk_append objects volume [] ys = refl
disk_append objects volume (x ∷ xs) ys =
    ap (λ bytes. page_of objects volume x ++ bytes) (disk_append objects volume xs ys)
    ∙ sym (append_assoc (page_of objects volume x) (disk_of objects volume xs) (disk_of objects volume ys))

pub disk_split : (objects : Objects) (volume : List ℕ) (listed : Listed) (i : ℕ) (page : Option (List ℕ)) → i < length listed
    → page ≡ get_or listed i page
    → disk_of objects volume listed
    ≡ disk_of objects volume (take i listed) ++ (page_of objects volume page ++ disk_of objects volume (drop (i + 1) listed))
disk_split objects volume listed i page within is =
    ap (disk_of objects volume) (sym (take-append-drop i listed)) ∙ disk_append objects volume (take i listed) (drop i listed)
    ∙ ap (λ bytes. disk_of objects volume (take i listed) ++ bytes)
    (at_drop_more (disk_of objects volume) listed i page within
    ∙ ap (λ (y : Option (List ℕ)). page_of objects volume y ++ disk_of objects volume (drop (i + 1) listed)) (sym is))

pub disk_more : (objects : Objects) (volume : List ℕ) (listed : Listed) (i : ℕ) (page : Option (List ℕ)) → i < length listed
    → page ≡ get_or listed i page
    → disk_of objects volume (take (i + 1) listed) ≡ disk_of objects volume (take i listed) ++ page_of objects volume page
disk_more objects volume listed i page within is =
    ap (disk_of objects volume) (take_more listed i page within) ∙ disk_append objects volume (take i listed) (get_or listed i page ∷ [])
    ∙ ap (λ (y : Option (List ℕ)). disk_of objects volume (take i listed) ++ (page_of objects volume y ++ [])) (sym is)
    ∙ ap (λ bytes. disk_of objects volume (take i listed) ++ bytes) (append-nil (page_of objects volume page))

pub written_more : (objects : Objects) (volume : List ℕ) (listed : Listed) (i : ℕ) (page : Option (List ℕ)) (a b c : Option (List ℕ))
    → i < length listed → page ≡ get_or listed i page → Appends a b (disk_of objects volume (take i listed))
    → Appends b c (page_of objects volume page) → Appends a c (disk_of objects volume (take (i + 1) listed))
written_more objects volume listed i page a b c within is so_far more =
    subst (Appends a c) (sym (disk_more objects volume listed i page within is))
    (appends_then a b c (disk_of objects volume (take i listed)) (page_of objects volume page) so_far more)

pub prefix_more : (objects : Objects) (volume : List ℕ) (listed : Listed) (i : ℕ) (page : Option (List ℕ)) (a b c : Option (List ℕ))
    → i < length listed → page ≡ get_or listed i page → Appends a b (disk_of objects volume (take i listed))
    → WritesPrefix b c (page_of objects volume page) → WritesPrefix a c (disk_of objects volume listed)
prefix_more objects volume listed i page a b c within is so_far (front, rest, cut, more) =
    let before = disk_of objects volume (take i listed) in
    let after = disk_of objects volume (drop (i + 1) listed) in (
      before ++ front,
      rest ++ after,
      disk_split objects volume listed i page within is ∙ ap (λ bytes. before ++ (bytes ++ after)) cut
          ∙ ap (λ bytes. before ++ bytes) (append_assoc front rest after) ∙ sym (append_assoc before front (rest ++ after)),
      appends_then a b c before front so_far more,
    )

pub prefix_none : (a : Option (List ℕ)) (bytes : List ℕ) → WritesPrefix a a bytes
prefix_none a bytes = ([], bytes, refl, appends_none a)

pub prefix_all : (a b : Option (List ℕ)) (bytes : List ℕ) → Appends a b bytes → WritesPrefix a b bytes
prefix_all a b bytes p = (bytes, [], sym (append-nil bytes), p)

pub written_all : (objects : Objects) (volume : List ℕ) (listed : Listed) (i : ℕ) (a b : Option (List ℕ)) → length listed ≤ i
    → Appends a b (disk_of objects volume (take i listed)) → Appends a b (disk_of objects volume listed)
written_all objects volume listed i a b past so_far = subst (λ xs. Appends a b (disk_of objects volume xs)) (take_all i listed past) so_far

pub zeros_are : (n : ℕ) → replicate n 0 ≡ zeros n
unfolding zeros
zeros_are n = refl

zeros_add : (m n : ℕ) → zeros (m + n) ≡ zeros m ++ zeros n
unfolding zeros
zeros_add m n = sym (replicate-append-replicate m n 0)

pub zeros_none : (a : Option (List ℕ)) → Appends a a (zeros (0 * zeros_at_once))
unfolding zeros
zeros_none a = appends_none a

next_piece : (i : ℕ) → (i + 1) * zeros_at_once ≡ i * zeros_at_once + zeros_at_once
next_piece i = omega (arith)

all_pieces : (i count : ℕ) → i < count
    → count * zeros_at_once ≡ i * zeros_at_once + (zeros_at_once + (count - (i + 1)) * zeros_at_once)
all_pieces i count within = omega (arith, within)

pub zeros_more : (i : ℕ) (a b c : Option (List ℕ)) → Appends a b (zeros (i * zeros_at_once)) → Appends b c (zeros zeros_at_once)
    → Appends a c (zeros ((i + 1) * zeros_at_once))
zeros_more i a b c so_far more =
    subst (Appends a c) (sym (ap zeros (next_piece i) ∙ zeros_add (i * zeros_at_once) zeros_at_once))
    (appends_then a b c (zeros (i * zeros_at_once)) (zeros zeros_at_once) so_far more)

pub zeros_prefix : (i count : ℕ) (a b c : Option (List ℕ)) → i < count → Appends a b (zeros (i * zeros_at_once))
    → WritesPrefix b c (zeros zeros_at_once) → WritesPrefix a c (zeros (count * zeros_at_once))
zeros_prefix i count a b c within so_far (front, rest, cut, more) =
    let before = zeros (i * zeros_at_once) in
    let left = (count - (i + 1)) * zeros_at_once in
    let after = zeros left in (
      before ++ front,
      rest ++ after,
      ap zeros (all_pieces i count within) ∙ zeros_add (i * zeros_at_once) (zeros_at_once + left)
          ∙ ap (λ bytes. before ++ bytes) (zeros_add zeros_at_once left) ∙ ap (λ bytes. before ++ (bytes ++ after)) cut
          ∙ ap (λ bytes. before ++ bytes) (append_assoc front rest after) ∙ sym (append_assoc before front (rest ++ after)),
      appends_then a b c before front so_far more,
    )

pub none_refused : (objects : Objects) (volume : List ℕ) (page : Option (List ℕ)) (r : Result (Unit {0}) RestoreError)
    → IfErr r (λ e. (is_refusal e ≡ false) × (is_target_fault e ≡ false))
    → IfErr r (RefusesPage objects volume page)
none_refused objects volume page (Ok x) none = tt
none_refused objects volume page (Err e) none = no_refusal objects volume page e none.0

pub unwritten : (objects : Objects) (volume : List ℕ) (listed : Listed) (P : Type 0) (r : Result (Unit {0}) RestoreError)
    → AreWhole objects volume listed → AnswersBlocks objects volume listed r
    → IfErr r (λ e. is_refusal e ≡ true → P)
unwritten objects volume listed P (Ok x) whole a = tt
unwritten objects volume listed P (Err e) whole a = λ so. absurd (not_bad objects volume listed e whole a so)
