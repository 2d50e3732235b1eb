-- What a status says of a restore, or of a list of backups, that ended so.
use Rattle.std.proofs.Common.{◌≡◌, ℕ, ◌<◌, ◌-◌, ◌^◌, Bool, true, List, String, Option, Some}
use Rattle.std.proofs.Common.{Result, Ok, Err, OnOk, IfErr}
use Rattle.std.proofs.Common.{refl, sym, ap, subst, ◌∙◌, inl, inr}
use Rattle.shelf_traits.specs.Files.{Files}
use Rattle.target_traits.specs.Objects.{Objects}
use Rattle.program_words.specs.declared.words.Words.{Words}
use Rattle.program_words.specs.declared.words.Words.TheVariants.{Run, Restore, Backups, Replica, Generate, Serve}
use Rattle.backup_restore.specs.declared.error.Refusal.{Refusal}
use Rattle.backup_restore.specs.declared.error.RestoreError.{RestoreError}
use Rattle.backup_restore.specs.declared.error.RestoreError.TheVariants as restore_error
use Rattle.backup_restore.specs.Errors.{name_of, is_refusal}
use Rattle.backup_restore.specs.Listed.{AnswersList, WritesList, WritesSomeList}
use Rattle.backup_restore.proofs.OneAnswer.{one_refusal, not_both, one_list_refusal, not_both_lists}
use Rattle.volume_cli.specs.declared.status.Status.{Status}
use Rattle.volume_cli.specs.declared.status.Status.TheVariants as status
use Rattle.volume_cli.specs.Headline.{asked_for, IsStatus, RefusedOnly}
use Rattle.volume_cli.specs.Stores.{IsOfStore, HasAnswer, RefusesObject, AnswersStore}
use Rattle.volume_cli.specs.Stores.{LeavesAnswer, StoreCounts, IsEndOf}
use Rattle.volume_cli.proofs.Statuses.{rose_not_same}

-- ---- what a list that ended so answers, and what it leaves

module _ {T : Type 0} (objects : Objects) (volume : List ℕ) where
  pub list_answers : (r : Result T RestoreError) (st : Status) → IsEndOf volume r st → AnswersList objects volume r
      → AnswersStore objects (Backups volume) st
  list_answers (Ok x) st is says = subst (AnswersStore objects (Backups volume)) (sym is) says
  list_answers (Err (restore_error.Refused kind object)) st (inl is) says =
      subst (AnswersStore objects (Backups volume)) (sym is) (object, says, refl)
  list_answers (Err (restore_error.Refused kind object)) st (inr is) says = subst (AnswersStore objects (Backups volume)) (sym is) tt
  list_answers (Err restore_error.TargetFault) st is says = subst (AnswersStore objects (Backups volume)) (sym is) tt
  list_answers (Err restore_error.WriteFault) st is says = subst (AnswersStore objects (Backups volume)) (sym is) tt
  list_answers (Err restore_error.NoMemory) st is says = subst (AnswersStore objects (Backups volume)) (sym is) tt

  pub list_leaves : (same : Type 0) (old new : Option (List ℕ)) (r : Result T RestoreError) (st : Status) → IsEndOf volume r st
      → OnOk r (WritesList objects volume old new) → WritesSomeList objects volume old new
      → IfErr r (λ e. is_refusal e ≡ true → same) → LeavesAnswer objects (Backups volume) same old new st
  list_leaves same old new (Ok x) st is whole some kept =
      subst (LeavesAnswer objects (Backups volume) same old new) (sym is) whole
  list_leaves same old new (Err (restore_error.Refused kind object)) st (inl is) whole some kept =
      subst (LeavesAnswer objects (Backups volume) same old new) (sym is) (kept refl)
  list_leaves same old new (Err (restore_error.Refused kind object)) st (inr is) whole some kept =
      subst (LeavesAnswer objects (Backups volume) same old new) (sym is) some
  list_leaves same old new (Err restore_error.TargetFault) st is whole some kept =
      subst (LeavesAnswer objects (Backups volume) same old new) (sym is) some
  list_leaves same old new (Err restore_error.WriteFault) st is whole some kept =
      subst (LeavesAnswer objects (Backups volume) same old new) (sym is) some
  list_leaves same old new (Err restore_error.NoMemory) st is whole some kept =
      subst (LeavesAnswer objects (Backups volume) same old new) (sym is) some

-- ---- a refusal is told only of what it is a refusal of

pub store_refused_only : {A : Type 0} (words : List (String A)) (left : Option (List ℕ)) (held : Option Files) (tells : Bool)
    (objects : Objects) (st : Status) (k l m n : ℕ) (asked : Words) → asked_for words ≡ Some asked → IsOfStore asked
    → StoreCounts st k l m n → (tells ≡ true → AnswersStore objects asked st) → RefusedOnly words left held tells objects st
store_refused_only words left held tells objects status.Done k l m n asked is of c says = tt
store_refused_only words left held tells objects status.Usage k l m n asked is of c says = tt
store_refused_only words left held tells objects (status.Script place what) k l m n asked is of c says = absurd c
store_refused_only words left held tells objects status.ReadFault k l m n asked is of c says = tt
store_refused_only words left held tells objects status.WriteFault k l m n asked is of c says = tt
store_refused_only words left held tells objects status.ShelfFault k l m n asked is of c says = tt
store_refused_only words left held tells objects status.TargetFault k l m n asked is of c says = inr (asked, is, of)
store_refused_only words left held tells objects status.NoMemory k l m n asked is of c says = tt
store_refused_only words left held tells objects (status.NoCleanShelf reasons) k l m n asked is of c says = absurd c
store_refused_only words left held tells objects (status.Refused kind name) k l m n asked is of c says = (asked, is, of, says)
store_refused_only words left held tells objects (status.Frame place) k l m n asked is of c says = absurd c
store_refused_only words left held tells objects status.DoorFault k l m n asked is of c says = absurd c

-- ---- of what is asked for, the objects give one answer

module _ (objects : Objects) where
  not_both_asked : (asked : Words) (kind : Refusal) (name : List ℕ) → HasAnswer objects asked
      → RefusesObject objects asked kind name → ⊥
  not_both_asked (Run workers) kind name has refuses = has
  not_both_asked (Replica size) kind name has refuses = has
  not_both_asked (Generate number streams calls) kind name has refuses = has
  not_both_asked (Restore backup volume) kind name has (object, refuses, is) =
      not_both objects volume backup kind object has refuses
  not_both_asked (Backups volume) kind name has (object, refuses, is) =
      not_both_lists objects volume kind object has refuses
  not_both_asked (Serve address size replicas sessions) kind name has refuses = has

  one_asked : (asked : Words) (kind other : Refusal) (name also : List ℕ) → RefusesObject objects asked kind name
      → RefusesObject objects asked other also → status.Refused kind name ≡ status.Refused other also
  one_asked (Run workers) kind other name also refuses too = absurd refuses
  one_asked (Replica size) kind other name also refuses too = absurd refuses
  one_asked (Generate number streams calls) kind other name also refuses too = absurd refuses
  one_asked (Restore backup volume) kind other name also (x, refuses, is) (y, too, at) =
      let one = one_refusal objects volume backup kind other x y refuses too in
      ap (λ k. status.Refused k name) one.0 ∙ ap (status.Refused other) (is ∙ ap (name_of volume) one.1 ∙ sym at)
  one_asked (Backups volume) kind other name also (x, refuses, is) (y, too, at) =
      let one = one_list_refusal objects volume kind other x y refuses too in
      ap (λ k. status.Refused k name) one.0 ∙ ap (status.Refused other) (is ∙ ap (name_of volume) one.1 ∙ sym at)
  one_asked (Serve address size replicas sessions) kind other name also refuses too = absurd refuses

  module _ (asked : Words) (k l m n : ℕ) (low_k : k < 2 ^ 64 - 1) (low_m : m < 2 ^ 64 - 1) (dry : l ≡ k)
      (well : n ≡ m) where
    -- the first object that is not as it has to be is refused
    pub store_refuses : (st : Status) → StoreCounts st k l m n → AnswersStore objects asked st
        → (kind : Refusal) (name : List ℕ) → RefusesObject objects asked kind name → IsStatus st (status.Refused kind name)
    store_refuses status.Done c says kind name refuses = absurd (not_both_asked asked kind name says refuses)
    store_refuses status.Usage c says kind name refuses = absurd says
    store_refuses (status.Script place what) c says kind name refuses = absurd says
    store_refuses status.ReadFault c says kind name refuses = absurd says
    store_refuses status.WriteFault c says kind name refuses = absurd (rose_not_same k l low_k c.0 dry)
    store_refuses status.ShelfFault c says kind name refuses = absurd says
    store_refuses status.TargetFault c says kind name refuses = absurd (rose_not_same m n low_m c.1 well)
    store_refuses status.NoMemory c says kind name refuses = inr refl
    store_refuses (status.NoCleanShelf reasons) c says kind name refuses = absurd says
    store_refuses (status.Refused other also) c says kind name refuses =
        inl (one_asked asked other kind also name says refuses)
    store_refuses (status.Frame place) c says kind name refuses = absurd says
    store_refuses status.DoorFault c says kind name refuses = absurd says

    -- and where all are, they are written
    pub store_answers : (st : Status) → StoreCounts st k l m n → AnswersStore objects asked st
        → HasAnswer objects asked → IsStatus st status.Done
    store_answers status.Done c says has = inl refl
    store_answers status.Usage c says has = absurd says
    store_answers (status.Script place what) c says has = absurd says
    store_answers status.ReadFault c says has = absurd says
    store_answers status.WriteFault c says has = absurd (rose_not_same k l low_k c.0 dry)
    store_answers status.ShelfFault c says has = absurd says
    store_answers status.TargetFault c says has = absurd (rose_not_same m n low_m c.1 well)
    store_answers status.NoMemory c says has = inr refl
    store_answers (status.NoCleanShelf reasons) c says has = absurd says
    store_answers (status.Refused other also) c says has = absurd (not_both_asked asked other also has says)
    store_answers (status.Frame place) c says has = absurd says
    store_answers status.DoorFault c says has = absurd says
