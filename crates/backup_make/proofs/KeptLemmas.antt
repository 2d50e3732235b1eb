-- Pages that are kept, step by step.
use Rattle.std.proofs.Common.{◌≡◌, ◌≢◌, ℕ, ◌+◌, ◌<◌, Bool, true, false, List, length, set, get_or, Option, None, Some, option_map}
use Rattle.std.proofs.Common.{⊎_elim, refl, sym, ap, subst, ◌∙◌, arith, get_or-set_other, get_or-set_same, length-set, take, drop, ◌++◌}
use Rattle.std.proofs.Math.Seq.{take-append_seam}
use Rattle.std.proofs.lemmas.Bool.{cases_eq}
use Rattle.target_traits.specs.Objects.{Objects, OtherObjectsStay}
use Rattle.digest.specs.Digest.{digest_text}
use Rattle.backup_units.specs.Names.{block_name}
use Rattle.backup_units.specs.Backups.{page_at, listed_of, HoldsPage, IsKept, IsBackup}
use Rattle.backup_units.specs.Blocks.{is_zeros, KeepsBlocks}
use Rattle.backup_make.specs.Giving.{Copies, KeepsGiver, IsNotFrom, Stays}
use Rattle.backup_make.specs.Making.{AddsBlocks, KeptElse}

abbrev Listed : Type 0
Listed = List (Option (List ℕ))

-- a list that was lent whole is what was written in it
pub lent_whole : {A : Type 0} (count : ℕ) (now items : List A) → length now ≡ count
    → take count (now ++ drop (length now) items) ≡ now
lent_whole count now items size =
    ap (λ k. take k (now ++ drop (length now) items)) (sym size) ∙ take-append_seam now (drop (length now) items)

-- what is held stays held
held_stays : (objects after : Objects) (volume bytes : List ℕ) → KeepsBlocks volume objects after
    → HoldsPage objects volume bytes → HoldsPage after volume bytes
held_stays objects after volume bytes keeps held some = keeps _ bytes (held some)

-- the page at the next place is kept now, and the others stay
pub kept_step : (tells : Bool) (objects after : Objects) (volume disk : List ℕ) (listed : Listed) (place : ℕ) (pages : List ℕ)
    (page : ℕ) (now : Option (List ℕ)) → page ≡ get_or pages place 0 → page < length listed
    → (tells ≡ true → KeepsBlocks volume objects after) → now ≡ listed_of (page_at disk page)
    → (tells ≡ true → HoldsPage after volume (page_at disk page))
    → KeptElse tells objects volume disk listed place pages
    → KeptElse tells after volume disk (set listed page now) (place + 1) pages
kept_step tells objects after volume disk listed place pages page now is within keeps here held so_far k low none =
    ⊎_elim
    (λ same. subst (λ n. IsKept tells after volume disk (set listed page now) n) (sym same) (record {
      entry = get_or-set_same listed page now None within ∙ here;
      held = held;
    }))
    (λ other.
    let kept : IsKept tells objects volume disk listed k =
    so_far k (omega (arith, length-set_listed listed page now)) (before other) in
    record {
      entry = get_or-set_other listed page k now None other ∙ kept.entry;
      held = λ t. held_stays objects after volume (page_at disk k) (keeps t) (kept.held t);
    })
    (cases_eq k page)
  where
    before : (k ≢ page) → IsNotFrom place pages k
    before other i from past e =
        ⊎_elim (λ h. other (sym e ∙ ap (λ n. get_or pages n 0) h ∙ sym is)) (λ h. none i (omega arith) past e) (cases_eq i place)

    length-set_listed : (xs : Listed) (i : ℕ) (v : Option (List ℕ)) → length (set xs i v) ≡ length xs
    length-set_listed xs i v = simp length-set refl

-- a backup stays one where its blocks stay
pub backup_stays : (tells : Bool) (objects after : Objects) (volume disk : List ℕ) (listed : Listed)
    → (tells ≡ true → KeepsBlocks volume objects after)
    → IsBackup tells objects volume disk listed → IsBackup tells after volume disk listed
backup_stays tells objects after volume disk listed keeps is = record {
  size = is.size;
  pages = λ page low. let k = is.pages page low in record {
    entry = k.entry;
    held = λ t. held_stays objects after volume (page_at disk page) (keeps t) (k.held t);
  };
}

-- blocks come one after another
pub adds_then : (volume : List ℕ) (a b c : Objects) → AddsBlocks volume a b → AddsBlocks volume b c → AddsBlocks volume a c
adds_then volume a b c p q = record {
  blocks = λ sum bytes held. q.blocks sum bytes (p.blocks sum bytes held);
  others = λ name none. q.others name none ∙ p.others name none;
}

-- two calls of a giver, one after the other
pub giver_then : {S Home Fact : Type 0} (can : S → Type 0) (at : S → Home) (true_of : S → Fact → Type 0) (s s2 s3 : S)
    → KeepsGiver can at true_of s s2 → KeepsGiver can at true_of s2 s3 → KeepsGiver can at true_of s s3
giver_then can at true_of s s2 s3 first next = record {
  ready = next.ready;
  home = next.home ∙ first.home;
  facts = λ fact is. next.facts fact (first.facts fact is);
}

pub stays_then : (f g h : Copies) (a b c : List ℕ) → Stays f g a b → Stays g h b c → Stays f h a c
stays_then f g h a b c p q = record {
  name = q.name ∙ p.name;
  copy = ap h (sym p.name) ∙ q.copy ∙ ap g p.name ∙ p.copy;
}

-- what the giver gave is the page of the copy
pub given : (f g : Copies) (a b disk bytes : List ℕ) (page : ℕ) → Stays f g a b → f a ≡ Some disk
    → option_map (λ d. page_at d page) (g b) ≡ Some bytes → page_at disk page ≡ bytes
given f g a b disk bytes page stays is gave =
    let copy : g b ≡ Some disk = ap g stays.name ∙ stays.copy ∙ is in
    same_value (ap (option_map (λ d. page_at d page)) (sym copy) ∙ gave)
  where
    same_value : {A : Type 0} {x y : A} → Some x ≡ Some y → x ≡ y
    same_value e = cc

pub listed_zeros : (bytes : List ℕ) → is_zeros bytes ≡ true → None ≡ listed_of bytes
unfolding listed_of
listed_zeros bytes h = rw h refl

pub listed_some : (bytes checksum : List ℕ) → is_zeros bytes ≡ false → checksum ≡ digest_text bytes
    → Some checksum ≡ listed_of bytes
unfolding listed_of
listed_some bytes checksum h is = rw (h, is) refl

pub adds_from : (volume c : List ℕ) (old new : Objects) → KeepsBlocks volume old new
    → OtherObjectsStay (block_name volume c) old new → AddsBlocks volume old new
adds_from volume c old new keeps others = record {
  blocks = keeps;
  others = λ name none. others name (none c);
}
