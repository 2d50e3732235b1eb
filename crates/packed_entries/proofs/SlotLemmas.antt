-- Slots keep their entries when others come.
use Rattle.std.proofs.Common.{◌≡◌, ℕ, ◌^◌, ◌<◌, List, [], ◌∷◌, ◌++◌, length, get_or, Option, Some, None}
use Rattle.std.proofs.Common.{refl, sym, ap, ap₂, subst, ◌∙◌, arith, append-nil, length-append}
use Rattle.std.specs.List.{AllByRecursion}
use Rattle.std.specs.Prelude.{MatchOption}
use Rattle.std.proofs.Math.ListN.{get_or-append}
use Rattle.std.proofs.Math.Seq.{get_or-append_seam}
use Rattle.segment_list.specs.Listed.{Listed}
use Rattle.packed_bytes.specs.declared.list.Place.{Place}
use Rattle.packed_bytes.specs.Packed.{packed, is_shorter}
use Rattle.packed_bytes.specs.Place.{IsPlace, IsPut, IsLeft, list_at, place_of}
use Rattle.packed_bytes.proofs.PlaceLemmas.{place_put, place_stays}
use Rattle.volume_model.specs.declared.entry.Entry.{Entry}
use Rattle.volume_model.specs.declared.entry.Entry.TheVariants as entry
use Rattle.volume_model.specs.declared.mark.Mark.TheVariants as mark
use Rattle.packed_entries.specs.declared.slot.Slot.{Slot}
use Rattle.packed_entries.specs.declared.slot.Slot.TheVariants as slot
use Rattle.packed_entries.specs.declared.plain.Plain.{Plain}
use Rattle.packed_entries.specs.Plain.{data_of, entry_with, IsPlainOf}
use Rattle.packed_entries.specs.Slots.{entry_of, entries_in, IsSlot, IsKeptPlain, IsKept}

slot_stays : (store more : List ℕ) (rares extra : List Entry) (s : Slot) → IsSlot store rares s
    → IsSlot (store ++ more) (rares ++ extra) s × (entry_of (store ++ more) (rares ++ extra) s ≡ entry_of store rares s)
slot_stays store more rares extra (slot.Plain p) is =
    let stays = place_stays store more p.place is in
    (stays.0, ap (entry_with p) stays.1)
slot_stays store more rares extra (slot.Rare i) is =
    (omega (arith, length-append rares extra), get_or-append rares extra (entry.Mark (mark.Failed 0)) i is)

-- the slots keep these entries
abbrev Keeps : List ℕ → List Entry → List Slot → List Entry → Type 0
Keeps store rares ss es = AllByRecursion (IsSlot store rares) ss × (entries_in store rares ss ≡ es)

-- one slot more
slots-push : (store more : List ℕ) (rares extra : List Entry) (ss : List Slot) (s : Slot) (e : Entry)
    → AllByRecursion (IsSlot store rares) ss → IsSlot (store ++ more) (rares ++ extra) s
    → entry_of (store ++ more) (rares ++ extra) s ≡ e
    → Keeps (store ++ more) (rares ++ extra) (ss ++ s ∷ []) (entries_in store rares ss ++ e ∷ [])
slots-push store more rares extra [] s e all is kept = ((is, tt), ap (λ x. x ∷ []) kept)
slots-push store more rares extra (t ∷ ss) s e all is kept =
    let first = slot_stays store more rares extra t all.0 in
    let rest = slots-push store more rares extra ss s e all.1 is kept in (
      (first.0, rest.0),
      ap (λ x. x ∷ entries_in (store ++ more) (rares ++ extra) (ss ++ s ∷ [])) first.1 ∙ ap (λ l. entry_of store rares t ∷ l) rest.1,
    )

-- an entry that is kept as it is
kept_last : (rares new : List Entry) (e : Entry) (i : ℕ) → i ≡ length rares → new ≡ rares ++ e ∷ []
    → (i < length new) × (get_or new i (entry.Mark (mark.Failed 0)) ≡ e)
kept_last rares new e i is pushed =
    let other = entry.Mark (mark.Failed 0) in (
      omega (arith, is, ap length pushed, length-append rares (e ∷ [])),
      ap (λ l. get_or l i other) pushed ∙ ap (λ n. get_or (rares ++ e ∷ []) n other) is ∙ get_or-append_seam rares e [] other,
    )

pub kept_whole : (store store2 : List ℕ) (rares new : List Entry) (e : Entry) (s : Slot) → store2 ≡ store
    → s ≡ slot.Rare (length rares) → new ≡ rares ++ e ∷ [] → IsKept store store2 rares new e s
kept_whole store store2 rares new e s same is pushed =
    let last = kept_last rares new e (length rares) refl pushed in
    subst (IsKept store store2 rares new e) (sym is) (record {
      more = [];
      stored = same ∙ sym (append-nil store);
      extra = e ∷ [];
      kept = pushed;
      slot = last.0;
      entry = last.1;
    })

-- an entry of which most is kept, whose list was put
pub kept_plain : (old new : Listed ℕ) (rares : List Entry) (e : Entry) (p : Plain) → length (data_of e) < 2 ^ 32
    → IsKeptPlain old new e p → IsKept old.items new.items rares rares e (slot.Plain p)
kept_plain old new rares e p short kept =
    let list = data_of e in
    let put = kept.put in
    let there = place_put old.items list short in
    let place : IsPlace new.items p.place = subst (IsPlace new.items) (sym put.place)
    (subst (λ l. IsPlace l (place_of old.items list)) (sym put.items) there.0) in
    let read : list_at new.items p.place ≡ list =
    ap (list_at new.items) put.place ∙ ap (λ l. list_at l (place_of old.items list)) put.items ∙ there.1 in
    record {
      more = packed list;
      stored = put.items;
      extra = [];
      kept = sym (append-nil rares);
      slot = place;
      entry = kept.plain.is (list_at new.items p.place) read;
    }

-- no list is put where it stands
same_listed : (old new : Listed ℕ) → new.items ≡ old.items → new.room ≡ old.room → new ≡ old
same_listed old new items room = ap₂ (λ (l : List ℕ) (n : ℕ). listed_of l n) items room
  where
    listed_of : List ℕ → ℕ → Listed ℕ
    listed_of l n = record { items = l; room = n }

left_empty : (old new : Listed ℕ) (list : List ℕ) (at : Place) → list ≡ [] → IsPut old new list at → IsLeft old new list
left_empty old new list at none put =
    let nothing : packed list ≡ [] = ap packed none in record {
      plain = ap is_shorter none;
      same = same_listed old new (put.items ∙ ap (λ l. old.items ++ l) nothing ∙ append-nil old.items)
          (omega (arith, put.room, ap length nothing));
    }

-- what is kept of an entry whose list was put
pub kept_by : (old new : Listed ℕ) (e : Entry) (at : Place) (found : Option Plain) → IsPut old new (data_of e) at
    → MatchOption found (data_of e ≡ []) (IsPlainOf e at)
    → MatchOption found (IsLeft old new (data_of e)) (IsKeptPlain old new e)
kept_by old new e at None put none = left_empty old new (data_of e) at none put
kept_by old new e at (Some p) put plain = record {
  put = subst (IsPut old new (data_of e)) (sym plain.place) put;
  plain = subst (λ a. IsPlainOf e a p) (sym plain.place) plain;
}

-- an entry more is kept
pub entries-push : (store store2 : List ℕ) (rares rares2 : List Entry) (ss ss2 : List Slot) (s : Slot) (e : Entry)
    → AllByRecursion (IsSlot store rares) ss → ss2 ≡ ss ++ s ∷ [] → IsKept store store2 rares rares2 e s
    → Keeps store2 rares2 ss2 (entries_in store rares ss ++ e ∷ [])
entries-push store store2 rares rares2 ss ss2 s e all pushed kept =
    let es = entries_in store rares ss ++ e ∷ [] in
    let all_rares = rares ++ kept.extra in
    let slot : IsSlot (store ++ kept.more) all_rares s =
    subst (λ l. IsSlot l all_rares s) kept.stored (subst (λ (l : List Entry). IsSlot store2 l s) kept.kept kept.slot) in
    let entry : entry_of (store ++ kept.more) all_rares s ≡ e =
    sym (ap (λ l. entry_of l all_rares s) kept.stored)
    ∙ sym (ap (λ (l : List Entry). entry_of store2 l s) kept.kept) ∙ kept.entry in
    let keeps = slots-push store kept.more rares kept.extra ss s e all slot entry in
    subst (λ (l : List Slot). Keeps store2 rares2 l es) (sym pushed)
    (subst (λ (l : List Entry). Keeps store2 l (ss ++ s ∷ []) es) (sym kept.kept)
    (subst (λ (l : List ℕ). Keeps l (rares ++ kept.extra) (ss ++ s ∷ []) es) (sym kept.stored) keeps))
