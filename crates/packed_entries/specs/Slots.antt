-- The entries that slots keep, of which some stand among the rare ones as they are.
use Rattle.std.specs.Prelude.{◌≡◌, ℕ, ◌<◌, ◌≤◌, ◌^◌, List, ◌++◌, length, map}
use Rattle.std.specs.List.{AllByRecursion, slice_index_or}
use Rattle.segment_list.specs.Listed.{Listed}
use Rattle.packed_bytes.specs.Place.{IsPlace, IsPut}
use Rattle.volume_model.specs.declared.entry.Entry.{Entry}
use Rattle.volume_model.specs.declared.entry.Entry.TheVariants as entry
use Rattle.volume_model.specs.declared.mark.Mark.TheVariants as mark
use Rattle.packed_entries.specs.declared.plain.Plain.{Plain}
use Rattle.packed_entries.specs.declared.slot.Slot.{Slot}
use Rattle.packed_entries.specs.declared.slot.Slot.TheVariants as slot
use Rattle.packed_entries.specs.declared.entries.PackedEntries.TheInside.{Inside}
use Rattle.packed_entries.specs.Plain.{data_of, plain_entry, IsPlainOf}

-- the entry that a slot keeps; none is read past the rare ones
abbrev pub entry_of : List ℕ → List Entry → Slot → Entry
entry_of store rares (slot.Plain p) = plain_entry store p
entry_of store rares (slot.Rare i) = slice_index_or rares i (entry.Mark (mark.Failed 0))

abbrev pub entries_in : List ℕ → List Entry → List Slot → List Entry
entries_in store rares slots = map (entry_of store rares) slots

-- it keeps one
abbrev pub IsSlot : List ℕ → List Entry → Slot → Type 0
IsSlot store rares (slot.Plain p) = IsPlace store p.place
IsSlot store rares (slot.Rare i) = i < length rares

-- the list of an entry was put, and with it this is the entry
pub record IsKeptPlain (old new : Listed ℕ) (e : Entry) (p : Plain) : Type 0 where
  pub put : IsPut old new (data_of e) p.place
  pub plain : IsPlainOf e p.place p

-- it keeps that entry, and what stood there before stays
pub record IsKept (store store2 : List ℕ) (rares rares2 : List Entry) (e : Entry) (s : Slot) : Type 0 where
  pub more : List ℕ
  pub stored : store2 ≡ store ++ more
  pub extra : List Entry
  pub kept : rares2 ≡ rares ++ extra
  pub slot : IsSlot store2 rares2 s
  pub entry : entry_of store2 rares2 s ≡ e

-- each slot keeps an entry, and there is room
pub record IsRoomy (e : Inside) : Type 0 where
  pub slots : AllByRecursion (IsSlot e.store.items e.rares.items) e.slots.items
  pub spare : e.spare ≤ e.slots.room
  pub spare_rares : e.spare ≤ e.rares.room
  pub spare_data : e.spare_data ≤ e.store.room
  pub most : e.spare_data < 2 ^ 32
