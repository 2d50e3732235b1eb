-- What a journal itself tells of the snapshots: how many layers there are, which names were taken, and which of them
-- can be used.
use Rattle.vol_units.specs.Name.{sys_name}
use Rattle.std.specs.Prelude.{◌≡◌, ◌≤◌, ◌<◌, ◌^◌, ℕ, ◌+◌, ◌-◌, Bool, true, false, not, List, [], ◌∷◌, map, if◌then◌else◌}
use Rattle.std.specs.List.{list_any}
use Rattle.std.specs.Str.{bytes_eq}
use Rattle.volume_model.specs.declared.command.Command.TheVariants as command
use Rattle.volume_model.specs.declared.call.Call.{Call}
use Rattle.volume_model.specs.declared.call.Call.TheVariants as call
use Rattle.volume_model.specs.declared.entry.Entry.{Entry}
use Rattle.volume_model.specs.declared.entry.Entry.TheVariants as entry
use Rattle.volume_model.specs.declared.mark.Mark.{Mark}
use Rattle.volume_model.specs.declared.mark.Mark.TheVariants as mark
use Rattle.volume_model.specs.declared.names.UsedName.{UsedName}
use Rattle.volume_model.specs.Snapshots.{Snapshot, is_live}
use Rattle.volume_model.specs.PlainState.{PlainState, is_used}
use Rattle.volume_model.specs.Replay.{is_refusal}

-- ---- the names that were taken, the newest first: a snapshot that went is marked, and stays so

-- one of them is the name
abbrev pub is_used_in : List UsedName → List ℕ → Bool
is_used_in names name = list_any (λ n. bytes_eq name n.name) names

-- the newest of the name is not marked
abbrev pub is_live_in : List UsedName → List ℕ → Bool
is_live_in [] name = false
is_live_in (n ∷ ns) name = if bytes_eq name n.name then not n.marked else is_live_in ns name

-- those, and that one
abbrev pub with_name : List UsedName → List ℕ → List UsedName
with_name names name = if is_used_in names name then names else record { name = name; marked = false } ∷ names

-- the name with its mark, and any other as it is
abbrev pub name_marked : List ℕ → UsedName → UsedName
name_marked name n = if bytes_eq name n.name then record n { marked = true } else n

-- after a call that was done
abbrev pub names_after_call : List UsedName → Call → List UsedName
names_after_call names (call.Command (command.Snapshot name)) = with_name names name
names_after_call names (call.Command (command.Remove name)) = map (name_marked name) names
names_after_call names c = names

-- after a mark: a rebuild takes the engine's own name
abbrev pub names_after_mark : List UsedName → Mark → List UsedName
names_after_mark names (mark.Added replica source name) = with_name names name
names_after_mark names m = names

-- after one entry, and after these entries, one after another
abbrev pub names_after_entry : List UsedName → Entry → List UsedName
names_after_entry names (entry.Answer a) = if is_refusal a.reply then names else names_after_call names a.call
names_after_entry names (entry.Mark m) = names_after_mark names m

abbrev pub names_after : List UsedName → List Entry → List UsedName
names_after names [] = names
names_after names (e ∷ es) = names_after (names_after_entry names e) es

-- ---- how many layers there are

-- after a call that was done
abbrev pub layers_after_call : ℕ → Call → ℕ
layers_after_call layers (call.Command (command.Snapshot name)) = layers + 1
layers_after_call layers c = layers

-- after a mark: each part of a purge takes one layer, and a rebuild begins with one more
abbrev pub layers_after_mark : ℕ → Mark → ℕ
layers_after_mark layers (mark.Purged part) = layers - 1
layers_after_mark layers (mark.Added replica source name) = layers + 1
layers_after_mark layers m = layers

-- after one entry, and after these entries, one after another
abbrev pub layers_after_entry : ℕ → Entry → ℕ
layers_after_entry layers (entry.Answer a) = if is_refusal a.reply then layers else layers_after_call layers a.call
layers_after_entry layers (entry.Mark m) = layers_after_mark layers m

abbrev pub layers_after : ℕ → List Entry → ℕ
layers_after layers [] = layers
layers_after layers (e ∷ es) = layers_after (layers_after_entry layers e) es

-- ---- that names tell the truth of a volume

-- these names alone
abbrev pub names_in : List UsedName → List (List ℕ)
names_in names = map (λ n. n.name) names

-- the same names were taken, and the same can be used
pub record TellOf (names : List UsedName) (state : PlainState) : Type 0 where
  pub used : names_in names ≡ state.used
  pub live : (name : List ℕ) → is_live_in names name ≡ is_live state.volume.snapshots.tree name

-- a snapshot has the name
abbrev pub has_name : List Snapshot → List ℕ → Bool
has_name tree name = list_any (λ s. bytes_eq name s.name) tree

-- no name comes twice
abbrev pub NamesOnce : List Snapshot → Type 0
NamesOnce [] = Unit {0}
NamesOnce (s ∷ ss) = (has_name ss s.name ≡ false) × NamesOnce ss

-- the snapshots have names of their own, each of which was taken
pub record AreNamed (state : PlainState) : Type 0 where
  pub once : NamesOnce state.volume.snapshots.tree
  pub taken : (name : List ℕ) → has_name state.volume.snapshots.tree name ≡ true → is_used state.used name ≡ true

-- the engine's own names are free from the head's number on
abbrev pub AreOwnFree : PlainState → Type 0
AreOwnFree state = (number : ℕ) → state.volume.snapshots.number ≤ number → number < 2 ^ 64
    → is_used state.used (sys_name number) ≡ false
