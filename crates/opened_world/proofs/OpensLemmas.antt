-- A run may begin with opened folders.
use Rattle.std.proofs.Common.{◌≡◌, ◌≢◌, ◌⊎◌, inl, inr, ℕ, zero, suc, ◌+◌, ◌<◌, ◌≤◌, ◌^◌, Bool, true, false, ◌||◌, List, [], ◌∷◌}
use Rattle.std.proofs.Common.{length, map, get_or, Option, Some, None, refl, sym, ap, subst, ◌∙◌, arith}
use Rattle.std.specs.Prelude.{Contains}
use Rattle.std.specs.Str.{bytes_eq}
use Rattle.std.proofs.lemmas.Bool.{cases_lt, cases_Bool, true≢false, or_cases}
use Rattle.std.proofs.lemmas.List.{length-map, get_or-map, get_or_past}
use Rattle.std.proofs.lemmas.Slice.Eq.{bytes_eq-Decides}
use Rattle.vol_units.specs.Name.{begins_sys, sys_name}
use Rattle.volume_model.specs.declared.mode.Mode.{Mode}
use Rattle.volume_model.specs.declared.mode.Mode.TheVariants.{Rw, Wo, Err}
use Rattle.volume_model.specs.declared.names.UsedName.{UsedName}
use Rattle.volume_model.specs.Modes.{mode_of, source_of, HasSource, IsSource}
use Rattle.volume_model.specs.Names.{is_used_in, is_live_in, names_in, has_name, TellOf, AreNamed, AreOwnFree}
use Rattle.volume_model.specs.PlainState.{Volume, is_used}
use Rattle.volume_model.specs.Snapshots.{Snapshot, layer_count, is_live}
use Rattle.volume_model.proofs.NamesLemmas.{is_used-names_in}
use Rattle.volume_model.proofs.OwnNames.{sys_name_injective}
use Rattle.mode_table.proofs.SourceLemmas.{source_of-found, within_from_read}
use Rattle.coalesce.specs.Folding.{snapshot_of}
use Rattle.folder_layers.specs.Folders.{HasEarlierNames}
use Rattle.replica_node.specs.Node.{Node, Kept, blank, layer_names}
use Rattle.replica_node.specs.Fold.{tree_of, snapshots_of}
use Rattle.replica_node.specs.Volume.{volume_of_node}
use Rattle.replica_open.specs.Opening.{IsWholeOpened}
use Rattle.open_calls.specs.Calls.{node_at}
use Rattle.volume_core.specs.Opened.{FitsOpening, MayOpen, IsOpenedOn}
use Rattle.volume_core.specs.State.{State}
use Rattle.volume_core.specs.State as state
use Rattle.volume_folders.specs.declared.reason.Reason.{Reason}
use Rattle.volume_folders.specs.Sound.{IsSoundReplica}
use Rattle.volume_folders.specs.Reasons.{reason_at, mode_for, modes_for}
use Rattle.volume_folders.specs.Opened.{AreKnownOpened}
use Rattle.volume_folders.proofs.SoundLemmas.{names_once}
use Rattle.volume_folders.proofs.TwiceLemmas.{read_as_one}
use Rattle.journal_book.specs.declared.opening.Opening.{Opening}
use Rattle.opened_world.specs.Names.{names_of}
use Rattle.opened_world.specs.Opening.{replica_at, disk_of, opened_opening, opened_spot}
use Rattle.opened_world.proofs.NamesLemmas.{used_disk, live_disk}

-- ---- modes

rw_of : (why : Option Reason) → mode_for why ≡ Rw → why ≡ None
rw_of None e = refl
rw_of (Some why) e = absurd (apart e)
  where
    apart : Err ≢ Rw
    apart e = cc

pub mode_at : (rs : List (Option Reason)) (r : ℕ) → r < length rs → mode_of (modes_for rs) r ≡ mode_for (reason_at rs r)
mode_at rs r within = get_or-map mode_for rs r None Err within

-- a replica that is read is there, and no reason stands against it
pub read_at : (rs : List (Option Reason)) (r : ℕ) → mode_of (modes_for rs) r ≡ Rw → (r < length rs) × (reason_at rs r ≡ None)
read_at rs r read =
    let within : r < length rs = omega (arith, within_from_read (modes_for rs) r read, length-map rs mode_for) in
    (within, rw_of (reason_at rs r) (sym (mode_at rs r within) ∙ read))

none_rebuilt : (rs : List (Option Reason)) (r : ℕ) → mode_of (modes_for rs) r ≢ Wo
none_rebuilt rs r e = elim (cases_lt r (length rs)) [
  | inl within ↦ not_wo (reason_at rs r) (sym (mode_at rs r within) ∙ e)
  | inr past ↦ err_not (sym (get_or_past (modes_for rs) r Err (omega (arith, past, length-map rs mode_for))) ∙ e)
]
  where
    err_not : Err ≢ Wo
    err_not e = cc

    not_wo : (why : Option Reason) → mode_for why ≢ Wo
    not_wo None e = cc
    not_wo (Some why) e = cc

module _ (size replicas source : ℕ) (nodes : List Node) (reasons : List (Option Reason))
    (known : AreKnownOpened size replicas nodes reasons source) where
  within : source < length reasons
  within = omega (arith, known.there, known.as_many)

  pub first_is : IsSource (modes_for reasons) source
  first_is = record {
    read = mode_at reasons source within ∙ ap mode_for known.read;
    first = λ q less read. known.first q less (read_at reasons q read).1;
  }

  pub source_is : source_of (modes_for reasons) ≡ Some source
  source_is = sym (source_of-found (modes_for reasons) (Some source) first_is)

  pub disk_is : disk_of nodes reasons ≡ node_at nodes source
  disk_is = ap (replica_at nodes) source_is

  pub has_source : HasSource (modes_for reasons)
  has_source = (
    source,
    omega (arith, within, length-map reasons mode_for),
    get_or-map mode_for reasons source None Rw within ∙ ap mode_for known.read,
  )

-- ---- names

-- a name of a snapshot is that of a layer
layer_name : (ks : List Kept) (q : List ℕ) → has_name (map (λ k. snapshot_of k.meta) ks) q ≡ true → Contains (layer_names ks) q
layer_name [] q has = absurd (true≢false (sym has))
layer_name (k ∷ ks) q has = elim (or_cases (bytes_eq q k.meta.name) (has_name (map (λ k. snapshot_of k.meta) ks) q) has) [
  | inl here ↦ (0, omega arith, sym ((bytes_eq-Decides q k.meta.name).0 here))
  | inr there ↦ let at = layer_name ks q there in (suc at.0, omega (arith, at.1), at.2)
]

-- the engine's own name of a number from the head's on is no layer's
not_own : (node : Node) (number : ℕ) → HasEarlierNames node → node.number ≤ number → number < 2 ^ 64
    → has_name (tree_of node) (sys_name number) ≡ false
not_own node number earlier low most = elim (cases_Bool (has_name (tree_of node) (sys_name number))) [
  | inl has ↦ absurd (too_low (earlier (sys_name number) (layer_name node.layers (sys_name number) has) refl))
  | inr free ↦ free
]
  where
    too_low : (n : ℕ) × (n < node.number) × (sys_name number ≡ sys_name n) → ⊥
    too_low (n, less, same) =
        let is = sys_name_injective number n most (omega (arith, less, low, most)) same in omega (arith, is, less, low)

module _ (disk : Node) where
  abbrev found : List UsedName
  found = names_of (tree_of disk)

  pub used_of_disk : (q : List ℕ) → is_used (names_in found) q ≡ has_name (tree_of disk) q
  used_of_disk q = sym (is_used-names_in found q) ∙ used_disk (tree_of disk) q

  live_of_disk : IsSoundReplica disk → (q : List ℕ) → is_live_in found q ≡ is_live (tree_of disk) q
  live_of_disk sound q = live_disk (tree_of disk) q (names_once disk.layers sound.tree)

-- ---- the opening fits the disk, and each replica that is one volume with it

abbrev opening_of : List Mode → Node → Opening
opening_of modes disk = record { modes = modes; layers = layer_count (snapshots_of disk); names = names_of (tree_of disk) }

fits_disk : (size : ℕ) (modes : List Mode) (disk : Node) → IsSoundReplica disk → IsWholeOpened size disk
    → FitsOpening size (opening_of modes disk) disk
fits_disk size modes disk sound whole = record {
  long = whole.size_is;
  number = whole.low;
  own = λ number low most.
      used_of_disk disk (sys_name number) ∙ not_own disk number whole.earlier low most;
  layers = refl;
  names = record { used = refl; live = live_of_disk disk sound };
  named = record { once = names_once disk.layers sound.tree; taken = λ q has. used_of_disk disk q ∙ has };
}

fits_other : (size : ℕ) (opening : Opening) (disk node : Node) → volume_of_node node ≡ volume_of_node disk → length node.disk ≡ size
    → FitsOpening size opening disk → FitsOpening size opening node
fits_other size opening disk node same long fits =
    let back = sym same in record {
      long = long;
      number = subst (λ (v : Volume). v.snapshots.number ≤ 999999) back fits.number;
      own = subst (λ (v : Volume). AreOwnFree (record { volume = v; used = names_in opening.names })) back fits.own;
      layers = subst (λ (v : Volume). opening.layers ≡ layer_count v.snapshots) back fits.layers;
      names = subst (λ (v : Volume). TellOf opening.names (record { volume = v; used = names_in opening.names })) back fits.names;
      named = subst (λ (v : Volume). AreNamed (record { volume = v; used = names_in opening.names })) back fits.named;
    }

pub may_open : (size replicas source : ℕ) (nodes : List Node) (reasons : List (Option Reason))
    → AreKnownOpened size replicas nodes reasons source → MayOpen size (opened_opening nodes reasons) nodes
may_open size replicas source nodes reasons known =
    let disk = node_at nodes source in
    let modes = modes_for reasons in
    let one = λ (r : ℕ) (e : mode_of modes r ≡ Rw). let read = read_at reasons r e in
    read_as_one size replicas source r nodes reasons known (there r read.0) read.1 in
    record {
      as_many = length-map reasons mode_for ∙ known.as_many ∙ sym known.many;
      source = has_source size replicas source nodes reasons known;
      rebuilt = none_rebuilt reasons;
      each = λ r e. let read = read_at reasons r e in
          subst (λ d. FitsOpening size (opening_of modes d) (node_at nodes r))
          (sym (disk_is size replicas source nodes reasons known))
          (fits_other size (opening_of modes disk) disk (node_at nodes r) (one r e)
          (known.each r read.1 (there r read.0)).size_is
          (fits_disk size modes disk (known.sound source known.there) known.whole));
      agree = λ r q e f. one r e ∙ sym (one q f);
    }
  where
    there : (r : ℕ) → r < length reasons → r < replicas
    there r within = omega (arith, within, known.as_many)

-- ---- the World that was opened begins there

pub begins_there : (size streams : ℕ) (nodes : List Node) (reasons : List (Option Reason)) (s : State)
    → IsOpenedOn size (opened_opening nodes reasons) nodes streams s → state.opening_of s ≡ opened_spot nodes reasons
begins_there size streams nodes reasons s is =
    ap state.opening_of is.state ∙ ap (λ (n : Node). record {
      state = record { volume = volume_of_node n; used = names_in (names_of (tree_of (disk_of nodes reasons))) };
      modes = modes_for reasons;
    }) (ap (replica_at nodes) (source_of-found (modes_for reasons) (Some is.source) is.first))
