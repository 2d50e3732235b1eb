-- What is left out of a list of pages is known: zeros, or what the base has.
use Rattle.std.proofs.Common.{◌≡◌, ℕ, ◌<◌, Bool, true, false, cond, ◌&&◌, List, length, refl, sym, ap, ◌∙◌, arith}
use Rattle.std.specs.Prelude.{Option, None, Some, IfSome}
use Rattle.volume_model.specs.declared.mode.Mode.TheVariants.{Rw}
use Rattle.volume_model.specs.Copies.{HasCopies}
use Rattle.volume_model.specs.Modes.{mode_of}
use Rattle.volume_model.specs.PlainState.{Volume, copy_of}
use Rattle.volume_model.specs.Snapshots.{is_live}
use Rattle.backup_units.specs.Backups.{page_at}
use Rattle.backup_make.specs.declared.giver.Pages.{Pages}
use Rattle.backup_make.specs.declared.giver.Pages.TheVariants as found
use Rattle.backup_make.specs.Giving.{Covers}
use Rattle.volume_model.specs.Names.{has_name}
use Rattle.replica_node.specs.Node.{Node, disk_named}
use Rattle.replica_node.specs.Fold.{tree_of}
use Rattle.layer_pages.specs.Chains.{is_over}
use Rattle.layer_pages.specs.Pages.{OthersReadAsBase}
use Rattle.open_calls.specs.Calls.{node_at}
use Rattle.volume_core.specs.State.{State, told_of, modes_in}
use Rattle.volume_core.specs.Sound.{IsSound}
use Rattle.volume_core.proofs.Copies.{told_copies}
use Rattle.volume_backup.specs.Copies.{live_copies, IsLive, NoneUnderTurn}
use Rattle.volume_backup.specs.Answers.{base_of, AsksEach, AsksAbove}
use Rattle.volume_backup.proofs.Tells.{Tells}
use Rattle.volume_backup.proofs.Worlds.{long_on, tells}

-- a name that has a copy is live, and it is that copy
pub has_live : (v : Volume) (name disk : List ℕ) → live_copies v name ≡ Some disk
    → (is_live v.snapshots.tree name ≡ true) × (disk ≡ copy_of v.copies name)
has_live v name disk has = by (is_live v.snapshots.tree name) refl has
  where
    by : (b : Bool) → is_live v.snapshots.tree name ≡ b → cond b (Some (copy_of v.copies name)) None ≡ Some disk
        → (is_live v.snapshots.tree name ≡ true) × (disk ≡ copy_of v.copies name)
    by true e has = (e, cc)
    by false e has = absurd cc

-- where each page is listed, none is left out
pub covers_all : (v : Volume) (size : ℕ) (name : List ℕ) (base : Option (List ℕ)) (pages : Pages) → HasCopies size v
    → AsksEach size pages → Covers (live_copies v) name base pages
covers_all v size name base (found.Above pages) whole asks disk has = absurd asks
covers_all v size name base (found.All pages) whole asks disk has =
    let live = has_live v name disk has in
    let long : length disk ≡ size = ap (λ (d : List ℕ). length d) live.1 ∙ whole.copy name live.0 in (
      λ i l. omega (arith, asks.each i l, asks.count, long),
      λ page low none. let within : page < length pages.items = omega (arith, asks.count, long) in
          absurd (none page (omega arith) within (asks.each page within)),
    )

-- the pages of the list
abbrev pub listed_in : Pages → List ℕ
listed_in (found.All pages) = pages.items
listed_in (found.Above pages) = pages.items

-- a base that counts is live
base_lives : (v : Volume) (name base taken : List ℕ) → base_of v name (Some base) ≡ Some taken
    → (is_live v.snapshots.tree base ≡ true) × (is_over v.snapshots.tree name base ≡ true) × (taken ≡ base)
base_lives v name base taken is = by (is_live v.snapshots.tree base) (is_over v.snapshots.tree name base) refl refl is
  where
    by : (live over : Bool) → is_live v.snapshots.tree base ≡ live → is_over v.snapshots.tree name base ≡ over
        → cond (live && over) (Some base) None ≡ Some taken
        → (is_live v.snapshots.tree base ≡ true) × (is_over v.snapshots.tree name base ≡ true) × (taken ≡ base)
    by true true e f is = (e, f, cc)
    by true false e f is = absurd cc
    by false over e f is = absurd cc

-- and the snapshot stands on it, also in a replica that tells of the name
pub over_base : (v : Volume) (n : Node) (name : List ℕ) (base : Option (List ℕ)) → Tells v n name
    → IfSome (base_of v name base) (λ b. is_over (tree_of n) name b ≡ true)
over_base v n name None tells = tt
over_base v n name (Some base) tells = by (base_of v name (Some base)) refl
  where
    by : (taken : Option (List ℕ)) → base_of v name (Some base) ≡ taken → IfSome taken (λ b. is_over (tree_of n) name b ≡ true)
    by None e = tt
    by (Some b) e =
        let lives = base_lives v name base b e in
        ap (λ chain. has_name chain b) tells.chain ∙ ap (is_over v.snapshots.tree name) lives.2 ∙ lives.1

-- where a replica tells which pages have blocks
module _ (v : Volume) (n : Node) (size : ℕ) (name : List ℕ) (whole : HasCopies size v) (long : length n.disk ≡ size)
    (tells : Tells v n name) (each : (b : List ℕ) → is_live v.snapshots.tree b ≡ true → Tells v n b) where
  -- the copy of the name is what the replica has
  own : (disk : List ℕ) → live_copies v name ≡ Some disk → (disk ≡ disk_named n.layers name) × (length disk ≡ size)
  own disk has =
      let live = has_live v name disk has in
      (live.1 ∙ sym (tells.copy live.0), ap (λ (d : List ℕ). length d) live.1 ∙ whole.copy name live.0)

  by_base : (base taken : Option (List ℕ)) (pages : Pages) → base_of v name base ≡ taken → AsksAbove n name taken pages
      → OthersReadAsBase n name taken (listed_in pages) → Covers (live_copies v) name base pages
  by_base base None (found.Above pages) e asks others disk has = absurd asks
  by_base base None (found.All pages) e asks others disk has =
      let is = own disk has in (
        λ i l. omega (arith, asks.within i l, long, is.1),
        λ page low none. ap (λ d. page_at d page) is.0
            ∙ others page (omega (arith, low, long, is.1)) (λ i l. none i (omega arith) l),
      )
  by_base base (Some b) (found.All pages) e asks others disk has = absurd asks
  by_base None (Some b) (found.Above pages) e asks others disk has = absurd cc
  by_base (Some base) (Some b) (found.Above pages) e asks others disk has =
      let is = own disk has in
      let lives = base_lives v name base b e in
      let old = copy_of v.copies base in
      let same : disk_named n.layers b ≡ old = ap (disk_named n.layers) lives.2 ∙ (each base lives.0).copy lives.0 in (
        λ i l. omega (arith, asks.within i l, long, is.1),
        (
          old,
          ap (λ x. cond x (Some old) None) lives.0,
          λ page low none. (
            λ inside. ap (λ d. page_at d page) is.0
                ∙ others page (omega (arith, low, long, is.1)) (λ i l. none i (omega arith) l)
                ∙ ap (λ d. page_at d page) same,
            λ past. absurd (omega (arith, low, past, is.1, whole.copy base lives.0)),
          ),
        ),
      )

  covers_above : (base : Option (List ℕ)) (pages : Pages) → AsksAbove n name (base_of v name base) pages
      → OthersReadAsBase n name (base_of v name base) (listed_in pages) → Covers (live_copies v) name base pages
  covers_above base pages = by_base base (base_of v name base) pages refl

-- so it is of a World, as a replica that is read tells it
pub covered : (s : State) (r : ℕ) → IsSound s → mode_of (modes_in s) r ≡ Rw → NoneUnderTurn s.whole → (name : List ℕ) → IsLive s name
    → (base : Option (List ℕ)) (pages : Pages) → AsksAbove (node_at s.nodes r) name (base_of (told_of s).volume name base) pages
    → OthersReadAsBase (node_at s.nodes r) name (base_of (told_of s).volume name base) (listed_in pages)
    → Covers (live_copies (told_of s).volume) name base pages
covered s r ok read calm name live = covers_above (told_of s).volume (node_at s.nodes r) s.size name (told_copies s ok)
    (long_on s r ok read calm) (tells s r ok read name calm live) (λ b. tells s r ok read b calm)
