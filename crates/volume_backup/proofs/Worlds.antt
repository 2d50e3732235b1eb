-- What a replica that is read tells of a World's volume, while no operation of a command under the turn has started.
use Rattle.std.proofs.Common.{◌≡◌, ◌≢◌, ℕ, ◌<◌, Bool, true, false, not, cond, ◌||◌, List, [], ◌∷◌, length}
use Rattle.std.proofs.Common.{refl, sym, ap, subst, ◌∙◌, arith}
use Rattle.std.specs.Prelude.{Option, None, Some}
use Rattle.std.specs.Str.{bytes_eq}
use Rattle.std.proofs.lemmas.Bool.{false≢true}
use Rattle.std.proofs.lemmas.Slice.Eq.{bytes_eq-Decides}
use Rattle.volume_model.specs.declared.mode.Mode.{Mode}
use Rattle.volume_model.specs.declared.mode.Mode.TheVariants.{Rw, Err}
use Rattle.volume_model.specs.Modes.{mode_of}
use Rattle.volume_model.specs.Names.{has_name}
use Rattle.volume_model.specs.PlainState.{Volume, snapped}
use Rattle.volume_model.specs.Snapshots.{Snapshot, is_live}
use Rattle.range_turns.specs.declared.ticket.Ticket.{Ticket}
use Rattle.replica_node.specs.Node.{Node, IsKept}
use Rattle.replica_node.proofs.VolumeLemmas.{kept_of}
use Rattle.step_answers.specs.declared.parts.Part.{Part}
use Rattle.step_answers.specs.declared.parts.Part.TheVariants.{Apart, Owed, Taken, Acked}
use Rattle.step_answers.specs.declared.whole_op.WholeOp.{WholeOp}
use Rattle.step_answers.specs.declared.whole_op.WholeOp.TheVariants as whole
use Rattle.step_answers.specs.Parts.{part_at}
use Rattle.open_calls.specs.declared.whole.Whole.{Whole}
use Rattle.open_calls.specs.Calls.{node_at}
use Rattle.open_calls.specs.Clients.{AreClients, Agree}
use Rattle.open_calls.specs.Due.{due, due_of, form_part, formed, forms}
use Rattle.open_calls.specs.Whole.{IsWhole, MayBeDone}
use Rattle.open_calls.proofs.Forms.{formed_at, length-forms}
use Rattle.open_calls.proofs.Ops.{not_there}
use Rattle.open_calls.proofs.PartLemmas.{rw_up, up_in}
use Rattle.volume_core.specs.State.{State, told_of, modes_in}
use Rattle.volume_core.specs.Sound.{IsSound}
use Rattle.volume_core.proofs.TurnLemmas.{told_named}
use Rattle.volume_backup.specs.Copies.{IsLive, IsBesideTurn, NoneUnderTurn}
use Rattle.volume_backup.proofs.Tells.{Tells, tells_same, of_snapped_volume, of_snapped_node}

-- a name that is none of the snapshots is not live
pub not_live : (tree : List Snapshot) (name : List ℕ) → has_name tree name ≡ false → is_live tree name ≡ false
not_live [] name none = refl
not_live (s ∷ ss) name none = by (bytes_eq name s.name) none (not_live ss name)
  where
    by : (b : Bool) → (b || has_name ss name) ≡ false → (has_name ss name ≡ false → is_live ss name ≡ false)
        → cond b (not s.marked) (is_live ss name) ≡ false
    by true none older = absurd (false≢true (sym none))
    by false none older = older none

-- ---- a started snapshot, of which the replica may have taken its part

-- its head stays
long_part : (op : WholeOp) (p : Part) (n : Node) → IsBesideTurn op → length (form_part op p n).disk ≡ length n.disk
long_part (whole.Snapshot x) Apart n beside = refl
long_part (whole.Snapshot x) Owed n beside = refl
long_part (whole.Snapshot x) Taken n beside = refl
long_part (whole.Snapshot x) Acked n beside = refl
long_part (whole.Remove x) p n beside = absurd beside
long_part (whole.Revert x) p n beside = absurd beside
long_part (whole.Purge f) p n beside = absurd beside
long_part (whole.Barrier q) p n beside = absurd beside

module _ (v : Volume) (size r : ℕ) (modes : List Mode) (ts : List Ticket) (nodes : List Node) (name : List ℕ)
    (read : mode_of modes r ≡ Rw) where
  up : mode_of modes r ≢ Err
  up = rw_up (mode_of modes r) read

  by_part : (new : List ℕ) (p : Part) (n : Node) → bytes_eq name new ≡ false → Tells v (form_part (whole.Snapshot new) p n) name
      → Tells v n name
  by_part new Apart n apart t = t
  by_part new Owed n apart t = of_snapped_node v n name new apart t
  by_part new Taken n apart t = t
  by_part new Acked n apart t = t

  by_op : (op : WholeOp) (parts : List Part) → IsBesideTurn op → op ≢ whole.Snapshot name → length parts ≡ length nodes
      → Agree (due_of op v) size modes ts (formed op parts nodes) → Tells v (node_at nodes r) name
  by_op (whole.Snapshot new) parts beside other many agree =
      let apart : bytes_eq name new ≡ false = off (bytes_eq name new) refl in
      by_part new (part_at parts r) (node_at nodes r) apart
      (subst (λ (n : Node). Tells v n name) (formed_at (whole.Snapshot new) parts nodes r many)
      (of_snapped_volume v (node_at (formed (whole.Snapshot new) parts nodes) r) name new apart
      (tells_same (snapped v new) (node_at (formed (whole.Snapshot new) parts nodes) r) name (agree.tree r up) (agree.copies r read))))
    where
      off : (b : Bool) → bytes_eq name new ≡ b → b ≡ false
      off true e = absurd (other (ap (λ x. whole.Snapshot x) (sym ((bytes_eq-Decides name new).0 e))))
      off false e = refl
  by_op (whole.Remove x) parts beside other many agree = absurd beside
  by_op (whole.Revert x) parts beside other many agree = absurd beside
  by_op (whole.Purge f) parts beside other many agree = absurd beside
  by_op (whole.Barrier q) parts beside other many agree = absurd beside

-- a snapshot has started under the name
abbrev IsSnapping : Option Whole → List ℕ → Type 0
IsSnapping None name = ⊥
IsSnapping (Some w) name = w.op ≡ whole.Snapshot name

-- what it makes is not live
snapping_not_live : (s : State) (name : List ℕ) → IsSound s → IsSnapping s.whole name
    → is_live (told_of s).volume.snapshots.tree name ≡ false
snapping_not_live s name ok = go s.whole ok.whole
  where
    go : (w : Option Whole) → IsWhole (told_of s) (modes_in s) s.tickets s.calls s.nodes w → IsSnapping w name
        → is_live (told_of s).volume.snapshots.tree name ≡ false
    go None is new = absurd new
    go (Some w) is new =
        let may : MayBeDone (whole.Snapshot name) (told_of s) = subst (λ (op : WholeOp). MayBeDone op (told_of s)) new is.may in
        not_live (told_of s).volume.snapshots.tree name (not_there (told_of s) name (told_named s ok) may.1)

-- ---- a World

module _ (s : State) (r : ℕ) (ok : IsSound s) (read : mode_of (modes_in s) r ≡ Rw) where
  pub node_in : r < length s.nodes
  node_in =
      let up = rw_up (mode_of (modes_in s) r) read in
      omega (arith, up_in (modes_in s) r up, ok.on.clients.agree.as_many, length-forms s.whole s.nodes)

  -- what the replica has under a name is what the journal tells
  told : (name : List ℕ) → NoneUnderTurn s.whole → (IsSnapping s.whole name → ⊥) → Tells (told_of s).volume (node_at s.nodes r) name
  told name = go s.whole ok.whole ok.on.clients
    where
      go : (w : Option Whole) → IsWhole (told_of s) (modes_in s) s.tickets s.calls s.nodes w
          → AreClients (due w (told_of s).volume) s.size (length s.indices) s.book.entries (modes_in s) s.tickets s.calls
          (forms w s.nodes) → NoneUnderTurn w → (IsSnapping w name → ⊥) → Tells (told_of s).volume (node_at s.nodes r) name
      go None is c calm other = tells_same (told_of s).volume (node_at s.nodes r) name
          (c.agree.tree r (rw_up (mode_of (modes_in s) r) read)) (c.agree.copies r read)
      go (Some w) is c calm other =
          by_op (told_of s).volume s.size r (modes_in s) s.tickets s.nodes name read w.op w.parts calm other is.parts c.agree

  -- it has the volume's size
  pub long_on : NoneUnderTurn s.whole → length (node_at s.nodes r).disk ≡ s.size
  long_on = go s.whole ok.whole ok.on.clients
    where
      go : (w : Option Whole) → IsWhole (told_of s) (modes_in s) s.tickets s.calls s.nodes w
          → AreClients (due w (told_of s).volume) s.size (length s.indices) s.book.entries (modes_in s) s.tickets s.calls
          (forms w s.nodes) → NoneUnderTurn w → length (node_at s.nodes r).disk ≡ s.size
      go None is c calm = c.agree.sizes r (rw_up (mode_of (modes_in s) r) read)
      go (Some w) is c calm =
          sym (long_part w.op (part_at w.parts r) (node_at s.nodes r) calm)
          ∙ ap (λ (n : Node). length n.disk) (sym (formed_at w.op w.parts s.nodes r is.parts))
          ∙ c.agree.sizes r (rw_up (mode_of (modes_in s) r) read)

  -- and what it has under a live name is the copy
  pub tells : (name : List ℕ) → NoneUnderTurn s.whole → IsLive s name → Tells (told_of s).volume (node_at s.nodes r) name
  tells name calm live = told name calm (λ new. false≢true (sym (snapping_not_live s name ok new) ∙ live))

  pub kept : (name : List ℕ) → NoneUnderTurn s.whole → IsLive s name → IsKept (node_at s.nodes r) (Some name)
  kept name calm live = kept_of (node_at s.nodes r) name ((tells name calm live).live ∙ live)
