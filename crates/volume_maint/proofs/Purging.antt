-- What goes next in a purge, what can go, and the folding of a page.
use Rattle.std.proofs.Common.{◌≡◌, ◌≢◌, ℕ, ◌<◌, ⊎_elim, inl, inr, Bool, true, false, cond, List, [], ◌∷◌, length}
use Rattle.std.proofs.Common.{refl, sym, ap, subst, ◌∙◌, arith}
use Rattle.std.specs.Prelude.{◌⊎◌, Option, None, Some}
use Rattle.std.proofs.lemmas.Bool.{false≢true}
use Rattle.std.proofs.lemmas.Slice.Eq.{bytes_eq-Decides}
use Rattle.vol_units.specs.Chain.{is_named}
use Rattle.volume_model.specs.declared.command.Command.TheVariants as command
use Rattle.volume_model.specs.declared.mark.FoldOrDrop.{FoldOrDrop}
use Rattle.volume_model.specs.declared.mark.FoldOrDrop.TheVariants as part
use Rattle.volume_model.specs.declared.mode.Mode.TheVariants.{Rw, Err}
use Rattle.volume_model.specs.Modes.{mode_of}
use Rattle.volume_model.specs.PlainState.{is_used}
use Rattle.volume_model.specs.Purge.{CanBeDone, CanFold, CanDrop, IsMarked, children_of, gone}
use Rattle.volume_model.specs.Snapshots.{Snapshot, Snapshots, with_snapshot}
use Rattle.volume_model.proofs.PurgeLemmas.{any_cases}
use Rattle.replica_node.specs.Node.{Node}
use Rattle.replica_node.specs.Fold.{tree_of, snapshots_of}
use Rattle.step_answers.specs.declared.parts.Part.{Part}
use Rattle.step_answers.specs.declared.parts.Part.TheVariants.{Apart, Owed, Taken, Acked}
use Rattle.step_answers.specs.declared.whole_op.WholeOp.{WholeOp}
use Rattle.step_answers.specs.declared.whole_op.WholeOp.TheVariants as whole
use Rattle.open_calls.specs.Calls.{node_at}
use Rattle.open_calls.specs.Clients.{AreClients, IsIdle}
use Rattle.step_answers.specs.Parts.{part_at}
use Rattle.open_calls.proofs.PartLemmas.{rw_up, up_in}
use Rattle.open_calls.specs.declared.whole.Whole.{Whole}
use Rattle.open_calls.specs.Due.{due, due_of, form_part, formed, forms}
use Rattle.open_calls.specs.Whole.{IsWhole, IsStarted, MayBeDone}
use Rattle.open_calls.specs.Maint.{command_at}
use Rattle.open_calls.proofs.Folds.{IsBeside, IsSnapshot, snapshot_stands, folded_clients, folded_whole, idle_maint, idle_beside}
use Rattle.open_calls.proofs.Forms.{formed_at, length-forms}
use Rattle.open_calls.proofs.Ends.{snapped_can}
use Rattle.open_calls.proofs.Ops.{not_there}
use Rattle.open_calls.proofs.PartSteps.{child_there}
use Rattle.volume_maint.proofs.Adds.{no_rebuild, purge_no_add, free_claim}
use Rattle.volume_core.specs.State.{State, told_of, modes_in}
use Rattle.volume_core.specs.Sound.{IsSound}
use Rattle.volume_maint.specs.Answers.{snapshots_told, IsOntoNew}
use Rattle.volume_maint.specs.Steps.{folded_on}
use Rattle.volume_core.proofs.TurnLemmas.{told_named}

-- ---- what can be done of the replica's can be of the volume

-- a snapshot more takes nothing from what can go, and adds no more than the fold of its parent into itself
abbrev pub IsInto : List ℕ → FoldOrDrop → Type 0
IsInto name (part.Fold p c) = c ≡ name
IsInto name (part.Drop p) = ⊥

pub unsnapped_can : (s : Snapshots) (name : List ℕ) (f : FoldOrDrop) → CanBeDone (with_snapshot s name).tree (Some name) f
    → (IsInto name f → ⊥) → CanBeDone s.tree s.on f
unsnapped_can s name f can off = by f can off
  where
    new : Snapshot
    new = record { name = name; parent = s.on; marked = false }

    marked : (p : List ℕ) → IsMarked (new ∷ s.tree) p → IsMarked s.tree p
    marked p a = ⊎_elim (λ h. absurd (false≢true h.1)) (λ b. b)
        (any_cases (λ (x : Snapshot). (x.name ≡ p) × (x.marked ≡ true)) new s.tree a)

    same_name : (on : Option (List ℕ)) (p : List ℕ) → is_named on p ≡ false → on ≢ Some p
    same_name None p e f = absurd cc
    same_name (Some q) p e f = false≢true (sym e ∙ (bytes_eq-Decides q p).1 (inside f))
      where
        inside : Some q ≡ Some p → q ≡ p
        inside g = cc

    first : (a b : List ℕ) (xs ys : List (List ℕ)) → a ∷ xs ≡ b ∷ ys → b ≡ a
    first a b xs ys e = cc

    none : (a : List ℕ) (xs : List (List ℕ)) → a ∷ xs ≡ [] → ⊥
    none a xs e = cc

    by : (f : FoldOrDrop) → CanBeDone (new ∷ s.tree) (Some name) f → (IsInto name f → ⊥) → CanBeDone s.tree s.on f
    by (part.Fold p c) can off = go (is_named s.on p) refl
      where
        go : (b : Bool) → is_named s.on p ≡ b → CanFold s.tree s.on p c
        go true e = absurd (off
            (first name c _ [] (sym (ap (λ x. cond x (name ∷ children_of s.tree p) (children_of s.tree p)) e) ∙ can.child)))
        go false e = record {
          marked = marked p can.marked;
          child = sym (ap (λ x. cond x (name ∷ children_of s.tree p) (children_of s.tree p)) e) ∙ can.child;
          head = same_name s.on p e;
        }
    by (part.Drop p) can off = go (is_named s.on p) refl
      where
        go : (b : Bool) → is_named s.on p ≡ b → CanDrop s.tree s.on p
        go true e = absurd (none name _ (sym (ap (λ x. cond x (name ∷ children_of s.tree p) (children_of s.tree p)) e) ∙ can.leaf))
        go false e = record {
          marked = marked p can.marked;
          leaf = sym (ap (λ x. cond x (name ∷ children_of s.tree p) (children_of s.tree p)) e) ∙ can.leaf;
          head = same_name s.on p e;
        }

-- a purge that has the turn has nothing enrolled
pub record IsPurging (s : State) : Type 0 where
  pub stream : ℕ
  pub own : (command_at s.commands 0).stream ≡ stream
  pub idle : IsIdle stream s.calls

module _ (s : State) (r : ℕ) (ok : IsSound s) (purging : IsPurging s) (read : mode_of (modes_in s) r ≡ Rw) where
  abbrev up : mode_of (modes_in s) r ≢ Err
  up = rw_up (mode_of (modes_in s) r) read

  idle : IsIdle (command_at s.commands 0).stream s.calls
  idle = subst (λ n. IsIdle n s.calls) (sym purging.own) purging.idle

  beside : IsBeside s.whole
  beside = idle_beside (told_of s) (snapshots_told s) (modes_in s) (modes_in s) s.nodes s.nodes s.maint s.commands s.tickets
      s.calls s.whole ok.on.clients.paired idle ok.maint.fits ok.whole

  -- one more snapshot is started, which the replica has taken
  record HasMore : Type 0 where
    w : Whole
    is : s.whole ≡ Some w
    name : List ℕ
    op : w.op ≡ whole.Snapshot name
    unused : is_used (told_of s).used name ≡ false
    tree : snapshots_of (node_at s.nodes r) ≡ with_snapshot (snapshots_told s) name

  tree_cases : (snapshots_of (node_at s.nodes r) ≡ snapshots_told s) ⊎ HasMore
  tree_cases = go s.whole refl ok.whole beside ok.on.clients
    where
      by_op : (w : Whole) → s.whole ≡ Some w → (op : WholeOp) → w.op ≡ op → IsSnapshot op → MayBeDone op (told_of s)
          → snapshots_of (node_at s.nodes r) ≡ (due_of op (told_of s).volume).snapshots → HasMore
      by_op w e (whole.Snapshot name) f s may same = record { w = w; is = e; name = name; op = f; unused = may.1; tree = same }
      by_op w e (whole.Remove name) f s may same = absurd s
      by_op w e (whole.Revert name) f s may same = absurd s
      by_op w e (whole.Purge g) f s may same = absurd s
      by_op w e (whole.Barrier q) f s may same = absurd s

      by_part : (w : Whole) → s.whole ≡ Some w → (st : IsStarted (told_of s) (modes_in s) s.tickets s.calls s.nodes w) → IsSnapshot w.op
          → AreClients (due_of w.op (told_of s).volume) s.size (length s.indices) s.book.entries (modes_in s) s.tickets
          s.calls (formed w.op w.parts s.nodes)
          → (x : Part) → part_at w.parts r ≡ x → (snapshots_of (node_at s.nodes r) ≡ snapshots_told s) ⊎ HasMore
      by_part w e st b c Apart x = absurd (st.owes r up x)
      by_part w e st b c Owed x = inl (snapshot_stands w.op (snapshots_told s) (node_at s.nodes r) b (st.takes r up x).still)
      by_part w e st b c Taken x =
          inr (by_op w e w.op refl b st.may
          (ap snapshots_of (sym (formed_at w.op w.parts s.nodes r st.parts ∙ ap (λ y. form_part w.op y (node_at s.nodes r)) x))
          ∙ c.agree.tree r up))
      by_part w e st b c Acked x =
          inr (by_op w e w.op refl b st.may
          (ap snapshots_of (sym (formed_at w.op w.parts s.nodes r st.parts ∙ ap (λ y. form_part w.op y (node_at s.nodes r)) x))
          ∙ c.agree.tree r up))

      go : (w : Option Whole) → s.whole ≡ w → IsWhole (told_of s) (modes_in s) s.tickets s.calls s.nodes w → IsBeside w
          → AreClients (due w (told_of s).volume) s.size (length s.indices) s.book.entries (modes_in s) s.tickets s.calls
          (forms w s.nodes) → (snapshots_of (node_at s.nodes r) ≡ snapshots_told s) ⊎ HasMore
      go None e is b c = inl (c.agree.tree r up)
      go (Some w) e is b c = by_part w e is b c (part_at w.parts r) refl

  same_can : (a b : Snapshots) (f : FoldOrDrop) → a ≡ b → CanBeDone a.tree a.on f → CanBeDone b.tree b.on f
  same_can a b f e can = subst (λ (x : Snapshots). CanBeDone x.tree x.on f) e can

  -- what can be done of the replica's snapshots, but for the fold into a new one, can be of the volume
  pub can_told : (f : FoldOrDrop) → CanBeDone (tree_of (node_at s.nodes r)) (node_at s.nodes r).on f → (IsOntoNew s f → ⊥)
      → CanBeDone (snapshots_told s).tree (snapshots_told s).on f
  can_told f can off = ⊎_elim
      (λ e. same_can (snapshots_of (node_at s.nodes r)) (snapshots_told s) f e can)
      (λ h. unsnapped_can (snapshots_told s) h.name f
      (same_can (snapshots_of (node_at s.nodes r)) (with_snapshot (snapshots_told s) h.name) f h.tree can)
      (λ i. off (onto h f i)))
      tree_cases
    where
      onto : (h : HasMore) (f : FoldOrDrop) → IsInto h.name f → IsOntoNew s f
      onto h (part.Fold p c) e = (h.w, h.is, h.op ∙ ap (λ n. whole.Snapshot n) (sym e))
      onto h (part.Drop p) e = absurd e

  -- and what can be done of the volume can be of the replica
  pub told_can : (f : FoldOrDrop) → CanBeDone (snapshots_told s).tree (snapshots_told s).on f
      → CanBeDone (tree_of (node_at s.nodes r)) (node_at s.nodes r).on f
  told_can f can = ⊎_elim
      (λ e. same_can (snapshots_told s) (snapshots_of (node_at s.nodes r)) f (sym e) can)
      (λ h. same_can (with_snapshot (snapshots_told s) h.name) (snapshots_of (node_at s.nodes r)) f (sym h.tree)
      (snapped_can (told_of s) h.name f (told_named s ok) h.unused can))
      tree_cases

  -- the replica has the volume's size
  pub long_on : length (node_at s.nodes r).disk ≡ s.size
  long_on = go s.whole ok.whole beside ok.on.clients
    where
      same_disk : (op : WholeOp) (x : Part) (n : Node) → IsSnapshot op → length (form_part op x n).disk ≡ length n.disk
      same_disk (whole.Snapshot name) Apart n b = refl
      same_disk (whole.Snapshot name) Owed n b = refl
      same_disk (whole.Snapshot name) Taken n b = refl
      same_disk (whole.Snapshot name) Acked n b = refl
      same_disk (whole.Remove name) x n b = absurd b
      same_disk (whole.Revert name) x n b = absurd b
      same_disk (whole.Purge f) x n b = absurd b
      same_disk (whole.Barrier q) x n b = absurd b

      go : (w : Option Whole) → IsWhole (told_of s) (modes_in s) s.tickets s.calls s.nodes w → IsBeside w
          → AreClients (due w (told_of s).volume) s.size (length s.indices) s.book.entries (modes_in s) s.tickets s.calls
          (forms w s.nodes) → length (node_at s.nodes r).disk ≡ s.size
      go None is b c = c.agree.sizes r up
      go (Some w) is b c = sym (same_disk w.op (part_at w.parts r) (node_at s.nodes r) b)
          ∙ ap (λ (n : Node). length n.disk) (sym (formed_at w.op w.parts s.nodes r is.parts)) ∙ c.agree.sizes r up

  pub node_in : r < length s.nodes
  node_in = omega (arith, up_in (modes_in s) r up, ok.on.clients.agree.as_many, length-forms s.whole s.nodes)

  -- a page is folded
  pub folded_sound : (p c : List ℕ) (page : ℕ) → (command_at s.commands 0).command ≡ command.Purge
      → CanFold (snapshots_told s).tree (snapshots_told s).on p c → IsSound (folded_on s r p c page)
  folded_sound p c page purges can =
      let within : r < length s.nodes = omega (arith, up_in (modes_in s) r up, ok.on.clients.agree.as_many, length-forms s.whole s.nodes) in
      record {
        on = record {
          opened = ok.on.opened;
          told = ok.on.told;
          clients = folded_clients (told_of s) s.size (length s.indices) s.book.entries (modes_in s) s.tickets s.calls
              s.nodes s.whole r p c (told_named s ok) can ok.whole beside ok.on.clients page read;
          spare = ok.on.spare;
          spare_data = ok.on.spare_data;
        };
        whole = folded_whole (told_of s) (modes_in s) s.tickets s.calls s.nodes s.whole r p c page within beside ok.whole;
        maint = record {
          queued = ok.maint.queued;
          fits = idle_maint (snapshots_told s) (snapshots_told s) (modes_in s) (modes_in s) s.nodes
              (folded_on s r p c page).nodes s.maint s.commands s.tickets s.calls ok.on.clients.paired idle ok.maint.fits;
        };
        disk = ok.disk;
        rebuild = free_claim s.size (modes_in s) s.tickets s.tickets s.calls s.calls s.whole s.whole s.nodes
            (folded_on s r p c page).nodes s.rebuild
            (no_rebuild s.maint s.commands s.rebuild s.ended ok.adds (purge_no_add (command_at s.commands 0).command purges)).0 ok.rebuild;
        adds = ok.adds;
        caused = ok.caused;
        streams = ok.streams;
      }

-- a layer can go in one way
pub one_way : (tree : List Snapshot) (on : Option (List ℕ)) (f g : FoldOrDrop) → CanBeDone tree on f → CanBeDone tree on g
    → gone f ≡ gone g → f ≡ g
one_way tree on (part.Fold p c) (part.Fold q d) a b e = two p q c d e (one c d (sym a.child ∙ ap (children_of tree) e ∙ b.child))
  where
    two : (p q c d : List ℕ) → p ≡ q → c ≡ d → part.Fold p c ≡ part.Fold q d
    two p q c d e f = cc

    one : (c d : List ℕ) → c ∷ [] ≡ d ∷ [] → c ≡ d
    one c d e = cc
one_way tree on (part.Fold p c) (part.Drop q) a b e = absurd (clash (sym a.child ∙ ap (children_of tree) e ∙ b.leaf))
  where
    clash : c ∷ [] ≡ [] → ⊥
    clash e = cc
one_way tree on (part.Drop p) (part.Fold q d) a b e = absurd (clash (sym b.child ∙ ap (children_of tree) (sym e) ∙ a.leaf))
  where
    clash : d ∷ [] ≡ [] → ⊥
    clash e = cc
one_way tree on (part.Drop p) (part.Drop q) a b e = ap (λ n. part.Drop n) e

-- and into one child
pub one_child : (tree : List Snapshot) (on : Option (List ℕ)) (p c d : List ℕ) → CanFold tree on p c → CanFold tree on p d → c ≡ d
one_child tree on p c d a b = same (part.Fold p c ≡ part.Fold p d) (one_way tree on (part.Fold p c) (part.Fold p d) a b refl)
  where
    same : (E : Type 0) → part.Fold p c ≡ part.Fold p d → c ≡ d
    same E e = cc

-- what a started snapshot makes is no child in the volume
pub not_onto_new : (s : State) (f : FoldOrDrop) → IsSound s → CanBeDone (snapshots_told s).tree (snapshots_told s).on f → IsOntoNew s f → ⊥
not_onto_new s (part.Drop p) ok can onto = onto
not_onto_new s (part.Fold p c) ok can onto =
    go onto.0 onto.1 onto.2 (subst (IsWhole (told_of s) (modes_in s) s.tickets s.calls s.nodes) onto.1 ok.whole)
  where
    go : (w : Whole) → s.whole ≡ Some w → w.op ≡ whole.Snapshot c → IsStarted (told_of s) (modes_in s) s.tickets s.calls s.nodes w → ⊥
    go w e f st =
        let may = subst (λ op. MayBeDone op (told_of s)) f st.may in
        false≢true (sym (not_there (told_of s) c (told_named s ok) may.1) ∙ child_there (snapshots_told s).tree p c [] can.child)
