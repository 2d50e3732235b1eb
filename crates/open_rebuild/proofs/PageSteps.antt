-- A page of a frozen layer is copied, also while a snapshot is owed.
use Rattle.std.proofs.Common.{◌≡◌, ◌≢◌, ⊎_elim, ℕ, zero, suc, ◌+◌, ◌*◌, ◌%◌, ◌<◌, Bool, true, false, cond, List, []}
use Rattle.std.proofs.Common.{◌∷◌, length, length-set, map, replicate, get_or, set, get_or-set_same, get_or-set_other}
use Rattle.std.proofs.Common.{Option, None, Some, refl, sym, ap, subst, ◌∙◌, arith}
use Rattle.std.specs.Prelude.{◌&&◌, Contains}
use Rattle.std.specs.Str.{bytes_eq}
use Rattle.std.proofs.lemmas.Bool.{cases_eq, cases_lt, false≢true}
use Rattle.std.proofs.lemmas.List.{get_or_past}
use Rattle.std.proofs.lemmas.Slice.Eq.{bytes_eq-Decides}
use Rattle.sparse_image.specs.Image.{Table, place_at}
use Rattle.coalesce.specs.Folding.{snapshot_of}
use Rattle.coalesce.proofs.ChildLemmas.{other_name}
use Rattle.volume_model.specs.declared.mode.Mode.{Mode}
use Rattle.volume_model.specs.declared.mode.Mode.TheVariants.{Rw, Wo, Err}
use Rattle.volume_model.specs.Modes.{mode_of}
use Rattle.volume_model.specs.Names.{AreNamed, has_name}
use Rattle.volume_model.specs.PlainState.{PlainState}
use Rattle.volume_model.specs.Snapshots.{Snapshot, Snapshots}
use Rattle.range_turns.specs.declared.ticket.Ticket.{Ticket}
use Rattle.replica_node.specs.Node.{Kept, Node, blank, layer_names, snapped_node}
use Rattle.replica_node.specs.Room.{head_block}
use Rattle.replica_node.specs.Fold.{is_in, tree_of}
use Rattle.replica_node.specs.Held.{block_named, IsPageOf, PutsPage, metas_of}
use Rattle.open_calls.specs.declared.open_call.OpenCall.{OpenCall}
use Rattle.step_answers.specs.declared.parts.Part.{Part}
use Rattle.step_answers.specs.declared.parts.Part.TheVariants.{Apart, Owed, Taken, Acked}
use Rattle.step_answers.specs.declared.whole_op.WholeOp.{WholeOp}
use Rattle.step_answers.specs.declared.whole_op.WholeOp.TheVariants as whole
use Rattle.open_calls.specs.Calls.{node_at}
use Rattle.step_answers.specs.Parts.{part_at}
use Rattle.open_calls.proofs.PartLemmas.{up_in}
use Rattle.open_calls.specs.declared.whole.Whole.{Whole}
use Rattle.open_calls.specs.Due.{form_part, formed, forms}
use Rattle.open_calls.specs.Whole.{MayBeDone, StandsFor, IsStarted}
use Rattle.open_calls.proofs.Forms.{length-forms, formed_in}
use Rattle.open_rebuild.specs.Rebuild.{IsRebuilt, IsFreeBlock, ListsPage, IsReplica}
use Rattle.open_rebuild.specs.Listed.{place_of}
use Rattle.open_rebuild.proofs.ListedLemmas.{page_listed}
use Rattle.open_rebuild.proofs.PromoteLemmas.{replica_snapped_node}
use Rattle.open_rebuild.proofs.RebuildLemmas.{none_own, page_copied}
use Rattle.open_rebuild.specs.declared.rebuilding.Rebuilding.{Rebuilding}
use Rattle.open_rebuild.specs.Claim.{listed_of, with_page, IsBesideThese, IsBesideStarted, IsUnderWay, IsRebuilding}
use Rattle.open_rebuild.proofs.RangeSteps.{up_rw, up_wo}

-- ---- one replica, behind a snapshot

swap_conds : (a b : Bool) (u v w : Option (List ℕ)) → (a ≡ true → b ≡ false) → cond a u (cond b v w) ≡ cond b v (cond a u w)
swap_conds true b u v w h = sym (ap (λ t. cond t v u) (h refl))
swap_conds false b u v w h = refl

first_false : (a b : Bool) → a ≡ false → (a && b) ≡ false
first_false a b e = ap (λ t. t && b) e

-- a page of another layer that is put before a snapshot is put behind it
put_snapped : (old new : Node) (n name : List ℕ) (page : ℕ) (table : Table) → name ≢ n → PutsPage old new name page table
    → PutsPage (snapped_node old n) (snapped_node new n) name page table
put_snapped old new n name page table other p = record {
  layers = λ o block.
      ap (λ h. cond (bytes_eq o n) h (block_named new.layers o block)) (p.head block)
      ∙ ap (cond (bytes_eq o n) (head_block old block)) (p.layers o block)
      ∙ swap_conds (bytes_eq o n) (bytes_eq o name && is_in page block) (head_block old block)
      (place_at table (block % 512)) (block_named old.layers o block)
      (λ is. first_false (bytes_eq o name) (is_in page block) (other_name o name (λ e. other (e ∙ (bytes_eq-Decides o n).0 is))));
  head = λ block. none_own (length new.own) new.disk block ∙ sym (none_own (length old.own) old.disk block);
  metas = both p.on p.metas;
  size = p.size;
  on = refl;
  number = ap (λ k. k + 1) p.number;
  room = ap (λ (r : List Bool). replicate (length r) false) p.room;
  own = ap (λ (r : List Bool). replicate (length r) false) p.own;
}
  where
    both : new.on ≡ old.on → metas_of new ≡ metas_of old → metas_of (snapped_node new n) ≡ metas_of (snapped_node old n)
    both e f = cc

page_snapped : (source : Node) (n name : List ℕ) (page : ℕ) (table : Table) → name ≢ n → IsPageOf source name page table
    → IsPageOf (snapped_node source n) name page table
page_snapped source n name page table other is =
    λ i h. is i h ∙ sym (ap (λ b. cond b (head_block source (page * 512 + i)) (block_named source.layers name (page * 512 + i)))
    (other_name name n (λ e. other (sym e))))

-- ---- in due form

-- a frozen name is another than that of a snapshot beside it
unlike : (frozen : List (List ℕ)) (name n : List ℕ) → Contains frozen name → (Contains frozen n → ⊥) → name ≢ n
unlike frozen name n there none e = none (subst (λ (m : List ℕ). Contains frozen m) e there)

put_form : (op : WholeOp) (frozen : List (List ℕ)) (p : Part) (old new : Node) (name : List ℕ) (page : ℕ) (table : Table)
    → IsBesideThese frozen op → Contains frozen name → PutsPage old new name page table
    → PutsPage (form_part op p old) (form_part op p new) name page table
put_form (whole.Snapshot n) frozen Owed old new name page table beside there is =
    put_snapped old new n name page table (unlike frozen name n there beside) is
put_form (whole.Snapshot n) frozen Taken old new name page table beside there is = is
put_form (whole.Snapshot n) frozen Acked old new name page table beside there is = is
put_form (whole.Snapshot n) frozen Apart old new name page table beside there is = is
put_form (whole.Remove n) frozen p old new name page table beside there is = absurd beside
put_form (whole.Revert n) frozen p old new name page table beside there is = absurd beside
put_form (whole.Purge f) frozen p old new name page table beside there is = absurd beside
put_form (whole.Barrier x) frozen p old new name page table beside there is = absurd beside

page_form : (op : WholeOp) (frozen : List (List ℕ)) (p : Part) (source : Node) (name : List ℕ) (page : ℕ) (table : Table)
    → IsBesideThese frozen op → Contains frozen name → IsPageOf source name page table
    → IsPageOf (form_part op p source) name page table
page_form (whole.Snapshot n) frozen Owed source name page table beside there is =
    page_snapped source n name page table (unlike frozen name n there beside) is
page_form (whole.Snapshot n) frozen Taken source name page table beside there is = is
page_form (whole.Snapshot n) frozen Acked source name page table beside there is = is
page_form (whole.Snapshot n) frozen Apart source name page table beside there is = is
page_form (whole.Remove n) frozen p source name page table beside there is = absurd beside
page_form (whole.Revert n) frozen p source name page table beside there is = absurd beside
page_form (whole.Purge f) frozen p source name page table beside there is = absurd beside
page_form (whole.Barrier x) frozen p source name page table beside there is = absurd beside

-- a replica in due form, where one has started or none
abbrev form_in : Option Whole → ℕ → Node → Node
form_in None r node = node
form_in (Some w) r node = form_part w.op (part_at w.parts r) node

form_at : (w : Option Whole) (ns : List Node) (r : ℕ) → r < length ns → node_at (forms w ns) r ≡ form_in w r (node_at ns r)
form_at None ns r h = refl
form_at (Some w) ns r h = formed_in w.op w.parts ns r h

puts_in : (w : Option Whole) (b : Rebuilding) (r : ℕ) (old new : Node) (name : List ℕ) (page : ℕ) (table : Table)
    → IsBesideStarted b w → Contains b.frozen name → PutsPage old new name page table
    → PutsPage (form_in w r old) (form_in w r new) name page table
puts_in None b r old new name page table beside there is = is
puts_in (Some w) b r old new name page table beside there is =
    put_form w.op b.frozen (part_at w.parts r) old new name page table beside there is

page_in : (w : Option Whole) (b : Rebuilding) (r : ℕ) (source : Node) (name : List ℕ) (page : ℕ) (table : Table)
    → IsBesideStarted b w → Contains b.frozen name → IsPageOf source name page table
    → IsPageOf (form_in w r source) name page table
page_in None b r source name page table beside there is = is
page_in (Some w) b r source name page table beside there is =
    page_form w.op b.frozen (part_at w.parts r) source name page table beside there is

-- another replica in due form is as it was
form_other : (w : Option Whole) (ns : List Node) (t r : ℕ) (x : Node) → r ≢ t → node_at (forms w (set ns t x)) r ≡ node_at (forms w ns) r
form_other w ns t r x n =
    ⊎_elim
    (λ l. form_at w (set ns t x) r (omega (arith, l, length-set ns t x))
    ∙ ap (form_in w r) (get_or-set_other ns t r x (blank 0) n) ∙ sym (form_at w ns r l))
    (λ l. get_or_past (forms w (set ns t x)) r (blank 0) (omega (arith, l, length-set ns t x, length-forms w (set ns t x)))
    ∙ sym (get_or_past (forms w ns) r (blank 0) (omega (arith, l, length-forms w ns))))
    (cases_lt r (length ns))

-- ---- a page is copied

module _ (size : ℕ) (modes : List Mode) (ts : List Ticket) (cs : List OpenCall) (w : Option Whole) (ns : List Node)
    (b : Rebuilding) (after : Node) (name : List ℕ) (page : ℕ) (table : Table)
    (many : length modes ≡ length ns) (may : b.may_copy ≡ true) (there : Contains b.frozen name)
    (puts : PutsPage (node_at ns b.target) after name page table)
    (k : IsRebuilding size modes ts cs w ns (Some b)) where
  abbrev ms : List Node
  ms = set ns b.target after

  pub u : IsUnderWay size ts cs (forms w ns) b
  u = let o = k.claim in o.under_way

  pub still : IsBesideStarted b w
  still = let o = k.claim in o.beside may

  apart : b.source ≢ b.target
  apart e = rw≢wo (sym k.roles.source ∙ ap (mode_of modes) e ∙ k.roles.target)
    where
      rw≢wo : Rw ≢ Wo
      rw≢wo e = cc

  source_in : b.source < length ns
  source_in = omega (arith, up_in modes b.source (up_rw (mode_of modes b.source) k.roles.source), many)

  pub target_in : b.target < length ns
  target_in = omega (arith, up_in modes b.target (up_wo (mode_of modes b.target) k.roles.target), many)

  pub other : (r : ℕ) → r ≢ b.target → node_at (forms w ms) r ≡ node_at (forms w ns) r
  other r n = form_other w ns b.target r after n

  pub new_puts : PutsPage (node_at (forms w ns) b.target) (node_at (forms w ms) b.target) name page table
  new_puts =
      let was : node_at (forms w ns) b.target ≡ form_in w b.target (node_at ns b.target) = form_at w ns b.target target_in in
      let is : node_at (forms w ms) b.target ≡ form_in w b.target after =
      form_at w ms b.target (omega (arith, target_in, length-set ns b.target after))
      ∙ ap (form_in w b.target) (get_or-set_same ns b.target after (blank 0) target_in) in
      subst (λ (x : Node). PutsPage x (node_at (forms w ms) b.target) name page table) (sym was)
      (subst (λ (x : Node). PutsPage (form_in w b.target (node_at ns b.target)) x name page table) (sym is)
      (puts_in w b b.target (node_at ns b.target) after name page table still there puts))

  pub same_head : (r block : ℕ) → head_block (node_at (forms w ms) r) block ≡ head_block (node_at (forms w ns) r) block
  same_head r block =
      ⊎_elim
      (λ e. subst (λ n. head_block (node_at (forms w ms) n) block ≡ head_block (node_at (forms w ns) n) block) (sym e)
      (new_puts.head block))
      (λ n. ap (λ (x : Node). head_block x block) (other r n))
      (cases_eq r b.target)

  -- one that went out of the source
  module _ (inside : page < b.pages) (out : IsPageOf (node_at ns b.source) name page table) where
    new_out : IsPageOf (node_at (forms w ns) b.source) name page table
    new_out = subst (λ (x : Node). IsPageOf x name page table) (sym (form_at w ns b.source source_in))
        (page_in w b b.source (node_at ns b.source) name page table still there out)

    lists : ListsPage (listed_of b) (listed_of (with_page b name page)) name page
    lists = page_listed b.frozen b.pages b.listed name page there inside

    pub page_kept : IsRebuilding size modes ts cs w ms (Some (with_page b name page))
    page_kept = record {
      roles = record { target = k.roles.target; source = k.roles.source; only = k.roles.only };
      claim = record {
        under_way = record {
          pages = u.pages;
          bits = length-set b.listed (place_of b.frozen name * b.pages + page) true ∙ u.bits;
          frozen = λ n c. subst (λ (x : Node). Contains (layer_names x.layers) n) (sym (other b.source apart)) (u.frozen n c);
          rebuilt = subst (λ (x : Node). IsRebuilt b.frozen (listed_of (with_page b name page)) (IsFreeBlock ts) x
              (node_at (forms w ms) b.target)) (sym (other b.source apart))
              (page_copied b.frozen (listed_of b) (listed_of (with_page b name page)) (IsFreeBlock ts)
              (node_at (forms w ns) b.source) (node_at (forms w ns) b.target) (node_at (forms w ms) b.target) name page
              table
              u.rebuilt there new_out new_puts lists);
          writes = λ i l x r taken block f g. same_head r block ∙ u.writes i l x r taken block f g;
        };
        beside = λ _. again w still;
      };
    }
      where
        again : (o : Option Whole) → IsBesideStarted b o → IsBesideStarted (with_page b name page) o
        again None x = x
        again (Some y) x = x

-- ---- the layers that pages are copied of

names_of_tree : (ks : List Kept) → map (λ (s : Snapshot). s.name) (map (λ (k : Kept). snapshot_of k.meta) ks) ≡ layer_names ks
names_of_tree [] = refl
names_of_tree (k ∷ ks) = ap (λ (ns : List (List ℕ)). k.meta.name ∷ ns) (names_of_tree ks)

-- a frozen layer that is there in due form is there
names_form : (op : WholeOp) (frozen : List (List ℕ)) (p : Part) (node : Node) (name : List ℕ) → IsBesideThese frozen op
    → Contains frozen name → Contains (layer_names (form_part op p node).layers) name
    → Contains (layer_names node.layers) name
names_form (whole.Snapshot n) frozen Owed node name beside there c = behind c.0 c.1 c.2
  where
    behind : (i : ℕ) → i < length (n ∷ layer_names node.layers) → get_or (n ∷ layer_names node.layers) i name ≡ name
        → Contains (layer_names node.layers) name
    behind zero l e = absurd (unlike frozen name n there beside (sym e))
    behind (suc i) l e = (i, omega (arith, l), e)
names_form (whole.Snapshot n) frozen Taken node name beside there c = c
names_form (whole.Snapshot n) frozen Acked node name beside there c = c
names_form (whole.Snapshot n) frozen Apart node name beside there c = c
names_form (whole.Remove n) frozen p node name beside there c = absurd beside
names_form (whole.Revert n) frozen p node name beside there c = absurd beside
names_form (whole.Purge f) frozen p node name beside there c = absurd beside
names_form (whole.Barrier x) frozen p node name beside there c = absurd beside

names_in : (w : Option Whole) (b : Rebuilding) (r : ℕ) (node : Node) (name : List ℕ) → IsBesideStarted b w
    → Contains b.frozen name → Contains (layer_names (form_in w r node).layers) name
    → Contains (layer_names node.layers) name
names_in None b r node name beside there c = c
names_in (Some w) b r node name beside there c = names_form w.op b.frozen (part_at w.parts r) node name beside there c

module _ (size : ℕ) (modes : List Mode) (ts : List Ticket) (cs : List OpenCall) (w : Option Whole) (ns : List Node)
    (b : Rebuilding) (name : List ℕ)
    (many : length modes ≡ length ns) (may : b.may_copy ≡ true) (there : Contains b.frozen name)
    (k : IsRebuilding size modes ts cs w ns (Some b)) where
  is_beside : IsBesideStarted b w
  is_beside = let o = k.claim in o.beside may

  way : IsUnderWay size ts cs (forms w ns) b
  way = let o = k.claim in o.under_way

  of_form : (r : ℕ) → mode_of modes r ≢ Err → Contains (layer_names (node_at (forms w ns) r).layers) name
      → Contains (layer_names (node_at ns r).layers) name
  of_form r up c =
      names_in w b r (node_at ns r) name is_beside there
      (subst (λ (x : Node). Contains (layer_names x.layers) name) (form_at w ns r (omega (arith, up_in modes r up, many))) c)

  pub source_has : Contains (layer_names (node_at ns b.source).layers) name
  source_has = of_form b.source (up_rw (mode_of modes b.source) k.roles.source) (way.frozen name there)

  pub target_has : Contains (layer_names (node_at ns b.target).layers) name
  target_has =
      let s = node_at (forms w ns) b.source in
      let t = node_at (forms w ns) b.target in
      let same : layer_names s.layers ≡ layer_names t.layers =
      sym (names_of_tree s.layers) ∙ sym (ap (λ (x : Snapshots). map (λ (y : Snapshot). y.name) x.tree) way.rebuilt.alike)
      ∙ names_of_tree t.layers in
      of_form b.target (up_wo (mode_of modes b.target) k.roles.target)
      (subst (λ (xs : List (List ℕ)). Contains xs name) same (way.frozen name there))

-- ---- what makes its readings still does in due form

pub replica_form : (p : PlainState) (modes : List Mode) (ts : List Ticket) (cs : List OpenCall) (ns : List Node) (w : Whole)
    (frozen : List (List ℕ)) (r count : ℕ) → AreNamed p → IsStarted p modes ts cs ns w
    → length modes ≡ length ns → mode_of modes r ≢ Err → IsBesideThese frozen w.op → IsReplica (node_at ns r) count
    → IsReplica (node_at (formed w.op w.parts ns) r) count
replica_form p modes ts cs ns w frozen r count named is many up beside whole_one =
    subst (λ (x : Node). IsReplica x count) (sym (formed_in w.op w.parts ns r (omega (arith, up_in modes r up, many))))
    (go w.op (part_at w.parts r) beside is.may (λ e. let takes = is.takes r up e in takes.still))
  where
    go : (op : WholeOp) (a : Part) → IsBesideThese frozen op → MayBeDone op p
        → (a ≡ Owed → StandsFor op p.volume.snapshots (node_at ns r)) → IsReplica (form_part op a (node_at ns r)) count
    go (whole.Snapshot name) Owed beside may still =
        replica_snapped_node (node_at ns r) count name (new (has_name p.volume.snapshots.tree name) refl) whole_one
      where
        new : (b : Bool) → has_name p.volume.snapshots.tree name ≡ b → has_name (tree_of (node_at ns r)) name ≡ false
        new true e = absurd (false≢true (sym may.1 ∙ named.taken name e))
        new false e = ap (λ (x : Snapshots). has_name x.tree name) (still refl) ∙ e
    go (whole.Snapshot name) Taken beside may still = whole_one
    go (whole.Snapshot name) Acked beside may still = whole_one
    go (whole.Snapshot name) Apart beside may still = whole_one
    go (whole.Remove name) a beside may still = absurd beside
    go (whole.Revert name) a beside may still = absurd beside
    go (whole.Purge f) a beside may still = absurd beside
    go (whole.Barrier x) a beside may still = absurd beside
