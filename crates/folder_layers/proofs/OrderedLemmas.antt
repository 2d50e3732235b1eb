-- Snapshots whose places come in turn are layers in turn.
use Rattle.std.proofs.Common.{◌≡◌, ⊎_elim, ℕ, ◌+◌, ◌<◌, ◌≤◌, Bool, true, false, List, [], ◌∷◌, ◌++◌, length, map, get_or, set}
use Rattle.std.proofs.Common.{replicate, take, Option, Some, None, refl, sym, ap, subst, ◌∙◌, arith, get_or-set_same, get_or-set_other}
use Rattle.std.specs.Prelude.{Contains, option_map}
use Rattle.std.specs.List.{All}
use Rattle.std.proofs.lemmas.Bool.{cases_eq, cases_lt, false_from_ne_true, false≢true}
use Rattle.std.proofs.lemmas.List.{get_or-map, get_or-replicate, length-map, length-replicate, length-set, map-append, take_more}
use Rattle.std.proofs.lemmas.List.Elements.{All-head, All-tail, All-map}
use Rattle.coalesce.specs.Folding.{snapshot_of}
use Rattle.volume_model.specs.Purge.{is_before}
use Rattle.volume_model.specs.Snapshots.{Snapshot}
use Rattle.volume_model.proofs.PurgeLemmas.{before_trans, before_itself}
use Rattle.chain_meta.specs.ImageNames.{snapshot_file}
use Rattle.chain_meta.specs.declared.disk_meta.DiskMeta.{DiskMeta}
use Rattle.replica_compare.specs.Order.{IsReady, AreInTurn}
use Rattle.replica_compare.proofs.OrderLemmas.{among, first_in, later_in}
use Rattle.folder_names.proofs.NameLemmas.{snapshots_differ}
use Rattle.folder_checks.specs.Snapshots.{AreSnapshotMetas, name_at, told_at}
use Rattle.folder_layers.specs.Ordered.{CanBeLayers, IsSnapshotAt, AreOrdered}
use Rattle.folder_layers.specs.Parents.{IsParentOf, parent_at, AreParents}
use Rattle.folder_layers.specs.Turns.{done_at, OneCanCome, ComeInTurn, AllComeInTurn}
use Rattle.folder_layers.specs.declared.order.OrderedLayer.{OrderedLayer}
use Rattle.folder_layers.proofs.ParentLemmas.{rising_far, one_place}
use Rattle.folder_layers.proofs.RingLemmas.{are_within, some_ready}
use Rattle.folder_layers.proofs.TurnLemmas.{not_yet, turn_within}

-- the snapshots at those places have these names
record AreNamed (names : List (List ℕ)) (done : List Bool) (there : List (List ℕ)) : Type 0 where
  by_place : (place : ℕ) → place < length names → done_at done place ≡ true → Contains there (name_at names place)
  by_name : (place : ℕ) → place < length names → Contains there (name_at names place) → done_at done place ≡ true

abbrev pub places_of : List OrderedLayer → List ℕ
places_of layers = map (λ l. l.place) layers

abbrev snapshots_of : List OrderedLayer → List Snapshot
snapshots_of layers = map (λ l. snapshot_of l.meta) layers

place_there : (layers : List OrderedLayer) (k : ℕ) (default : OrderedLayer) → k < length layers
    → Contains (places_of layers) (get_or layers k default).place
place_there layers k default less = (
  k,
  omega (arith, length-map layers (λ (l : OrderedLayer). l.place)),
  get_or-map (λ (l : OrderedLayer). l.place) layers k default (get_or layers k default).place less,
)

-- the places of layers that were made of the first places, and of one more
pub places_more : (layers : List OrderedLayer) (l : OrderedLayer) (places : List ℕ) (count : ℕ) → count < length places
    → places_of layers ≡ take count places → l.place ≡ get_or places count 0
    → places_of (layers ++ l ∷ []) ≡ take (count + 1) places
places_more layers l places count less so_far is =
    map-append (λ (x : OrderedLayer). x.place) layers (l ∷ [])
    ∙ (ap (λ ps. ps ++ l.place ∷ []) so_far ∙ (ap (λ p. take count places ++ p ∷ []) is ∙ sym (take_more places count 0 less)))

module _ (names : List (List ℕ)) (metas : List DiskMeta) (parents : List (Option ℕ)) (listed : AreSnapshotMetas names metas)
    (are : AreParents metas parents) (can : CanBeLayers names metas) where
  -- ---- one is ready while one is left

  pub one_can_come : OneCanCome parents
  one_can_come done left within is =
      let next = some_ready can.0 names metas parents listed are can.2 (done_at done) left (omega (arith, are.count)) is in
      (next.0, omega (arith, are.count, next.1), record { left = next.2; ready = next.3 })

  -- ---- the names of those that are there

  not_earlier : (place later : ℕ) → place ≤ later → later < length names
      → is_before (name_at names later) (name_at names place) ≡ false
  not_earlier place later le within = ⊎_elim
      (λ (same : place ≡ later). ap (λ p. is_before (name_at names later) (name_at names p)) same ∙ before_itself (name_at names later))
      (λ (other : place ≡ later → ⊥). false_from_ne_true (is_before (name_at names later) (name_at names place))
      (λ back. false≢true (sym (before_itself (name_at names later))
      ∙ before_trans (name_at names later) (name_at names place) (name_at names later) back
      (rising_far names listed.rising place later (omega arith) within))))
      (cases_eq place later)

  none_named : AreNamed names (replicate (length parents) false) []
  none_named = record {
    by_place = λ place less is. absurd (false≢true
        (sym (get_or-replicate (length parents) place false false (omega (arith, listed.count, are.count))) ∙ is));
    by_name = λ place less has. absurd (omega (arith, has.1));
  }

  named_more : (done : List Bool) (there : List (List ℕ)) (place : ℕ) → place < length names → place < length done
      → AreNamed names done there → AreNamed names (set done place true) (name_at names place ∷ there)
  named_more done there place within marked named = record {
    by_place = λ k less is. ⊎_elim
        (λ (here : k ≡ place). subst (λ p. Contains (name_at names place ∷ there) (name_at names p)) (sym here)
        (first_in (name_at names place) there))
        (λ (other : k ≡ place → ⊥). later_in (name_at names place) (name_at names k) there
        (named.by_place k less (sym (get_or-set_other done place k true false other) ∙ is)))
        (cases_eq k place);
    by_name = λ k less has. ⊎_elim
        (λ (here : k ≡ place). subst (λ p. done_at (set done place true) p ≡ true) (sym here)
        (get_or-set_same done place true false marked))
        (λ (other : k ≡ place → ⊥). get_or-set_other done place k true false other ∙ named.by_name k less (⊎_elim
        (λ (same : name_at names place ≡ name_at names k).
        absurd (other (one_place names listed.rising k place less within (sym same))))
        (λ older. older)
        (among (name_at names place) (name_at names k) there has)))
        (cases_eq k place);
  }

  -- ---- the parent of a layer

  module _ (l : OrderedLayer) (is : IsSnapshotAt names metas l) where
    linked : l.meta.parent ≡ option_map (name_at names) (parent_at parents l.place)
    linked = go l.meta.parent (parent_at parents l.place) (ap (λ (m : DiskMeta). m.parent) is.told) (are.each l.place is.within)
      where
        go : (own : Option (List ℕ)) (place : Option ℕ) → option_map snapshot_file own ≡ (told_at metas l.place).parent
            → IsParentOf metas (told_at metas l.place) place → own ≡ option_map (name_at names) place
        go None None e of = refl
        go None (Some p) e of = absurd (let none : ◌≡◌ {A = Option (List ℕ)} None (Some (told_at metas p).name) = e ∙ of.1 in cc)
        go (Some q) None e of = absurd (of (snapshot_file q) (sym e) ((can.2 l.place is.within).stands (snapshot_file q) (sym e)))
        go (Some q) (Some p) e of =
            let some : ◌≡◌ {A = Option (List ℕ)} (Some (snapshot_file q)) (Some (told_at metas p).name) = e ∙ of.1 in
            let file : snapshot_file q ≡ (told_at metas p).name = cc in
            ap Some (snapshots_differ q (name_at names p) (file ∙ listed.named p (omega (arith, listed.count, of.0))))

    parent_within : (p : ℕ) → parent_at parents l.place ≡ Some p → p < length names
    parent_within p e = omega (arith, listed.count, are.count, are_within names metas parents listed are l.place p e)

    ready_by_name : (done : List Bool) (there : List (List ℕ)) → AreNamed names done there
        → ((p : ℕ) → parent_at parents l.place ≡ Some p → done_at done p ≡ true) → IsReady there l.meta.parent
    ready_by_name done there named ready = subst (IsReady there) (sym linked) (go (parent_at parents l.place) refl)
      where
        go : (place : Option ℕ) → parent_at parents l.place ≡ place → IsReady there (option_map (name_at names) place)
        go None e = tt
        go (Some p) e = named.by_place p (parent_within p e) (ready p e)

    ready_by_place : (done : List Bool) (there : List (List ℕ)) → AreNamed names done there → IsReady there l.meta.parent
        → (p : ℕ) → parent_at parents l.place ≡ Some p → done_at done p ≡ true
    ready_by_place done there named ready p e =
        named.by_name p (parent_within p e) (subst (IsReady there) (linked ∙ ap (option_map (name_at names)) e) ready)

  -- ---- in turn

  in_turn : (done : List Bool) (there : List (List ℕ)) (layers : List OrderedLayer) → AreNamed names done there
      → length done ≡ length parents → All (IsSnapshotAt names metas) layers → ComeInTurn parents done (places_of layers)
      → AreInTurn there (snapshots_of layers)
  in_turn done there [] named whole each turn = tt
  in_turn done there (l ∷ ls) named whole each turn = (
    (λ has. false≢true (sym turn.0.can.left ∙ named.by_name l.place within (subst (Contains there) is.named has))),
    ready_by_name l is done there named turn.0.can.ready,
    All-map (λ (m : Snapshot). IsReady there m.parent → is_before m.name l.meta.name ≡ false) (λ l. snapshot_of l.meta) ls first,
    subst (λ name. AreInTurn (name ∷ there) (snapshots_of ls)) (sym is.named)
        (in_turn (set done l.place true) (name_at names l.place ∷ there) ls
        (named_more done there l.place within (omega (arith, whole, turn.0.within)) named)
        (length-set done l.place true ∙ whole) (All-tail (IsSnapshotAt names metas) l ls each) turn.1),
  )
    where
      is : IsSnapshotAt names metas l
      is = All-head (IsSnapshotAt names metas) l ls each

      within : l.place < length names
      within = omega (arith, listed.count, is.within)

      first : All (λ (m : OrderedLayer). IsReady there m.meta.parent → is_before m.meta.name l.meta.name ≡ false) ls
      first k default less ready = false_from_ne_true (is_before m.meta.name l.meta.name) (λ before.
          turn.0.first m.place (earlier before) (record {
            left = not_yet parents done (l.place ∷ places_of ls) m.place whole turn
                (later_in l.place m.place (places_of ls) (place_there ls k default less));
            ready = ready_by_place m its done there named ready;
          }))
        where
          m : OrderedLayer
          m = get_or ls k default

          its : IsSnapshotAt names metas m
          its = All-tail (IsSnapshotAt names metas) l ls each k default less

          earlier : is_before m.meta.name l.meta.name ≡ true → m.place < l.place
          earlier before = ⊎_elim (λ lower. lower)
              (λ (later : l.place ≤ m.place). absurd (false≢true
              (sym (not_earlier l.place m.place later (omega (arith, listed.count, its.within)))
              ∙ (ap (λ n. is_before n (name_at names l.place)) (sym its.named) ∙ (ap (is_before m.meta.name) (sym is.named) ∙ before)))))
              (cases_lt m.place l.place)

  pub place_within : (places : List ℕ) (k : ℕ) → AllComeInTurn parents places → k < length places
      → get_or places k 0 < length metas
  place_within places k come less =
      omega (arith, are.count, turn_within parents (replicate (length parents) false) places come.turn k 0 less)

  pub are_ordered : (places : List ℕ) (layers : List OrderedLayer) → AllComeInTurn parents places → places_of layers ≡ places
      → All (IsSnapshotAt names metas) layers → AreOrdered names metas layers
  are_ordered places layers come same each = record {
    count = omega (arith, length-map layers (λ (l : OrderedLayer). l.place), ap length same, come.count, are.count);
    each = each;
    all = λ place less. subst (λ ps. Contains ps place) (sym same) (come.all place (omega (arith, are.count, less)));
    turn = in_turn (replicate (length parents) false) [] layers none_named (length-replicate (length parents) false) each
        (subst (ComeInTurn parents (replicate (length parents) false)) (sym same) come.turn);
  }
