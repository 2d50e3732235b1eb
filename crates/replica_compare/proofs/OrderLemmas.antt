-- The order of layers is one.
use Rattle.std.proofs.Common.{◌≡◌, ◌≢◌, ◌⊎◌, inl, inr, ⊎_elim, ℕ, zero, suc, ◌<◌, Bool, true, false, cond, ◌||◌}
use Rattle.std.proofs.Common.{List, [], ◌∷◌, length, map, get_or, Option, Some, None, refl, sym, ap, subst, ◌∙◌}
use Rattle.std.proofs.Common.{arith}
use Rattle.std.specs.Prelude.{Contains, reverse}
use Rattle.std.specs.Str.{bytes_eq}
use Rattle.std.specs.Cmp.Lexicographic.{slice_cmp}
use Rattle.std.specs.Ordering.{nat_cmp, is_lt, ordering_reverse}
use Rattle.std.specs.declared.cmp.Ordering.{Ordering}
use Rattle.std.specs.declared.cmp.Ordering.TheVariants as order
use Rattle.std.proofs.lemmas.Cmp.{nat_list_cmp_total}
use Rattle.std.proofs.lemmas.Map.Lookups.{exact_bytes}
use Rattle.std.proofs.lemmas.Bool.{false_from_ne_true, false≢true}
use Rattle.std.proofs.lemmas.List.{reverse-reverse, reverse-append}
use Rattle.std.proofs.lemmas.List.Elements.{All-contains, Contains-push_cases}
use Rattle.std.proofs.lemmas.Slice.Eq.{bytes_eq-Decides}
use Rattle.volume_model.specs.Names.{NamesOnce, has_name}
use Rattle.volume_model.specs.Purge.{is_before}
use Rattle.volume_model.specs.Snapshots.{Snapshot}
use Rattle.coalesce.specs.Folding.{snapshot_of}
use Rattle.replica_node.specs.Node.{Node, Kept, layer_names, disk_named}
use Rattle.replica_node.specs.Places.{kept_at}
use Rattle.replica_node.specs.Fold.{tree_of}
use Rattle.replica_node.specs.Volume.{copies_in, volume_of_node}
use Rattle.volume_model.specs.PlainState.{Copy, Volume}
use Rattle.replica_compare.specs.Comparing.{shape_in, AreLayersAlike, AreAlike}
use Rattle.replica_compare.specs.Order.{IsReady, AreInTurn, IsInOrder, disks_of}

-- the layers as snapshots
abbrev pub snapshots : List Kept → List Snapshot
snapshots ks = map (λ k. snapshot_of k.meta) ks

-- ---- elements of a list

pub among : {X : Type 0} (x y : X) (xs : List X) → Contains (x ∷ xs) y → (x ≡ y) ⊎ Contains xs y
among x y xs c = go c.0 c.1 c.2
  where
    go : (k : ℕ) → k < length (x ∷ xs) → get_or (x ∷ xs) k y ≡ y → (x ≡ y) ⊎ Contains xs y
    go zero less e = inl e
    go (suc k) less e = inr (k, omega (arith, less), e)

pub first_in : {X : Type 0} (x : X) (xs : List X) → Contains (x ∷ xs) x
first_in x xs = (0, omega arith, refl)

pub later_in : {X : Type 0} (x y : X) (xs : List X) → Contains xs y → Contains (x ∷ xs) y
later_in x y xs c = (suc c.0, omega (arith, c.1), c.2)

reversed : {X : Type 0} (xs : List X) (y : X) → Contains (reverse xs) y → Contains xs y
reversed [] y c = c
reversed (x ∷ xs) y c =
    ⊎_elim (λ older. later_in x y xs (reversed xs y older)) (λ here. subst (Contains (x ∷ xs)) here (first_in x xs))
    (Contains-push_cases (reverse xs) x y (subst (λ l. Contains l y) (reverse-append (x ∷ []) xs) c))

in_reversed : {X : Type 0} (xs : List X) (y : X) → Contains xs y → Contains (reverse xs) y
in_reversed xs y c = reversed (reverse xs) y (subst (λ l. Contains l y) (sym (reverse-reverse xs)) c)

-- two names of which none comes before the other are one
same_name : (a b : List ℕ) → is_before a b ≡ false → is_before b a ≡ false → a ≡ b
same_name a b h k = go (slice_cmp nat_cmp a b) refl
  where
    go : (o : Ordering) → slice_cmp nat_cmp a b ≡ o → a ≡ b
    go order.Less e = absurd (false≢true (sym h ∙ ap is_lt e))
    go order.Equal e = exact_bytes a b e
    go order.Greater e = absurd (false≢true (sym k ∙ ap is_lt (nat_list_cmp_total.antisymm b a ∙ ap ordering_reverse e)))

-- ---- two lists in order of the same layers

-- what is left has other names than what is there
new_name : (done : List (List ℕ)) (ss : List Snapshot) (s : Snapshot) → AreInTurn done ss → Contains ss s → Contains done s.name → ⊥
new_name done [] s order c there = omega (arith, c.1)
new_name done (t ∷ ss) s order c there =
    ⊎_elim (λ (here : t ≡ s). order.0 (subst (λ x. Contains done x.name) (sym here) there))
    (λ (later : Contains ss s). new_name (t.name ∷ done) ss s order.3 later (later_in t.name s.name done there)) (among t s ss c)

-- the first of one list does not come before the first of the other
not_less : (done : List (List ℕ)) (x y : Snapshot) (xs : List Snapshot) → AreInTurn done (x ∷ xs)
    → IsReady done y.parent → Contains (x ∷ xs) y
    → (x ≡ y) ⊎ (is_before y.name x.name ≡ false)
not_less done x y xs order ready c =
    ⊎_elim inl (λ (later : Contains xs y). inr (All-contains
    (λ (m : Snapshot). IsReady done m.parent → is_before m.name x.name ≡ false) xs y order.2 later ready)) (among x y xs c)

same_first : (done : List (List ℕ)) (x y : Snapshot) (xs ys : List Snapshot) → AreInTurn done (x ∷ xs) → AreInTurn done (y ∷ ys)
    → Contains (x ∷ xs) y → Contains (y ∷ ys) x → x ≡ y
same_first done x y xs ys p q c d =
    ⊎_elim (λ same. same)
    (λ (one : is_before y.name x.name ≡ false). ⊎_elim (λ same. sym same)
    (λ (two : is_before x.name y.name ≡ false). by_name (same_name x.name y.name two one) (among x y xs c))
    (not_less done y x ys q p.1 d))
    (not_less done x y xs p q.1 c)
  where
    by_name : x.name ≡ y.name → (x ≡ y) ⊎ Contains xs y → x ≡ y
    by_name e (inl same) = same
    by_name e (inr later) = absurd (new_name (x.name ∷ done) xs y p.3 later
        (subst (Contains (x.name ∷ done)) e (first_in x.name done)))

rest_in : (done : List (List ℕ)) (x : Snapshot) (xs ys : List Snapshot) → AreInTurn done (x ∷ xs)
    → ((s : Snapshot) → Contains (x ∷ xs) s → Contains (x ∷ ys) s)
    → (s : Snapshot) → Contains xs s → Contains ys s
rest_in done x xs ys p all s c =
    ⊎_elim (λ (here : x ≡ s). absurd (new_name (x.name ∷ done) xs s p.3 c
    (subst (λ t. Contains (x.name ∷ done) t.name) here (first_in x.name done)))) (λ later. later)
    (among x s ys (all s (later_in x s xs c)))

one_order : (done : List (List ℕ)) (xs ys : List Snapshot) → AreInTurn done xs → AreInTurn done ys
    → ((s : Snapshot) → Contains xs s → Contains ys s) → ((s : Snapshot) → Contains ys s → Contains xs s) → xs ≡ ys
one_order done [] [] p q f g = refl
one_order done [] (y ∷ ys) p q f g = absurd (omega (arith, (g y (first_in y ys)).1))
one_order done (x ∷ xs) [] p q f g = absurd (omega (arith, (f x (first_in x xs)).1))
one_order done (x ∷ xs) (y ∷ ys) p q f g =
    let same : x ≡ y = same_first done x y xs ys p q (g y (first_in y ys)) (f x (first_in x xs)) in
    let q2 : AreInTurn done (x ∷ ys) = subst (λ z. AreInTurn done (z ∷ ys)) (sym same) q in
    let f2 : (s : Snapshot) → Contains (x ∷ xs) s → Contains (x ∷ ys) s =
    λ s c. subst (λ z. Contains (z ∷ ys) s) (sym same) (f s c) in
    let g2 : (s : Snapshot) → Contains (x ∷ ys) s → Contains (x ∷ xs) s = λ s c. g s (subst (λ z. Contains (z ∷ ys) s) same c) in
    ap (λ z. z ∷ xs) same ∙ ap (λ l. y ∷ l) (one_order (x.name ∷ done) xs ys p.3 q2.3 (rest_in done x xs ys p f2)
    (rest_in done x ys xs q2 g2))

-- ---- shapes tell the snapshots

shape_snapshot : (ks : List Kept) (name : List ℕ) (parent : Option (List ℕ)) (marked : Bool)
    → shape_in ks name ≡ Some (parent, marked)
    → Contains (snapshots ks) (record { name = name; parent = parent; marked = marked })
shape_snapshot [] name parent marked e = absurd (cc)
shape_snapshot (k ∷ ks) name parent marked e = by_test (bytes_eq name k.meta.name) refl e (shape_snapshot ks name parent marked)
  where
    by_test : (t : Bool) → bytes_eq name k.meta.name ≡ t → cond t (Some (k.meta.parent, k.meta.marked))
        (shape_in ks name) ≡ Some (parent, marked)
        → (shape_in ks name ≡ Some (parent, marked) → Contains (snapshots ks)
        (record { name = name; parent = parent; marked = marked }))
        → Contains (snapshots (k ∷ ks)) (record { name = name; parent = parent; marked = marked })
    by_test true t e rest =
        subst (Contains (snapshots (k ∷ ks))) (same ((bytes_eq-Decides name k.meta.name).0 t) e)
        (first_in (snapshot_of k.meta) (snapshots ks))
      where
        same : name ≡ k.meta.name → ◌≡◌ {A = Option (Option (List ℕ) × Bool)} (Some (k.meta.parent, k.meta.marked))
            (Some (parent, marked)) → snapshot_of k.meta ≡ record { name = name; parent = parent; marked = marked }
        same n e =
            let pair : ◌≡◌ {A = Option (List ℕ) × Bool} (k.meta.parent, k.meta.marked) (parent, marked) = cc in
            let shaped : Option (List ℕ) × Bool → Snapshot = λ q. record { name = k.meta.name; parent = q.0; marked = q.1 } in
            let called : List ℕ → Snapshot = λ l. record { name = l; parent = parent; marked = marked } in
            ap shaped pair ∙ ap called (sym n)
    by_test false t e rest = later_in (snapshot_of k.meta) (record { name = name; parent = parent; marked = marked })
        (snapshots ks) (rest e)

pub named : (ss : List Snapshot) (s : Snapshot) → Contains ss s → has_name ss s.name ≡ true
named [] s c = absurd (omega (arith, c.1))
named (t ∷ ss) s c = grind (arith, bytes_eq-Decides, among t s ss c, named ss s)

pub place_named : (ks : List Kept) (place : ℕ) → place < length ks → has_name (snapshots ks) (kept_at ks place).meta.name ≡ true
place_named [] place less = absurd (omega (arith, less))
place_named (k ∷ ks) zero less = ap (λ t. t || has_name (snapshots ks) k.meta.name)
    ((bytes_eq-Decides k.meta.name k.meta.name).1 refl)
place_named (k ∷ ks) (suc place) less =
    ap (λ t. bytes_eq (kept_at ks place).meta.name k.meta.name || t) (place_named ks place (omega (arith, less)))
    ∙ or_true (bytes_eq (kept_at ks place).meta.name k.meta.name)
  where
    or_true : (t : Bool) → (t || true) ≡ true
    or_true true = refl
    or_true false = refl

snapshot_shape : (ks : List Kept) (s : Snapshot) → NamesOnce (snapshots ks) → Contains (snapshots ks) s
    → shape_in ks s.name ≡ Some (s.parent, s.marked)
snapshot_shape [] s once c = absurd (omega (arith, c.1))
snapshot_shape (k ∷ ks) s once c =
    ⊎_elim (λ (here : snapshot_of k.meta ≡ s). at_front here)
    (λ (later : Contains (snapshots ks) s). behind later (snapshot_shape ks s once.1 later))
    (among (snapshot_of k.meta) s (snapshots ks) c)
  where
    at_front : snapshot_of k.meta ≡ s → cond (bytes_eq s.name k.meta.name) (Some (k.meta.parent, k.meta.marked))
        (shape_in ks s.name) ≡ Some (s.parent, s.marked)
    at_front here =
        ap (λ t. cond t (Some (k.meta.parent, k.meta.marked)) (shape_in ks s.name))
        ((bytes_eq-Decides s.name k.meta.name).1 (ap (λ x. x.name) (sym here)))
        ∙ ap (λ (x : Snapshot). Some (x.parent, x.marked)) here

    behind : Contains (snapshots ks) s → shape_in ks s.name ≡ Some (s.parent, s.marked)
        → cond (bytes_eq s.name k.meta.name) (Some (k.meta.parent, k.meta.marked)) (shape_in ks s.name) ≡ Some (s.parent, s.marked)
    behind later e =
        ap (λ t. cond t (Some (k.meta.parent, k.meta.marked)) (shape_in ks s.name))
        (false_from_ne_true (bytes_eq s.name k.meta.name) (λ t. false≢true (sym once.0
        ∙ subst (λ n. has_name (snapshots ks) n ≡ true) ((bytes_eq-Decides s.name k.meta.name).0 t)
        (named (snapshots ks) s later)))) ∙ e

others_too : (a b : Node) → NamesOnce (tree_of a) → AreLayersAlike a b → (s : Snapshot)
    → Contains (reverse (tree_of a)) s → Contains (reverse (tree_of b)) s
others_too a b once alike s c =
    in_reversed (tree_of b) s (shape_snapshot b.layers s.name s.parent s.marked
    (sym (alike s.name) ∙ snapshot_shape a.layers s once (reversed (tree_of a) s c)))

pub one_tree : (a b : Node) → NamesOnce (tree_of a) → NamesOnce (tree_of b) → IsInOrder a → IsInOrder b
    → AreLayersAlike a b → tree_of a ≡ tree_of b
one_tree a b p q x y alike =
    sym (reverse-reverse (tree_of a))
    ∙ ap reverse (one_order [] (reverse (tree_of a)) (reverse (tree_of b)) x y (others_too a b p alike)
    (others_too b a q (λ name. sym (alike name))))
    ∙ reverse-reverse (tree_of b)

-- ---- what they read as

disk_first : (k : Kept) (ks : List Kept) (name : List ℕ) → name ≡ k.meta.name → disk_named (k ∷ ks) name ≡ k.disk
disk_first k ks name e = ap (λ t. cond t k.disk (disk_named ks name)) ((bytes_eq-Decides name k.meta.name).1 e)

disk_later : (k : Kept) (ks : List Kept) (name : List ℕ) → name ≢ k.meta.name → disk_named (k ∷ ks) name ≡ disk_named ks name
disk_later k ks name other = ap (λ t. cond t k.disk (disk_named ks name))
    (false_from_ne_true (bytes_eq name k.meta.name) (λ e. other ((bytes_eq-Decides name k.meta.name).0 e)))

abbrev disks : List Kept → List (List ℕ)
disks ks = map (λ k. k.disk) ks

one_disks : (ks ms : List Kept) → NamesOnce (snapshots ks) → NamesOnce (snapshots ms) → snapshots ks ≡ snapshots ms
    → ((s : Snapshot) → Contains (snapshots ks) s → disk_named ks s.name ≡ disk_named ms s.name) → disks ks ≡ disks ms
one_disks [] [] p q e same = refl
one_disks [] (m ∷ ms) p q e same = absurd (cc)
one_disks (k ∷ ks) [] p q e same = absurd (cc)
one_disks (k ∷ ks) (m ∷ ms) p q e same =
    let front : snapshot_of k.meta ≡ snapshot_of m.meta = cc in
    let rest : snapshots ks ≡ snapshots ms = cc in
    let name : k.meta.name ≡ m.meta.name = ap (λ s. s.name) front in
    let here : k.disk ≡ m.disk =
    sym (disk_first k ks k.meta.name refl) ∙ same (snapshot_of k.meta) (first_in (snapshot_of k.meta) (snapshots ks))
    ∙ disk_first m ms k.meta.name name in
    let later : (s : Snapshot) → Contains (snapshots ks) s → disk_named ks s.name ≡ disk_named ms s.name = λ s c.
    let other : s.name ≢ k.meta.name = λ is. false≢true (sym p.0
    ∙ subst (λ n. has_name (snapshots ks) n ≡ true) is (named (snapshots ks) s c)) in
    sym (disk_later k ks s.name other) ∙ same s (later_in (snapshot_of k.meta) s (snapshots ks) c)
    ∙ disk_later m ms s.name (λ is. other (is ∙ sym name)) in
    ap (λ d. d ∷ disks ks) here ∙ ap (λ l. m.disk ∷ l) (one_disks ks ms p.1 q.1 rest later)

kept_snapshot : (ks : List Kept) (s : Snapshot) → Contains (snapshots ks) s → Contains (layer_names ks) s.name
kept_snapshot [] s c = absurd (omega (arith, c.1))
kept_snapshot (k ∷ ks) s c =
    ⊎_elim (λ (here : snapshot_of k.meta ≡ s). subst (λ (t : Snapshot). Contains (layer_names (k ∷ ks)) t.name) here
    (first_in k.meta.name (layer_names ks)))
    (λ (older : Contains (layer_names ks) s.name). later_in k.meta.name s.name (layer_names ks) older)
    (both (among (snapshot_of k.meta) s (snapshots ks) c) (kept_snapshot ks s))
  where
    both : (snapshot_of k.meta ≡ s) ⊎ Contains (snapshots ks) s
        → (Contains (snapshots ks) s → Contains (layer_names ks) s.name)
        → (snapshot_of k.meta ≡ s) ⊎ Contains (layer_names ks) s.name
    both (inl here) f = inl here
    both (inr older) f = inr (f older)

pub one_reading : (a b : Node) → NamesOnce (tree_of a) → NamesOnce (tree_of b) → IsInOrder a → IsInOrder b
    → AreAlike a b → disks_of a ≡ disks_of b
one_reading a b p q x y alike =
    one_disks a.layers b.layers p q (one_tree a b p q x y alike.shape.layers)
    (λ s c. alike.readings (Some s.name) (kept_snapshot a.layers s c))

-- ---- they are one volume

one_copies : (ks ms : List Kept) → snapshots ks ≡ snapshots ms → disks ks ≡ disks ms → copies_in ks ≡ copies_in ms
one_copies [] [] e d = refl
one_copies [] (m ∷ ms) e d = absurd (cc)
one_copies (k ∷ ks) [] e d = absurd (cc)
one_copies (k ∷ ks) (m ∷ ms) e d =
    let front : snapshot_of k.meta ≡ snapshot_of m.meta = cc in
    let older : snapshots ks ≡ snapshots ms = cc in
    let disk : k.disk ≡ m.disk = cc in
    let others : disks ks ≡ disks ms = cc in
    let rest : copies_in ks ≡ copies_in ms = one_copies ks ms older others in
    let name : k.meta.name ≡ m.meta.name = ap (λ s. s.name) front in
    let marked : k.meta.marked ≡ m.meta.marked = ap (λ s. s.marked) front in
    let here : List Copy = record { name = k.meta.name; disk = k.disk } ∷ copies_in ks in
    ap (λ t. cond t (copies_in ks) here) marked
    ∙ ap (λ l. cond m.meta.marked l (record { name = k.meta.name; disk = k.disk } ∷ l)) rest
    ∙ ap (λ n. cond m.meta.marked (copies_in ms) (record { name = n; disk = k.disk } ∷ copies_in ms)) name
    ∙ ap (λ d. cond m.meta.marked (copies_in ms) (record { name = m.meta.name; disk = d } ∷ copies_in ms)) disk

abbrev made : List ℕ → List Copy → List Snapshot → Option (List ℕ) → ℕ → Volume
made disk copies tree on number = record {
  disk = disk;
  copies = copies;
  snapshots = record { tree = tree; on = on; number = number };
}

pub one_volume : (a b : Node) → tree_of a ≡ tree_of b → disks_of a ≡ disks_of b → AreAlike a b → volume_of_node a ≡ volume_of_node b
one_volume a b tree disks alike =
    let copies : copies_in a.layers ≡ copies_in b.layers = one_copies a.layers b.layers tree disks in
    let head : a.disk ≡ b.disk = alike.readings None tt in
    ap (λ ss. made a.disk (copies_in a.layers) ss a.on a.number) tree
    ∙ ap (λ on. made a.disk (copies_in a.layers) (tree_of b) on a.number) alike.shape.on
    ∙ ap (λ n. made a.disk (copies_in a.layers) (tree_of b) b.on n) alike.shape.number
    ∙ ap (λ cs. made a.disk cs (tree_of b) b.on b.number) copies
    ∙ ap (λ disk. made disk (copies_in b.layers) (tree_of b) b.on b.number) head
