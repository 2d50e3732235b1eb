-- The shapes of two replicas' layers, by their names, and the first that differs.
use Rattle.std.proofs.Common.{◌≡◌, ◌≢◌, ◌⊎◌, inl, inr, ⊎_elim, ℕ, zero, suc, ◌+◌, ◌-◌, ◌<◌, ◌≤◌, Bool, true}
use Rattle.std.proofs.Common.{false, not, cond, ◌&&◌, List, [], ◌∷◌, length, drop, Option}
use Rattle.std.proofs.Common.{Some, None, refl, sym, ap, subst, ◌∙◌, arith, add-one}
use Rattle.std.specs.Prelude.{Contains, IsTrue, ◌↔◌, MatchOption}
use Rattle.std.specs.Bool.{Decides, beq}
use Rattle.std.proofs.lemmas.Bool.Decides.{Decides-and}
use Rattle.std.specs.Option.{option_eq}
use Rattle.std.specs.Str.{bytes_eq}
use Rattle.std.proofs.Math.Seq.{drop-cons}
use Rattle.std.proofs.lemmas.Bool.{false_from_ne_true, false≢true}
use Rattle.std.proofs.lemmas.List.{drop_all, length-map, get_or-map}
use Rattle.std.proofs.lemmas.Slice.Eq.{bytes_eq-Decides}
use Rattle.volume_model.specs.Purge.{is_before}
use Rattle.volume_model.proofs.PurgeLemmas.{before_trans, before_itself}
use Rattle.replica_node.specs.Node.{Node, Kept, IsKept, layer_names}
use Rattle.replica_node.specs.Places.{kept_at}
use Rattle.replica_compare.specs.Comparing.{shape_in, comes_before, ShapeDiffers, AreLayersAlike, IsFirstName}
use Rattle.replica_compare.specs.Least.{IsLesser, Stays, Falls, IsLeastOf}

-- ---- one layer more

drop_here : (ks : List Kept) (i : ℕ) → i < length ks → drop i ks ≡ kept_at ks i ∷ drop (i + 1) ks
drop_here ks i less = drop-cons ks i _ less ∙ ap (λ n. kept_at ks i ∷ drop n ks) (sym (add-one i))

pub shape_found : (ks : List Kept) (i : ℕ) (name : List ℕ) → i < length ks
    → shape_in (drop i ks) name ≡ shape_in ks name → (kept_at ks i).meta.name ≡ name
    → shape_in ks name ≡ Some ((kept_at ks i).meta.parent, (kept_at ks i).meta.marked)
shape_found ks i name less before same =
    sym before ∙ ap (λ l. shape_in l name) (drop_here ks i less)
    ∙ ap (λ t. cond t (Some ((kept_at ks i).meta.parent, (kept_at ks i).meta.marked))
    (shape_in (drop (i + 1) ks) name)) ((bytes_eq-Decides name (kept_at ks i).meta.name).1 (sym same))

pub shape_next : (ks : List Kept) (i : ℕ) (name : List ℕ) → i < length ks
    → shape_in (drop i ks) name ≡ shape_in ks name → (kept_at ks i).meta.name ≢ name
    → shape_in (drop (i + 1) ks) name ≡ shape_in ks name
shape_next ks i name less before other =
    sym (sym before ∙ ap (λ l. shape_in l name) (drop_here ks i less)
    ∙ ap (λ t. cond t (Some ((kept_at ks i).meta.parent, (kept_at ks i).meta.marked)) (shape_in (drop (i + 1) ks) name))
    (false_from_ne_true (bytes_eq name (kept_at ks i).meta.name)
    (λ e. other (sym ((bytes_eq-Decides name (kept_at ks i).meta.name).0 e)))))

pub shape_none : (ks : List Kept) (i : ℕ) (name : List ℕ) → length ks ≤ i
    → shape_in (drop i ks) name ≡ shape_in ks name → shape_in ks name ≡ None
shape_none ks i name all before = sym before ∙ ap (λ l. shape_in l name) (drop_all i ks all)

-- ---- tests that two are one

option_decides : {T : Type 0} (E : T → T → Bool) → ((x y : T) → Decides (E x y) (x ≡ y)) → (a b : Option T)
    → Decides (option_eq E a b) (a ≡ b)
option_decides E tells None None = ((λ e. refl), (λ e. refl))
option_decides E tells None (Some y) = ((λ e. absurd (false≢true e)), (λ e. absurd (cc)))
option_decides E tells (Some x) None = ((λ e. absurd (false≢true e)), (λ e. absurd (cc)))
option_decides E tells (Some x) (Some y) = ((λ e. ap Some ((tells x y).0 e)), (λ e. (tells x y).1 (cc)))

pub names_decide : (a b : Option (List ℕ)) → Decides (option_eq bytes_eq a b) (a ≡ b)
names_decide a b = option_decides bytes_eq bytes_eq-Decides a b

bools_decide : (a b : Bool) → Decides (beq a b) (a ≡ b)
bools_decide true true = ((λ e. refl), (λ e. refl))
bools_decide true false = ((λ e. absurd (false≢true e)), (λ e. absurd (false≢true (sym e))))
bools_decide false true = ((λ e. absurd (false≢true e)), (λ e. absurd (false≢true e)))
bools_decide false false = ((λ e. refl), (λ e. refl))

abbrev shape_eq : Option (List ℕ) × Bool → Option (List ℕ) × Bool → Bool
shape_eq x y = option_eq bytes_eq x.0 y.0 && beq x.1 y.1

pair_decides : (x y : Option (List ℕ) × Bool) → Decides (shape_eq x y) (x ≡ y)
pair_decides (p, m) (q, n) =
    let both = Decides-and (option_eq bytes_eq p q) (beq m n) (names_decide p q) (bools_decide m n) in
    ((λ e. join p q m n (both.0 e).0 (both.0 e).1), (λ e. both.1 (ap (λ s. s.0) e, ap (λ s. s.1) e)))
  where
    join : (p q : Option (List ℕ)) (m n : Bool) → p ≡ q → m ≡ n → ◌≡◌ {A = Option (List ℕ) × Bool} (p, m) (q, n)
    join p q m n e f = cc

pub shapes_decide : (a b : Option (Option (List ℕ) × Bool)) → Decides (option_eq shape_eq a b) (a ≡ b)
shapes_decide a b = option_decides shape_eq pair_decides a b

pub differ : {T : Type 0} {a b : T} (r t : Bool) → r ≡ not t → Decides t (a ≡ b) → IsTrue r ↔ (a ≢ b)
differ r true e tells = ((λ yes. absurd (false≢true (sym e ∙ yes))), (λ other. absurd (other (tells.0 refl))))
differ r false e tells = ((λ yes same. false≢true (tells.1 same)), (λ other. e))

pub known : {T : Type 0} (r : Bool) (a b : T) → Decides r (a ≡ b) → (a ≡ b) ⊎ (a ≢ b)
known true a b tells = inl (tells.0 refl)
known false a b tells = inr (λ same. false≢true (tells.1 same))

-- ---- the least name

after_less : (n name : List ℕ) (best : Option (List ℕ)) → comes_before n best ≡ false → comes_before name best ≡ true
    → is_before n name ≡ false
after_less n name None not before = absurd (false≢true (sym not))
after_less n name (Some m) not before = false_from_ne_true (is_before n name)
    (λ less. false≢true (sym not ∙ before_trans n name m less before))

pub from_more : (P : ℕ → Type 0) (start : ℕ) → P start → ((place : ℕ) → start + 1 ≤ place → P place) → (place : ℕ)
    → start ≤ place → P place
from_more P zero here more zero from = here
from_more P zero here more (suc place) from = more (suc place) (omega arith)
from_more P (suc start) here more zero from = absurd (omega (arith, from))
from_more P (suc start) here more (suc place) from =
    from_more (λ k. P (suc k)) start here (λ k later. more (suc k) (omega (arith, later))) place (omega (arith, from))

least_more : (Differs : List ℕ → Type 0) (ks : List Kept) (start : ℕ) (first best new : Option (List ℕ))
    → IsLesser Differs (kept_at ks start).meta.name best new → IsLeastOf Differs ks (start + 1) first best
    → IsLeastOf Differs ks start first new
least_more Differs ks start first best new (Stays not) had = record {
  differs = had.differs;
  least = from_more (λ k. k < length ks → Differs (kept_at ks k).meta.name
      → comes_before (kept_at ks k).meta.name best ≡ false) start (λ less. not) had.least;
  kept = had.kept;
}
least_more Differs ks start first best new (Falls before differs) had = record {
  differs = λ n e. let same : (kept_at ks start).meta.name ≡ n = cc in subst Differs same differs;
  least = from_more (λ k. k < length ks → Differs (kept_at ks k).meta.name
      → is_before (kept_at ks k).meta.name (kept_at ks start).meta.name ≡ false) start
      (λ less other. before_itself (kept_at ks start).meta.name)
      (λ k later less other. after_less (kept_at ks k).meta.name (kept_at ks start).meta.name best
      (had.least k later less other) before);
  kept = λ n not. after_less n (kept_at ks start).meta.name best (had.kept n not) before;
}

-- so many layers were passed, from the oldest on, and now one more
pub least_step : (Differs : List ℕ → Type 0) (ks : List Kept) (count done place : ℕ) (first best new : Option (List ℕ))
    → done < count → place ≡ count - 1 - done
    → IsLesser Differs (kept_at ks place).meta.name best new → IsLeastOf Differs ks (count - done) first best
    → IsLeastOf Differs ks (count - (done + 1)) first new
least_step Differs ks count done place first best new less at lesser had =
    let now : place ≡ count - (done + 1) = omega (arith, less, at) in
    let before : count - done ≡ place + 1 = omega (arith, less, at) in
    subst (λ n. IsLeastOf Differs ks n first new) now
    (least_more Differs ks place first best new lesser (subst (λ n. IsLeastOf Differs ks n first best) before had))

pub least_none : (Differs : List ℕ → Type 0) (ks : List Kept) (start : ℕ) (first : Option (List ℕ)) → length ks ≤ start
    → ((name : List ℕ) → first ≡ Some name → Differs name) → IsLeastOf Differs ks start first first
least_none Differs ks start first all differs = record {
  differs = differs;
  least = λ k later less. absurd (omega (arith, all, later, less));
  kept = λ n not. not;
}

-- ---- names and their shapes

shape_place : (ks : List Kept) (name : List ℕ) (s : Option (List ℕ) × Bool) → shape_in ks name ≡ Some s
    → (i : ℕ) × (i < length ks) × ((kept_at ks i).meta.name ≡ name)
shape_place [] name s e = absurd (cc)
shape_place (k ∷ ks) name s e = by_test (bytes_eq name k.meta.name) refl e (shape_place ks name s)
  where
    by_test : (t : Bool) → bytes_eq name k.meta.name ≡ t → cond t (Some (k.meta.parent, k.meta.marked)) (shape_in ks name) ≡ Some s
        → (shape_in ks name ≡ Some s → (i : ℕ) × (i < length ks) × ((kept_at ks i).meta.name ≡ name))
        → (i : ℕ) × (i < length (k ∷ ks)) × ((kept_at (k ∷ ks) i).meta.name ≡ name)
    by_test true t e rest = (0, omega arith, sym ((bytes_eq-Decides name k.meta.name).0 t))
    by_test false t e rest = let r = rest e in (suc r.0, omega (arith, r.1), r.2)

place_shape : (ks : List Kept) (i : ℕ) → i < length ks → (s : Option (List ℕ) × Bool)
    × (shape_in ks (kept_at ks i).meta.name ≡ Some s)
place_shape [] i less = absurd (omega arith)
place_shape (k ∷ ks) zero less = (
  (k.meta.parent, k.meta.marked),
  ap (λ t. cond t (Some (k.meta.parent, k.meta.marked)) (shape_in ks k.meta.name))
      ((bytes_eq-Decides k.meta.name k.meta.name).1 refl),
)
place_shape (k ∷ ks) (suc i) less = by_test (bytes_eq (kept_at ks i).meta.name k.meta.name) (place_shape ks i (omega arith))
  where
    by_test : (t : Bool) → (s : Option (List ℕ) × Bool) × (shape_in ks (kept_at ks i).meta.name ≡ Some s)
        → (s : Option (List ℕ) × Bool) × (cond t (Some (k.meta.parent, k.meta.marked))
        (shape_in ks (kept_at ks i).meta.name) ≡ Some s)
    by_test true rest = ((k.meta.parent, k.meta.marked), refl)
    by_test false rest = rest

pub place_kept : (node : Node) (i : ℕ) → i < length node.layers → IsKept node (Some (kept_at node.layers i).meta.name)
place_kept node i less =
    let within : i < length (layer_names node.layers) = omega (arith, length-map node.layers (λ k. k.meta.name)) in
    let name = (kept_at node.layers i).meta.name in
    (i, within, get_or-map (λ (k : Kept). k.meta.name) node.layers i _ name less)

pub kept_place : (ks : List Kept) (name : List ℕ) → Contains (layer_names ks) name
    → (i : ℕ) × (i < length ks) × ((kept_at ks i).meta.name ≡ name)
kept_place ks name c =
    let less : c.0 < length ks = omega (arith, c.1, length-map ks (λ k. k.meta.name)) in
    (c.0, less, sym (get_or-map (λ (k : Kept). k.meta.name) ks c.0 _ name less) ∙ c.2)

pub kept_other : (a b : Node) (layer : Option (List ℕ)) → AreLayersAlike a b → IsKept a layer → IsKept b layer
kept_other a b None alike kept = tt
kept_other a b (Some name) alike kept =
    let p = kept_place a.layers name kept in
    let s = place_shape a.layers p.0 p.1 in
    let q = shape_place b.layers name s.0 (sym (alike name) ∙ ap (shape_in a.layers) (sym p.2) ∙ s.1) in
    subst (λ n. IsKept b (Some n)) q.2 (place_kept b q.0 q.1)

-- ---- what the least tells

alike_before : (a b : Node) (x y : Option (List ℕ)) → IsLeastOf (ShapeDiffers a b) a.layers 0 None x
    → IsLeastOf (ShapeDiffers a b) b.layers 0 x y
    → (name : List ℕ) → comes_before name y ≡ true → shape_in a.layers name ≡ shape_in b.layers name
alike_before a b x y p q name before =
    ⊎_elim (λ same. same) (λ other. absurd (by_shapes (shape_in a.layers name) (shape_in b.layers name) refl refl other))
    (known (option_eq shape_eq (shape_in a.layers name) (shape_in b.layers name)) (shape_in a.layers name)
    (shape_in b.layers name) (shapes_decide (shape_in a.layers name) (shape_in b.layers name)))
  where
    by_shapes : (s t : Option (Option (List ℕ) × Bool)) → shape_in a.layers name ≡ s → shape_in b.layers name ≡ t
        → ShapeDiffers a b name → ⊥
    by_shapes None None e f other = other (e ∙ sym f)
    by_shapes (Some s) t e f other =
        let i = shape_place a.layers name s e in
        false≢true (sym (q.kept name (ap (λ n. comes_before n x) (sym i.2)
        ∙ p.least i.0 (omega arith) i.1 (subst (ShapeDiffers a b) (sym i.2) other))) ∙ before)
    by_shapes None (Some t) e f other =
        let i = shape_place b.layers name t f in
        false≢true (sym (ap (λ n. comes_before n y) (sym i.2)
        ∙ q.least i.0 (omega arith) i.1 (subst (ShapeDiffers a b) (sym i.2) other)) ∙ before)

pub first_name : (a b : Node) (x y : Option (List ℕ)) → IsLeastOf (ShapeDiffers a b) a.layers 0 None x
    → IsLeastOf (ShapeDiffers a b) b.layers 0 x y
    → MatchOption y (AreLayersAlike a b) (IsFirstName a b)
first_name a b x None p q = λ name. alike_before a b x None p q name refl
first_name a b x (Some name) p q = record {
  differs = q.differs name refl;
  first = λ other before. alike_before a b x
      (Some name) p q other before;
}

pub differ_at : (r : Bool) (p q a b : Option (Option (List ℕ) × Bool)) → r ≡ not (option_eq shape_eq p q) → p ≡ a
    → q ≡ b → IsTrue r ↔ (a ≢ b)
differ_at r p q a b e f g = differ r (option_eq shape_eq a b)
    (e ∙ ap not (ap (λ x. option_eq shape_eq x q) f ∙ ap (λ y. option_eq shape_eq a y) g)) (shapes_decide a b)

pub names_differ : (r : Bool) (p q a b : Option (List ℕ)) → r ≡ not (option_eq bytes_eq p q) → p ≡ a → q ≡ b → IsTrue r ↔ (a ≢ b)
names_differ r p q a b e f g = differ r (option_eq bytes_eq a b)
    (e ∙ ap not (ap (λ x. option_eq bytes_eq x q) f ∙ ap (λ y. option_eq bytes_eq a y) g)) (names_decide a b)

pub names_same : (r : Bool) (p q a b : Option (List ℕ)) → r ≡ not (option_eq bytes_eq p q) → p ≡ a → q ≡ b → r ≡ false → a ≡ b
names_same r p q a b e f g not_r =
    ⊎_elim (λ same. same) (λ other. absurd (false≢true (sym not_r ∙ (names_differ r p q a b e f g).1 other)))
    (known (option_eq bytes_eq a b) a b (names_decide a b))

pub stays : (Differs : List ℕ → Type 0) (name : List ℕ) (best : Option (List ℕ)) (r : Bool) → (Differs name → r ≡ true)
    → r ≡ false → IsLesser Differs name best best
stays Differs name best r tells e = Stays (λ d. absurd (false≢true (sym e ∙ tells d)))
