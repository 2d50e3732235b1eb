-- The search for the first layer that can go.
use Rattle.std.proofs.Common.{◌≡◌, ◌≢◌, ◌⊎◌, inl, inr, ⊎_elim, ℕ, ◌+◌, ◌<◌, ◌≤◌, true, false, List, [], ◌∷◌, length}
use Rattle.std.proofs.Common.{Option, None, Some, MatchOption, sym, ap, ◌∙◌, subst, arith}
use Rattle.std.proofs.lemmas.Bool.{cases_eq, false_from_ne_true, false≢true}
use Rattle.layer_chain.specs.Children.{Stands, Tells}
use Rattle.layer_chain.specs.Tree.{Tree, name_of, layer_at, IsWholeTree}
use Rattle.layer_chain.specs.declared.layer.LayerMeta.{LayerMeta}
use Rattle.layer_chain.specs.declared.children.Child.{Child}
use Rattle.layer_chain.specs.declared.children.Child.TheVariants as child
use Rattle.layer_chain.specs.declared.children.Children.TheVariants as children
use Rattle.layer_chain.proofs.TreeLemmas.{one_place}
use Rattle.volume_model.proofs.PurgeLemmas.{before_trans, before_itself, is_marked}
use Rattle.volume_model.specs.Purge.{IsMarked, CanFold, CanBeDone, IsPurged, gone, is_before, IsFirst}
use Rattle.volume_model.specs.declared.mark.FoldOrDrop.{FoldOrDrop}
use Rattle.volume_model.specs.declared.mark.FoldOrDrop.TheVariants as part
use Rattle.coalesce.specs.Folding.{snapshots_in}
use Rattle.coalesce.specs.Search.{GoesAt, StaysAt, IsFirstFrom, IsBest, goes_before}
use Rattle.coalesce.proofs.ChildLemmas.{child_only, children_none, children_one}
use Rattle.coalesce.proofs.PlaceLemmas.{any_at, at_any, drop_leaf}

-- ---- what goes, and what stays

-- what can go stands somewhere
goes_somewhere : (t : Tree) (f : FoldOrDrop) → CanBeDone (snapshots_in t) t.on f → (i : ℕ) × (i < length t.layers) × GoesAt t i f
goes_somewhere t f can =
    let a = any_at (λ m. (m.name ≡ gone f) × (m.marked ≡ true)) t (is_marked (snapshots_in t) t.on f can) in
    (a.0, a.1, record { can = can; named = sym a.2.0 })

module _ (t : Tree) (i : ℕ) (m : LayerMeta) (within : i < length t.layers) (m_is : m ≡ (layer_at t.layers i).meta) where
  own_name : Some m.name ≡ Some (name_of (layer_at t.layers i))
  own_name = ap (λ (l : LayerMeta). Some l.name) m_is

  own_mark : m.marked ≡ true → IsMarked (snapshots_in t) m.name
  own_mark marked = at_any (λ l. (l.name ≡ m.name) × (l.marked ≡ true)) t i within
      (sym (ap (λ (l : LayerMeta). l.name) m_is), sym (ap (λ (l : LayerMeta). l.marked) m_is) ∙ marked)

  pub stays_unmarked : IsWholeTree t → m.marked ≡ false → StaysAt t i
  stays_unmarked w unmarked = λ f goes.
      let a = any_at (λ l. (l.name ≡ gone f) × (l.marked ≡ true)) t (is_marked (snapshots_in t) t.on f goes.can) in
      let same : a.0 ≡ i = one_place t.layers (gone f) a.0 i w.layers (record { within = a.1; named = a.2.0 })
      (record { within = within; named = sym goes.named }) in
      let marked : (layer_at t.layers i).meta.marked ≡ true = subst (λ (n : ℕ). (layer_at t.layers n).meta.marked ≡ true) same a.2.1 in
      absurd (false≢true (sym unmarked ∙ ap (λ (l : LayerMeta). l.marked) m_is ∙ marked))

  pub goes_drop : m.marked ≡ true → Tells t.layers t.on (length t.layers) i children.None → GoesAt t i (part.Drop m.name)
  goes_drop marked told = record {
    can = record {
      marked = own_mark marked;
      leaf = children_none t.layers m.name (λ k h e. told (child.Layer k) (h, e ∙ own_name));
      head = λ e. told child.Head (e ∙ own_name);
    };
    named = ap (λ (l : LayerMeta). l.name) m_is;
  }

  pub goes_fold : (j : ℕ) (n : LayerMeta) → n ≡ (layer_at t.layers j).meta → m.marked ≡ true
      → Tells t.layers t.on (length t.layers) i (children.One (child.Layer j)) → GoesAt t i (part.Fold m.name n.name)
  goes_fold j n n_is marked told = record {
    can = record {
      marked = own_mark marked;
      child =
          children_one t.layers m.name j told.0.0 (told.0.1 ∙ sym own_name) (λ k h e.
          let is : child.Layer k ≡ child.Layer j = told.1 (child.Layer k) (h, e ∙ own_name) in
          cc)
          ∙ ap (λ (l : LayerMeta). l.name ∷ []) (sym n_is);
      head = λ e. let is : child.Head ≡ child.Layer j = told.1 child.Head (e ∙ own_name) in absurd (cc);
    };
    named = ap (λ (l : LayerMeta). l.name) m_is;
  }

-- one thing that stands on the layer is the one that it is folded into
only_one : (t : Tree) (i : ℕ) (p c : List ℕ) → IsWholeTree t → p ≡ name_of (layer_at t.layers i)
    → CanFold (snapshots_in t) t.on p c → (a b : Child) → Stands t.layers t.on (length t.layers) i a
    → Stands t.layers t.on (length t.layers) i b → a ≡ b
only_one t i p c w is can child.Head b s u = absurd (can.head (s ∙ ap (λ (n : List ℕ). Some n) (sym is)))
only_one t i p c w is can (child.Layer j) child.Head s u = absurd (can.head (u ∙ ap (λ (n : List ℕ). Some n) (sym is)))
only_one t i p c w is can (child.Layer j) (child.Layer k) s u =
    let back : Some (name_of (layer_at t.layers i)) ≡ Some p = ap (λ (n : List ℕ). Some n) (sym is) in
    let named_j : name_of (layer_at t.layers j) ≡ c = child_only t.layers p c can.child j s.0 (s.1 ∙ back) in
    let named_k : name_of (layer_at t.layers k) ≡ c = child_only t.layers p c can.child k u.0 (u.1 ∙ back) in
    ap (λ (n : ℕ). child.Layer n) (one_place t.layers c j k w.layers (record { within = s.0; named = named_j })
    (record { within = u.0; named = named_k }))

stays_under : (t : Tree) (i : ℕ) → i < length t.layers → IsWholeTree t → (a b : Child) → a ≢ b
    → Stands t.layers t.on (length t.layers) i a → Stands t.layers t.on (length t.layers) i b → (f : FoldOrDrop)
    → GoesAt t i f → ⊥
stays_under t i within w a b other s u (part.Fold p c) goes = other (only_one t i p c w goes.named goes.can a b s u)
stays_under t i within w a b other s u (part.Drop p) goes =
    drop_leaf t p i (record { within = within; named = sym goes.named }) goes.can a s

pub stays_more : (t : Tree) (i : ℕ) → i < length t.layers → IsWholeTree t
    → Tells t.layers t.on (length t.layers) i children.More → StaysAt t i
stays_more t i within w told = stays_under t i within w told.0 told.1 told.2 told.3 told.4

-- ---- one place after another, from the oldest layer

from_here : (q i : ℕ) → i ≤ q → (q ≡ i) ⊎ (i + 1 ≤ q)
from_here q i h = ⊎_elim (λ e. inl e) (λ n. inr (omega (arith, h, n))) (cases_eq q i)

module _ (t : Tree) (i : ℕ) where
  -- a layer that stays leaves the best as it was
  pub best_stays : (b : Option FoldOrDrop) → StaysAt t i → IsBest t (i + 1) b → IsBest t i b
  best_stays None stays best = λ q h w. ⊎_elim (λ e. subst (λ (n : ℕ). StaysAt t n) (sym e) stays) (λ l. best q l w) (from_here q i h)
  best_stays (Some b) stays best = record {
    can = best.can;
    first = λ q g h w goes. ⊎_elim (λ e. absurd (stays g (subst (λ (n : ℕ). GoesAt t n g) e goes)))
        (λ l. best.first q g l w goes) (from_here q i h);
  }

  -- so does one whose name comes later
  pub best_before : (b : Option FoldOrDrop) → goes_before (name_of (layer_at t.layers i)) b ≡ false → IsBest t (i + 1) b → IsBest t i b
  best_before None later best = absurd (false≢true (sym later))
  best_before (Some b) later best = record {
    can = best.can;
    first = λ q g h w goes. ⊎_elim
        (λ e. ap (λ (n : List ℕ). is_before n (gone b)) (goes.named ∙ ap (λ (n : ℕ). name_of (layer_at t.layers n)) e) ∙ later)
        (λ l. best.first q g l w goes)
        (from_here q i h);
  }

  module _ (f : FoldOrDrop) (found : GoesAt t i f) where
    -- what goes at this place has the same name
    here : (q : ℕ) (g : FoldOrDrop) → q ≡ i → GoesAt t q g → is_before (gone g) (gone f) ≡ false
    here q g e goes =
        ap (λ (n : List ℕ). is_before n (gone f)) (goes.named ∙ ap (λ (n : ℕ). name_of (layer_at t.layers n)) e ∙ sym found.named)
        ∙ before_itself (gone f)

    -- one that goes before the best is the best
    pub best_found : (b : Option FoldOrDrop) → goes_before (name_of (layer_at t.layers i)) b ≡ true → IsBest t (i + 1) b → IsFirstFrom t i f
    best_found None sooner best =
        record {
          can = found.can;
          first = λ q g h w goes. ⊎_elim (λ e. here q g e goes) (λ l. absurd (best q l w g goes))
              (from_here q i h);
        }
    best_found (Some b) sooner best = record {
      can = found.can;
      first = λ q g h w goes. ⊎_elim
          (λ e. here q g e goes)
          (λ l. false_from_ne_true (is_before (gone g) (gone f))
          (λ u. false≢true (sym (best.first q g l w goes)
          ∙ before_trans (gone g) (gone f) (gone b) u (ap (λ (n : List ℕ). is_before n (gone b)) found.named ∙ sooner))))
          (from_here q i h);
    }

-- the best of all places is the first of all that can go
pub best_is : (t : Tree) (b : Option FoldOrDrop) → IsBest t 0 b
    → MatchOption b (IsPurged (snapshots_in t) t.on) (λ f. IsFirst (snapshots_in t) t.on f)
best_is t None best = λ f can. let g = goes_somewhere t f can in best g.0 (omega arith) g.1 f g.2
best_is t (Some b) best = record {
  can = best.can;
  first = λ f can. let g = goes_somewhere t f can in best.first g.0 f (omega arith) g.1 g.2;
}
