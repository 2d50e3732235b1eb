-- When a snapshot may be a layer, as it is found out.
use Rattle.std.proofs.Common.{◌≡◌, ℕ, ◌<◌, ◌^◌, Bool, true, false, not, nat_lt, List, ◌++◌, length, get_or, Option, take, drop}
use Rattle.std.proofs.Common.{refl, sym, ap, subst, ◌∙◌, arith, codes, decimal}
use Rattle.std.specs.Prelude.{◌↔◌, IsTrue}
use Rattle.std.proofs.lemmas.Bool.{false≢true, ltb-true, lt-ltb}
use Rattle.std.proofs.lemmas.Fmt.{decimal_injective}
use Rattle.std.proofs.lemmas.List.{append_cancel_left, take-append-drop, length-map}
use Rattle.std.proofs.lemmas.Slice.Eq.{bytes_eq-Decides}
use Rattle.vol_units.specs.Name.{begins_sys}
use Rattle.chain_meta.specs.declared.disk_meta.DiskMeta.{DiskMeta}
use Rattle.folder_checks.specs.Snapshots.{AreSnapshotMetas, name_at, told_at, metas_of}
use Rattle.folder_checks.specs.declared.parts.ImageParts.{ImageParts}
use Rattle.folder_layers.specs.Layers.{StandsOnOne, IsEarlier, MayBeLayer, AreFitBelow}
use Rattle.folder_layers.specs.Parents.{IsParentOf, AreParents, parent_at}
use Rattle.folder_layers.specs.Rings.{ComesBack}
use Rattle.folder_layers.proofs.ParentLemmas.{told_meta}
use Rattle.folder_layers.proofs.RingLemmas.{back_is_ring, ring_is_back}

-- ---- snapshots at their places

pub metas_count : (snapshots : List ImageParts) → length (metas_of snapshots) ≡ length snapshots
metas_count snapshots = length-map snapshots (λ (p : ImageParts). p.meta)

-- what is so of all of them, by their count
pub fit_all : (number : ℕ) (names : List (List ℕ)) (snapshots : List ImageParts)
    → AreFitBelow number names (metas_of snapshots) (length snapshots)
    → AreFitBelow number names (metas_of snapshots) (length (metas_of snapshots))
fit_all number names snapshots = subst (AreFitBelow number names (metas_of snapshots)) (sym (metas_count snapshots))

-- what is found out of the parent at a place is so of what is told there
pub stands_at : (snapshots : List ImageParts) (parents : List (Option ℕ)) (place : ℕ) (default : ImageParts) (stands : Bool)
    → AreParents (metas_of snapshots) parents → place < length snapshots
    → ((metas : List DiskMeta) → IsParentOf metas (get_or snapshots place default).meta (parent_at parents place)
    → IsTrue stands ↔ StandsOnOne metas (get_or snapshots place default).meta)
    → IsTrue stands ↔ StandsOnOne (metas_of snapshots) (told_at (metas_of snapshots) place)
stands_at snapshots parents place default stands are within found =
    let metas = metas_of snapshots in
    let told : told_at metas place ≡ (get_or snapshots place default).meta = told_meta snapshots place default within in
    let inside : place < length metas = omega (arith, metas_count snapshots) in
    let by = found metas (subst (λ m. IsParentOf metas m (parent_at parents place)) told (are.each place inside)) in
    subst (λ m. IsTrue stands ↔ StandsOnOne metas m) (sym told) by

-- ---- names that the engine gives

-- what a name that begins so has behind it
pub sys_front : (name rest : List ℕ) → begins_sys name ≡ true → rest ≡ drop 4 name → name ≡ codes "sys-" ++ rest
sys_front name rest begins is =
    let front : codes "sys-" ≡ take 4 name = (bytes_eq-Decides (codes "sys-") (take 4 name)).0 begins in
    sym (take-append-drop 4 name) ∙ (ap (λ s. s ++ drop 4 name) (sym front) ∙ ap (λ s. codes "sys-" ++ s) (sym is))

-- a name of that number is that of no other, and so is earlier where the number is
pub earlier_by : (number : ℕ) (name rest : List ℕ) (own : ℕ) → number < 2 ^ 64 → own < 2 ^ 64 → name ≡ codes "sys-" ++ rest
    → rest ≡ decimal own → begins_sys name ≡ true → IsTrue (nat_lt own number) ↔ IsEarlier number name
earlier_by number name rest own low small is has begins = (
  λ less said. (own, ltb-true own number less, is ∙ ap (λ s. codes "sys-" ++ s) has),
  λ earlier. let n = earlier begins in
      let same : decimal own ≡ decimal n.0 = sym has ∙ append_cancel_left (codes "sys-") rest (decimal n.0) (sym is ∙ n.2) in
      let equal : own ≡ n.0 = decimal_injective own n.0 small (omega (arith, n.1)) same in
      lt-ltb own number (omega (arith, n.1)),
)

-- ---- all of it

module _ (number : ℕ) (names : List (List ℕ)) (metas : List DiskMeta) (parents : List (Option ℕ)) (listed : AreSnapshotMetas names metas)
    (are : AreParents metas parents) (place : ℕ) (inside : place < length metas) where
  pub fit_by : (back : Bool) → StandsOnOne metas (told_at metas place) → IsEarlier number (name_at names place)
      → (IsTrue back ↔ ComesBack parents place) → IsTrue (not back) ↔ MayBeLayer number metas (name_at names place) (told_at metas place)
  fit_by true stands earlier is = (
    λ no. absurd (cc),
    λ fit. absurd (fit.no_ring (back_is_ring names metas parents listed are place (is.0 refl))),
  )
  fit_by false stands earlier is = (
    λ yes. record {
      stands = stands;
      no_ring = λ ring. false≢true (is.1 (ring_is_back names metas parents listed are place inside ring));
      before = earlier;
    },
    λ fit. refl,
  )
