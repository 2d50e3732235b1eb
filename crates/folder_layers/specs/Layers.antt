-- Which snapshots may be the layers of one replica: each stands on one of them or on none, none on itself over others, and
-- the engine's own names are of heads before this one.
use Rattle.std.specs.Prelude.{◌≡◌, ℕ, ◌+◌, ◌<◌, ◌≤◌, true, List, length, Some, Contains}
use Rattle.vol_units.specs.Name.{begins_sys, sys_name}
use Rattle.chain_meta.specs.declared.disk_meta.DiskMeta.{DiskMeta}
use Rattle.folder_checks.specs.Snapshots.{name_at, told_at}
use Rattle.folder_layers.specs.declared.misfit.Misfit.{Misfit}
use Rattle.folder_layers.specs.declared.misfit.Misfit.TheVariants as at

-- ---- what is told of snapshots: the image of each, and that of its parent

-- some snapshot has that image
abbrev pub HasImage : List DiskMeta → List ℕ → Type 0
HasImage metas image = (m : DiskMeta) × Contains metas m × (m.name ≡ image)

-- the parent of that layer, if it has one, is a snapshot
abbrev pub StandsOnOne : List DiskMeta → DiskMeta → Type 0
StandsOnOne metas layer = (image : List ℕ) → layer.parent ≡ Some image → HasImage metas image

-- the upper stands on the snapshot of the lower image, or on one that does, and so on down
pub data IsAbove (metas : List DiskMeta) (lower : List ℕ) : List ℕ → Type 0 where
  IsChild : {upper : List ℕ} (m : DiskMeta) → Contains metas m → m.name ≡ upper → m.parent ≡ Some lower → IsAbove metas lower upper
  IsFurther : {upper : List ℕ} (m : DiskMeta) (next : List ℕ) → Contains metas m → m.name ≡ upper → m.parent ≡ Some next
      → IsAbove metas lower next → IsAbove metas lower upper

-- a name that the engine gives is of a head before the one of that number
abbrev pub IsEarlier : ℕ → List ℕ → Type 0
IsEarlier number name = begins_sys name ≡ true → (n : ℕ) × (n < number) × (name ≡ sys_name n)

-- the snapshot of that name may be a layer below a head of that number
pub record MayBeLayer (number : ℕ) (metas : List DiskMeta) (name : List ℕ) (m : DiskMeta) : Type 0 where
  pub stands : StandsOnOne metas m
  pub no_ring : IsAbove metas m.name m.name → ⊥
  pub before : IsEarlier number name

-- the first snapshots, so many, may
abbrev pub AreFitBelow : ℕ → List (List ℕ) → List DiskMeta → ℕ → Type 0
AreFitBelow number names metas count =
    (place : ℕ) → place < count → MayBeLayer number metas (name_at names place) (told_at metas place)

-- the snapshot at that place is the first that may not
pub record IsFirstUnfit (number : ℕ) (names : List (List ℕ)) (metas : List DiskMeta) (place : ℕ) : Type 0 where
  pub within : place < length metas
  pub before : AreFitBelow number names metas place
  pub unfit : MayBeLayer number metas (name_at names place) (told_at metas place) → ⊥

-- ---- the head, and all of them

-- the head and the snapshots may be the layers of one replica
pub record AreFit (number : ℕ) (head : DiskMeta) (names : List (List ℕ)) (metas : List DiskMeta) : Type 0 where
  pub head_stands : StandsOnOne metas head
  pub snapshots : AreFitBelow number names metas (length metas)
  pub few : length metas + 1 ≤ 250

-- the first that may not: the head, then the snapshots in their order, and where all may, the first that is too many
pub data IsMisfit (number : ℕ) (head : DiskMeta) (names : List (List ℕ)) (metas : List DiskMeta) : Misfit → Type 0 where
  HeadStandsOnNone : (StandsOnOne metas head → ⊥) → IsMisfit number head names metas at.Head
  IsFirst : (place : ℕ) → place < length metas → StandsOnOne metas head → AreFitBelow number names metas place
      → (MayBeLayer number metas (name_at names place) (told_at metas place) → ⊥) → IsMisfit number head names metas (at.Snapshot place)
  AreTooMany : StandsOnOne metas head → AreFitBelow number names metas (length metas) → 250 < length metas + 1
      → IsMisfit number head names metas (at.Snapshot 249)
