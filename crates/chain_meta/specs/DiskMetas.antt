-- The metadata of a layer, as JSON. The format is this project's profile of what Longhorn's replicas write.
use Rattle.std.specs.Prelude.{◌≡◌, ℕ, Bool, true, false, List, codes, Option, Some, None, Result}
use Rattle.serde_json.specs.Data.{Data, boolean, string, object, member, no_members}
use Rattle.serde_json.specs.Find.{get}
use Rattle.vol_units.specs.Time.{IsTimeText}
use Rattle.chain_meta.specs.ImageNames.{IsImageName, parent_text, IsGoodParent}
use Rattle.chain_meta.specs.Kinds.{HasKind, IsFlag, IsImage, IsParent, HasCreated, HasFlagOrFalse}
use Rattle.chain_meta.specs.Kinds.{are_labels, has_backing}
use Rattle.chain_meta.specs.declared.disk_meta.DiskMeta.{DiskMeta}
use Rattle.chain_meta.specs.declared.disk_meta.DiskMembers.{DiskMembers}
use Rattle.chain_meta.specs.declared.error.MetaMember.{MetaMember}
use Rattle.chain_meta.specs.declared.error.MetaError.{MetaError}
use Rattle.chain_meta.specs.declared.error.MetaMember.TheVariants.{Name, Parent, Removed}
use Rattle.chain_meta.specs.Answers.{Answers, Completes, Says, Refuses, IsOnlyAnswer}

-- what is written of a layer
abbrev pub disk_data : DiskMeta → Data
disk_data m = object (member (codes "Created") (string m.created)
    (member (codes "Labels") (object no_members)
    (member (codes "Name") (string m.name)
    (member (codes "Parent") (string (parent_text m.parent))
    (member (codes "Removed") (boolean m.removed)
    (member (codes "UserCreated") (boolean m.user_created) no_members))))))

-- the members of an object are these, and each is of the kind that it may have
pub record HasDiskMembers (d : Data) (m : DiskMembers) : Type 0 where
  pub created : HasCreated (get (codes "Created") d) m.created
  pub labels : are_labels (get (codes "Labels") d) ≡ true
  pub name : HasKind IsImage (get (codes "Name") d) m.name
  pub parent : HasKind IsParent (get (codes "Parent") d) m.parent
  pub removed : HasKind IsFlag (get (codes "Removed") d) m.removed
  pub user_created : HasFlagOrFalse (get (codes "UserCreated") d) m.user_created
  pub backed : m.backed ≡ has_backing d

-- the first member that has to be there and is missing
abbrev pub missing_of_disk : DiskMembers → Option MetaMember
missing_of_disk m = first_of m.name m.parent m.removed
  where
    first_of : Option (List ℕ) → Option (Option (List ℕ)) → Option Bool → Option MetaMember
    first_of None parent removed = Some Name
    first_of (Some name) None removed = Some Parent
    first_of (Some name) (Some parent) None = Some Removed
    first_of (Some name) (Some parent) (Some removed) = None

-- no member is missing, no backing file is named, and the members say this
pub record TellsDisk (m : DiskMembers) (meta : DiskMeta) : Type 0 where
  pub created : m.created ≡ meta.created
  pub name : m.name ≡ Some meta.name
  pub parent : m.parent ≡ Some meta.parent
  pub removed : m.removed ≡ Some meta.removed
  pub user_created : m.user_created ≡ meta.user_created
  pub backed : m.backed ≡ false

-- what each value of the type keeps
pub record IsGoodDisk (m : DiskMeta) : Type 0 where
  pub created : IsTimeText m.created
  pub name : IsImageName m.name
  pub parent : IsGoodParent m.parent

-- the answer is true of the bytes
abbrev pub AnswersDisk : List ℕ → Result DiskMeta MetaError → Type 0
AnswersDisk = Answers HasDiskMembers missing_of_disk (λ m. m.backed) TellsDisk

-- what members say of a layer
abbrev pub CompletesDisk : DiskMembers → Result DiskMeta MetaError → Type 0
CompletesDisk = Completes HasDiskMembers missing_of_disk (λ m. m.backed) TellsDisk

-- the bytes say this of a layer
abbrev pub SaysDisk : List ℕ → DiskMeta → Type 0
SaysDisk = Says HasDiskMembers missing_of_disk (λ m. m.backed) TellsDisk

-- why bytes say nothing of a layer
abbrev pub RefusesDisk : List ℕ → MetaError → Type 0
RefusesDisk = Refuses HasDiskMembers missing_of_disk (λ m. m.backed) TellsDisk

-- but for want of memory no other answer is true of the bytes
abbrev pub IsOnlyDisk : List ℕ → Result DiskMeta MetaError → Type 0
IsOnlyDisk = IsOnlyAnswer HasDiskMembers missing_of_disk (λ m. m.backed) TellsDisk
