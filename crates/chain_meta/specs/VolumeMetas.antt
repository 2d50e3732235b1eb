-- The metadata of the volume, as JSON. The format is this project's profile of what Longhorn's replicas write.
use Rattle.std.specs.Prelude.{◌≡◌, ◌<◌, ◌^◌, ℕ, Bool, false, if◌then◌else◌, List, codes, Option, Some, None, Result}
use Rattle.serde_json.specs.Data.{Data, boolean, string, number, unsigned, object, member, no_members}
use Rattle.serde_json.specs.Find.{get}
use Rattle.chain_meta.specs.ImageNames.{head_file, parent_text, IsGoodParent}
use Rattle.chain_meta.specs.Kinds.{HasKind, IsFlag, IsParent, IsHead, IsSize, HasError, has_backing}
use Rattle.chain_meta.specs.declared.error.MetaMember.{MetaMember}
use Rattle.chain_meta.specs.declared.error.MetaError.{MetaError}
use Rattle.chain_meta.specs.declared.error.MetaMember.TheVariants.{Parent, Dirty, Rebuilding, Head, Size}
use Rattle.chain_meta.specs.declared.volume_meta.VolumeMeta.{VolumeMeta}
use Rattle.chain_meta.specs.declared.volume_meta.VolumeMembers.{VolumeMembers}
use Rattle.chain_meta.specs.Answers.{Answers, Completes, Says, Refuses, IsOnlyAnswer}

-- the text that tells of a replica in ERR
abbrev pub error_text : Bool → List ℕ
error_text failed = if failed then codes "ERR" else codes ""

-- what is written of the volume
abbrev pub volume_data : VolumeMeta → Data
volume_data m = object (member (codes "Dirty") (boolean m.dirty)
    (member (codes "Error") (string (error_text m.failed))
    (member (codes "Head") (string (head_file m.head))
    (member (codes "Parent") (string (parent_text m.parent))
    (member (codes "Rebuilding") (boolean m.rebuilding)
    (member (codes "SectorSize") (number (unsigned 512))
    (member (codes "Size") (number (unsigned m.size)) no_members)))))))

-- the members of an object are these, and each is of the kind that it may have
pub record HasVolumeMembers (d : Data) (m : VolumeMembers) : Type 0 where
  pub dirty : HasKind IsFlag (get (codes "Dirty") d) m.dirty
  pub rebuilding : HasKind IsFlag (get (codes "Rebuilding") d) m.rebuilding
  pub failed : HasError (get (codes "Error") d) m.failed
  pub head : HasKind IsHead (get (codes "Head") d) m.head
  pub parent : HasKind IsParent (get (codes "Parent") d) m.parent
  pub size : HasKind IsSize (get (codes "Size") d) m.size
  pub backed : m.backed ≡ has_backing d

-- the first member that has to be there and is missing
abbrev pub missing_of_volume : VolumeMembers → Option MetaMember
missing_of_volume m = first_of m.dirty m.rebuilding m.head m.parent m.size
  where
    first_of : Option Bool → Option Bool → Option ℕ → Option (Option (List ℕ)) → Option ℕ → Option MetaMember
    first_of None rebuilding head parent size = Some Dirty
    first_of (Some dirty) None head parent size = Some Rebuilding
    first_of (Some dirty) (Some rebuilding) None parent size = Some Head
    first_of (Some dirty) (Some rebuilding) (Some head) None size = Some Parent
    first_of (Some dirty) (Some rebuilding) (Some head) (Some parent) None = Some Size
    first_of (Some dirty) (Some rebuilding) (Some head) (Some parent) (Some size) = None

-- no member is missing, no backing file is named, and the members say this
pub record TellsVolume (m : VolumeMembers) (meta : VolumeMeta) : Type 0 where
  pub dirty : m.dirty ≡ Some meta.dirty
  pub rebuilding : m.rebuilding ≡ Some meta.rebuilding
  pub failed : m.failed ≡ meta.failed
  pub head : m.head ≡ Some meta.head
  pub parent : m.parent ≡ Some meta.parent
  pub size : m.size ≡ Some meta.size
  pub backed : m.backed ≡ false

-- what each value of the type keeps
pub record IsGoodVolume (m : VolumeMeta) : Type 0 where
  pub head : m.head < 2 ^ 64
  pub parent : IsGoodParent m.parent
  pub size : m.size < 2 ^ 64

-- the answer is true of the bytes
abbrev pub AnswersVolume : List ℕ → Result VolumeMeta MetaError → Type 0
AnswersVolume = Answers HasVolumeMembers missing_of_volume (λ m. m.backed) TellsVolume

-- what members say of the volume
abbrev pub CompletesVolume : VolumeMembers → Result VolumeMeta MetaError → Type 0
CompletesVolume = Completes HasVolumeMembers missing_of_volume (λ m. m.backed) TellsVolume

-- the bytes say this of the volume
abbrev pub SaysVolume : List ℕ → VolumeMeta → Type 0
SaysVolume = Says HasVolumeMembers missing_of_volume (λ m. m.backed) TellsVolume

-- why bytes say nothing of the volume
abbrev pub RefusesVolume : List ℕ → MetaError → Type 0
RefusesVolume = Refuses HasVolumeMembers missing_of_volume (λ m. m.backed) TellsVolume

-- but for want of memory no other answer is true of the bytes
abbrev pub IsOnlyVolume : List ℕ → Result VolumeMeta MetaError → Type 0
IsOnlyVolume = IsOnlyAnswer HasVolumeMembers missing_of_volume (λ m. m.backed) TellsVolume
