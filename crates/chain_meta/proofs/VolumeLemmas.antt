-- What is written of the volume is read as the same, and what bytes say of it is one.
use Rattle.std.proofs.Common.{◌≡◌, ◌<◌, ◌≤◌, ◌^◌, ℕ, Bool, true, false, List, Some, None, Result, Ok, Err, IfOk}
use Rattle.std.proofs.Common.{Vec, Global, inl, refl, sym, subst, ◌∙◌, arith}
use Rattle.std.specs.Str.{IsUtf8}
use Rattle.serde_json.specs.Data.{Data, string, depth}
use Rattle.serde_json.specs.Read.{read, max_depth}
use Rattle.serde_json.proofs.OnLiterals.{serde_json_on_literals}
use Rattle.chain_meta.specs.Answers.{IsObject}
use Rattle.chain_meta.specs.ImageNames.{head_file, IsGoodParent}
use Rattle.chain_meta.specs.Kinds.{IsFlag, IsParent, IsHead, IsSize, HasError, largest_head}
use Rattle.chain_meta.specs.VolumeMetas.{volume_data, error_text, HasVolumeMembers, missing_of_volume, TellsVolume}
use Rattle.chain_meta.specs.VolumeMetas.{AnswersVolume, SaysVolume, IsOnlyVolume}
use Rattle.chain_meta.specs.declared.error.MetaError.{MetaError}
use Rattle.chain_meta.specs.declared.volume_meta.VolumeMembers.{VolumeMembers}
use Rattle.chain_meta.specs.declared.volume_meta.VolumeMeta.{VolumeMeta}
use Rattle.chain_meta.proofs.DiskLemmas.{has_parent}
use Rattle.chain_meta.proofs.Found.{same_value}
use Rattle.chain_meta.proofs.OneAnswer.{one_said, only_answer}
use Rattle.chain_meta.proofs.OneKind.{one_kind, one_flag, one_head, one_parent, one_size}

-- the members with which it is written
abbrev members_of : VolumeMeta → VolumeMembers
members_of m = record {
  dirty = Some m.dirty;
  rebuilding = Some m.rebuilding;
  failed = m.failed;
  head = Some m.head;
  parent = Some m.parent;
  size = Some m.size;
  backed = false;
}

has_error : (failed : Bool) → HasError (Some (string (error_text failed))) failed
has_error true = refl
has_error false = refl

has_members : (m : VolumeMeta) → m.head < 2 ^ 64 → m.head ≤ largest_head → IsGoodParent m.parent
    → HasVolumeMembers (volume_data m) (members_of m)
unfolding serde_json_on_literals
has_members m small low good = record {
  dirty = refl;
  rebuilding = refl;
  failed = has_error m.failed;
  head = (head_file m.head, refl, (small, refl), low);
  parent = has_parent m.parent good;
  size = inl refl;
  backed = refl;
}

tells : (m : VolumeMeta) → TellsVolume (members_of m) m
tells m = record {
  dirty = refl;
  rebuilding = refl;
  failed = refl;
  head = refl;
  parent = refl;
  size = refl;
  backed = refl;
}

says : (m : VolumeMeta) (bytes : List ℕ) → m.head ≤ largest_head → IsGoodParent m.parent → IsUtf8 bytes
    → (depth (volume_data m) ≤ max_depth → read bytes ≡ Some (volume_data m)) → SaysVolume bytes m
says m bytes low good text reads =
    let object : IsObject bytes (volume_data m) = record { text = text; value = reads (omega arith); object = refl } in
    (members_of m, (volume_data m, object, has_members m (omega arith) low good), tells m)

pub says_volume : {E : Type 0} (m : VolumeMeta) (d : Data) (written : Result (Vec ℕ Global) E) → d ≡ volume_data m
    → IsGoodParent m.parent → IfOk written (λ b. IsUtf8 b.items)
    → IfOk written (λ b. depth d ≤ max_depth → read b.items ≡ Some d)
    → IfOk written (λ b. m.head ≤ largest_head → SaysVolume b.items m)
says_volume m d (Ok b) is good text reads = λ low.
    says m b.items low good text (subst (λ x. depth x ≤ max_depth → read b.items ≡ Some x) is reads)
says_volume m d (Err e) is good text reads = tt

one_members : (d : Data) (a b : VolumeMembers) → HasVolumeMembers d a → HasVolumeMembers d b → a ≡ b
one_members d a b is too =
    let dirty : a.dirty ≡ b.dirty = one_kind IsFlag one_flag _ a.dirty b.dirty is.dirty too.dirty in
    let rebuilding : a.rebuilding ≡ b.rebuilding =
    one_kind IsFlag one_flag _ a.rebuilding b.rebuilding is.rebuilding too.rebuilding in
    let failed : a.failed ≡ b.failed = same_value _ is.failed too.failed in
    let head : a.head ≡ b.head = one_kind IsHead one_head _ a.head b.head is.head too.head in
    let parent : a.parent ≡ b.parent = one_kind IsParent one_parent _ a.parent b.parent is.parent too.parent in
    let size : a.size ≡ b.size = one_kind IsSize one_size _ a.size b.size is.size too.size in
    let backed : a.backed ≡ b.backed = is.backed ∙ sym too.backed in
    λ i. record {
      dirty = dirty i;
      rebuilding = rebuilding i;
      failed = failed i;
      head = head i;
      parent = parent i;
      size = size i;
      backed = backed i;
    }

one_meta : (m : VolumeMembers) (a b : VolumeMeta) → TellsVolume m a → TellsVolume m b → a ≡ b
one_meta m a b is too =
    let dirty : a.dirty ≡ b.dirty = same_value m.dirty is.dirty too.dirty in
    let rebuilding : a.rebuilding ≡ b.rebuilding = same_value m.rebuilding is.rebuilding too.rebuilding in
    let failed : a.failed ≡ b.failed = sym is.failed ∙ too.failed in
    let head : a.head ≡ b.head = same_value m.head is.head too.head in
    let parent : a.parent ≡ b.parent = same_value m.parent is.parent too.parent in
    let size : a.size ≡ b.size = same_value m.size is.size too.size in
    λ i. record {
      dirty = dirty i;
      rebuilding = rebuilding i;
      failed = failed i;
      head = head i;
      parent = parent i;
      size = size i;
    }

whole : (m : VolumeMembers) (meta : VolumeMeta) → TellsVolume m meta → missing_of_volume m ≡ None
whole m meta is = rw (is.dirty, is.rebuilding, is.head, is.parent, is.size) refl

-- bytes say one thing of the volume
pub one_volume : (bytes : List ℕ) (a b : VolumeMeta) → SaysVolume bytes a → SaysVolume bytes b → a ≡ b
one_volume =
    one_said HasVolumeMembers missing_of_volume (λ m. m.backed) TellsVolume one_members one_meta whole
    (λ m meta is. is.backed)

pub only_volume : (bytes : List ℕ) (answer : Result VolumeMeta MetaError) → AnswersVolume bytes answer
    → IsOnlyVolume bytes answer
only_volume =
    only_answer HasVolumeMembers missing_of_volume (λ m. m.backed) TellsVolume one_members one_meta whole
    (λ m meta is. is.backed)
