-- What is written of a layer is read as the same, and what bytes say of one is one.
use Rattle.std.proofs.Common.{◌≡◌, ◌≤◌, ℕ, false, List, Option, Some, None, Result, Ok, Err, IfOk, Vec, Global}
use Rattle.std.proofs.Common.{refl, sym, subst, ◌∙◌, arith}
use Rattle.std.specs.Str.{IsUtf8}
use Rattle.serde_json.specs.Data.{Data, string, depth}
use Rattle.serde_json.specs.Read.{read, max_depth}
use Rattle.serde_json.proofs.OnLiterals.{serde_json_on_literals}
use Rattle.chain_meta.specs.Answers.{IsObject}
use Rattle.chain_meta.specs.DiskMetas.{disk_data, HasDiskMembers, missing_of_disk, TellsDisk, IsGoodDisk}
use Rattle.chain_meta.specs.DiskMetas.{AnswersDisk, SaysDisk, IsOnlyDisk}
use Rattle.chain_meta.specs.ImageNames.{parent_text, IsImageName, IsGoodParent}
use Rattle.chain_meta.specs.Kinds.{HasKind, IsFlag, IsImage, IsParent}
use Rattle.chain_meta.specs.declared.disk_meta.DiskMembers.{DiskMembers}
use Rattle.chain_meta.specs.declared.disk_meta.DiskMeta.{DiskMeta}
use Rattle.chain_meta.specs.declared.error.MetaError.{MetaError}
use Rattle.chain_meta.proofs.Found.{same_value}
use Rattle.chain_meta.proofs.OneAnswer.{one_said, only_answer}
use Rattle.chain_meta.proofs.OneKind.{one_kind, one_flag, one_image, one_parent}

-- the members with which it is written
abbrev members_of : DiskMeta → DiskMembers
members_of m = record {
  created = m.created;
  name = Some m.name;
  parent = Some m.parent;
  removed = Some m.removed;
  user_created = m.user_created;
  backed = false;
}

pub has_parent : (parent : Option (List ℕ)) → IsGoodParent parent → IsParent (string (parent_text parent)) parent
has_parent None good = refl
has_parent (Some file) good = (refl, good)

has_members : (m : DiskMeta) → IsGoodDisk m → HasDiskMembers (disk_data m) (members_of m)
unfolding serde_json_on_literals
has_members m good = record {
  created = (refl, good.created);
  labels = refl;
  name = (refl, good.name);
  parent = has_parent m.parent good.parent;
  removed = refl;
  user_created = refl;
  backed = refl;
}

tells : (m : DiskMeta) → TellsDisk (members_of m) m
tells m = record { created = refl; name = refl; parent = refl; removed = refl; user_created = refl; backed = refl }

says : (m : DiskMeta) (bytes : List ℕ) → IsGoodDisk m → IsUtf8 bytes
    → (depth (disk_data m) ≤ max_depth → read bytes ≡ Some (disk_data m)) → SaysDisk bytes m
says m bytes good text reads =
    let object : IsObject bytes (disk_data m) = record { text = text; value = reads (omega arith); object = refl } in
    (members_of m, (disk_data m, object, has_members m good), tells m)

pub says_disk : {E : Type 0} (m : DiskMeta) (d : Data) (written : Result (Vec ℕ Global) E) → d ≡ disk_data m
    → IsGoodDisk m → IfOk written (λ b. IsUtf8 b.items)
    → IfOk written (λ b. depth d ≤ max_depth → read b.items ≡ Some d)
    → IfOk written (λ b. SaysDisk b.items m)
says_disk m d (Ok b) is good text reads =
    says m b.items good text (subst (λ x. depth x ≤ max_depth → read b.items ≡ Some x) is reads)
says_disk m d (Err e) is good text reads = tt

one_members : (d : Data) (a b : DiskMembers) → HasDiskMembers d a → HasDiskMembers d b → a ≡ b
one_members d a b is too =
    let created : a.created ≡ b.created = same_value _ is.created.0 too.created.0 in
    let name : a.name ≡ b.name = one_kind IsImage one_image _ a.name b.name is.name too.name in
    let parent : a.parent ≡ b.parent = one_kind IsParent one_parent _ a.parent b.parent is.parent too.parent in
    let removed : a.removed ≡ b.removed = one_kind IsFlag one_flag _ a.removed b.removed is.removed too.removed in
    let user : a.user_created ≡ b.user_created = same_value _ is.user_created too.user_created in
    let backed : a.backed ≡ b.backed = is.backed ∙ sym too.backed in
    λ i. record {
      created = created i;
      name = name i;
      parent = parent i;
      removed = removed i;
      user_created = user i;
      backed = backed i;
    }

one_meta : (m : DiskMembers) (a b : DiskMeta) → TellsDisk m a → TellsDisk m b → a ≡ b
one_meta m a b is too =
    let created : a.created ≡ b.created = sym is.created ∙ too.created in
    let name : a.name ≡ b.name = same_value m.name is.name too.name in
    let parent : a.parent ≡ b.parent = same_value m.parent is.parent too.parent in
    let removed : a.removed ≡ b.removed = same_value m.removed is.removed too.removed in
    let user : a.user_created ≡ b.user_created = sym is.user_created ∙ too.user_created in
    λ i. record { created = created i; name = name i; parent = parent i; removed = removed i; user_created = user i }

whole : (m : DiskMembers) (meta : DiskMeta) → TellsDisk m meta → missing_of_disk m ≡ None
whole m meta is = rw (is.name, is.parent, is.removed) refl

-- bytes say one thing of a layer
pub one_disk : (bytes : List ℕ) (a b : DiskMeta) → SaysDisk bytes a → SaysDisk bytes b → a ≡ b
one_disk =
    one_said HasDiskMembers missing_of_disk (λ m. m.backed) TellsDisk one_members one_meta whole
    (λ m meta is. is.backed)

pub only_disk : (bytes : List ℕ) (answer : Result DiskMeta MetaError) → AnswersDisk bytes answer
    → IsOnlyDisk bytes answer
only_disk =
    only_answer HasDiskMembers missing_of_disk (λ m. m.backed) TellsDisk one_members one_meta whole
    (λ m meta is. is.backed)

image_told : (found : Option Data) (value : Option (List ℕ)) (file : List ℕ) → HasKind IsImage found value → value ≡ Some file
    → IsImageName file
image_told None None file has e = absurd (cc)
image_told None (Some v) file has e = absurd has
image_told (Some d) None file has e = absurd has
image_told (Some d) (Some v) file has e = let same : v ≡ file = cc in subst IsImageName same has.1

-- what bytes say of a layer names an image
pub names_image : (bytes : List ℕ) (m : DiskMeta) → SaysDisk bytes m → IsImageName m.name
names_image bytes m (members, (d, object, has), is) = image_told _ members.name m.name has.name is.name
