-- What is written of a volume is read as the same.
use Rattle.std.proofs.Common.{◌≡◌, ℕ, ◌≤◌, false, List, length, Option, None, Some}
use Rattle.std.proofs.Common.{Result, Ok, Err, IfOk, Vec, Global, inl, refl, ap, subst, ◌∙◌, arith}
use Rattle.std.specs.Str.{IsUtf8}
use Rattle.serde_json.specs.Data.{Data, depth}
use Rattle.serde_json.specs.Read.{read, max_depth}
use Rattle.serde_json.specs.Written.{compact_text, has_float}
use Rattle.serde_json.proofs.OnLiterals.{serde_json_on_literals}
use Rattle.backup_config.specs.Answers.{largest_cfg}
use Rattle.backup_config.specs.Kinds.{IsLast}
use Rattle.backup_config.specs.VolumeCfgs.{volume_data, last_text, IsGoodLast, HasVolumeMembers, SaysVolume, IsGoodVolume}
use Rattle.backup_config.specs.declared.volume_cfg.VolumeCfg.{VolumeCfg}
use Rattle.backup_config.specs.declared.volume_cfg.VolumeMembers.{VolumeMembers}

-- the members with which it is written
abbrev written_members : VolumeCfg → VolumeMembers
written_members cfg = record { created = cfg.created; last = cfg.last; size = Some cfg.size; backed = false }

last_back : (last : Option (List ℕ)) → IsGoodLast last → IsLast (Some (last_text last)) last
last_back None good = λ named. omega (arith, named.spelled.some)
last_back (Some name) good = (refl, good)

has_members : (cfg : VolumeCfg) → IsGoodVolume cfg → HasVolumeMembers (volume_data cfg) (written_members cfg)
unfolding serde_json_on_literals
has_members cfg good = record {
  created = inl (good.created, refl);
  last = last_back cfg.last good.last;
  size = (refl, good.size);
  backed = refl;
}

says : (cfg : VolumeCfg) (bytes : List ℕ) → IsGoodVolume cfg → IsUtf8 bytes → length bytes ≤ largest_cfg
    → read bytes ≡ Some (volume_data cfg) → SaysVolume cfg.name bytes (Ok cfg)
says cfg bytes good text short reads = (
  written_members cfg,
  (volume_data cfg, record { most = short; text = text; value = reads; object = refl }, has_members cfg good),
  refl,
)

pub says_volume : {E : Type 0} (cfg : VolumeCfg) (d : Data) (r : Result (Vec ℕ Global) E) → d ≡ volume_data cfg
    → IsGoodVolume cfg → IfOk r (λ b. IsUtf8 b.items) → IfOk r (λ b. length b.items ≤ largest_cfg)
    → IfOk r (λ b. depth d ≤ max_depth → read b.items ≡ Some d) → IfOk r (λ b. SaysVolume cfg.name b.items (Ok cfg))
says_volume cfg d (Ok b) is good text short reads =
    says cfg b.items good text short (subst (λ x. depth x ≤ max_depth → read b.items ≡ Some x) is reads (omega arith))
says_volume cfg d (Err e) is good text short reads = tt

pub text_of : {E : Type 0} (cfg : VolumeCfg) (d : Data) (r : Result (Vec ℕ Global) E) → d ≡ volume_data cfg
    → IfOk r (λ b. has_float d ≡ false → b.items ≡ compact_text d) → IfOk r (λ b. b.items ≡ compact_text (volume_data cfg))
text_of cfg d (Ok b) is text = text (ap has_float is) ∙ ap compact_text is
text_of cfg d (Err e) is text = tt
