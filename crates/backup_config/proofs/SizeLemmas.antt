-- Sizes of disks.
use Rattle.std.proofs.Common.{◌≡◌, ℕ, ◌<◌, ◌^◌, List, Option, Some, None}
use Rattle.std.proofs.Common.{refl, sym, ap, subst, ◌∙◌, arith, decimal}
use Rattle.std.proofs.lemmas.Fmt.{decimal_injective}
use Rattle.serde_json.specs.Data.{Data}
use Rattle.vol_units.specs.Size.{IsVolumeSize}
use Rattle.backup_config.specs.Kinds.{IsSize, IsToldSize, HasSize, HasDiskSize}
use Rattle.backup_config.proofs.Found.{same_value}

-- a text that is that of another number is of no size
pub no_size : (text : Option (List ℕ)) (k : ℕ) → k < 2 ^ 64 → text ≡ Some (decimal k) → (IsVolumeSize k → ⊥)
    → (n : ℕ) → IsSize text n → ⊥
no_size text k low is none n (has, good) =
    none (subst IsVolumeSize (decimal_injective n k (omega (arith, good.most)) low (same_value text has is)) good)

-- a text is of one size
one_size : (text : Option (List ℕ)) (a b : ℕ) → IsSize text a → IsSize text b → a ≡ b
one_size text a b (is, low) (too, small) =
    decimal_injective a b (omega (arith, low.most)) (omega (arith, small.most)) (same_value text is too)

one_told : (told a b : Option ℕ) → IsToldSize told a → IsToldSize told b → a ≡ b
one_told None a b is too = is ∙ sym too
one_told (Some n) a b (is, low) (too, small) = is ∙ sym too

pub one_volume_size : (found : Option Data) (a b : Option ℕ) → HasSize found a → HasSize found b → a ≡ b
one_volume_size None None None is too = refl
one_volume_size None None (Some b) is too = absurd too
one_volume_size None (Some a) b is too = absurd is
one_volume_size (Some d) None b is too = absurd is
one_volume_size (Some d) (Some a) None is too = absurd too
one_volume_size (Some d) (Some a) (Some b) is too = ap Some (one_size _ a b is too)

pub one_disk_size : (told : Option ℕ) (found : Option Data) (a b : Option ℕ) → HasDiskSize told found a
    → HasDiskSize told found b → a ≡ b
one_disk_size told None a b is too = one_told told a b is too
one_disk_size told (Some d) None b is too = absurd is
one_disk_size told (Some d) (Some a) None is too = absurd too
one_disk_size told (Some d) (Some a) (Some b) is too = ap Some (one_size _ a b is too)
