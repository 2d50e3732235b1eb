-- The sizes that a volume may have. Its pages of 2 MiB are as large as the blocks of Longhorn's backups.
use Rattle.std.specs.Prelude.{◌≡◌, ℕ, ◌%◌, ◌≤◌}

-- whole pages, from one page to 1 GiB
pub record IsVolumeSize (bytes : ℕ) : Type 0 where
  pub whole : bytes % 2097152 ≡ 0
  pub least : 2097152 ≤ bytes
  pub most : bytes ≤ 1073741824
