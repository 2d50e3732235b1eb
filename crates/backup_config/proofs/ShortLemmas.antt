-- What is written of a backup and of a volume is short enough to be read.
use Rattle.std.proofs.Common.{◌≡◌, ℕ, suc, ◌+◌, ◌*◌, ◌<◌, ◌≤◌, ◌^◌, Bool, true, false, cond, codes, decimal}
use Rattle.std.proofs.Common.{List, [], ◌∷◌, ◌++◌, map, length, Option, Some, None, Result, Ok, Err, IfOk, Vec, Global}
use Rattle.std.proofs.Common.{sym, subst, arith, length-append}
use Rattle.std.proofs.lemmas.Fmt.{length-decimal-le}
use Rattle.json.specs.Print.{escape_byte, escape, quoted}
use Rattle.serde_json.specs.Data.{Data, string, number, array, unsigned, Members, member, no_members}
use Rattle.serde_json.specs.View.{items_of}
use Rattle.serde_json.specs.Written.{compact_text, items_text, members_text, comma_if}
use Rattle.digest.specs.Digest.{IsDigest}
use Rattle.backup_config.specs.Answers.{largest_cfg}
use Rattle.backup_config.specs.BackupCfgs.{block_data, backup_data, IsGoodBackup}
use Rattle.backup_config.specs.Lists.{listed_from, size_of, AreEntries}
use Rattle.backup_config.specs.VolumeCfgs.{volume_data, last_text, IsGoodLast, IsGoodVolume}
use Rattle.backup_config.specs.declared.backup_cfg.BackupCfg.{BackupCfg}
use Rattle.backup_config.specs.declared.volume_cfg.VolumeCfg.{VolumeCfg}
use Rattle.backup_config.proofs.ListLemmas.{listed_short}

-- ---- texts in quotes

escaped_short : (letter x u v : ℕ) (has control : Bool)
    → length (cond has (92 ∷ letter ∷ []) (cond control (92 ∷ 117 ∷ 48 ∷ 48 ∷ u ∷ v ∷ []) (x ∷ []))) ≤ 6
escaped_short letter x u v true control = omega arith
escaped_short letter x u v false true = omega arith
escaped_short letter x u v false false = omega arith

short_byte : (x : ℕ) → length (escape_byte x) ≤ 6
unfolding escape_byte
short_byte x = escaped_short _ x _ _ _ _

short_escape : (s : List ℕ) → length (escape s) ≤ 6 * length s
short_escape [] = omega arith
short_escape (x ∷ s) = omega (arith, length-append (escape_byte x) (escape s), short_byte x, short_escape s)

short_quoted : (s : List ℕ) (most : ℕ) → length s ≤ most → length (quoted s) ≤ 6 * most + 2
short_quoted s most few = omega (arith, length-append (escape s) (34 ∷ []), short_escape s, few)

-- ---- members

comma_short : (later : Bool) → length (comma_if later) ≤ 1
comma_short true = omega arith
comma_short false = omega arith

-- a member takes its key, its value, and some signs
member_short : (later : Bool) (k : List ℕ) (d : Data) (ms : Members) (value more : ℕ)
    → length k ≤ 20 → length (compact_text d) ≤ value → length (members_text true ms) ≤ more
    → length (members_text later (member k d ms)) ≤ 130 + (value + more)
member_short later k d ms value more a b c =
    let rest = compact_text d ++ members_text true ms in
    omega (
      arith,
      length-append (comma_if later) (quoted k ++ 58 ∷ rest),
      length-append (quoted k) (58 ∷ rest),
      length-append (compact_text d) (members_text true ms),
      comma_short later,
      short_quoted k 20 a,
      b,
      c,
    )

digits_short : (n : ℕ) → n < 2 ^ 64 → length (decimal n) ≤ 20
digits_short n small = length-decimal-le 20 n (omega arith) (omega arith) small

-- a number as a text
number_short : (n : ℕ) → n < 2 ^ 64 → length (quoted (decimal n)) ≤ 122
number_short n small = short_quoted (decimal n) 20 (digits_short n small)

-- ---- the blocks

block_short : (page : ℕ) (checksum : List ℕ) → page < 512 → IsDigest checksum
    → length (compact_text (block_data (record { page = page; checksum = checksum }))) ≤ 700
block_short page checksum low good =
    let offset = member (codes "Offset") (number (unsigned (page * 2097152))) no_members in
    let last = member_short true (codes "Offset") (number (unsigned (page * 2097152))) no_members 20 1 (omega arith)
    (digits_short (page * 2097152) (omega (arith, low))) (omega arith) in
    let all = member_short false (codes "BlockChecksum") (string checksum) offset 386 151 (omega arith)
    (short_quoted checksum 64 (omega (arith, good.size))) last in
    omega (arith, all)

items_short : (later : Bool) (blocks : List (Option (List ℕ))) (p : ℕ) → AreEntries blocks → p + length blocks ≤ 512
    → length (items_text later (items_of (map block_data (listed_from p blocks)))) ≤ 1 + 701 * length blocks
unfolding listed_from
items_short later [] p good few = omega arith
items_short later (None ∷ more) p good few =
    omega (arith, items_short later more (p + 1) (λ k low. good (suc k) (omega (arith, low))) (omega (arith, few)))
items_short later (Some c ∷ more) p good few =
    let block = compact_text (block_data (record { page = p; checksum = c })) in
    let rest = items_text true (items_of (map block_data (listed_from (p + 1) more))) in
    omega (
      arith,
      length-append (comma_if later) (block ++ rest),
      length-append block rest,
      comma_short later,
      block_short p c (omega (arith, few)) (good 0 (omega arith)),
      items_short true more (p + 1) (λ k low. good (suc k) (omega (arith, low))) (omega (arith, few)),
    )

-- ---- the whole

pub short_backup : (cfg : BackupCfg) → IsGoodBackup cfg → length cfg.list.snapshot ≤ 64
    → length (compact_text (backup_data cfg)) ≤ largest_cfg
short_backup cfg good few =
    let listed = listed_from 0 cfg.list.blocks in
    let pages : length cfg.list.blocks ≤ 512 = omega (arith, good.size.most) in
    let stored : length listed * 2097152 < 2 ^ 64 = omega (arith, listed_short 0 cfg.list.blocks, pages) in
    let of_volume = member (codes "VolumeName") (string cfg.volume) no_members in
    let snapshot = member (codes "SnapshotName") (string cfg.list.snapshot) of_volume in
    let size = member (codes "Size") (string (decimal (length listed * 2097152))) snapshot in
    let named = member (codes "Name") (string cfg.name) size in
    let disk = member (codes "DiskSize") (string (decimal (size_of cfg.list))) named in
    let created = member (codes "CreatedTime") (string cfg.created) disk in
    let method = member (codes "CompressionMethod") (string (codes "none")) created in
    let last = member_short true (codes "VolumeName") (string cfg.volume) no_members 386 1 (omega arith)
    (short_quoted cfg.volume 64 good.volume.spelled.most) (omega arith) in
    let more = member_short true (codes "SnapshotName") (string cfg.list.snapshot) of_volume 386 517 (omega arith)
    (short_quoted cfg.list.snapshot 64 few) last in
    let more = member_short true (codes "Size") (string (decimal (length listed * 2097152))) snapshot 122 1033 (omega arith)
    (number_short (length listed * 2097152) stored) more in
    let more = member_short true (codes "Name") (string cfg.name) size 386 1285 (omega arith)
    (short_quoted cfg.name 64 good.name.spelled.most) more in
    let more = member_short true (codes "DiskSize") (string (decimal (size_of cfg.list))) named 122 1801 (omega arith)
    (number_short (size_of cfg.list) (omega (arith, good.size.most))) more in
    let more = member_short true (codes "CreatedTime") (string cfg.created) disk 242 2053 (omega arith)
    (short_quoted cfg.created 40 good.created.most) more in
    let more = member_short true (codes "CompressionMethod") (string (codes "none")) created 26 2425 (omega arith)
    (short_quoted (codes "none") 4 (omega arith)) more in
    let items = items_short false cfg.list.blocks 0 good.entries (omega (arith, pages)) in
    let all = member_short false (codes "Blocks") (array (items_of (map block_data listed))) method 359000 2581 (omega arith)
    (omega (arith, items, pages)) more in
    omega (arith, all)

last_short : (last : Option (List ℕ)) → IsGoodLast last → length (last_text last) ≤ 64
last_short None good = omega arith
last_short (Some name) good = good.spelled.most

pub short_volume : (cfg : VolumeCfg) → IsGoodVolume cfg → length (compact_text (volume_data cfg)) ≤ largest_cfg
short_volume cfg good =
    let size = member (codes "Size") (string (decimal cfg.size)) no_members in
    let named = member (codes "Name") (string cfg.name) size in
    let latest = member (codes "LastBackupName") (string (last_text cfg.last)) named in
    let created = member (codes "CreatedTime") (string cfg.created) latest in
    let last = member_short true (codes "Size") (string (decimal cfg.size)) no_members 122 1 (omega arith)
    (number_short cfg.size (omega (arith, good.size.most))) (omega arith) in
    let more = member_short true (codes "Name") (string cfg.name) size 386 253 (omega arith)
    (short_quoted cfg.name 64 good.name.spelled.most) last in
    let more = member_short true (codes "LastBackupName") (string (last_text cfg.last)) named 386 769 (omega arith)
    (short_quoted (last_text cfg.last) 64 (last_short cfg.last good.last)) more in
    let more = member_short true (codes "CreatedTime") (string cfg.created) latest 242 1285 (omega arith)
    (short_quoted cfg.created 40 good.created.most) more in
    let all = member_short false (codes "CompressionMethod") (string (codes "none")) created 26 1657 (omega arith)
    (short_quoted (codes "none") 4 (omega arith)) more in
    omega (arith, all)

-- ---- in an answer

pub short_written : {E : Type 0} (d : Data) (written : Result (Vec ℕ Global) E)
    → IfOk written (λ b. b.items ≡ compact_text d) → length (compact_text d) ≤ largest_cfg
    → IfOk written (λ b. length b.items ≤ largest_cfg)
short_written d (Ok b) text few = subst (λ t. length t ≤ largest_cfg) (sym text) few
short_written d (Err x) text few = tt

pub short_where : {E P : Type 0} (d : Data) (written : Result (Vec ℕ Global) E)
    → IfOk written (λ b. b.items ≡ compact_text d) → (P → length (compact_text d) ≤ largest_cfg)
    → IfOk written (λ b. P → length b.items ≤ largest_cfg)
short_where d (Ok b) text few = λ p. subst (λ t. length t ≤ largest_cfg) (sym text) (few p)
short_where d (Err x) text few = tt
