-- Names of objects are told apart.
use Rattle.std.proofs.Common.{◌≡◌, ◌≢◌, ℕ, ◌+◌, ◌<◌, true, List, [], ◌∷◌, ◌++◌, length, drop, get_or, min, codes, sym, ap, ◌∙◌}
use Rattle.std.proofs.Common.{arith, length-append, length-take, length-drop, append_assoc}
use Rattle.std.specs.List.{list_all}
use Rattle.std.specs.Str.{IsAscii, IsUtf8}
use Rattle.std.proofs.lemmas.Bool.{and_parts}
use Rattle.std.proofs.lemmas.Bool.Decides.{nat_tests}
use Rattle.std.proofs.lemmas.Str.{IsUtf8-from_ascii}
use Rattle.std.proofs.lemmas.Str.Ascii.{IsAscii-nil, IsAscii-cons}
use Rattle.std.proofs.lemmas.List.{append_cancel_left, append_cancel_right}
use Rattle.std.proofs.Math.Seq.{drop-append_seam}
use Rattle.digest.specs.Digest.{is_lower_digit, IsDigest}
use Rattle.backup_units.specs.Names.{two_folders, volume_folder, volume_name, cfg_prefix, cfg_name, block_prefix, block_name}

digit_lt : (c : ℕ) → is_lower_digit c ≡ true → c < 128
digit_lt c h = grind (arith, nat_tests)

IsAscii-digits : (text : List ℕ) → list_all is_lower_digit text ≡ true → IsAscii text
IsAscii-digits [] h = IsAscii-nil
IsAscii-digits (c ∷ cs) h =
    let parts = and_parts (is_lower_digit c) (list_all is_lower_digit cs) h in
    IsAscii-cons c cs (digit_lt c parts.0) (IsAscii-digits cs parts.1)

-- a checksum is a text
pub IsUtf8-digest : (text : List ℕ) → IsDigest text → IsUtf8 text
IsUtf8-digest text is = IsUtf8-from_ascii text (IsAscii-digits text is.digits)

-- what stands behind two fronts of one length
behind_same : (a b x y : List ℕ) → length a ≡ length b → a ++ x ≡ b ++ y → x ≡ y
behind_same a b x y len e =
    sym (drop-append_seam a x) ∙ ap (λ n. drop n (a ++ x)) len ∙ ap (drop (length b)) e ∙ drop-append_seam b y

-- ---- names tell what they name

length-two : (c : List ℕ) → length (two_folders c) ≡ min 4 (length c) + 2
length-two c = simp (length-append, length-take, length-drop) (omega arith)

abbrev ending : List ℕ → List ℕ
ending c = two_folders c ++ (c ++ codes ".blk")

length-ending : (c : List ℕ) → length (ending c) ≡ min 4 (length c) + 2 + (length c + 4)
length-ending c = simp (length-append, length-take, length-drop) (omega arith)

-- the longer checksum has the longer name
one_length : (m n : ℕ) → min 4 m + 2 + (m + 4) ≡ min 4 n + 2 + (n + 4) → m ≡ n
one_length m n e = omega arith

-- a block's name tells its checksum
pub one_block : (volume c d : List ℕ) → block_name volume c ≡ block_name volume d → c ≡ d
one_block volume c d e =
    let names : ending c ≡ ending d = append_cancel_left (block_prefix volume) _ _ e in
    let long : length c ≡ length d =
    one_length (length c) (length d) (sym (length-ending c) ∙ ap length names ∙ length-ending d) in
    let fronts : length (two_folders c) ≡ length (two_folders d) =
    length-two c ∙ ap (λ n. min 4 n + 2) long ∙ sym (length-two d) in
    append_cancel_right c d (codes ".blk") (behind_same (two_folders c) (two_folders d) _ _ fronts names)

-- a cfg's name tells its backup
pub one_cfg : (volume a b : List ℕ) → cfg_name volume a ≡ cfg_name volume b → a ≡ b
one_cfg volume a b e = append_cancel_right a b (codes ".cfg") (append_cancel_left (cfg_prefix volume) _ _ e)

-- ---- names of different kinds differ

-- what stands in a volume's folder
inside : (volume a b x y : List ℕ) → (volume_folder volume ++ a) ++ x ≡ (volume_folder volume ++ b) ++ y → a ++ x ≡ b ++ y
inside volume a b x y e =
    let folder = volume_folder volume in
    append_cancel_left folder (a ++ x) (b ++ y) (sym (append_assoc folder a x) ∙ e ∙ append_assoc folder b y)

-- and the volume's cfg in it
beside : (volume a b x : List ℕ) → (volume_folder volume ++ a) ++ x ≡ volume_folder volume ++ b → a ++ x ≡ b
beside volume a b x e =
    let folder = volume_folder volume in append_cancel_left folder (a ++ x) b (sym (append_assoc folder a x) ∙ e)

-- texts that differ in a character are two
no_same : (n : ℕ) (x y : List ℕ) → get_or x n 0 ≢ get_or y n 0 → x ≢ y
no_same n x y other e = other (ap (λ text. get_or text n 0) e)

-- a block is no cfg of a backup
pub block_no_cfg : (volume c backup : List ℕ) → block_name volume c ≢ cfg_name volume backup
block_no_cfg volume c backup e =
    no_same 1 _ _ (λ h. absurd (omega (arith, h))) (inside volume (codes "blocks/") (codes "backups/backup_") _ _ e)

-- and none is the volume's cfg
pub block_no_volume : (volume c : List ℕ) → block_name volume c ≢ volume_name volume
block_no_volume volume c e =
    no_same 0 _ _ (λ h. absurd (omega (arith, h))) (beside volume (codes "blocks/") (codes "volume.cfg") _ e)

pub cfg_no_volume : (volume backup : List ℕ) → cfg_name volume backup ≢ volume_name volume
cfg_no_volume volume backup e =
    no_same 0 _ _ (λ h. absurd (omega (arith, h))) (beside volume (codes "backups/backup_") (codes "volume.cfg") _ e)
