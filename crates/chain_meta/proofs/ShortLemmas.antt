-- What is written of a layer and of the volume is short enough to be read.
use Rattle.std.proofs.Common.{◌≡◌, ◌+◌, ◌*◌, ◌<◌, ◌≤◌, ◌^◌, ℕ, Bool, true, false, cond, nat_lt, if◌then◌else◌, codes}
use Rattle.std.proofs.Common.{List, [], ◌∷◌, ◌++◌, length}
use Rattle.std.proofs.Common.{Option, Some, None, Result, Ok, Err, IfOk, Vec, Global, decimal, inl, inr}
use Rattle.std.proofs.Common.{sym, ap, subst, ◌∙◌, arith, length-append}
use Rattle.std.proofs.lemmas.Fmt.{length-decimal-le}
use Rattle.json.specs.Print.{escape_byte, escape, quoted}
use Rattle.serde_json.specs.Data.{Data, boolean, string, number, unsigned, object, Members, member, no_members}
use Rattle.serde_json.specs.Written.{compact_text, has_float, members_text, comma_if}
use Rattle.chain_meta.specs.ImageNames.{head_file, head_digits, zeros_before, IsImageName, IsGoodParent, parent_text}
use Rattle.chain_meta.specs.DiskMetas.{disk_data, IsGoodDisk}
use Rattle.chain_meta.specs.Kinds.{largest_meta}
use Rattle.chain_meta.specs.VolumeMetas.{volume_data, error_text, IsGoodVolume}
use Rattle.chain_meta.specs.declared.disk_meta.DiskMeta.{DiskMeta}
use Rattle.chain_meta.specs.declared.volume_meta.VolumeMeta.{VolumeMeta}

-- ---- texts in quotes

escaped_short : (letter x u v : ℕ) (has control : Bool)
    → length (cond has (92 ∷ letter ∷ []) (cond control (92 ∷ 117 ∷ 48 ∷ 48 ∷ u ∷ v ∷ []) (x ∷ []))) ≤ 6
escaped_short letter x u v true control = omega arith
escaped_short letter x u v false true = omega arith
escaped_short letter x u v false false = omega arith

short_byte : (x : ℕ) → length (escape_byte x) ≤ 6
unfolding escape_byte
short_byte x = escaped_short _ x _ _ _ _

short_escape : (s : List ℕ) → length (escape s) ≤ 6 * length s
short_escape [] = omega arith
short_escape (x ∷ s) = omega (arith, length-append (escape_byte x) (escape s), short_byte x, short_escape s)

short_quoted : (s : List ℕ) (most : ℕ) → length s ≤ most → length (quoted s) ≤ 6 * most + 2
short_quoted s most few = omega (arith, length-append (escape s) (34 ∷ []), short_escape s, few)

-- ---- members

comma_short : (later : Bool) → length (comma_if later) ≤ 1
comma_short true = omega arith
comma_short false = omega arith

-- a member takes its key, its value, and some signs
member_short : (later : Bool) (k : List ℕ) (d : Data) (ms : Members) (value more : ℕ)
    → length k ≤ 16 → length (compact_text d) ≤ value → length (members_text true ms) ≤ more
    → length (members_text later (member k d ms)) ≤ 100 + (value + more)
member_short later k d ms value more a b c =
    let rest = compact_text d ++ members_text true ms in
    omega (
      arith,
      length-append (comma_if later) (quoted k ++ 58 ∷ rest),
      length-append (quoted k) (58 ∷ rest),
      length-append (compact_text d) (members_text true ms),
      comma_short later,
      short_quoted k 16 a,
      b,
      c,
    )

-- ---- what stands in them

digits_short : (n : ℕ) → n < 2 ^ 64 → length (decimal n) ≤ 20
digits_short n small = length-decimal-le 20 n (omega arith) (omega arith) small

zeros_cases : (a b : Bool) → length (if a then codes "00" else (if b then codes "0" else codes "")) ≤ 2
zeros_cases true b = omega arith
zeros_cases false true = omega arith
zeros_cases false false = omega arith

zeros_short : (n : ℕ) → length (zeros_before n) ≤ 2
zeros_short n = zeros_cases (nat_lt n 10) (nat_lt n 100)

head_short : (n : ℕ) → n < 2 ^ 64 → length (head_file n) ≤ 80
head_short n small = omega (
  arith,
  length-append (head_digits n) (codes ".img"),
  length-append (zeros_before n) (decimal n),
  digits_short n small,
  zeros_short n,
)

image_short : (file : List ℕ) → IsImageName file → length file ≤ 80
image_short file (inl (n, is)) = subst (λ f. length f ≤ 80) (sym is.1) (head_short n is.0)
image_short file (inr (name, is)) =
    subst (λ f. length f ≤ 80) (sym is.1) (omega (arith, length-append name (codes ".img"), is.0.most))

parent_short : (parent : Option (List ℕ)) → IsGoodParent parent → length (parent_text parent) ≤ 80
parent_short None good = omega arith
parent_short (Some file) good = image_short file good

bool_short : (b : Bool) → length (compact_text (boolean b)) ≤ 5
bool_short true = omega arith
bool_short false = omega arith

-- ---- the whole

pub short_disk : (m : DiskMeta) → IsGoodDisk m → length (compact_text (disk_data m)) ≤ largest_meta
short_disk m good =
    let user = member (codes "UserCreated") (boolean m.user_created) no_members in
    let removed = member (codes "Removed") (boolean m.removed) user in
    let parent = member (codes "Parent") (string (parent_text m.parent)) removed in
    let name = member (codes "Name") (string m.name) parent in
    let labels = member (codes "Labels") (object no_members) name in
    let last = member_short true (codes "UserCreated") (boolean m.user_created) no_members 5 1 (omega arith)
    (bool_short m.user_created) (omega arith) in
    let more = member_short true (codes "Removed") (boolean m.removed) user 5 106 (omega arith) (bool_short m.removed) last in
    let more = member_short true (codes "Parent") (string (parent_text m.parent)) removed 482 211 (omega arith)
    (short_quoted (parent_text m.parent) 80 (parent_short m.parent good.parent)) more in
    let more = member_short true (codes "Name") (string m.name) parent 482 793 (omega arith)
    (short_quoted m.name 80 (image_short m.name good.name)) more in
    let more = member_short true (codes "Labels") (object no_members) name 2 1375 (omega arith) (omega arith) more in
    let all = member_short false (codes "Created") (string m.created) labels 242 1477 (omega arith)
    (short_quoted m.created 40 good.created.most) more in
    omega (arith, all)

error_short : (failed : Bool) → length (error_text failed) ≤ 3
error_short true = omega arith
error_short false = omega arith

pub short_volume : (m : VolumeMeta) → IsGoodVolume m → length (compact_text (volume_data m)) ≤ largest_meta
short_volume m good =
    let sized = member (codes "Size") (number (unsigned m.size)) no_members in
    let sector = member (codes "SectorSize") (number (unsigned 512)) sized in
    let rebuilding = member (codes "Rebuilding") (boolean m.rebuilding) sector in
    let parent = member (codes "Parent") (string (parent_text m.parent)) rebuilding in
    let named = member (codes "Head") (string (head_file m.head)) parent in
    let failed = member (codes "Error") (string (error_text m.failed)) named in
    let last = member_short true (codes "Size") (number (unsigned m.size)) no_members 20 1 (omega arith)
    (digits_short m.size good.size) (omega arith) in
    let more = member_short true (codes "SectorSize") (number (unsigned 512)) sized 20 121 (omega arith)
    (digits_short 512 (omega arith)) last in
    let more = member_short true (codes "Rebuilding") (boolean m.rebuilding) sector 5 241 (omega arith) (bool_short m.rebuilding) more in
    let more = member_short true (codes "Parent") (string (parent_text m.parent)) rebuilding 482 346 (omega arith)
    (short_quoted (parent_text m.parent) 80 (parent_short m.parent good.parent)) more in
    let more = member_short true (codes "Head") (string (head_file m.head)) parent 482 928 (omega arith)
    (short_quoted (head_file m.head) 80 (head_short m.head good.head)) more in
    let more = member_short true (codes "Error") (string (error_text m.failed)) named 20 1510 (omega arith)
    (short_quoted (error_text m.failed) 3 (error_short m.failed)) more in
    let all = member_short false (codes "Dirty") (boolean m.dirty) failed 5 1630 (omega arith) (bool_short m.dirty) more in
    omega (arith, all)

-- ---- in an answer

pub short_text : {E : Type 0} (d e : Data) (written : Result (Vec ℕ Global) E) → d ≡ e → has_float e ≡ false
    → length (compact_text e) ≤ largest_meta → IfOk written (λ b. has_float d ≡ false → b.items ≡ compact_text d)
    → IfOk written (λ b. length b.items ≤ largest_meta)
short_text d e (Ok b) is whole few text =
    subst (λ t. length t ≤ largest_meta) (sym (text (ap has_float is ∙ whole) ∙ ap compact_text is)) few
short_text d e (Err x) is whole few text = tt
