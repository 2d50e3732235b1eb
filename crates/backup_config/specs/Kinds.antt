-- The members of a cfg, each missing or of the kind that it may have.
use Rattle.std.specs.Prelude.{◌≡◌, ◌⊎◌, ℕ, ◌/◌, ◌%◌, Bool, true, false, not, ◌&&◌, ◌==◌, nat_lt, if◌then◌else◌}
use Rattle.std.specs.Prelude.{List, [], ◌∷◌, length, codes, decimal, Option, None, Some, is_some, option_map, option_and_then}
use Rattle.std.specs.List.{list_all}
use Rattle.std.specs.Str.{bytes_eq}
use Rattle.serde_json.specs.Data.{Data, null, boolean, string, number, array, object, Items, no_items, item}
use Rattle.serde_json.specs.Find.{get, as_str, as_array, as_null, as_number, as_u64}
use Rattle.vol_units.specs.Name.{IsPlainName}
use Rattle.vol_units.specs.Size.{IsVolumeSize}
use Rattle.vol_units.specs.Time.{IsTimeText}
use Rattle.digest.specs.Digest.{is_lower_digit}
use Rattle.backup_units.specs.Blocks.{page_bytes}
use Rattle.backup_config.specs.declared.list.ListedBlock.{ListedBlock}

-- ---- texts

-- whether a name is there, which must be the one that was asked for; None where it is another, or no text
abbrev pub asked_in : List ℕ → Option Data → Option Bool
asked_in asked None = Some false
asked_in asked (Some d) = named (as_str d)
  where
    named : Option (List ℕ) → Option Bool
    named None = None
    named (Some text) = if bytes_eq text asked then Some true else None

-- the text, if the member is there; None where it is no text
abbrev pub text_in : Option Data → Option (Option (List ℕ))
text_in None = Some None
text_in (Some d) = option_map Some (as_str d)

-- a text of time as it stands; any other text, or none, is as the empty one
abbrev pub IsTime : Option (List ℕ) → List ℕ → Type 0
IsTime None time = time ≡ []
IsTime (Some text) time = (IsTimeText text × (time ≡ text)) ⊎ ((IsTimeText text → ⊥) × (time ≡ []))

-- a text that is not empty
abbrev pub is_filled : Option (List ℕ) → Bool
is_filled None = false
is_filled (Some []) = false
is_filled (Some (c ∷ cs)) = true

-- the text does not say that blocks are stored as they are
abbrev pub is_compressed : Option (List ℕ) → Bool
is_compressed None = true
is_compressed (Some text) = not (bytes_eq text (codes "none"))

-- the name of the last backup, where the text is a name
abbrev pub IsLast : Option (List ℕ) → Option (List ℕ) → Type 0
IsLast None last = last ≡ None
IsLast (Some text) None = IsPlainName text → ⊥
IsLast (Some text) (Some name) = (name ≡ text) × IsPlainName text

-- ---- sizes

-- the decimal text of a number, or a text as it stands
abbrev pub decimal_of : Data → Option (List ℕ)
decimal_of null = None
decimal_of (boolean b) = None
decimal_of (number n) = option_map decimal (as_u64 n)
decimal_of (string s) = Some s
decimal_of (array ds) = None
decimal_of (object ms) = None

-- the decimal text of the size of a disk
abbrev pub IsSize : Option (List ℕ) → ℕ → Type 0
IsSize text size = (text ≡ Some (decimal size)) × IsVolumeSize size

-- the size of a volume: a whole number or the decimal text of one, or the member is missing
abbrev pub HasSize : Option Data → Option ℕ → Type 0
HasSize None None = Unit {0}
HasSize None (Some size) = ⊥
HasSize (Some d) None = ⊥
HasSize (Some d) (Some size) = IsSize (decimal_of d) size

-- a size that was told elsewhere, or none was told
abbrev pub IsToldSize : Option ℕ → Option ℕ → Type 0
IsToldSize None size = size ≡ None
IsToldSize (Some told) size = (size ≡ Some told) × IsVolumeSize told

-- the size of a backup's disk: a decimal text; where the member is missing, what was told elsewhere
abbrev pub HasDiskSize : Option ℕ → Option Data → Option ℕ → Type 0
HasDiskSize told None size = IsToldSize told size
HasDiskSize told (Some d) None = ⊥
HasDiskSize told (Some d) (Some size) = IsSize (as_str d) size

-- ---- blocks

-- 64 lower-case hexadecimal digits
abbrev pub checksum_of_text : Option (List ℕ) → Option (List ℕ)
checksum_of_text None = None
checksum_of_text (Some text) = if (length text == 64) && list_all is_lower_digit text then Some text else None

-- the page that begins there: an offset is a whole multiple of a page
abbrev pub page_of_offset : Option ℕ → Option ℕ
page_of_offset None = None
page_of_offset (Some offset) = if offset % page_bytes == 0 then Some (offset / page_bytes) else None

-- a block of which both are known
abbrev pub block_of : Option (List ℕ) → Option ℕ → Option ListedBlock
block_of None page = None
block_of (Some checksum) None = None
block_of (Some checksum) (Some page) = Some (record { page = page; checksum = checksum })

-- a listed block
abbrev pub block_in : Data → Option ListedBlock
block_in d = block_of (checksum_of_text (option_and_then as_str (get (codes "BlockChecksum") d)))
    (page_of_offset (option_and_then as_u64 (option_and_then as_number (get (codes "Offset") d))))

-- a block before others, where all are blocks
abbrev pub and_blocks : Option ListedBlock → Option (List ListedBlock) → Option (List ListedBlock)
and_blocks None more = None
and_blocks (Some b) None = None
and_blocks (Some b) (Some more) = Some (b ∷ more)

-- the blocks of an array, in its order
unfoldable pub blocks_of : Items → Option (List ListedBlock)
blocks_of no_items = Some []
blocks_of (item d more) = and_blocks (block_in d) (blocks_of more)

-- the listed blocks; none where the member is missing or null
abbrev pub blocks_in : Option Data → Option (List ListedBlock)
blocks_in None = Some []
blocks_in (Some d) = if is_some (as_null d) then Some [] else option_and_then blocks_of (as_array d)

-- each block lies within the disk, where its size is known
abbrev pub are_within : Option ℕ → List ListedBlock → Bool
are_within None listed = true
are_within (Some size) listed = list_all (λ b. nat_lt b.page (size / page_bytes)) listed
