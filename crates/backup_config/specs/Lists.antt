-- What a backup lists: for each page of its disk the checksum of a block, or none.
use Rattle.std.specs.Prelude.{◌≢◌, ℕ, ◌+◌, ◌*◌, ◌<◌, ◌==◌, if◌then◌else◌}
use Rattle.std.specs.Prelude.{List, [], ◌∷◌, ◌++◌, length, map, slice_index_or, Option, None, Some}
use Rattle.std.specs.List.{AllPairs, range_with_len}
use Rattle.digest.specs.Digest.{IsDigest}
use Rattle.backup_units.specs.Blocks.{page_bytes}
use Rattle.backup_config.specs.declared.list.ListedBlock.{ListedBlock}

-- the snapshot's name, and what is listed of each page
pub record Listing : Type 0 where
  pub snapshot : List ℕ
  pub blocks : List (Option (List ℕ))

-- the size of the disk
abbrev pub size_of : Listing → ℕ
size_of l = length l.blocks * page_bytes

-- the block of a page, if one is listed
abbrev pub one_listed : ℕ → Option (List ℕ) → List ListedBlock
one_listed page None = []
one_listed page (Some checksum) = record { page = page; checksum = checksum } ∷ []

-- the listed blocks, in rising order, the first entry being that of this page
unfoldable pub listed_from : ℕ → List (Option (List ℕ)) → List ListedBlock
listed_from page [] = []
listed_from page (entry ∷ more) = one_listed page entry ++ listed_from (page + 1) more

-- no page is listed twice
abbrev pub AreOnce : List ListedBlock → Type 0
AreOnce listed = AllPairs (λ a b. a.page ≢ b.page) listed

-- the checksum that is listed of a page, or none
unfoldable pub checksum_at : List ListedBlock → ℕ → Option (List ℕ)
checksum_at [] page = None
checksum_at (b ∷ more) page = if b.page == page then Some b.checksum else checksum_at more page

-- what is listed of each of so many pages
abbrev pub pages_of : ℕ → List ListedBlock → List (Option (List ℕ))
pages_of count listed = map (checksum_at listed) (range_with_len 0 count)

-- an entry is a checksum, or none
abbrev pub IsEntry : Option (List ℕ) → Type 0
IsEntry None = Unit {0}
IsEntry (Some checksum) = IsDigest checksum

-- each entry is a checksum, or none
abbrev pub AreEntries : List (Option (List ℕ)) → Type 0
AreEntries blocks = (page : ℕ) → page < length blocks → IsEntry (slice_index_or blocks page None)
