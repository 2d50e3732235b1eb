-- Answers for the numbers below a count, as a list, and blocks in their order.
use Rattle.std.specs.Prelude.{ℕ, zero, suc, ◌*◌, List, [], ◌∷◌, ◌++◌, Option, Some}
use Rattle.std.specs.List.{flat_map}
use Rattle.vol_units.specs.Bytes.{bytes_at}
use Rattle.sparse_image.specs.declared.block.TheConstants.{BLOCK_BYTES}
use Rattle.sparse_image.specs.Disk.{bytes_of}

-- the answers for the numbers below so many
unfoldable pub listed : {X : Type 0} → (ℕ → X) → ℕ → List X
listed answer zero = []
listed answer (suc count) = listed answer count ++ answer count ∷ []

-- the bytes of blocks, one after another
abbrev pub bytes_in : List (Option (List ℕ)) → List ℕ
bytes_in blocks = flat_map bytes_of blocks

-- the bytes cut into so many blocks
abbrev pub blocks_of : List ℕ → ℕ → List (Option (List ℕ))
blocks_of bytes count = listed (λ i. Some (bytes_at bytes (i * BLOCK_BYTES) BLOCK_BYTES)) count
