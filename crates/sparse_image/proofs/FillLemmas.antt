-- Blocks that are filled with bytes.
use Rattle.std.proofs.Common.{◌≡◌, ℕ, zero, suc, ◌+◌, ◌-◌, ◌*◌, List, [], ◌∷◌, ◌++◌, length, take, drop, Option, Some}
use Rattle.std.proofs.Common.{is_some, true, refl, ap, ◌∙◌, arith, append-nil}
use Rattle.std.specs.List.{All}
use Rattle.std.proofs.lemmas.Grind.{flat_map-append}
use Rattle.std.proofs.lemmas.List.{take_all}
use Rattle.vol_units.specs.Bytes.{bytes_at}
use Rattle.vol_units.proofs.BytesLemmas.{take-slice}
use Rattle.sparse_image.specs.Disk.{bytes_of}
use Rattle.sparse_image.specs.Listed.{listed, blocks_of, bytes_in}
use Rattle.sparse_image.proofs.ListedLemmas.{listed-All}

-- so many blocks are the front of the bytes
front : (bytes : List ℕ) (count : ℕ) → bytes_in (blocks_of bytes count) ≡ take (count * 4096) bytes
unfolding listed
front bytes zero = refl
front bytes (suc count) =
    let next : count * 4096 + 4096 - count * 4096 ≡ 4096 = omega arith in
    let more : count * 4096 + 4096 ≡ suc count * 4096 = omega arith in
    flat_map-append bytes_of (blocks_of bytes count) (Some (bytes_at bytes (count * 4096) 4096) ∷ [])
    ∙ ap (λ l. bytes_in (blocks_of bytes count) ++ l) (append-nil (bytes_at bytes (count * 4096) 4096))
    ∙ ap (λ l. l ++ bytes_at bytes (count * 4096) 4096) (front bytes count)
    ∙ ap (λ n. take (count * 4096) bytes ++ take n (drop (count * 4096) bytes)) next
    ∙ take-slice bytes (count * 4096) 4096
    ∙ ap (λ n. take n bytes) more

pub bytes_in-filled : (bytes : List ℕ) (count : ℕ) → length bytes ≡ count * 4096 → bytes_in (blocks_of bytes count) ≡ bytes
bytes_in-filled bytes count whole = front bytes count ∙ take_all (count * 4096) bytes (omega (arith, whole))

pub filled-full : (bytes : List ℕ) (count : ℕ) → All (λ b. is_some b ≡ true) (blocks_of bytes count)
filled-full bytes count = listed-All (λ (b : Option (List ℕ)). is_some b ≡ true)
    (λ i. Some (bytes_at bytes (i * 4096) 4096)) count (λ k h. refl)
