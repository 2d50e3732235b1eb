-- What the store of blocks answers, by what the block's object held.
use Rattle.std.specs.Prelude.{◌≡◌, ◌≢◌, ⊤, ℕ, Bool, true, false, List, Vec, Option, Some, None, Result, Ok, Err}
use Rattle.std.specs.declared.alloc.Global.{Global}
use Rattle.outer_traits.specs.declared.error.OuterError.{OuterError}
use Rattle.outer_traits.specs.declared.error.OuterError.TheVariants as outer
use Rattle.digest.specs.Digest.{digest_text}
use Rattle.backup_units.specs.Blocks.{IsBlock}
use Rattle.block_store.specs.declared.error.GetError.{GetError}
use Rattle.block_store.specs.declared.error.GetError.TheVariants as get_error
use Rattle.block_store.specs.declared.error.StoreError.{StoreError}
use Rattle.block_store.specs.declared.error.StoreError.TheVariants as store_error
use Rattle.block_store.specs.declared.put.Put.{Put}
use Rattle.block_store.specs.declared.put.Put.TheVariants as put
use Rattle.block_store.specs.declared.put.Seen.{Seen}
use Rattle.block_store.specs.declared.put.Seen.TheVariants as seen

-- the error that an error of the target becomes
abbrev pub store_error_of : OuterError → StoreError
store_error_of outer.Failed = store_error.TargetFault
store_error_of outer.NoMemory = store_error.NoMemory

abbrev pub get_error_of : OuterError → GetError
get_error_of outer.Failed = get_error.TargetFault
get_error_of outer.NoMemory = get_error.NoMemory

-- the error tells that the target failed
abbrev pub is_store_fault : StoreError → Bool
is_store_fault (store_error.BlockDiffers c) = false
is_store_fault store_error.TargetFault = true
is_store_fault store_error.NoMemory = false

abbrev pub is_get_fault : GetError → Bool
is_get_fault get_error.Missing = false
is_get_fault get_error.Damaged = false
is_get_fault get_error.TargetFault = true
is_get_fault get_error.NoMemory = false

abbrev pub checksum_in : Put → List ℕ
checksum_in (put.Stored c) = c
checksum_in (put.Same c) = c

-- no block of that checksum is held, that page is, or another block of its checksum: no two of these are true at once
abbrev pub IsSeen : Option (List ℕ) → List ℕ → List ℕ → Seen → Type 0
IsSeen held checksum page seen.Free = (bytes : List ℕ) → held ≡ Some bytes → IsBlock checksum bytes → ⊥
IsSeen held checksum page seen.Same = held ≡ Some page
IsSeen held checksum page seen.Other = (bytes : List ℕ) × (held ≡ Some bytes) × IsBlock checksum bytes × (bytes ≢ page)

-- What each answer tells of what was held. Faults and want of memory tell nothing of it.
abbrev pub AnswersPut : Option (List ℕ) → List ℕ → Result Put StoreError → Type 0
AnswersPut held page (Ok (put.Stored c)) = IsSeen held (digest_text page) page seen.Free
AnswersPut held page (Ok (put.Same c)) = IsSeen held (digest_text page) page seen.Same
AnswersPut held page (Err (store_error.BlockDiffers c)) = IsSeen held (digest_text page) page seen.Other × (c ≡ digest_text page)
AnswersPut held page (Err store_error.TargetFault) = ⊤
AnswersPut held page (Err store_error.NoMemory) = ⊤

-- The bytes that are held; missing where there is no object, damaged where it is no block of that checksum.
abbrev pub AnswersGet : Option (List ℕ) → List ℕ → Result (Vec ℕ Global) GetError → Type 0
AnswersGet held checksum (Ok bytes) = held ≡ Some bytes.items
AnswersGet held checksum (Err get_error.Missing) = held ≡ None
AnswersGet held checksum (Err get_error.Damaged) = (bytes : List ℕ) × (held ≡ Some bytes) × (IsBlock checksum bytes → ⊥)
AnswersGet held checksum (Err get_error.TargetFault) = ⊤
AnswersGet held checksum (Err get_error.NoMemory) = ⊤
