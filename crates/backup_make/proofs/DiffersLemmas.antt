-- What it tells that another block has a page's checksum.
use Rattle.std.proofs.Common.{◌≡◌, ℕ, false, List, Result, Ok, Err, sym, subst}
use Rattle.std.specs.Prelude.{IfErr, IsErrAnd}
use Rattle.digest.specs.Digest.{digest_text}
use Rattle.target_traits.specs.Objects.{Objects}
use Rattle.backup_units.specs.Names.{block_name}
use Rattle.backup_units.specs.Blocks.{is_zeros, HoldsBlock, KeepsBlocks}
use Rattle.block_store.specs.Answers.{AnswersPut}
use Rattle.block_store.specs.declared.error.StoreError.{StoreError}
use Rattle.block_store.specs.declared.error.StoreError.TheVariants as store_error
use Rattle.backup_make.specs.Making.{HoldsAnother, IfDiffers, error_of_store}
use Rattle.backup_make.specs.declared.error.MakeError.{MakeError}
use Rattle.backup_make.proofs.KeptLemmas.{listed_some}

-- the error that is handed on
pub handed : {T : Type 0} (P : List ℕ → Type 0) (e : MakeError) (r : Result T MakeError) → IsErrAnd r (λ x. x ≡ e)
    → IfDiffers P e → IfErr r (IfDiffers P)
handed P e (Ok x) is h = tt
handed P e (Err x) is h = subst (IfDiffers P) (sym is) h

-- what the store answered of a page, as an error of this crate
pub differs_from : (volume page : List ℕ) (old new : Objects) (e : StoreError) → is_zeros page ≡ false
    → KeepsBlocks volume old new → AnswersPut (old (block_name volume (digest_text page))) page (Err e)
    → IfDiffers (HoldsAnother new volume page) (error_of_store e)
differs_from volume page old new (store_error.BlockDiffers c) some keeps (seen, is) = record {
  listed = sym (listed_some page c some is);
  other = (
    seen.0,
    subst (λ sum. HoldsBlock new volume sum seen.0) (sym is)
        (keeps (digest_text page) seen.0 (record { there = seen.1; block = seen.2 })),
    seen.3,
  );
}
differs_from volume page old new store_error.TargetFault some keeps answers = tt
differs_from volume page old new store_error.NoMemory some keeps answers = tt
