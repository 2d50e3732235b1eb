-- A file that is put in the place of another.
use Rattle.std.proofs.Common.{◌≡◌, ℕ, List, [], ◌++◌, ◌+◌, length, arith, Option, Some, None, Result, Ok, Err, OnOk, ap}
use Rattle.std.proofs.Common.{◌∙◌, append-nil}
use Rattle.std.proofs.lemmas.List.{drop_all}
use Rattle.shelf_traits.specs.Files.{Files, Both, Becomes, written}
use Rattle.replica_shelf.proofs.CallLemmas.{both_then}

-- a file that was not there holds just what is written at its front
written_new : (bytes : List ℕ) → written None 0 bytes ≡ bytes
written_new bytes = ap (λ l. bytes ++ l) (drop_all (0 + length bytes) [] (omega arith)) ∙ append-nil bytes

put_joins : (shelf : ℕ) (file bytes : List ℕ) (x y z : Files) → Becomes shelf file None x y
    → Becomes shelf file (Some (written (y shelf file) 0 bytes)) y z → Becomes shelf file (Some bytes) x z
put_joins shelf file bytes x y z gone put = record {
  here = put.here ∙ ap (λ o. Some (written o 0 bytes)) gone.here ∙ ap Some (written_new bytes);
  others = λ s f other. put.others s f other ∙ gone.others s f other;
}

-- a file that is removed, and then written
pub put_is : {T E : Type 0} (shelf : ℕ) (file bytes : List ℕ) (a b c : Option Files) (r : Result T E)
    → Both a b (Becomes shelf file None)
    → OnOk r (Both b c (λ old new. Becomes shelf file (Some (written (old shelf file) 0 bytes)) old new))
    → OnOk r (Both a c (Becomes shelf file (Some bytes)))
put_is shelf file bytes a b c (Ok v) gone put = both_then a b c _ _ _ gone put (put_joins shelf file bytes)
put_is shelf file bytes a b c (Err e) gone put = tt
