-- Replicas in due form, one by one, and while their parts change.
use Rattle.std.proofs.Common.{◌≡◌, ◌≢◌, ℕ, zero, suc, ◌<◌, ⊎_elim, false, List, [], ◌∷◌, length, set, refl, sym, ap, ◌∙◌, arith}
use Rattle.std.specs.Prelude.{Option, None, Some}
use Rattle.std.proofs.lemmas.Bool.{cases_lt}
use Rattle.std.proofs.lemmas.List.{get_or_past}
use Rattle.volume_model.specs.declared.mode.Mode.{Mode}
use Rattle.volume_model.specs.declared.mode.Mode.TheVariants.{Rw, Wo, Err}
use Rattle.replica_node.specs.Node.{Node, blank}
use Rattle.step_answers.specs.declared.parts.Part.{Part}
use Rattle.step_answers.specs.declared.parts.Part.TheVariants.{Apart, Owed, Taken, Acked}
use Rattle.step_answers.specs.declared.whole_op.WholeOp.{WholeOp}
use Rattle.open_calls.specs.Calls.{node_at}
use Rattle.step_answers.specs.Parts.{part_at, part_for, is_pending_at, IsTaken}
use Rattle.open_calls.specs.declared.whole.Whole.{Whole}
use Rattle.open_calls.specs.Due.{part_on, form_part, formed, forms}

-- there are as many in due form
pub length-formed : (op : WholeOp) (parts : List Part) (nodes : List Node) → length (formed op parts nodes) ≡ length nodes
length-formed op [] [] = refl
length-formed op (p ∷ ps) [] = refl
length-formed op [] (n ∷ ns) = refl
length-formed op (p ∷ ps) (n ∷ ns) = ap suc (length-formed op ps ns)

-- also where no call on the whole volume is started
pub length-forms : (w : Option Whole) (nodes : List Node) → length (forms w nodes) ≡ length nodes
length-forms None nodes = refl
length-forms (Some w) nodes = length-formed w.op w.parts nodes

-- a replica that is there, in due form
pub formed_in : (op : WholeOp) (parts : List Part) (nodes : List Node) (r : ℕ) → r < length nodes
    → node_at (formed op parts nodes) r ≡ form_part op (part_at parts r) (node_at nodes r)
formed_in op parts [] r l = absurd (omega (arith, l))
formed_in op [] (n ∷ ns) zero l = refl
formed_in op [] (n ∷ ns) (suc r) l = refl
formed_in op (p ∷ ps) (n ∷ ns) zero l = refl
formed_in op (p ∷ ps) (n ∷ ns) (suc r) l = formed_in op ps ns r (omega (arith, l))

-- and any, where there are as many parts as replicas
pub formed_at : (op : WholeOp) (parts : List Part) (nodes : List Node) (r : ℕ) → length parts ≡ length nodes
    → node_at (formed op parts nodes) r ≡ form_part op (part_at parts r) (node_at nodes r)
formed_at op parts nodes r many =
    ⊎_elim
    (λ l. formed_in op parts nodes r l)
    (λ l. get_or_past (formed op parts nodes) r (blank 0) (omega (arith, l, length-formed op parts nodes))
    ∙ sym (get_or_past nodes r (blank 0) l)
    ∙ ap (λ x. form_part op x (node_at nodes r)) (sym (get_or_past parts r Apart (omega (arith, l, many)))))
    (cases_lt r (length nodes))

-- ---- its parts change

-- a replica that takes its part is in due form what it was
pub parted_form : (op : WholeOp) (parts : List Part) (nodes : List Node) (r : ℕ) → part_at parts r ≡ Owed → r < length nodes
    → formed op (set parts r Taken) (set nodes r (part_on op (node_at nodes r))) ≡ formed op parts nodes
parted_form op [] nodes r owed l = absurd (none owed)
  where
    none : Apart ≡ Owed → ⊥
    none e = cc
parted_form op (p ∷ ps) [] r owed l = absurd (omega (arith, l))
parted_form op (p ∷ ps) (n ∷ ns) zero owed l = ap (λ x. form_part op x n ∷ formed op ps ns) (sym owed)
parted_form op (p ∷ ps) (n ∷ ns) (suc r) owed l = ap (λ xs. form_part op p n ∷ xs) (parted_form op ps ns r owed (omega (arith, l)))

-- so it is where it acknowledges a part that it took
pub acked_form : (op : WholeOp) (parts : List Part) (nodes : List Node) (r : ℕ) → IsTaken (part_at parts r)
    → formed op (set parts r Acked) nodes ≡ formed op parts nodes
acked_form op [] nodes r taken = absurd taken
acked_form op (p ∷ ps) [] zero taken = refl
acked_form op (p ∷ ps) [] (suc r) taken = refl
acked_form op (p ∷ ps) (n ∷ ns) zero taken = one p taken
  where
    one : (p : Part) → IsTaken p → n ∷ formed op ps ns ≡ form_part op p n ∷ formed op ps ns
    one Apart t = absurd t
    one Owed t = absurd t
    one Taken t = refl
    one Acked t = refl
acked_form op (p ∷ ps) (n ∷ ns) (suc r) taken = ap (λ xs. form_part op p n ∷ xs) (acked_form op ps ns r taken)

-- ---- what its form is

-- a replica whose part is not owed any more is its own due form
pub form_as_is : (op : WholeOp) (p : Part) (n : Node) → p ≢ Owed → form_part op p n ≡ n
form_as_is op Owed n off = absurd (off refl)
form_as_is op Taken n off = refl
form_as_is op Acked n off = refl
form_as_is op Apart n off = refl

-- a part that is not pending any more, of a replica that has not failed, is acknowledged
pub done_part : (m : Mode) (p : Part) → m ≢ Err → is_pending_at m p ≡ false → p ≢ Apart → p ≡ Acked
done_part Err p n e a = absurd (n refl)
done_part Rw Apart n e a = absurd (a refl)
done_part Rw Owed n e a = absurd cc
done_part Rw Taken n e a = absurd cc
done_part Rw Acked n e a = refl
done_part Wo Apart n e a = absurd (a refl)
done_part Wo Owed n e a = absurd cc
done_part Wo Taken n e a = absurd cc
done_part Wo Acked n e a = refl

-- what a call that starts owes to a replica that has not failed
pub part_for_owed : (m : Mode) → m ≢ Err → part_for m ≡ Owed
part_for_owed Rw n = refl
part_for_owed Wo n = refl
part_for_owed Err n = absurd (n refl)
