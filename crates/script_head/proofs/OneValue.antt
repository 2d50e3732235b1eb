-- A member has one value at most.
use Rattle.std.proofs.Common.{◌≡◌, ◌∙◌, ℕ, List, [], ◌∷◌, Option, Some, None, option_and_then, refl, sym, ap, subst}
use Rattle.serde_json.specs.Data.{Data, Items, no_items, item}
use Rattle.volume_model.specs.Commands.{IsCommand}
use Rattle.volume_model.specs.declared.command.Command.{Command}
use Rattle.script_head.specs.declared.head.StreamHead.{StreamHead}
use Rattle.script_head.specs.declared.head.StreamHead.TheVariants.{Frames, Control}
use Rattle.script_head.specs.Values.{AreItems, HasItems}
use Rattle.script_head.specs.declared.line_plan.LinePlan.{LinePlan}
use Rattle.script_head.specs.Members.{IsCommandItem, IsStreamItem, IsCarryItem, IsLinePlan, ArePlans}
use Rattle.volume_model.proofs.TextLemmas.{same_text}

-- two values of one option
pub same_value : {A : Type 0} {x y : A} (found : Option A) → found ≡ Some x → found ≡ Some y → x ≡ y
same_value found p q = values (sym p ∙ q)
  where
    values : {A : Type 0} {x y : A} → Some x ≡ Some y → x ≡ y
    values e = cc

-- what is there is not missing
missing : {A B : Type 0} {x : B} (f : A → Option B) (found : Option A) → option_and_then f found ≡ Some x → found ≡ None → ⊥
missing f None p q = cc
missing f (Some a) p q = cc

-- items are one list, where an item is one thing
pub one_list : {A : Type 0} (IsItem : Data → A → Type 0) → ((d : Data) (a b : A) → IsItem d a → IsItem d b → a ≡ b)
    → (ds : Items) (xs ys : List A) → AreItems IsItem ds xs → AreItems IsItem ds ys → xs ≡ ys
one_list IsItem one no_items [] [] are also = refl
one_list IsItem one no_items [] (y ∷ ys) are also = absurd also
one_list IsItem one no_items (x ∷ xs) ys are also = absurd are
one_list IsItem one (item d ds) [] ys are also = absurd are
one_list IsItem one (item d ds) (x ∷ xs) [] are also = absurd also
one_list IsItem one (item d ds) (x ∷ xs) (y ∷ ys) (is, are) (too, also) = both (one d x y is too) (one_list IsItem one ds xs ys are also)
  where
    both : {A : Type 0} {x y : A} {xs ys : List A} → x ≡ y → xs ≡ ys → x ∷ xs ≡ y ∷ ys
    both p q = cc

pub same_list : {A : Type 0} (IsItem : Data → A → Type 0) → ((d : Data) (a b : A) → IsItem d a → IsItem d b → a ≡ b)
    → (found : Option Data) (xs ys : List A) → HasItems IsItem found xs → HasItems IsItem found ys → xs ≡ ys
same_list IsItem one found xs ys (ds, there, are) (es, here, also) =
    one_list IsItem one ds xs ys are (subst (λ items. AreItems IsItem items ys) (same_value _ here there) also)

pub one_command : (replicas : ℕ) (d : Data) (a b : Command) → IsCommandItem replicas d a → IsCommandItem replicas d b → a ≡ b
one_command replicas d a b (text, there, is, names) (other, here, too, also) =
    same_text text a b is (subst (λ t. IsCommand t b) (same_value _ here there) too)

pub one_stream : (replicas : ℕ) (d : Data) (a b : StreamHead) → IsStreamItem replicas d a → IsStreamItem replicas d b → a ≡ b
one_stream replicas d (Frames m) (Frames n) is too = ap Frames (same_value _ is.0 too.0)
one_stream replicas d (Frames m) (Control cs) is too = absurd (missing _ _ is.0 too.2)
one_stream replicas d (Control cs) (Frames n) is too = absurd (missing _ _ too.0 is.2)
one_stream replicas d (Control cs) (Control es) is too =
    ap Control (same_list (IsCommandItem replicas) (one_command replicas) _ cs es is.0 too.0)

-- two lists of streams under one member
pub same_streams : (replicas : ℕ) (found : Option Data) (ss ts : List StreamHead)
    → HasItems (IsStreamItem replicas) found ss → HasItems (IsStreamItem replicas) found ts → ss ≡ ts
same_streams replicas = same_list (IsStreamItem replicas) (one_stream replicas)

pub one_carry : (d : Data) (m n : ℕ) → IsCarryItem d m → IsCarryItem d n → m ≡ n
one_carry d m n is too = same_value _ is.0 too.0

abbrev plan_with : ℕ → ℕ → List ℕ → LinePlan
plan_with worker replica fail = record { worker = worker; replica = replica; fail = fail }

same_parts : {w x r s : ℕ} {f g : List ℕ} → w ≡ x → r ≡ s → f ≡ g → plan_with w r f ≡ plan_with x s g
same_parts a b c = cc

pub one_plan : (streams replicas : ℕ) (d : Data) (p q : LinePlan) → IsLinePlan streams replicas d p
    → IsLinePlan streams replicas d q → p ≡ q
one_plan streams replicas d p q is too =
    same_parts (same_value _ is.worker.0 too.worker.0) (same_value _ is.replica.0 too.replica.0)
    (same_list IsCarryItem one_carry _ p.fail q.fail is.fail.0 too.fail.0)

-- two lists of plans under one member
pub same_plans : (streams replicas : ℕ) (found : Option Data) (ps qs : List LinePlan) → ArePlans streams replicas found ps
    → ArePlans streams replicas found qs → ps ≡ qs
same_plans streams replicas None ps qs are also = are ∙ sym also
same_plans streams replicas (Some d) ps qs are also =
    same_list (IsLinePlan streams replicas) (one_plan streams replicas) (Some d) ps qs are.0 also.0
