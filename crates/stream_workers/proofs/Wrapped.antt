-- A line tells the same whether it is wrapped or not.
use Rattle.std.proofs.Common.{◌≡◌, ℕ, List, [], Option, sym, subst, ◌∙◌}
use Rattle.std.specs.Prelude.{IfSome}
use Rattle.outer_traits.specs.declared.ends.Ends.{Ends}
use Rattle.outer_traits.specs.Lines.{IsNewLine, Records}

pub same_new : (e e2 : Ends) (k k2 : ℕ) (t t2 : Option (List (List ℕ))) (w r : ℕ) → e2 ≡ e → k2 ≡ k → t2 ≡ t
    → IsNewLine e k t w r → IsNewLine e2 k2 t2 w r
same_new e e2 k k2 t t2 w r ends count carried new = record {
  between = ends ∙ new.between;
  unfailed = count ∙ new.unfailed;
  empty = subst (λ x. IfSome x (λ frames. frames ≡ [])) (sym carried) new.empty;
}

pub same_records : {T : Type 0} (f g : ℕ → ℕ → T) (e e2 : Ends) (t t2 : T) → e ≡ e2 → t ≡ t2 → Records f g e t → Records f g e2 t2
same_records f g e e2 t t2 ends told records = subst (λ x. Records f g x t2) ends (subst (Records f g e) told records)
