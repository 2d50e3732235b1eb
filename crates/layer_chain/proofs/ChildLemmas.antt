-- What stands on a layer, as one layer more is looked at.
use Rattle.std.proofs.Common.{◌≡◌, ◌≢◌, ◌⊎◌, inl, inr, ⊎_elim, ℕ, ◌+◌, ◌<◌, List, Option, ap, subst, arith}
use Rattle.std.proofs.lemmas.Bool.{cases_eq}
use Rattle.layer_chain.specs.Tree.{IsChild}
use Rattle.layer_chain.specs.Children.{Stands, Tells, with_child}
use Rattle.layer_chain.specs.declared.layer.Layer.{Layer}
use Rattle.layer_chain.specs.declared.children.Child.{Child}
use Rattle.layer_chain.specs.declared.children.Child.TheVariants as child
use Rattle.layer_chain.specs.declared.children.Children.{Children}
use Rattle.layer_chain.specs.declared.children.Children.TheVariants as children

module _ (layers : List Layer) (on : Option (List ℕ)) (p : ℕ) where
  wider : (c : ℕ) (a : Child) → Stands layers on c p a → Stands layers on (c + 1) p a
  wider c child.Head s = s
  wider c (child.Layer d) s = (omega (arith, s.0), s.1)

  narrower : (c : ℕ) (a : Child) → Stands layers on (c + 1) p a → (a ≡ child.Layer c) ⊎ Stands layers on c p a
  narrower c child.Head s = inr s
  narrower c (child.Layer d) s =
      ⊎_elim (λ e. inl (ap (λ (n : ℕ). child.Layer n) e)) (λ n. inr ((let l : d < c = omega (arith, s.0, n) in l), s.1)) (cases_eq d c)

  not_yet : (c : ℕ) (a : Child) → Stands layers on c p a → a ≢ child.Layer c
  not_yet c child.Head s e = absurd (cc)
  not_yet c (child.Layer d) s e = let same : d ≡ c = cc in absurd (omega (arith, s.0, same))

  is_child : (c : ℕ) (a : Child) → a ≡ child.Layer c → Stands layers on (c + 1) p a → IsChild layers c p
  is_child c a e s = let it : Stands layers on (c + 1) p (child.Layer c) = subst (λ (b : Child). Stands layers on (c + 1) p b) e s in it.1

  pub tells_child : (f : Children) (c : ℕ) → IsChild layers c p → Tells layers on c p f → Tells layers on (c + 1) p (with_child f c)
  tells_child children.None c here t =
      (((let l : c < c + 1 = omega arith in l), here), λ b s. ⊎_elim (λ e. e) (λ u. absurd (t b u)) (narrower c b s))
  tells_child (children.One a) c here t =
      (a, child.Layer c, not_yet c a t.0, wider c a t.0, ((let l : c < c + 1 = omega arith in l), here))
  tells_child children.More c here t = (t.0, t.1, t.2, wider c t.0 t.3, wider c t.1 t.4)

  pub tells_other : (f : Children) (c : ℕ) → (IsChild layers c p → ⊥) → Tells layers on c p f → Tells layers on (c + 1) p f
  tells_other children.None c other t = λ b s. ⊎_elim (λ e. other (is_child c b e s)) (λ u. t b u) (narrower c b s)
  tells_other (children.One a) c other t =
      (wider c a t.0, λ b s. ⊎_elim (λ e. absurd (other (is_child c b e s))) (λ u. t.1 b u) (narrower c b s))
  tells_other children.More c other t = (t.0, t.1, t.2, wider c t.0 t.3, wider c t.1 t.4)
