-- How far rebuilds are by a World's fields, who has a part in the one that is open, and the command that has it.
use Rattle.std.proofs.Common.{◌≡◌, ◌≢◌, ◌⊎◌, ℕ, Bool, true, false, cond, eqb, ◌||◌, List, [], ◌∷◌, ◌++◌, length, refl}
use Rattle.std.proofs.Common.{sym, ap, subst, ◌∙◌, inl, inr, ⊎_elim}
use Rattle.std.specs.Prelude.{Option, None, Some}
use Rattle.std.proofs.lemmas.Bool.{eq-eqb, eqb-true}
use Rattle.volume_model.specs.declared.entry.Entry.{Entry}
use Rattle.volume_model.specs.declared.entry.Entry.TheVariants as entry
use Rattle.volume_model.specs.declared.mark.Mark.TheVariants as mark
use Rattle.volume_model.specs.declared.mark.Rebuild.TheVariants as rebuild
use Rattle.volume_model.specs.Rebuilds.{rebuild_of}
use Rattle.volume_model.proofs.RebuildLemmas.{rebuild_of-push}
use Rattle.open_rebuild.specs.declared.rebuilding.Rebuilding.{Rebuilding}
use Rattle.open_rebuild.specs.Claim.{IsApart}
use Rattle.volume_core.specs.declared.world.EndedRebuild.{EndedRebuild}
use Rattle.volume_core.specs.State.{State}
use Rattle.volume_core.specs.Steps.{has_part, marks_of_fall, aborted, behind_fall, aborted_with}
use Rattle.volume_core.specs.Sound.{how_far}

-- ---- which rebuild is open

-- a choice between that and none is open only as the first
chosen : (t : Bool) (s n : ℕ) → cond t (rebuild.Open n) rebuild.Unasked ≡ rebuild.Open s → (t ≡ true) × (n ≡ s)
chosen true s n e = (refl, cc)
chosen false s n e = absurd cc

pub it_is : (b : Rebuilding) (g : Option EndedRebuild) (q s : ℕ) → how_far (Some b) g q ≡ rebuild.Open s → (b.target ≡ q) × (b.source ≡ s)
it_is b g q s e = let is = chosen (eqb b.target q) s b.source e in (eqb-true b.target q is.0, is.1)

pub none_open : (g : Option EndedRebuild) (q s : ℕ) → how_far None g q ≡ rebuild.Open s → ⊥
none_open None q s e = absurd cc
none_open (Some x) q s e = closed (eqb x.target q) e
  where
    closed : (t : Bool) → cond t (rebuild.Aborted x.place) rebuild.Unasked ≡ rebuild.Open s → ⊥
    closed true e = absurd cc
    closed false e = absurd cc

-- the open rebuild is the only one
pub opened_far : (b : Rebuilding) (g : Option EndedRebuild) → how_far (Some b) g b.target ≡ rebuild.Open b.source
opened_far b g = ap (λ t. cond t (rebuild.Open b.source) rebuild.Unasked) (eq-eqb b.target b.target refl)

module _ (es : List Entry) (b : Rebuilding) (g : Option EndedRebuild) (far : (q : ℕ) → rebuild_of q es ≡ how_far (Some b) g q) where
  pub begun_of : rebuild_of b.target es ≡ rebuild.Open b.source
  begun_of = far b.target ∙ opened_far b g

  pub only_of : (q s : ℕ) → rebuild_of q es ≡ rebuild.Open s → q ≡ b.target
  only_of q s e = sym (it_is b g q s (sym (far q) ∙ e)).0

-- a replica without a part in it is in no open rebuild
pub not_in : (o : Option Rebuilding) (g : Option EndedRebuild) (q s r : ℕ) → how_far o g q ≡ rebuild.Open s → IsApart o r
    → (r ≡ q) ⊎ (r ≡ s) → ⊥
not_in None g q s r e apart who = none_open g q s e
not_in (Some b) g q s r e apart who =
    let is = it_is b g q s e in
    ⊎_elim (λ f. apart.0 (f ∙ sym is.0)) (λ f. apart.1 (f ∙ sym is.1)) who

-- ---- what a mark leaves of it

-- the end of the open one
pub far_aborted : (es : List Entry) (b : Rebuilding) (g : Option EndedRebuild) → ((q : ℕ) → rebuild_of q es ≡ how_far (Some b) g q)
    → (q : ℕ) → rebuild_of q (es ++ entry.Mark (mark.Aborted b.target) ∷ []) ≡ how_far None
    (Some (record { target = b.target; place = length es })) q
far_aborted es b g far q =
    rebuild_of-push q es (entry.Mark (mark.Aborted b.target))
    ∙ ap (λ x. cond (eqb b.target q) (rebuild.Aborted (length es)) x) (far q) ∙ one (eqb b.target q)
  where
    one : (t : Bool) → cond t (rebuild.Aborted (length es)) (cond t (rebuild.Open b.source) rebuild.Unasked) ≡ cond t
        (rebuild.Aborted (length es)) rebuild.Unasked
    one true = refl
    one false = refl

-- ---- who has a part in it

part_or_not : (b : Rebuilding) (r : ℕ) (t u : Bool) → eqb r b.target ≡ t → eqb r b.source ≡ u → ((t || u) ≡ true)
    → (r ≡ b.target) ⊎ (r ≡ b.source)
part_or_not b r true u e f is = inl (eqb-true r b.target e)
part_or_not b r false true e f is = inr (eqb-true r b.source f)
part_or_not b r false false e f is = absurd cc

no_part : (b : Rebuilding) (r : ℕ) (t u : Bool) → eqb r b.target ≡ t → eqb r b.source ≡ u → ((t || u) ≡ false)
    → (r ≢ b.target) × (r ≢ b.source)
no_part b r true u e f is = absurd cc
no_part b r false true e f is = absurd cc
no_part b r false false e f is = (λ g. apart (sym e ∙ eq-eqb r b.target g), λ g. apart (sym f ∙ eq-eqb r b.source g))
  where
    apart : false ≡ true → ⊥
    apart e = cc

-- what the fall of a replica leaves: all as it is, or the rebuild aborted
pub record GoesOn (s : State) (r : ℕ) (s2 : State) : Type 0 where
  pub apart : IsApart s.rebuild r
  pub one : marks_of_fall s.rebuild r ≡ 1
  pub state : s2 ≡ s

pub record Aborts (s : State) (r : ℕ) (s2 : State) : Type 0 where
  pub b : Rebuilding
  pub begun : s.rebuild ≡ Some b
  pub part : (r ≡ b.target) ⊎ (r ≡ b.source)
  pub two : marks_of_fall s.rebuild r ≡ 2
  pub state : s2 ≡ aborted s b.target

pub behind : (s : State) (r : ℕ) → GoesOn s r (behind_fall s r) ⊎ Aborts s r (behind_fall s r)
behind s r = by s.rebuild refl
  where
    by : (o : Option Rebuilding) → s.rebuild ≡ o → GoesOn s r (behind_fall s r) ⊎ Aborts s r (behind_fall s r)
    by None e = inl (record {
      apart = subst (λ o. IsApart o r) (sym e) tt;
      one = ap (λ o. marks_of_fall o r) e;
      state = ap (λ o. aborted_with o s r) e;
    })
    by (Some b) e = by_part (has_part (Some b) r) refl
      where
        by_part : (t : Bool) → has_part (Some b) r ≡ t → GoesOn s r (behind_fall s r) ⊎ Aborts s r (behind_fall s r)
        by_part true f = inr (record {
          b = b;
          begun = e;
          part = part_or_not b r (eqb r b.target) (eqb r b.source) refl refl f;
          two = ap (λ o. marks_of_fall o r) e ∙ ap (λ t. cond t 2 1) f;
          state = ap (λ o. aborted_with o s r) e ∙ ap (λ t. cond t (aborted s b.target) s) f;
        })
        by_part false f = inl (record {
          apart = subst (λ o. IsApart o r) (sym e) (no_part b r (eqb r b.target) (eqb r b.source) refl refl f);
          one = ap (λ o. marks_of_fall o r) e ∙ ap (λ t. cond t 2 1) f;
          state = ap (λ o. aborted_with o s r) e ∙ ap (λ t. cond t (aborted s b.target) s) f;
        })
