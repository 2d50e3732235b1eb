-- What a new desk meets, and what one that is closed met.
use Rattle.std.proofs.Common.{◌≡◌, ◌≢◌, ℕ, zero, suc, ◌<◌, ◌≤◌, true, false, List, [], ◌∷◌, length, Option, Some, None, refl, sym}
use Rattle.std.proofs.Common.{ap, ◌∙◌, subst, inl, inr, ⊎_elim, arith}
use mathlib.Core.Option.{some, some-injective}
use mathlib.Core.Option as maybe
use mathlib.Core.Logic.{dite}
use native.Mathlib.Decide.{ℕ_discrete}
use lib.ListN.{get_elem?}
use Rattle.atomic_table.specs.Table.{State, Final, Seen, opening}
use Rattle.desk_lock.specs.declared.views.Known.{Known}
use Rattle.desk_lock.specs.declared.views.View.{View}
use Rattle.desk_lock.specs.declared.views.View.TheVariants.{Knows}
use Rattle.desk_lock.specs.declared.views.Stage.TheVariants.{Idle}
use Rattle.desk_lock.specs.Account.{Account, Each, IsSilent}
use Rattle.desk_lock.specs.Known.{known_with, HasNumber, Fits}
use Rattle.desk_lock.specs.Rule.{holds_it, SaysAt, starting, Placed}
use Rattle.desk_lock.proofs.Stages.{knows_is, one_view, R, Sits, finds, finds_self, heard_of}

module _ {S Entry OpenCall Origin : Type 0} (account : Account S Entry OpenCall Origin) where
  pub opens : (x : S) → account.sound x → account.journal x ≡ [] → ((n : ℕ) → IsSilent account n x)
      → R account (opening (0 ∷ 0 ∷ 0 ∷ []) (Some x ∷ []) (starting x))
  opens x ok none silent = record {
    served = 0;
    drawn = 0;
    made = 0;
    seat_of = λ n. 0;
    now = x;
    words = ap (λ (es : List Entry). 0 ∷ 0 ∷ length es ∷ []) (sym none);
    counted = refl;
    wide = refl;
    few = omega arith;
    lies = inl refl;
    sound = ok;
    each_seat = at_first;
    told = (omega arith, tt);
    apart = λ i j v w a at there vt wt. sym (first_only i v at) ∙ first_only j w there;
    silent = λ n le. silent n;
  }
    where
      first_only : (j : ℕ) (v : Known S) → SaysAt (starting x ∷ []) j v → 0 ≡ j
      first_only zero v e = refl
      first_only (suc j) v e = absurd (maybe.some-ne-none (Knows v e.0) (sym e.1))

      at_first : (j : ℕ) (v : Known S) → SaysAt (starting x ∷ []) j v
          → Sits account 0 0 0 (λ n. 0) x (some (Some x) ∷ []) j v
      at_first zero v e = subst (Sits account 0 0 0 (λ n. 0) x (some (Some x) ∷ []) 0)
          (knows_is (known_with None x Idle 0 []) 0 v (e.0, some-injective _ _ e.1))
          record { finds = finds_self account None x; on_stage = tt; placed = (refl, refl, tt, tt, λ n le. silent n) }
      at_first (suc j) v e = absurd (maybe.some-ne-none (Knows v e.0) (sym e.1))

  pub closes : (id : ℕ) (v : Known S) (told : ℕ) (ws : List ℕ) (xs : List (Option S)) → v.number ≡ None → v.stage ≡ Idle
      → ((n : ℕ) → n < v.made → HasNumber n v.joined) → Final (Seen (R account) id (Knows v told)) ws xs
      → (x : S) × (get_elem? xs 0 ≡ some (Some x)) × Fits account x v × (told ≤ length (account.journal x))
  closes id v told ws xs first idle all_joined fin =
      let s : State (Option S) (View S) = fin.0 in
      let r : R account s = fin.1.0 in
      let at : SaysAt s.views id v = (told, fin.1.1) in
      let mine = r.each_seat id v at in
      let place = subst (Placed account r.made r.seat_of r.now id v) first mine.placed in
      let home : s.homes ≡ some (Some r.now) ∷ [] = at_home s r at mine.placed in (
        r.now,
        fin.4 0 (Some r.now) (ap (λ (hs : List (maybe.Option (Option S))). get_elem? hs 0) home),
        finds account r.served r.drawn r.made r.seat_of r.now s.homes id v mine r.sound r.silent,
        heard_of account s r id v at,
      )
    where
      joined_is : (seat_of : ℕ → ℕ) (made n : ℕ) (js : List (ℕ × S))
          → Each (λ (p : ℕ × S). (p.0 < made) × (seat_of p.0 ≡ 0)) js → HasNumber n js → seat_of n ≡ 0
      joined_is seat_of made n [] h has = absurd has
      joined_is seat_of made n (p ∷ ps) h (inl e) = ap seat_of (sym e) ∙ h.0.1
      joined_is seat_of made n (p ∷ ps) h (inr has) = joined_is seat_of made n ps h.1 has

      no_holder : (s : State (Option S) (View S)) (r : R account s) (j : ℕ) (u : Known S) → j ≢ id → id ≡ 0
          → v.made ≡ r.made → Each (λ (p : ℕ × S). (p.0 < r.made) × (r.seat_of p.0 ≡ 0)) v.joined → (m : Option ℕ)
          → Placed account r.made r.seat_of r.now j u m → ⊥
      no_holder s r j u ne zero_is top each None p = ne (p.0 ∙ sym zero_is)
      no_holder s r j u ne zero_is top each (Some m) p = let h = p.0 in
          p.2 (sym p.1 ∙ joined_is r.seat_of r.made m v.joined each (all_joined m (omega arith)))

      at_home : (s : State (Option S) (View S)) (r : R account s) → SaysAt s.views id v
          → Placed account r.made r.seat_of r.now id v v.number
          → s.homes ≡ some (Some r.now) ∷ []
      at_home s r at placed = let place = subst (Placed account r.made r.seat_of r.now id v) first placed in ⊎_elim (λ h. h)
          (λ (h : (s.homes ≡ maybe.none ∷ [])
          × ((j : ℕ) × (u : Known S) × SaysAt s.views j u × (holds_it u.stage ≡ true))).
          absurd (dite (ℕ_discrete h.1.0 id)
          (λ e. let same : h.1.1 ≡ v = one_view s.views id h.1.1 v (subst (λ (z : ℕ). SaysAt s.views z h.1.1) e h.1.2) at in
          let f : true ≡ false = sym h.1.3 ∙ (ap (λ (z : Known S). holds_it z.stage) same ∙ ap holds_it idle) in cc)
          (λ ne. no_holder s r h.1.0 h.1.1 ne place.0 place.1 place.3 h.1.1.number (r.each_seat h.1.0 h.1.1 h.1.2).placed)))
          r.lies
