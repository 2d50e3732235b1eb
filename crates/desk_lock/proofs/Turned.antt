-- What a seat knows after its turn came, and after it.
use Rattle.std.proofs.Common.{◌≡◌, ℕ, ◌+◌, ◌^◌, ◌<◌, ◌≤◌, true, List, [], ◌∷◌, length, Option, Some, None, refl, sym, ap, ◌∙◌, subst}
use Rattle.std.proofs.lemmas.Bool.{false≢true}
use Rattle.std.specs.Option.{IsSome}
use mathlib.Core.Option.{some}
use lib.ListN.{get_elem?}
use Rattle.atomic_table.specs.Table.{rest, opening, Final, Seen, Splits, Joins}
use Rattle.desk_lock.specs.declared.views.Known.{Known}
use Rattle.desk_lock.specs.declared.views.View.{View}
use Rattle.desk_lock.specs.declared.views.View.TheVariants.{Spent, Knows}
use Rattle.desk_lock.specs.declared.views.Stage.TheVariants.{Idle, Waits, Holds}
use Rattle.desk_lock.specs.Account.{Account, entries_of}
use Rattle.desk_lock.specs.Known.{staged, knowing, HasNumber, Fits}
use Rattle.desk_lock.specs.Rule.{Place, is_live, number_in, made_in, told_in, in_turn, known_of, starting, first_after, newcomer}
use Rattle.desk_lock.specs.Rule.{both_of, Ruled}
use Rattle.desk_lock.specs.Turns.{Takes}
use Rattle.desk_lock.proofs.Stages.{same_known, told_is, some_is, ticket_of_holder}
use Rattle.desk_lock.proofs.Splits.{splits, joins}
use Rattle.desk_lock.proofs.Ends.{opens, closes}

-- a seat that has a number has one
pub has_number_of : (m : Option ℕ) → IsSome m → (n : ℕ) × (m ≡ Some n)
has_number_of None h = absurd (false≢true h)
has_number_of (Some n) h = (n, refl)

module _ {S : Type 0} where
  pub is_known : (w : View S) (e : is_live w ≡ true) → w ≡ Knows (known_of w e) (told_in w)
  is_known Spent e = absurd (false≢true e)
  is_known (Knows v told) e = refl

  pub known_is : (w : View S) (e : is_live w ≡ true) (v : Known S) (told : ℕ) → w ≡ Knows v told → known_of w e ≡ v
  known_is w e v told is = same_known (known_of w e) v (told_in w) told (sym (is_known w e) ∙ is)

  pub number_known : (w : View S) (e : is_live w ≡ true) → number_in w ≡ (known_of w e).number
  number_known w e = ap number_in (is_known w e)

  pub made_known : (w : View S) (e : is_live w ≡ true) → made_in w ≡ (known_of w e).made
  made_known w e = ap made_in (is_known w e)

  pub turn_known : (w : View S) (e : is_live w ≡ true) → in_turn w ≡ true → (a : ℕ) × ((known_of w e).stage ≡ Holds a)
  turn_known w e h = ticket_of_holder (known_of w e).stage (sym (ap in_turn (is_known w e)) ∙ h)

module _ {S Entry OpenCall Origin : Type 0} (account : Account S Entry OpenCall Origin) where
  pub takes_told : (v : Known S) (told a : ℕ) (x y : S) (m0 m1 m2 m3 m4 : Place S) (r : Option S)
      → m0.0 ≡ Knows v told → m0.1 ≡ []
      → m1.1 ≡ m0.1 → m2 ≡ m1
      → Fits account x (staged v (Waits a)) → m3.0 ≡ Knows (knowing v x (Holds a)) told → m3.1 ≡ (0, Some x) ∷ m2.1
      → told ≤ length (account.journal x) → m3.1 ≡ (0, r) ∷ rest m3.1 → r ≡ Some y
      → m4 ≡ (m3.0, (0, None) ∷ rest m3.1) → Takes account m0 y m4
  takes_told v told a x y m0 m1 m2 m3 m4 r is bare still same f has got heard read unwrapped now u other e =
      let is_x : x ≡ y = some_is x y (ap (head (Some x)) (sym got ∙ read) ∙ unwrapped) in
      let was : Knows v told ≡ Knows u other = sym is ∙ e in
      let is_v : v ≡ u = same_known v u told other was in let is_told : told ≡ other = told_is v u told other was in
      let empty : rest m3.1 ≡ [] = ap rest got ∙ (ap (λ (m : Place S). m.1) same ∙ (still ∙ bare)) in (
        subst (λ (z : S × Known S). Fits account z.0 z.1) (λ i. (is_x i, is_v i))
            record { sound = f.sound; finds = f.finds; joined = f.joined; rest = f.rest },
        (
          a,
          now ∙ ((λ i. (has i, (0, None) ∷ empty i)) ∙ (λ i. (Knows (knowing (is_v i) (is_x i) (Holds a)) (is_told i), (0, None) ∷ []))),
        ),
        subst (λ (z : ℕ × S). z.0 ≤ length (account.journal z.1)) (λ i. (is_told i, is_x i)) heard,
      )
    where
      head : Option S → List (ℕ × Option S) → Option S
      head d [] = d
      head d (p ∷ ps) = p.1

  pub splits_at : (id : ℕ) (w : View S) (e : is_live w ≡ true) (x : View S) → x ≡ w → (known_of w e).number ≡ None
      → (known_of w e).made + 1 < 2 ^ 64
      → Splits (Ruled account) id x (first_after x) (newcomer x)
  splits_at id Spent e x is first room = absurd (false≢true e)
  splits_at id (Knows v told) e x is first room =
      subst (λ (z : View S). Splits (Ruled account) id z (first_after z) (newcomer z)) (sym is)
      (splits account id v told first room)

  pub joins_at : (id : ℕ) (w : View S) (e : is_live w ≡ true) (other : ℕ) (x : View S) (f : is_live x ≡ true) (n : ℕ)
      → (known_of w e).number ≡ None → (known_of x f).number ≡ Some n → (known_of x f).stage ≡ Idle
      → Joins (Ruled account) id w other x (both_of w x) Spent
  joins_at id Spent e other x f n first is idle = absurd (false≢true e)
  joins_at id (Knows v told) e other Spent f n first is idle = absurd (false≢true f)
  joins_at id (Knows v told) e other (Knows w heard) f n first is idle = joins account id v told other w heard n first is idle

  pub closes_at : (id : ℕ) (w : View S) (e : is_live w ≡ true) (ws : List ℕ) (xs : List (Option S))
      → (known_of w e).number ≡ None → (known_of w e).stage ≡ Idle
      → ((n : ℕ) → n < (known_of w e).made → HasNumber n (known_of w e).joined) → Final (Seen (Ruled account) id w) ws xs
      → (x : S) × (get_elem? xs 0 ≡ some (Some x)) × Fits account x (known_of w e) × (told_in w ≤ length (account.journal x))
  closes_at id Spent e ws xs first idle all fin = absurd (false≢true e)
  closes_at id (Knows v told) e ws xs first idle all fin = closes account id v told ws xs first idle all fin

  pub opens_at : (x y : S) (xs : List (Option S)) → account.sound x → account.journal x ≡ []
      → ((n : ℕ) → account.running x n ≡ []) → xs ≡ Some x ∷ [] → y ≡ x
      → Ruled account (opening (0 ∷ 0 ∷ 0 ∷ []) xs (starting y))
  opens_at x y xs ok none idle is same =
      subst (λ (z : List (Option S) × S). Ruled account (opening (0 ∷ 0 ∷ 0 ∷ []) z.0 (starting z.1)))
      (λ i. (sym is i, sym same i))
      (opens account x ok none (λ n. record { entries = ap (entries_of account n) none; running = idle n }))
