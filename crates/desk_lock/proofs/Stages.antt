-- Facts of a stage, of a view and of where the state lies.
use Rattle.std.proofs.Common.{◌≡◌, ℕ, ◌+◌, ◌%◌, ◌^◌, ◌<◌, ◌≤◌, true, false, List, [], ◌∷◌, length, set, get_or, Option, Some, None}
use Rattle.std.proofs.Common.{refl, sym, ap, ◌∙◌, subst, inl, inr, arith}
use mathlib.Core.Option.{some, some-injective}
use mathlib.Core.Option as maybe
use mathlib.Core.Logic.{dite}
use native.Mathlib.Decide.{ℕ_discrete}
use lib.ListN.{get_elem?}
use lib.Seq.{set-get_or}
use Rattle.atomic_table.specs.Table.{State, keeps, stepped}
use Rattle.atomic_table.proofs.Lists.{set_again, set_else}
use Rattle.desk_lock.specs.declared.views.Known.{Known}
use Rattle.desk_lock.specs.declared.views.View.{View}
use Rattle.desk_lock.specs.declared.views.View.TheVariants.{Spent, Knows}
use Rattle.desk_lock.specs.declared.views.Stage.{Stage}
use Rattle.desk_lock.specs.declared.views.Stage.TheVariants.{Idle, Waits, Holds, Back}
use Rattle.desk_lock.specs.Account.{Account, Each, running_in, Finds, IsSilent}
use Rattle.desk_lock.specs.Known.{known_with, FindsEach, Fits}
use Rattle.desk_lock.specs.Rule.{ticket, holds_it, told_in, Says, SaysAt, OnStage, Placed, Seated, Lies, Ruled}
use Rattle.desk_lock.proofs.Lists.{begins_self, Each-all, Each-map, Each-set, Each-at}

pub wraps : (n : ℕ) → (n % 2 ^ 64 + 1) % 2 ^ 64 ≡ (n + 1) % 2 ^ 64
wraps n = omega arith

pub ticket_of_holder : (st : Stage) → holds_it st ≡ true → (a : ℕ) × (st ≡ Holds a)
ticket_of_holder Idle h = let f : false ≡ true = h in absurd (cc)
ticket_of_holder (Waits a) h = let f : false ≡ true = h in absurd (cc)
ticket_of_holder (Holds a) h = (a, refl)
ticket_of_holder (Back a) h = let f : false ≡ true = h in absurd (cc)

module _ {S : Type 0} where
  pub knows_is : (v : Known S) (told : ℕ) (w : Known S) → Says (Knows v told) w → v ≡ w
  knows_is v told w e = let f : Knows v told ≡ Knows w e.0 = e.1 in cc

  pub told_is : (v w : Known S) (told other : ℕ) → Knows v told ≡ Knows w other → told ≡ other
  told_is v w told other e = cc

  pub same_known : (v w : Known S) (told other : ℕ) → Knows v told ≡ Knows w other → v ≡ w
  same_known v w told other e = cc

  -- at one place two views say the same
  pub one_view : (vs : List (View S)) (j : ℕ) (v w : Known S) → SaysAt vs j v → SaysAt vs j w → v ≡ w
  one_view vs j v w e f = same_known v w e.0 f.0 (some-injective _ _ (sym e.1 ∙ f.1))

  pub ticket_within : (served drawn : ℕ) (now : S) (homes : List (maybe.Option (Option S))) (last : S) (st : Stage) (a : ℕ)
      → OnStage served drawn now homes last st → ticket st ≡ Some a → (served ≤ a) × (a < drawn)
  ticket_within served drawn now homes last Idle a on e = let f : None ≡ Some a = e in absurd (cc)
  ticket_within served drawn now homes last (Waits b) a on e = let f : Some b ≡ Some a = e in let g : b ≡ a = cc in
      let h = on.0 in let h' = on.1 in (omega arith, omega arith)
  ticket_within served drawn now homes last (Holds b) a on e = let f : Some b ≡ Some a = e in let g : b ≡ a = cc in
      let h = on.0 in let h' = on.1 in (omega arith, omega arith)
  ticket_within served drawn now homes last (Back b) a on e = let f : Some b ≡ Some a = e in let g : b ≡ a = cc in
      let h = on.0 in let h' = on.1 in (omega arith, omega arith)

  pub more_drawn : (served drawn : ℕ) (now : S) (homes : List (maybe.Option (Option S))) (last : S) (st : Stage)
      → OnStage served drawn now homes last st → OnStage served (drawn + 1) now homes last st
  more_drawn served drawn now homes last Idle on = tt
  more_drawn served drawn now homes last (Waits b) on = let h' = on.1 in (on.0, omega arith)
  more_drawn served drawn now homes last (Holds b) on = let h' = on.1 in (on.0, omega arith, on.2, on.3)
  more_drawn served drawn now homes last (Back b) on = let h' = on.1 in (on.0, omega arith)

  abbrev second : S → List (ℕ × Option S) → Option S
  second d [] = Some d
  second d (p ∷ ps) = p.1

  pub some_is : (x y : S) → Some x ≡ Some y → x ≡ y
  some_is x y e = cc

  pub slot_is : (x y : S) (l m : List (ℕ × Option S)) → l ≡ (0, Some x) ∷ [] → m ≡ (0, Some y) ∷ [] → l ≡ m → x ≡ y
  slot_is x y l m e f g = some_is x y (ap (second x) (sym e ∙ (g ∙ f)))

  -- the slot is empty
  pub taken : (served drawn : ℕ) (now : S) (homes : List (maybe.Option (Option S))) (last : S) (st : Stage)
      (homes' : List (maybe.Option (Option S))) → homes' ≡ maybe.none ∷ []
      → OnStage served drawn now homes last st → OnStage served drawn now homes' last st
  taken served drawn now homes last Idle homes' e on = tt
  taken served drawn now homes last (Waits b) homes' e on = on
  taken served drawn now homes last (Holds b) homes' e on = (on.0, on.1, e, on.3)
  taken served drawn now homes last (Back b) homes' e on = on

  pub spent_not_known : (u : Known S) → Says Spent u → ⊥
  spent_not_known u e = let f : Spent ≡ Knows u e.0 = e.1 in cc

  -- the state stays where it lies, where each seat that holds it is still among the views
  pub lies_moved : (now : S) (ws : List ℕ) (hs : List (maybe.Option (Option S))) (vs ws' : List (View S))
      → ((j : ℕ) (u : Known S) → SaysAt vs j u → holds_it u.stage ≡ true → (i : ℕ) × (x : Known S)
      × SaysAt ws' i x × (holds_it x.stage ≡ true))
      → Lies now record { words = ws; homes = hs; views = vs } → Lies now record { words = ws; homes = hs; views = ws' }
  lies_moved now ws hs vs ws' f (inl h) = inl h
  lies_moved now ws hs vs ws' f (inr h) = inr (h.0, f h.1.0 h.1.1 h.1.2 h.1.3)

  -- the state stays where it lies, while a seat that does not hold it changes
  pub lies_still : (now : S) (s : State (Option S) (View S)) (i n id : ℕ) (cs : List (ℕ × Option S)) (v w : View S)
      → Lies now s → get_elem? s.views id ≡ some v
      → ((u : Known S) → Says v u → holds_it u.stage ≡ false) → Lies now (stepped s i n id cs w keeps)
  lies_still now s i n id cs v w (inl h) at not = inl h
  lies_still now s i n id cs v w (inr h) at not = inr (
    h.0,
    (
      h.1.0,
      h.1.1,
      dite (ℕ_discrete h.1.0 id)
          (λ e. let there = subst (λ (z : ℕ). SaysAt s.views z h.1.1) e h.1.2 in
          let f : true ≡ false = sym h.1.3 ∙ not h.1.1 (there.0, some-injective _ _ (sym at ∙ there.1)) in absurd (cc))
          (λ ne. (h.1.2.0, set_else s.views id h.1.0 w ne ∙ h.1.2.1)),
      h.1.3,
    ),
  )

module _ {S Entry OpenCall Origin : Type 0} (account : Account S Entry OpenCall Origin) where
  abbrev pub R : State (Option S) (View S) → Type 0
  R = Ruled account

  abbrev pub Sits : (served drawn made : ℕ) (seat_of : ℕ → ℕ) (now : S) (homes : List (maybe.Option (Option S))) (j : ℕ)
      (v : Known S) → Type 0
  Sits = Seated account

  pub finds_self : (number : Option ℕ) (x : S) → Finds account number x x
  finds_self number x = record {
    same_origin = refl;
    seen = begins_self (account.journal x);
    mine = refl;
    running = refl;
    counted = Each-all (λ c. account.counts_on c x x) (λ c. account.counts_same c x) (running_in account number x);
  }

  -- what the view of a seat shows of a state that it takes, or that is closed
  pub finds : (served drawn made : ℕ) (seat_of : ℕ → ℕ) (now : S) (homes : List (maybe.Option (Option S))) (j : ℕ)
      (v : Known S) → Sits served drawn made seat_of now homes j v
      → account.sound now → ((n : ℕ) → made ≤ n → IsSilent account n now) → Fits account now v
  finds served drawn made seat_of now homes j v t ok silent = record {
    sound = ok;
    finds = t.finds;
    joined = by_number v.number v.joined t.placed;
    rest = λ none n le. left v.number none t.placed n le;
  }
    where
      by_number : (m : Option ℕ) (js : List (ℕ × S))
          → Placed account made seat_of now j (known_with m v.last v.stage v.made js) m → FindsEach account now js
      by_number None js p = p.2
      by_number (Some m) js p = subst (FindsEach account now) (sym p.3) tt

      left : (m : Option ℕ) → m ≡ None → Placed account made seat_of now j v m → (n : ℕ) → v.made ≤ n → IsSilent account n now
      left None e p n le = let same = p.1 in silent n (omega arith)
      left (Some m) e p n le = let f : Some m ≡ None = e in absurd (cc)

  pub unmoved : (s : State (Option S) (View S)) (i id : ℕ) (cs : List (ℕ × Option S)) (x : View S) → R s
      → get_elem? s.views id ≡ some x → R (stepped s i (get_or s.words i 0) id cs x keeps)
  unmoved s i id cs x r at = subst (λ (z : List ℕ × List (View S)). R (record { words = z.0; homes = s.homes; views = z.1 }))
      (λ h. (sym (set-get_or s.words i 0) h, sym (set_again s.views id x at) h)) r

  -- no seat was told of a longer journal than there is, where one view changes and the journal gets no shorter
  pub told_stays : (x y : S) (vs : List (View S)) (id : ℕ) (v w : View S)
      → Each (λ (z : View S). told_in z ≤ length (account.journal x)) vs → get_elem? vs id ≡ some v
      → ((n : ℕ) → n ≤ length (account.journal x) → n ≤ length (account.journal y))
      → (told_in v ≤ length (account.journal y) → told_in w ≤ length (account.journal y))
      → Each (λ (z : View S). told_in z ≤ length (account.journal y)) (set vs id w)
  told_stays x y vs id v w each at longer mine =
      let all = Each-map (λ (z : View S). told_in z ≤ length (account.journal x)) (λ (z : View S). told_in z ≤ length (account.journal y))
      (λ z. longer (told_in z)) vs each in
      Each-set (λ (z : View S). told_in z ≤ length (account.journal y)) vs id w all
      (mine (Each-at (λ (z : View S). told_in z ≤ length (account.journal y)) vs id v all at))

  -- a seat was told of no longer a journal than there is
  pub heard_of : (s : State (Option S) (View S)) (r : R s) (id : ℕ) (v : Known S) (at : SaysAt s.views id v)
      → at.0 ≤ length (account.journal r.now)
  heard_of s r id v at = Each-at (λ (z : View S). told_in z ≤ length (account.journal r.now)) s.views id (Knows v at.0) r.told at.1
