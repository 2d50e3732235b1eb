-- The rule of a desk's table, and what each step tells. Word 0 is the number of tickets drawn and word 1 that of turns
-- ended, both modulo 2 ^ 64. Word 2 is the length of the journal, of the state at home or as its holder took it. Slot 0
-- has the state, unless it is out with the seat whose turn it is.
use Rattle.std.specs.Prelude.{◌≡◌, ◌≢◌, ◌⊎◌, ℕ, ◌+◌, ◌%◌, ◌^◌, ◌<◌, ◌≤◌, max, Bool, true, false, List, [], ◌∷◌, length, Option, Some, None}
use Rattle.std.proofs.lemmas.Bool.{false≢true}
use mathlib.Core.Option.{some}
use mathlib.Core.Option as maybe
use lib.ListN.{get_elem?}
use Rattle.atomic_table.specs.Table.{State, Me, Step}
use Rattle.desk_lock.specs.declared.views.Known.{Known}
use Rattle.desk_lock.specs.declared.views.View.{View}
use Rattle.desk_lock.specs.declared.views.View.TheVariants.{Spent, Knows}
use Rattle.desk_lock.specs.declared.views.Stage.{Stage}
use Rattle.desk_lock.specs.declared.views.Stage.TheVariants.{Idle, Waits, Holds, Back}
use Rattle.desk_lock.specs.Account.{Account, Each, Finds, IsSilent}
use Rattle.desk_lock.specs.Known.{known_with, staged, knowing, one_more, keeping, FindsEach, Fits, ReachesSeen}

-- ---- a seat's stage, and its view

-- the ticket that is out with it
abbrev pub ticket : Stage → Option ℕ
ticket Idle = None
ticket (Waits a) = Some a
ticket (Holds a) = Some a
ticket (Back a) = Some a

-- how many tickets that is
abbrev pub has_ticket : Stage → ℕ
has_ticket Idle = 0
has_ticket (Waits a) = 1
has_ticket (Holds a) = 1
has_ticket (Back a) = 1

-- whether it has the state
abbrev pub holds_it : Stage → Bool
holds_it Idle = false
holds_it (Waits a) = false
holds_it (Holds a) = true
holds_it (Back a) = false

-- the number, and for the first seat this one
abbrev pub number_or : ℕ → Option ℕ → ℕ
number_or d (Some n) = n
number_or d None = d

-- a seat of the table: its view, and the slots that are out with it
abbrev pub Place : Type 0 → Type 0
Place S = Me (Option S) (View S)

module _ {S : Type 0} where
  -- the first seat of a desk with this state
  abbrev pub starting : S → View S
  starting x = Knows (known_with None x Idle 0 []) 0

  -- how many tickets are out with it
  abbrev pub out_of : View S → ℕ
  out_of Spent = 0
  out_of (Knows v told) = has_ticket v.stage

  -- how many are out with all
  abbrev pub outs : List (View S) → ℕ
  outs [] = 0
  outs (v ∷ vs) = out_of v + outs vs

module _ {S : Type 0} where
  -- no other seat was given this one
  abbrev pub is_live : View S → Bool
  is_live Spent = false
  is_live (Knows v told) = true

  -- its number
  abbrev pub number_in : View S → Option ℕ
  number_in Spent = None
  number_in (Knows v told) = v.number

  -- how many seats were split off it
  abbrev pub made_in : View S → ℕ
  made_in Spent = 0
  made_in (Knows v told) = v.made

  -- the length of the journal that it was told last
  abbrev pub told_in : View S → ℕ
  told_in Spent = 0
  told_in (Knows v told) = told

  -- whether its turn has come
  abbrev pub in_turn : View S → Bool
  in_turn Spent = false
  in_turn (Knows v told) = holds_it v.stage

  -- what it knows
  abbrev pub known_of : (w : View S) → is_live w ≡ true → Known S
  known_of Spent e = absurd (false≢true e)
  known_of (Knows v told) e = v

  -- the view of a seat that knows this
  abbrev pub Says : View S → Known S → Type 0
  Says w v = (told : ℕ) × (w ≡ Knows v told)

  -- the seat j of the table's knows this
  abbrev pub SaysAt : List (View S) → ℕ → Known S → Type 0
  SaysAt views j v = (told : ℕ) × (get_elem? views j ≡ some (Knows v told))

-- ---- what each step tells

module _ {S : Type 0} where
  -- a ticket is drawn where the number found is the one that was seen: it is the ticket's. Else nothing changes
  abbrev pub drew : Step (Option S) → Place S → ℕ → Place S → Type 0
  drew st m r m' = (r ≢ st.first → m' ≡ m)
      × (r ≡ st.first → (v : Known S) (told : ℕ) → m.0 ≡ Knows v told
      → (a : ℕ) × (r ≡ a % 2 ^ 64) × (m' ≡ (Knows (staged v (Waits a)) told, m.1)))

  -- the turn is passed on, and the state that the seat had is put back: it is the last that the seat saw
  abbrev pub passed : Step (Option S) → Place S → ℕ → Place S → Type 0
  passed st m r m' = (m'.1 ≡ [])
      × ((v : Known S) (told : ℕ) (x : S) → m.0 ≡ Knows v told → m.1 ≡ (0, Some x) ∷ []
      → m'.0 ≡ Knows (knowing v x Idle) told)

  -- the state that the seat had is put back, and the length of its journal published: the turn goes on
  abbrev pub published : Step (Option S) → Place S → ℕ → Place S → Type 0
  published st m r m' = (m'.1 ≡ [])
      × ((v : Known S) (told a : ℕ) (x : S) → m.0 ≡ Knows v told → v.stage ≡ Holds a → m.1 ≡ (0, Some x) ∷ []
      → m'.0 ≡ Knows (knowing v x (Back a)) told)

  -- the turn is passed on after that
  abbrev pub ended : Step (Option S) → Place S → ℕ → Place S → Type 0
  ended st m r m' = (m'.1 ≡ m.1)
      × ((v : Known S) (told : ℕ) → m.0 ≡ Knows v told → m'.0 ≡ Knows (staged v Idle) told)

  -- a seat is split off the first
  abbrev pub first_after : View S → View S
  first_after Spent = Spent
  first_after (Knows v told) = Knows (one_more v) told

  -- it has the next number, has seen as much, and was told nothing
  abbrev pub newcomer : View S → View S
  newcomer Spent = Spent
  newcomer (Knows v told) = Knows (known_with (Some v.made) v.last Idle 0 []) 0

  -- a seat is joined into the first, which keeps its number, what it last saw, and the greater of both lengths
  abbrev pub both_of : View S → View S → View S
  both_of (Knows v told) (Knows w other) = Knows (keeping v (number_or 0 w.number) w.last) (max told other)
  both_of (Knows v told) Spent = Knows v told
  both_of Spent w = Spent

module _ {S Entry OpenCall Origin : Type 0} (account : Account S Entry OpenCall Origin) where
  -- a look at whose turn it is: where it is the seat's, it takes the state
  abbrev pub looked : Step (Option S) → Place S → ℕ → Place S → Type 0
  looked st m r m' = (v : Known S) (told a : ℕ) → m.0 ≡ Knows v told → v.stage ≡ Waits a
      → (r ≡ a % 2 ^ 64
      → (x : S) × Fits account x v × (m'.0 ≡ Knows (knowing v x (Holds a)) told) × (m'.1 ≡ (0, Some x) ∷ m.1)
      × (told ≤ length (account.journal x)))
      × (r ≢ a % 2 ^ 64 → m' ≡ m)

  -- who has the state finds the length that its journal had when it was taken
  abbrev pub compared : Step (Option S) → Place S → ℕ → Place S → Type 0
  compared st m r m' = (m' ≡ m)
      × ((v : Known S) (told a : ℕ) → m.0 ≡ Knows v told → v.stage ≡ Holds a → r ≡ length (account.journal v.last))

  -- The seat is told the length of the journal: no less than it was told before, and than it has seen, or those that were
  -- joined into it.
  abbrev pub learned : Step (Option S) → Place S → ℕ → Place S → Type 0
  learned st m r m' = (m'.1 ≡ m.1)
      × ((v : Known S) (told : ℕ) → m.0 ≡ Knows v told
      → (told ≤ r) × ReachesSeen account r v × (m'.0 ≡ Knows v r))

  -- the first seat finds that the numbers not yet given had done nothing when it last saw the state
  abbrev pub recalled : Step (Option S) → Place S → ℕ → Place S → Type 0
  recalled st m r m' = (m' ≡ m)
      × ((v : Known S) (told : ℕ) → m.0 ≡ Knows v told → v.number ≡ None → (n : ℕ) → v.made ≤ n
      → IsSilent account n v.last)

-- ---- the rule

-- how a seat stands that last saw the state `last`, where the state is now `now`
module _ {S : Type 0} (served drawn : ℕ) (now : S) (homes : List (maybe.Option (Option S))) where
  abbrev pub OnStage : S → Stage → Type 0
  OnStage last Idle = Unit {0}
  OnStage last (Waits a) = (served ≤ a) × (a < drawn)
  OnStage last (Holds a) = (a ≡ served) × (a < drawn) × (homes ≡ maybe.none ∷ []) × (last ≡ now)
  OnStage last (Back a) = (a ≡ served) × (a < drawn)

module _ {S : Type 0} where
  -- the state is at home, or out with some seat
  abbrev pub Lies : S → State (Option S) (View S) → Type 0
  Lies now s = (s.homes ≡ some (Some now) ∷ [])
      ⊎ ((s.homes ≡ maybe.none ∷ [])
      × ((j : ℕ) × (v : Known S) × SaysAt s.views j v × (holds_it v.stage ≡ true)))

module _ {S Entry OpenCall Origin : Type 0} (account : Account S Entry OpenCall Origin) where
  -- The first seat is number 0 of the table's. It knows what is so of the numbers that were joined, and that those not
  -- yet given had done nothing. Each other seat is where its number is said to be.
  abbrev pub Placed : ℕ → (ℕ → ℕ) → S → ℕ → Known S → Option ℕ → Type 0
  Placed made seat_of now j v None = (j ≡ 0) × (v.made ≡ made) × FindsEach account now v.joined
      × Each (λ (p : ℕ × S). (p.0 < made) × (seat_of p.0 ≡ 0)) v.joined
      × ((n : ℕ) → made ≤ n → IsSilent account n v.last)
  Placed made seat_of now j v (Some n) = (n < made) × (seat_of n ≡ j) × (j ≢ 0) × (v.joined ≡ [])

  -- the seat j of the table's finds its own in the state
  pub record Seated (served drawn made : ℕ) (seat_of : ℕ → ℕ) (now : S) (homes : List (maybe.Option (Option S)))
      (j : ℕ) (v : Known S) : Type 0 where
    pub finds : Finds account v.number now v.last
    pub on_stage : OnStage served drawn now homes v.last v.stage
    pub placed : Placed made seat_of now j v v.number

  -- So many turns were served, tickets drawn and seats split off. Each number was given to one seat, and is back at the
  -- first once it was joined. The state is the one at home, or the one that its holder took: its journal's length is
  -- published, and no seat was told of a longer one. No ticket is out twice.
  pub record Ruled (s : State (Option S) (View S)) : Type 0 where
    pub served : ℕ
    pub drawn : ℕ
    pub made : ℕ
    pub seat_of : ℕ → ℕ
    pub now : S
    pub words : s.words ≡ (drawn % 2 ^ 64) ∷ (served % 2 ^ 64) ∷ length (account.journal now) ∷ []
    pub counted : drawn ≡ served + outs s.views
    pub wide : length s.views ≡ made + 1
    pub few : made < 2 ^ 64
    pub lies : Lies now s
    pub sound : account.sound now
    pub each_seat : (j : ℕ) (v : Known S) → SaysAt s.views j v → Seated served drawn made seat_of now s.homes j v
    pub told : Each (λ (w : View S). told_in w ≤ length (account.journal now)) s.views
    pub apart : (i j : ℕ) (v w : Known S) (a : ℕ) → SaysAt s.views i v → SaysAt s.views j w
        → ticket v.stage ≡ Some a → ticket w.stage ≡ Some a → i ≡ j
    pub silent : (n : ℕ) → made ≤ n → IsSilent account n now
