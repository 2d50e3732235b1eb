-- What a state on a desk tells, what one who takes it finds, and what may become of it in one step.
use Rattle.std.specs.Prelude.{◌≡◌, ◌≢◌, ℕ, ◌==◌, Bool, false, List, [], ◌∷◌, ◌++◌, filter, Option, Some, None}

-- Of a state: its journal; of which stream an entry is, that whose call it answers or whose line's fault it tells, where
-- other entries are of none; how many streams there are; the calls that a stream has open; what no step changes; its
-- invariant; and what an open call may count on, between the state that its stream saw and a later one, whatever others
-- do: a relation that each state has to itself, and that goes on from state to state.
pub record Account (S Entry OpenCall Origin : Type 0) : Type 1 where
  pub journal : S → List Entry
  pub stream_of : Entry → Option ℕ
  pub streams : S → ℕ
  pub running : S → ℕ → List OpenCall
  pub origin : S → Origin
  pub sound : S → Type 0
  -- the earlier state first
  pub counts_on : OpenCall → S → S → Type 0
  pub counts_same : (c : OpenCall) (x : S) → counts_on c x x
  pub counts_later : (c : OpenCall) (x y z : S) → counts_on c x y → counts_on c y z → counts_on c x z

-- whether it is that stream
abbrev pub is_stream : ℕ → Option ℕ → Bool
is_stream stream None = false
is_stream stream (Some other) = stream == other

-- the seat with this number may add an entry of its own stream, or of none; the first seat has no number, and no stream
abbrev pub MayAdd : Option ℕ → Option ℕ → Type 0
MayAdd number None = Unit {0}
MayAdd number (Some stream) = number ≡ Some stream

-- the fact holds of each
abbrev pub Each : {A : Type 0} → (A → Type 0) → List A → Type 0
Each P [] = Unit {0}
Each P (x ∷ xs) = P x × Each P xs

-- the journal begins with these entries
abbrev pub BeginsWith : {Entry : Type 0} → List Entry → List Entry → Type 0
BeginsWith {Entry} journal es = (more : List Entry) × (journal ≡ es ++ more)

module _ {S Entry OpenCall Origin : Type 0} (account : Account S Entry OpenCall Origin) where
  -- the entries of a stream, in order
  abbrev pub entries_of : ℕ → List Entry → List Entry
  entries_of stream es = filter (λ e. is_stream stream (account.stream_of e)) es

  -- the entries of the seat with this number
  abbrev pub mine_in : Option ℕ → S → List Entry
  mine_in None x = []
  mine_in (Some stream) x = entries_of stream (account.journal x)

  -- the calls that it has open
  abbrev pub running_in : Option ℕ → S → List OpenCall
  running_in None x = []
  running_in (Some stream) x = account.running x stream

  -- The seat with this number, which saw the state y, finds x later: with the same origin, all of y's journal in front,
  -- of its own just the entries and the open calls that y had, and what each of those calls counts on.
  pub record Finds (number : Option ℕ) (x y : S) : Type 0 where
    pub same_origin : account.origin x ≡ account.origin y
    pub seen : BeginsWith (account.journal x) (account.journal y)
    pub mine : mine_in number x ≡ mine_in number y
    pub running : running_in number x ≡ running_in number y
    pub counted : Each (λ c. account.counts_on c y x) (running_in number y)

  -- the stream has neither entries nor open calls
  pub record IsSilent (stream : ℕ) (x : S) : Type 0 where
    pub entries : entries_of stream (account.journal x) ≡ []
    pub running : account.running x stream ≡ []

  -- What the holder of the seat with this number may make of the state x: a sound one of the same origin, with entries
  -- more that are its own or no stream's. Each other stream's open calls stay, and so does what they count on.
  pub record MayLeave (number : Option ℕ) (x y : S) : Type 0 where
    pub sound : account.sound y
    pub same_origin : account.origin y ≡ account.origin x
    pub added : (es : List Entry) × (account.journal y ≡ account.journal x ++ es)
        × Each (λ e. MayAdd number (account.stream_of e)) es
    pub others : (stream : ℕ) → number ≢ Some stream → account.running y stream ≡ account.running x stream
    pub counted : (stream : ℕ) → number ≢ Some stream → Each (λ c. account.counts_on c x y) (account.running x stream)
