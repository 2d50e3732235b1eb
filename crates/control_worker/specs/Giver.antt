-- What is in hand while the pages of a snapshot's copy are given to a backup.
use Rattle.std.specs.Prelude.{◌≡◌, ℕ, ◌*◌, ◌<◌, pos, if◌then◌else◌, List, [], ◌∷◌, length, map, slice_index_or}
use Rattle.std.specs.Prelude.{Option, None, Some, IsSome, IfSome}
use Rattle.std.specs.Str.{bytes_eq}
use Rattle.vol_units.specs.Bytes.{bytes_at}
use Rattle.vol_units.specs.declared.size.TheConstants.{PAGE_BYTES}
use Rattle.outer_traits.specs.declared.ends.Ends.{Ends}
use Rattle.outer_traits.specs.Lines.{TellsMore}
use Rattle.backup_make.specs.Giving.{Copies}
use Rattle.stream_steps.specs.Mine.{Mine, OwnCall}
use Rattle.stream_steps.specs.Backup.{HasBackup, KeepsCopies}
use Rattle.rebuild_worker.specs.Copying.{OnLine}
use Rattle.client_worker.specs.declared.channel.Channel.{Channel}
use Rattle.client_worker.specs.Exchanges.{told_in}
use Rattle.client_worker.specs.Frames.{read_reply}
use Rattle.client_worker.specs.Working.{Work, Stays}
use Rattle.control_worker.specs.Frames.{page_request}
use Rattle.control_worker.specs.Whole.{GoesOn}

-- ---- two names

-- the copy of the base, and of no other name
abbrev pub copies_below : Copies → Option (List ℕ) → Copies
copies_below copies None name = None
copies_below copies (Some base) name = if bytes_eq name base then copies name else None

-- the copies of the snapshot that is asked for and of the base, and of no other name
abbrev pub copies_of : Copies → List ℕ → Option (List ℕ) → Copies
copies_of copies asked base name = if bytes_eq name asked then copies name else copies_below copies base name

-- the base that is known, where it is the one that is asked for
abbrev pub same_base : Option (List ℕ) → Option (List ℕ) → Option (List ℕ)
same_base None asked = None
same_base (Some known) None = None
same_base (Some known) (Some name) = if bytes_eq known name then Some known else None

-- the backup of that ticket has the turn, and both names can be used
pub record CanGive (t : ℕ) (asked : List ℕ) (below : Option (List ℕ)) (m : Mine) (copies : Copies) : Type 0 where
  pub turn : (b s : List ℕ) × (o : OwnCall) × HasBackup t b s o m
  pub live : IsSome (copies asked)
  pub base : IfSome below (λ n. IsSome (copies n))

-- ---- what is known

-- what the stream's worker knew once, and the copies
pub record Known : Type 0 where
  pub mine : Mine
  pub copies : Copies

-- what is known now is that with lines failed, and each copy that was known
pub record KnownOf (known : Known) (m : Mine) (copies : Copies) : Type 0 where
  pub goes : GoesOn known.mine m
  pub kept : KeepsCopies known.copies copies

-- the home and the lines stay, lines of the stream failed, and each copy that was known is known still
pub record GivesOn {C L H : Type 0} (at : C → H) (mine : C → Mine) (copies : C → Copies) (between : L → Ends) (w w2 : Work C L)
    : Type 0 where
  pub stays : Stays at between w w2
  pub goes : GoesOn (mine w.steps) (mine w2.steps)
  pub kept : KeepsCopies (copies w.steps) (copies w2.steps)

-- these are the bytes of that page of the copy
abbrev pub IsPageOf : Option (List ℕ) → ℕ → List ℕ → Type 0
IsPageOf copy page given = IfSome copy (λ disk. given ≡ bytes_at disk (page * PAGE_BYTES) PAGE_BYTES)

-- ---- on the lines

-- the line to a replica, with what it tells and the number of its last exchange
abbrev pub line_at : {L : Type 0} → (L → Option (List (List ℕ))) → List (Channel L) → ℕ → OnLine
line_at told cs r = record { told = told_in (map (λ c. told c.line) cs) r; seq = slice_index_or (map (λ c. c.seq) cs) r 0 }

-- a line tells two frames more: that page was asked for, and came with these bytes
abbrev pub TellsPage : List ℕ → ℕ → List ℕ → Option (List (List ℕ)) → Option (List (List ℕ)) → Type 0
TellsPage name page bytes before now = let offset = pos (page * PAGE_BYTES) in
    (seq : ℕ) × TellsMore before now (page_request seq offset name ∷ read_reply seq offset bytes ∷ [])

-- the last that the line to some replica tells is that page
pub record GavePage (name : List ℕ) (page : ℕ) (bytes : List ℕ) (told : List (Option (List (List ℕ)))) : Type 0 where
  pub replica : ℕ
  pub line : replica < length told
  pub before : Option (List (List ℕ))
  pub tells : TellsPage name page bytes before (told_in told replica)
