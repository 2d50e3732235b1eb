-- The pages of a backup go over the stream's lines.
use Rattle.std.proofs.Common.{◌≡◌, ◌⊎◌, inl, inr, ℕ, ◌*◌, ◌<◌, Bool, true, false, List, [], ◌∷◌, length, set, get_or, pos}
use Rattle.std.proofs.Common.{Result, Ok, Err, IfOk, Option, Some, None, subst, sym, refl, ap, ◌∙◌}
use Rattle.std.specs.Prelude.{IsSome, IfSome, ℤ}
use Rattle.std.proofs.lemmas.List.{drop_at}
use Rattle.outer_traits.specs.declared.ends.Ends.{Ends}
use Rattle.std.specs.Prelude.{if◌then◌else◌}
use Rattle.std.specs.Str.{bytes_eq}
use Rattle.std.proofs.lemmas.Bool.{false≢true}
use Rattle.std.proofs.Common.{OnOk, option_map}
use Rattle.backup_units.specs.Backups.{page_at}
use Rattle.std.proofs.lemmas.Slice.Eq.{bytes_eq-Decides}
use Rattle.backup_make.specs.Giving.{Copies, Covers, CoversDisk, Drops}
use Rattle.backup_make.specs.declared.giver.Pages.{Pages}
use Rattle.backup_make.specs.declared.giver.Pages.TheVariants as found
use Rattle.stream_steps.specs.Mine.{Mine, OwnCall}
use Rattle.stream_steps.specs.Backup.{HasBackup, KeepsCopies}
use Rattle.vol_units.specs.declared.size.TheConstants.{PAGE_BYTES}
use Rattle.frame_wire.specs.Spelling.{frame, header, IsHead}
use Rattle.rebuild_worker.specs.Copying.{CarriesOn, OnLine, number_after, numbered}
use Rattle.rebuild_worker.proofs.CopyLemmas.{exchange}
use Rattle.client_worker.specs.declared.channel.Channel.{Channel}
use Rattle.client_worker.specs.Frames.{read_reply, read_reply_head}
use Rattle.client_worker.specs.Working.{Work}
use Rattle.client_worker.proofs.Counts.{at_map}
use Rattle.client_worker.proofs.Told.{here_set}
use Rattle.control_worker.specs.Copier.{on_line}
use Rattle.control_worker.specs.Frames.{page_head, page_in, page_request}
use Rattle.control_worker.specs.Giver.{CanGive, GivesOn, IsPageOf, Known, KnownOf, TellsPage, copies_below, copies_of, line_at, same_base}
use Rattle.control_worker.specs.Whole.{GoesOn}
use Rattle.control_worker.proofs.CarrierLemmas.{stays_both}
use Rattle.control_worker.proofs.CopierLemmas.{count_here}
use Rattle.control_worker.proofs.Goes.{goes_on, goes_same, goes_running}

-- ---- step after step

pub keeps_then : (f g h : Copies) → KeepsCopies f g → KeepsCopies g h → KeepsCopies f h
keeps_then f g h k l name disk is = l name disk (k name disk is)

pub gives_then : {C L H : Type 0} {at : C → H} {mine : C → Mine} {copies : C → Copies} {between : L → Ends} (a b c : Work C L)
    → GivesOn at mine copies between a b → GivesOn at mine copies between b c → GivesOn at mine copies between a c
gives_then {mine = mine} {copies = copies} a b c f k = record {
  stays = stays_both a b c f.stays k.stays;
  goes = goes_on (mine a.steps) (mine b.steps) (mine c.steps) f.goes k.goes;
  kept = keeps_then (copies a.steps) (copies b.steps) (copies c.steps) f.kept k.kept;
}

-- nothing was done
pub gives_none : {C L H : Type 0} {at : C → H} {mine : C → Mine} {copies : C → Copies} {between : L → Ends} (a : Work C L)
    → GivesOn at mine copies between a a
gives_none {mine = mine} a = record {
  stays = record { home = refl; lines = record { count = refl; ends = refl } };
  goes = goes_same (mine a.steps) (mine a.steps) refl;
  kept = λ name disk is. is;
}

-- a step was taken that changes nothing for the stream
pub gives_step : {C L H : Type 0} {at : C → H} {mine : C → Mine} {copies : C → Copies} {between : L → Ends} (a : Work C L) (c : C)
    → at c ≡ at a.steps → mine c ≡ mine a.steps → KeepsCopies (copies a.steps) (copies c)
    → GivesOn at mine copies between a (record { steps = c; channels = a.channels })
gives_step {mine = mine} a c home same kept = record {
  stays = record { home = home; lines = record { count = refl; ends = refl } };
  goes = goes_same (mine a.steps) (mine c) same;
  kept = kept;
}

-- ---- the turn

pub backup_same : (t : ℕ) (a b : Mine) → b ≡ a → ((n s : List ℕ) × (o : OwnCall) × HasBackup t n s o a)
    → (n s : List ℕ) × (o : OwnCall) × HasBackup t n s o b
backup_same t a b e h = (h.0, h.1, h.2, subst (HasBackup t h.0 h.1 h.2) (sym e) h.3)

pub backup_goes : (t : ℕ) (a b : Mine) → GoesOn a b → ((n s : List ℕ) × (o : OwnCall) × HasBackup t n s o a)
    → (n s : List ℕ) × (o : OwnCall) × HasBackup t n s o b
backup_goes t a b g h = (
  h.0,
  h.1,
  h.2,
  record {
    is = goes_running a.running a b g ∙ h.3.is;
    number = h.3.number;
    call = h.3.call;
    wants = h.3.wants;
    started = h.3.started;
  },
)

-- ---- copies

pub live_kept : (f g : Copies) (name : List ℕ) → KeepsCopies f g → IsSome (f name) → g name ≡ f name
live_kept f g name kept some = at (f name) refl some
  where
    at : (o : Option (List ℕ)) → f name ≡ o → IsSome o → g name ≡ f name
    at None e h = absurd (false≢true h)
    at (Some disk) e h = kept name disk e ∙ sym e

pub still_live : (f g : Copies) (name : List ℕ) → KeepsCopies f g → IsSome (f name) → IsSome (g name)
still_live f g name kept some = subst IsSome (sym (live_kept f g name kept some)) some

-- what is true of a copy is true of it still
pub kept_of : (f g : Copies) (name : List ℕ) (P : List ℕ → Type 0) → KeepsCopies f g → IsSome (f name) → IfSome (f name) P
    → IfSome (g name) P
kept_of f g name P kept some h = subst (λ o. IfSome o P) (sym (live_kept f g name kept some)) h

-- ---- two names

-- each of both has the copy that it had
pub same_copies : (f g : Copies) (asked : List ℕ) (base : Option (List ℕ)) → KeepsCopies f g → IsSome (f asked)
    → IfSome base (λ n. IsSome (f n)) → (name : List ℕ) → copies_of g asked base name ≡ copies_of f asked base name
same_copies f g asked base kept live below name = by (bytes_eq name asked) refl
  where
    both : (other : List ℕ) → IsSome (f other) → (same : Bool) → bytes_eq name other ≡ same → (a b : Option (List ℕ)) → a ≡ b
        → (if same then g name else a) ≡ (if same then f name else b)
    both other some true e a b is =
        subst (λ n. g n ≡ f n) (sym ((bytes_eq-Decides name other).0 e)) (live_kept f g other kept some)
    both other some false e a b is = is

    under : (b : Option (List ℕ)) → IfSome b (λ n. IsSome (f n)) → copies_below g b name ≡ copies_below f b name
    under None none = refl
    under (Some n) some = both n some (bytes_eq name n) refl None None refl

    by : (same : Bool) → bytes_eq name asked ≡ same → copies_of g asked base name ≡ copies_of f asked base name
    by same e = both asked live (bytes_eq name asked) refl (copies_below g base name) (copies_below f base name) (under base below)

-- the copy of the snapshot that is asked for
pub copies_asked : (f : Copies) (asked : List ℕ) (base : Option (List ℕ)) → copies_of f asked base asked ≡ f asked
copies_asked f asked base =
    ap (λ (same : Bool). if same then f asked else copies_below f base asked) ((bytes_eq-Decides asked asked).1 refl)

-- the copy of the base
pub copies_base : (f : Copies) (asked base : List ℕ) → copies_of f asked (Some base) base ≡ f base
copies_base f asked base =
    ap (λ (same : Bool). if bytes_eq base asked then f base else (if same then f base else None)) ((bytes_eq-Decides base base).1 refl)
    ∙ either (bytes_eq base asked)
  where
    either : (same : Bool) → (if same then f base else f base) ≡ f base
    either true = refl
    either false = refl

-- what is known of either is so
pub copies_known : (f : Copies) (asked : List ℕ) (base : Option (List ℕ)) (name disk : List ℕ)
    → copies_of f asked base name ≡ Some disk → f name ≡ Some disk
copies_known f asked base name disk is = by (bytes_eq name asked) (copies_below f base name) is (λ e. under base e)
  where
    under : (b : Option (List ℕ)) → copies_below f b name ≡ Some disk → f name ≡ Some disk
    under None e = absurd cc
    under (Some n) e = at (bytes_eq name n) e
      where
        at : (same : Bool) → (if same then f name else None) ≡ Some disk → f name ≡ Some disk
        at true k = k
        at false k = absurd cc

    by : (same : Bool) (other : Option (List ℕ)) → (if same then f name else other) ≡ Some disk
        → (other ≡ Some disk → f name ≡ Some disk) → f name ≡ Some disk
    by true other e below = e
    by false other e below = below e

-- what covers the snapshot's copy by that base, or by none, covers it so of these two names
pub covers_of : (f : Copies) (asked : List ℕ) (base known given : Option (List ℕ)) (pages : Pages)
    → (known ≡ None) ⊎ ((n : List ℕ) × (known ≡ Some n) × (base ≡ Some n) × (given ≡ Some n))
    → Covers f asked known pages → Covers (copies_of f asked base) asked given pages
covers_of f asked base known given pages (inl none) covers disk is =
    all pages (subst (λ b. CoversDisk f b disk pages) none (covers disk (copies_known f asked base asked disk is)))
  where
    all : (p : Pages) → CoversDisk f None disk p → CoversDisk (copies_of f asked base) given disk p
    all (found.All xs) c = c
    all (found.Above xs) c = absurd c
covers_of f asked base known given pages (inr one) covers disk is =
    subst (λ b. CoversDisk (copies_of f asked base) b disk pages) (sym one.3)
    (above pages (subst (λ b. CoversDisk f b disk pages) one.1 (covers disk (copies_known f asked base asked disk is))))
  where
    above : (p : Pages) → CoversDisk f (Some one.0) disk p → CoversDisk (copies_of f asked base) (Some one.0) disk p
    above (found.All xs) c = c
    above (found.Above xs) c = (
      c.0,
      (
        c.1.0,
        subst (λ b. copies_of f asked b one.0 ≡ Some c.1.0) (sym one.2) (copies_base f asked one.0 ∙ c.1.1),
        c.1.2,
      ),
    )

-- the base that is known is asked for, or none
pub base_cases : (base asked : Option (List ℕ))
    → (same_base base asked ≡ None) ⊎ ((n : List ℕ) × (same_base base asked ≡ Some n) × (base ≡ Some n) × (asked ≡ Some n))
base_cases None asked = inl refl
base_cases (Some k) None = inl refl
base_cases (Some k) (Some n) = at (bytes_eq k n) refl
  where
    at : (same : Bool) → bytes_eq k n ≡ same → ((if same then Some k else None) ≡ None)
        ⊎ ((m : List ℕ) × ((if same then Some k else None) ≡ Some m) × (Some k ≡ Some m) × (Some n ≡ Some m))
    at true e = inr (k, refl, refl, ap (λ (m : List ℕ). Some m) (sym ((bytes_eq-Decides k n).0 e)))
    at false e = inl refl

-- ---- what a giver keeps

still_below : (f g : Copies) (base : Option (List ℕ)) → KeepsCopies f g → IfSome base (λ n. IsSome (f n)) → IfSome base (λ n. IsSome (g n))
still_below f g None kept h = tt
still_below f g (Some n) kept h = still_live f g n kept h

pub can_goes : (t : ℕ) (asked : List ℕ) (base : Option (List ℕ)) (m m2 : Mine) (f g : Copies) → GoesOn m m2 → KeepsCopies f g
    → CanGive t asked base m f → CanGive t asked base m2 g
can_goes t asked base m m2 f g goes kept can = record {
  turn = backup_goes t m m2 goes can.turn;
  live = still_live f g asked kept can.live;
  base = still_below f g base kept can.base;
}

pub known_goes : (known : Known) (m m2 : Mine) (f g : Copies) → GoesOn m m2 → KeepsCopies f g → KnownOf known m f → KnownOf known m2 g
known_goes known m m2 f g goes kept h = record {
  goes = goes_on known.mine m m2 h.goes goes;
  kept = keeps_then known.copies f g h.kept kept;
}

pub drops_none : (base : Option (List ℕ)) (f g : Copies) → ((name : List ℕ) → g name ≡ f name) → Drops base f g
drops_none None f g same = tt
drops_none (Some n) f g same = inl (same n)

pub weaker : {T E : Type 0} (P Q : T → Type 0) (r : Result T E) → ((x : T) → P x → Q x) → IfOk r P → IfOk r Q
weaker P Q (Ok x) f h = f x h
weaker P Q (Err e) f h = tt

page_is : (o : Option (List ℕ)) (page : ℕ) (into : List ℕ) → IsSome o → IsPageOf o page into
    → option_map (λ disk. page_at disk page) o ≡ Some into
page_is None page into some h = absurd (false≢true some)
page_is (Some disk) page into some h = ap (λ (bytes : List ℕ). Some bytes) (sym h)

pub page_told : {E : Type 0} (res : Result (Unit {0}) E) (f : Copies) (asked : List ℕ) (base : Option (List ℕ)) (page : ℕ)
    (into : List ℕ) → IsSome (f asked) → OnOk res (IsPageOf (f asked) page into)
    → OnOk res (option_map (λ disk. page_at disk page) (copies_of f asked base asked) ≡ Some into)
page_told (Ok u) f asked base page into some h =
    ap (option_map (λ disk. page_at disk page)) (copies_asked f asked base) ∙ page_is (f asked) page into some h
page_told (Err e) f asked base page into some h = tt

-- ---- on the lines

-- a frame came through on one of the lines
pub came_on : {L : Type 0} (told : L → Option (List (List ℕ))) (xs : List (Channel L)) (i : ℕ) (x d : Channel L)
    (before after : List ℕ) → i < length xs → CarriesOn (on_line told (get_or xs i d)) (on_line told x) before after
    → CarriesOn (line_at told xs i) (line_at told (set xs i x) i) before after
came_on told xs i x d before after within c =
    let was = at_map (λ y. y.seq) xs i d within in
    let now = count_here (λ y. y.seq) xs i x within in
    record {
      told = here_set (λ y. told y.line) xs i x d (after ∷ []) within c.told;
      spelled = λ h body e. c.spelled h body e ∙ ap (λ n. frame (numbered n h) body) (sym now);
      number = λ h body fits e. now ∙ c.number h body fits e ∙ ap (λ n. number_after n h.kind) (sym was);
    }

-- a reply that came through gives the page that it gave
pub page_kept : (a b : OnLine) (offset : ℤ) (page before after : List ℕ) → CarriesOn a b before after
    → before ≡ read_reply 0 offset page → page_in after ≡ page
page_kept a b offset page before after carries is =
    let head = read_reply_head 0 offset (length page) in
    ap page_in (carries.spelled head page is) ∙ drop_at (header (numbered b.seq head)) page 26 refl

-- a page was asked for, and came
pub tells_page : (name : List ℕ) (page : ℕ) (bytes : List ℕ) (a b c : OnLine) (request asked reply replied : List ℕ)
    → CarriesOn a b request asked → CarriesOn b c reply replied → request ≡ page_request 0 (pos (page * PAGE_BYTES)) name
    → reply ≡ read_reply 0 (pos (page * PAGE_BYTES)) bytes → IsHead (read_reply_head 0 (pos (page * PAGE_BYTES)) (length bytes))
    → TellsPage name page bytes a.told c.told
tells_page name page bytes a b c request asked reply replied p q is_request is_reply fits =
    let offset = pos (page * PAGE_BYTES) in (
      b.seq,
      exchange a b c request asked reply replied (page_head 0 offset PAGE_BYTES (length name))
          (read_reply_head 0 offset (length bytes)) name bytes p q is_request is_reply fits refl,
    )
