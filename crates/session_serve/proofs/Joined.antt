-- What the first seat finds of the seats that were joined into it, and what a new seat has.
use Rattle.std.proofs.Common.{◌≡◌, ℕ, ◌≤◌, List, [], ◌++◌, length, map, Option, Some, subst, sym, ap, ◌∙◌, append-nil}
use Rattle.std.proofs.Common.{zero-le, slice_index_or}
use Rattle.std.specs.Prelude.{IfSome}
use Rattle.std.specs.List.{All}
use Rattle.std.proofs.lemmas.List.Elements.{All-nil}
use Rattle.desk_lock.specs.Account.{Each, Finds}
use Rattle.desk_lock.specs.Known.{Fits}
use Rattle.desk_lock.specs.Seats.{last_of}
use Rattle.desk_lock.specs.declared.seats.Desk.{Desk}
use Rattle.desk_lock.specs.declared.seats.Seat.{Seat}
use Rattle.desk_lock.specs.declared.views.Known.{Known}
use Rattle.desk_lock.proofs.Lists.{Each-map}
use Rattle.volume_model.specs.Faults.{last_count}
use Rattle.volume_model.specs.History.{calls_of}
use Rattle.volume_model.specs.OneWorker.{behind_entries}
use Rattle.volume_core.specs.State.{State, opening_of}
use Rattle.volume_core.specs.Sound.{IsSound}
use Rattle.stream_steps.specs.Mine.{Placed, entries_in}
use Rattle.client_worker.specs.Exchanges.{told_in, IsCarried, AreCarried}
use Rattle.client_worker.proofs.Told.{frames_none}
use Rattle.world_holder.specs.declared.kept.WorldOnDesk.{WorldOnDesk}
use Rattle.world_holder.specs.Laid.{laid, world_account, IsLater}
use Rattle.world_holder.specs.Rests.{IsSeated}
use Rattle.world_holder.specs.View.{own_entries, runs, IsFree}
use Rattle.world_holder.proofs.Entries.{own-append, none_shown}
use Rattle.world_holder.proofs.Found.{found_later}
use Rattle.world_holder.proofs.OwnCalls.{own_asked}
use Rattle.session_serve.specs.Sessions.{Caller, MayCall, StandsIn, own_of}
use Rattle.session_serve.proofs.Lists.{not_none}
use Rattle.session_serve.proofs.Seats.{none_open}

-- ---- seats that were joined

-- of a stream whose entries are none of these, the calls are those of before
calls_stay : (n : ℕ) (s t : State) → IsLater n s t → calls_of n t.book.entries ≡ calls_of n s.book.entries
calls_stay n s t later =
    let o = opening_of t in
    let es = later.added.0 in
    let own : own_entries n o t.book.entries ≡ own_entries n o s.book.entries =
    ap (own_entries n o) later.added.1 ∙ own-append n o s.book.entries es
    ∙ ap (λ l. own_entries n o s.book.entries ++ l) (none_shown n (behind_entries o s.book.entries) es later.added.2)
    ∙ append-nil (own_entries n o s.book.entries) in
    sym (own_asked n o t.book.entries) ∙ ap (λ ps. calls_of n (entries_in ps)) own ∙ own_asked n o s.book.entries

stands_in : (n : ℕ) (x y : WorldOnDesk) → IsSound (laid x) → Finds world_account (Some n) x y → StandsIn n (laid y) (laid x)
stands_in n x y ok finds = record {
  seen = finds.seen;
  calls = calls_stay n (laid y) (laid x) (found_later n x y finds);
  legal = ok.on.told.legal;
}

pub all_stand : (x : WorldOnDesk) (first : Known WorldOnDesk) → Fits world_account x first
    → Each (λ (p : ℕ × WorldOnDesk). StandsIn p.0 (laid p.1) (laid x)) first.joined
all_stand x first fits = Each-map (λ (p : ℕ × WorldOnDesk). Finds world_account (Some p.0) x p.1)
    (λ (p : ℕ × WorldOnDesk). StandsIn p.0 (laid p.1) (laid x))
    (λ p finds. stands_in p.0 x p.1 fits.sound finds) first.joined fits.joined

-- ---- a new seat

none_counted : (n : ℕ) (ps : List Placed) (counts : List ℕ) → ps ≡ [] → (r : ℕ)
    → last_count n r (entries_in ps) ≤ slice_index_or counts r 0
none_counted n ps counts none r =
    subst (λ (l : List Placed). last_count n r (entries_in l) ≤ slice_index_or counts r 0) (sym none) zero-le

none_carried : (replicas : ℕ) (told : ℕ → Option (List (List ℕ))) → AreCarried replicas told []
none_carried replicas told = All-nil (λ (p : Placed). IsCarried replicas told p.spot.modes p.entry)

module _ {L : Type 0} (count : L → ℕ) (told : L → Option (List (List ℕ))) where
  pub new_may_call : (d : Desk WorldOnDesk) (s : Seat WorldOnDesk) (c : Caller L) → IsSeated d s c.number
      → IsFree c.number (laid (last_of s)) → runs c.number (laid (last_of s)) ≡ [] → own_of c.number (laid (last_of s)) ≡ []
      → length c.channels ≡ length (laid (last_of s)).nodes
      → All (λ t. IfSome t (λ frames. frames ≡ [])) (map (λ x. told x.line) c.channels) → MayCall count told d s c
  new_may_call d s c seated free idle none lines empty = record {
    seated = seated;
    idle = none_open c.number (laid (last_of s)) free idle;
    lines = lines;
    shown = record {
      counted = none_counted c.number (own_of c.number (laid (last_of s))) (map (λ x. count x.line) c.channels) none;
      framed = frames_none (map (λ x. told x.line) c.channels) empty;
      answered = subst (AreCarried (length (laid (last_of s)).nodes) (told_in (map (λ x. told x.line) c.channels))) (sym none)
          (none_carried (length (laid (last_of s)).nodes) (told_in (map (λ x. told x.line) c.channels)));
      acked = λ o is started. absurd (not_none o [] (sym is ∙ idle));
    };
  }
