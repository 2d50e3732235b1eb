-- Once all seats are joined, each session has ended in the World that the desk gives back.
use Rattle.std.proofs.Common.{Err as Failed}
use Rattle.std.proofs.Common.{Some, None, Result, Ok}
use Rattle.std.proofs.Common.{◌≡◌, ℕ, zero, suc, ◌<◌, ◌≤◌, List, [], ◌∷◌, length, map, get_or, replicate, All, inl, inr}
use Rattle.std.proofs.Common.{refl, sym, ap, subst, ◌∙◌, arith, zero-le}
use Rattle.std.specs.Prelude.{Option, IfOk}
use Rattle.std.proofs.lemmas.Bool.{cases_lt}
use Rattle.std.proofs.lemmas.List.{length-map}
use Rattle.desk_lock.specs.Account.{Each, Finds, IsSilent}
use Rattle.desk_lock.specs.Known.{HasNumber, Fits}
use Rattle.desk_lock.specs.declared.seats.Desk.{Desk}
use Rattle.desk_lock.specs.declared.seats.Seat.{Seat}
use Rattle.desk_lock.specs.declared.views.Known.{Known}
use Rattle.desk_lock.specs.Seats.{last_of, told_of}
use Rattle.door_traits.specs.declared.client.Client.{Client}
use Rattle.door_traits.specs.Sessions.{Told, told, told_all}
use Rattle.journal_book.specs.Book.{modes_of}
use Rattle.run_report.specs.declared.session_line.EndedSession.{EndedSession}
use Rattle.volume_model.specs.declared.entry.Entry.{Entry}
use Rattle.volume_model.specs.declared.mode.Mode.TheVariants.{Rw}
use Rattle.volume_model.specs.Faults.{last_count}
use Rattle.volume_model.specs.History.{Spot, IsHistory, IsLegal, calls_of}
use Rattle.volume_model.specs.Modes.{mode_of}
use Rattle.volume_model.specs.Replay.{replay}
use Rattle.volume_core.specs.declared.world.World.{World}
use Rattle.volume_core.specs.Opened.{IsOpenedOn, blank_opening}
use Rattle.volume_core.specs.Sound.{AreCaused, NoneGaveUp}
use Rattle.volume_core.specs.State.{opening_of}
use Rattle.volume_core.specs.Streams.{Origin}
use Rattle.volume_core.proofs.Caused.{caused_ends}
use Rattle.replica_node.specs.Node.{blank}
use Rattle.replica_node.specs.Volume.{volume_of_node}
use Rattle.open_calls.specs.Calls.{node_at}
use Rattle.stream_steps.specs.Mine.{entries_in}
use Rattle.world_holder.specs.declared.kept.WorldOnDesk.{WorldOnDesk}
use Rattle.world_holder.specs.Laid.{laid, running_of, world_account, IsLater}
use Rattle.world_holder.proofs.Entries.{own_last}
use Rattle.world_holder.proofs.Found.{found_later, none_turning, none_running, gave_none_up}
use Rattle.world_holder.proofs.Grow.{same_opening}
use Rattle.world_holder.proofs.OwnCalls.{own_asked}
use Rattle.world_holder.proofs.Rests.{seat_none}
use Rattle.session_workers.specs.Clients.{SessionEnds, SessionComesTo}
use Rattle.stream_turns.specs.Joined.{HasPair}
use Rattle.stream_turns.specs.Volume.{spot_of_zeros}
use Rattle.stream_turns.proofs.Begun.{begins_blank, as_many_nodes}
use Rattle.stream_turns.proofs.Counted.{faults_shown}
use Rattle.stream_turns.proofs.Joined.{has_number}
use Rattle.stream_turns.proofs.Lists.{element, map_at, some_same}
use Rattle.stream_turns.proofs.Replicas.{replicas_are, as_many}
use Rattle.stream_turns.proofs.Rest.{rest_is, turns_are, none_gave_up}
use Rattle.session_workers.specs.declared.serving.ServedSessions.{ServedSessions}
use Rattle.session_workers.specs.declared.task.Task.{Task}
use Rattle.session_workers.specs.Served.{IsSession, AreSessionsServed, IsCutShort, AreCutShort}
use Rattle.session_workers.specs.Tasks.{IsBack, IsIn, IsDone, AreDone, AreNumbered}
use Rattle.session_workers.proofs.Working.{stopped_at_once}
use Rattle.session_workers.proofs.Stays.{answers_below, answers_stay, faults_stay, ended_stays}

-- ---- one pair of number and state

each_pair : (P : ℕ × WorldOnDesk → Type 0) (js : List (ℕ × WorldOnDesk)) (n : ℕ) (x : WorldOnDesk) → Each P js → HasPair n x js → P (n, x)
each_pair P [] n x each has = absurd has
each_pair P (p ∷ ps) n x each (inl e) = subst P (λ i. (e.0 i, e.1 i)) each.0
each_pair P (p ∷ ps) n x each (inr has) = each_pair P ps n x each.1 has

-- as many have ended as there are tasks
ends_many : {A B E : Type 0} (end : A → Result B E) (es : List B) (js : List A) → map (λ e. Ok e) es ≡ map end js
    → length es ≡ length js
ends_many {A} {B} {E} end es js same =
    sym (length-map {B = Result B E} es (λ e. Ok e)) ∙ ap length same ∙ length-map js end

-- each number that was given is back
pub has_all : {I O : Type 0} (tasks : List (Task I O)) (v : Known WorldOnDesk) (told : ℕ) → AreNumbered tasks
    → All (IsIn v.joined told) tasks → v.made ≡ length tasks → (n : ℕ) → n < v.made → HasNumber n v.joined
has_all tasks v told numbered joined made n low =
    let there : n < length tasks = omega (arith, low, made) in
    let x = element tasks n there in
    let i = joined n x there in
    subst (λ m. HasNumber m v.joined) (numbered n x there) (has_number (get_or tasks n x).number (last_of i.seat) v.joined i.pair)

-- what was dealt and is done
module _ {I O : Type 0} (left : I → Option (List ℕ)) (read_faults : I → ℕ) (holds : O → Option (List ℕ)) (write_faults : O → ℕ)
    (d : Desk WorldOnDesk) (dealt tasks : List (Task I O)) (done : AreDone left read_faults holds write_faults d dealt tasks) where
  pub all_back : All (IsBack d) tasks
  all_back k y low = let there : k < length dealt = omega (arith, low, done.many) in
      (done.each k (element dealt k there) y there).back

  pub all_numbered : AreNumbered dealt → AreNumbered tasks
  all_numbered numbered k y low =
      let there : k < length dealt = omega (arith, low, done.many) in
      (done.each k (element dealt k there) y there).number ∙ numbered k (element dealt k there) there

-- a session that was served has ended or stopped
cut_short : {E : Type 0} (n : ℕ) (before now : Told) (es : List Entry) (r : Result EndedSession E) → SessionComesTo n before now es r
    → IsCutShort n before now
cut_short n before now es (Ok e) served = (es, inr (e, served))
cut_short n before now es (Failed why) served = (es, inl served)

-- where it had not begun
pub none_begun : (ts : List Told) → AreCutShort ts ts
none_begun ts = λ n t u low. same n (get_or ts n t) (get_or ts n u) (get_same ts n t u low)
  where
    same : (n : ℕ) (t u : Told) → t ≡ u → IsCutShort n t u
    same n t u e = subst (IsCutShort n t) e ([], inl (stopped_at_once n t [] refl))

    get_same : (ts : List Told) (n : ℕ) (t u : Told) → n < length ts → get_or ts n t ≡ get_or ts n u
    get_same [] n t u low = absurd (omega arith)
    get_same (x ∷ xs) zero t u low = refl
    get_same (x ∷ xs) (suc n) t u low = get_same xs n t u (omega arith)

-- ---- of one session

module _ (n told : ℕ) (x : WorldOnDesk) (seat : Seat WorldOnDesk) (finds : Finds world_account (Some n) x (last_of seat))
    (reach : told_of seat ≤ told) (most : told ≤ length (laid x).book.entries) where
  later : IsLater n (laid (last_of seat)) (laid x)
  later = found_later n x (last_of seat) finds

  pub is_session : (before now : Told) (e : EndedSession) → SessionEnds n before now (laid (last_of seat)).book.entries e
      → (length (laid (last_of seat)).book.entries ≤ e.seen) × (told_of seat ≡ e.seen)
      → IsSession n before now (laid x).book.entries e
  is_session before now e ended seen =
      let stays = answers_stay n (laid (last_of seat)) (laid x) later in
      record {
        ended = ended_stays n before now (laid (last_of seat)).book.entries (laid x).book.entries e stays ended;
        reaches = subst (All (λ (p : _). p.0 < e.seen)) (sym stays)
            (answers_below n 0 e.seen (laid (last_of seat)).book.entries (omega (arith, seen.0)));
        within = omega (arith, seen.1, reach, most);
      }

-- ---- of all

-- Of tasks that were dealt to these clients, and are done.
module _ {I O : Type 0} (left : I → Option (List ℕ)) (read_faults : I → ℕ) (holds : O → Option (List ℕ)) (write_faults : O → ℕ)
    (d : Desk WorldOnDesk) (clients : List (Client I O)) (dealt tasks : List (Task I O)) (numbered : AreNumbered dealt)
    (are : map (λ (j : Task I O). j.client) dealt ≡ clients)
    (done : AreDone left read_faults holds write_faults d dealt tasks) where
  abbrev tell : Client I O → Told
  tell c = told (left c.source) (read_faults c.source) (holds c.sink) (write_faults c.sink)

  as_many_dealt : length dealt ≡ length clients
  as_many_dealt = sym (length-map dealt (λ (j : Task I O). j.client)) ∙ ap length are

  as_many_tasks : length tasks ≡ length clients
  as_many_tasks = done.many ∙ as_many_dealt

  -- ---- the task at a place

  module _ (n : ℕ) (low : n < length clients) where
    in_dealt : n < length dealt
    in_dealt = omega (arith, low, as_many_dealt)

    in_tasks : n < length tasks
    in_tasks = omega (arith, low, as_many_tasks)

    abbrev given : Task I O
    given = get_or dealt n (element dealt n in_dealt)

    abbrev task : Task I O
    task = get_or tasks n (element tasks n in_tasks)

    is_done : IsDone left read_faults holds write_faults d given task
    is_done = done.each n (element dealt n in_dealt) (element tasks n in_tasks) in_dealt

    abbrev seat : Seat WorldOnDesk
    seat = is_done.back.seat

    number_is : task.number ≡ n
    number_is = is_done.number ∙ numbered n (element dealt n in_dealt) in_dealt

    here_given : (t : Told) → get_or (map tell clients) n t ≡ tell given.client
    here_given t = map_at tell clients n given.client t low
        ∙ ap tell (ap (λ l. get_or l n given.client) (sym are)
        ∙ map_at (λ (j : Task I O). j.client) dealt n (element dealt n in_dealt) given.client in_dealt)

    here_now : (t : Told) → get_or (map tell (map (λ (j : Task I O). j.client) tasks)) n t ≡ tell task.client
    here_now t =
        map_at tell (map (λ (j : Task I O). j.client) tasks) n task.client t
        (omega (arith, in_tasks, length-map tasks (λ (j : Task I O). j.client)))
        ∙ ap tell (map_at (λ (j : Task I O). j.client) tasks n (element tasks n in_tasks) task.client in_tasks)

    here_served : SessionComesTo n (tell given.client) (tell task.client) (laid (last_of seat)).book.entries task.ended
    here_served =
        subst (λ k. SessionComesTo k (tell given.client) (tell task.client) (laid (last_of seat)).book.entries task.ended) number_is
        (is_done.served seat is_done.back.has)

    here_cut_short : (t u : Told) → IsCutShort n (get_or (map tell clients) n t)
        (get_or (map tell (map (λ (j : Task I O). j.client) tasks)) n u)
    here_cut_short t u =
        subst (λ b. IsCutShort n b (get_or (map tell (map (λ (j : Task I O). j.client) tasks)) n u)) (sym (here_given t))
        (subst (λ a. IsCutShort n (tell given.client) a) (sym (here_now u))
        (cut_short n (tell given.client) (tell task.client) (laid (last_of seat)).book.entries task.ended here_served))

  -- ---- where memory ran out in some session

  pub are_cut_short : (back : List (Client I O)) → back ≡ map (λ (j : Task I O). j.client) tasks
      → AreCutShort (told_all left read_faults holds write_faults clients) (told_all left read_faults holds write_faults back)
  are_cut_short back is = subst (λ cs. AreCutShort (map tell clients) (map tell cs)) (sym is)
      (λ n t u low. here_cut_short n (omega (arith, low, length-map clients tell)) t u)

  -- ---- where all have ended

  -- Of the first seat, into which all were joined, and of the World that the desk gives back.
  module _ (size replicas : ℕ) (v : Known WorldOnDesk) (reach : ℕ) (x : WorldOnDesk) (first : v.number ≡ None)
      (fits : Fits world_account x v) (made : v.made ≡ length clients)
      (begun : IsOpenedOn size (blank_opening replicas) (replicate replicas (blank size)) (length clients) (laid v.last))
      (joined : All (IsIn v.joined reach) tasks) (most : reach ≤ length (laid x).book.entries) where
    abbrev entries : List Entry
    entries = (laid x).book.entries

    module _ (n : ℕ) (low : n < length clients) where
      is_in : IsIn v.joined reach (task n low)
      is_in = joined n (element tasks n (in_tasks n low)) (in_tasks n low)

      same_seat : is_in.seat ≡ seat n low
      same_seat = some_same is_in.seat (seat n low) (task n low).seat is_in.has (is_done n low).back.has

      finds : Finds world_account (Some n) x (last_of (seat n low))
      finds = each_pair (λ (p : ℕ × WorldOnDesk). Finds world_account (Some p.0) x p.1) v.joined n (last_of (seat n low)) fits.joined
          (subst (λ k. HasPair k (last_of (seat n low)) v.joined) (number_is n low)
          (subst (λ (s : Seat WorldOnDesk). HasPair (task n low).number (last_of s) v.joined) same_seat is_in.pair))

      here_idle : running_of (laid x) n ≡ []
      here_idle = finds.running
          ∙ subst (λ k. running_of (laid (last_of (seat n low))) k ≡ []) (number_is n low) (is_done n low).back.idle

      here_counted : (r : ℕ) → last_count n r entries ≤ 0
      here_counted r =
          subst (λ k. k ≤ 0)
          (sym (faults_stay n (laid (last_of (seat n low))) (laid x) (found_later n x (last_of (seat n low)) finds) r))
          (subst (λ k. last_count k r (laid (last_of (seat n low))).book.entries ≤ 0) (number_is n low)
          ((is_done n low).back.counted r))

      here_ended : (ended : List EndedSession) → map (λ e. Ok e) ended ≡ map (λ (j : Task I O). j.ended) tasks
          → (e : EndedSession) → (task n low).ended ≡ Ok (get_or ended n e)
      here_ended ended ends e =
          let low' = in_tasks n low in
          let inside : n < length ended = omega (arith, low', ends_many (λ (j : Task I O). j.ended) ended tasks ends) in
          sym (map_at (λ (j : Task I O). j.ended) tasks n (element tasks n low') (Ok e) low')
          ∙ ap (λ l. get_or l n (Ok e)) (sym ends) ∙ map_at (λ e. Ok e) ended n e (Ok e) inside

      here_session : (ended : List EndedSession) → map (λ e. Ok e) ended ≡ map (λ (j : Task I O). j.ended) tasks
          → (t u : Told) (e : EndedSession) → IsSession n (get_or (map tell clients) n t)
          (get_or (map tell (map (λ (j : Task I O). j.client) tasks)) n u) entries (get_or ended n e)
      here_session ended ends t u e =
          let end = get_or ended n e in
          let seat = seat n low in
          let before = tell (given n low).client in
          let now = tell (task n low).client in
          let is = here_ended ended ends e in
          let has_ended = subst (SessionComesTo n before now (laid (last_of seat)).book.entries) is (here_served n low) in
          let seen = subst (λ r. IfOk r (λ e. (length (laid (last_of seat)).book.entries ≤ e.seen) × (told_of seat ≡ e.seen))) is
          (is_done n low).back.seen in
          subst (λ b. IsSession n b (get_or (map tell (map (λ (j : Task I O). j.client) tasks)) n u) entries end)
          (sym (here_given n low t))
          (subst (λ a. IsSession n before a entries end) (sym (here_now n low u))
          (is_session n reach x seat finds (subst (λ (s : Seat WorldOnDesk). told_of s ≤ reach) same_seat is_in.reach) most
          before now end has_ended seen))

    -- ---- of all streams

    silent : (n : ℕ) → length clients ≤ n → IsSilent world_account n x
    silent n past = fits.rest first n (omega (arith, past, made))

    none_open : (n : ℕ) → running_of (laid x) n ≡ []
    none_open n = elim (cases_lt n (length clients)) [
      | inl low ↦ here_idle n low
      | inr past ↦ (silent n past).running
    ]

    none_counted : (n r : ℕ) → last_count n r entries ≤ 0
    none_counted n r = elim (cases_lt n (length clients)) [
      | inl low ↦ here_counted n low r
      | inr past ↦ subst (λ k. k ≤ 0)
          (sym (ap (λ ps. last_count n r (entries_in ps)) (seat_none n x (silent n past))) ∙ own_last n r (opening_of (laid x)) entries)
          zero-le
    ]

    none_called : (n : ℕ) → length clients ≤ n → calls_of n entries ≡ []
    none_called n past = sym (own_asked n (opening_of (laid x)) entries)
        ∙ ap (λ ps. calls_of n (entries_in ps)) (seat_none n x (silent n past))

    rest : (laid x).tickets ≡ []
    rest = rest_is (laid x) fits.sound (λ n low. none_running n (laid x) (none_open n))

    turns : (laid x).commands ≡ []
    turns = turns_are (laid x) fits.sound (λ n low. none_turning n (laid x) (none_open n))

    kept : NoneGaveUp (laid x).gave_up
    kept = none_gave_up (laid x) fits.sound (λ n low. gave_none_up n (laid x) (none_open n))

    caused : AreCaused (laid x).maint (laid x).commands entries
    caused = fits.sound.caused kept

    spot_is : opening_of (laid x) ≡ spot_of_zeros size replicas
    spot_is = same_opening (laid v.last) (laid x) fits.finds.same_origin
        ∙ begins_blank size replicas (length clients) (laid v.last) begun

    nodes_are : length (laid x).nodes ≡ replicas
    nodes_are = ap (λ (o : Origin). o.replicas) fits.finds.same_origin
        ∙ as_many_nodes size replicas (length clients) (laid v.last) begun

    history : IsHistory (spot_of_zeros size replicas) (λ n r. 0) (λ n. calls_of n entries) entries
    history = record {
      legal = subst (λ (o : Spot). IsLegal o entries) spot_is fits.sound.on.told.legal;
      fell = caused.fell;
      within = caused_ends (laid x).maint (laid x).commands entries caused turns;
      order = fits.sound.on.told.ordered.order;
      each_once = λ n. refl;
      faults = faults_shown (λ n r. 0) entries fits.sound.on.told.ordered.rise none_counted;
    }

    module _ (s : ServedSessions) (ends : map (λ e. Ok e) s.ended.items ≡ map (λ (j : Task I O). j.ended) tasks)
        (world : s.world ≡ x.world.value) where
      -- what the World of the desk has is the World's that is handed out
      to : (P : World → Type 0) → P x.world.value → P s.world
      to P = subst P (sym world)

      tasks_are_served : AreSessionsServed size replicas (map tell clients) (map tell (map (λ (j : Task I O). j.client) tasks)) s
      tasks_are_served = record {
        history = to (λ w. IsHistory (spot_of_zeros size replicas) (λ n r. 0) (λ n. calls_of n w.journal.entries) w.journal.entries)
            history;
        none = λ n past. to (λ w. calls_of n w.journal.entries ≡ []) (none_called n (omega (arith, past, length-map clients tell)));
        each = ends_many (λ (j : Task I O). j.ended) s.ended.items tasks ends ∙ as_many_tasks ∙ sym (length-map clients tell);
        sessions = λ n t u e low.
            to (λ w. IsSession n (get_or (map tell clients) n t)
            (get_or (map tell (map (λ (j : Task I O). j.client) tasks)) n u) w.journal.entries (get_or s.ended.items n e))
            (here_session n (omega (arith, low, length-map clients tell)) s.ended.items ends t u e);
        opening = to (λ w. w.journal.opening.modes ≡ replicate replicas Rw) (ap (λ (o : Spot). o.modes) spot_is);
        many = to (λ w. length w.nodes.items ≡ length (modes_of w.journal)) (as_many (laid x) fits.sound);
        few = to (λ w. length (modes_of w.journal) ≡ replicas) (sym (as_many (laid x) fits.sound) ∙ nodes_are);
        volumes = to (λ w. (r : ℕ) → mode_of (modes_of w.journal) r ≡ Rw → volume_of_node (node_at w.nodes.items r)
            ≡ (replay (spot_of_zeros size replicas).state w.journal.entries).volume)
            (λ r up. replicas_are (laid x) fits.sound rest r up ∙ ap (λ (o : Spot). (replay o.state entries).volume) spot_is);
      }

      pub are_served : (back : List (Client I O)) → back ≡ map (λ (j : Task I O). j.client) tasks
          → AreSessionsServed size replicas (told_all left read_faults holds write_faults clients)
          (told_all left read_faults holds write_faults back) s
      are_served back is = subst (λ cs. AreSessionsServed size replicas (map tell clients) (map tell cs) s) (sym is) tasks_are_served
