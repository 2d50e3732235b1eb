-- A write is carried to each replica in its turn, in room that was made before it started.
use Rattle.std.proofs.Common.{◌≡◌, ℕ, ◌+◌, ◌-◌, ◌*◌, ◌<◌, ◌≤◌, ℤ, List, [], ◌∷◌, ◌++◌, length, take, drop, get_or}
use Rattle.std.proofs.Common.{set, is_some, true, vec_capacity, Option, Some, None, subst, sym, ap, ◌∙◌}
use Rattle.std.proofs.Common.{length-append, arith, IfSome, Result, Ok, Err, IfOk, refl}
use Rattle.std.specs.List.{All}
use Rattle.std.proofs.lemmas.List.{get_or-set_other, length-set, take_rest}
use Rattle.std.proofs.lemmas.List.Elements.{All-get_or}
use Rattle.vol_units.specs.Range.{blocks_around, place_of}
use Rattle.vol_units.specs.declared.size.TheConstants.{BLOCK_BYTES, LARGEST_SIZE}
use Rattle.vol_units.specs.declared.range.BlockRange.{BlockRange}
use Rattle.volume_model.specs.declared.call.Call.{Call}
use Rattle.volume_model.specs.declared.call.Call.TheVariants as call
use Rattle.volume_model.specs.declared.mode.Mode.{Mode}
use Rattle.step_answers.specs.declared.parts.Part.TheVariants.{Acked}
use Rattle.step_answers.specs.Parts.{part_at}
use Rattle.sparse_image.specs.Listed.{bytes_in}
use Rattle.step_answers.specs.declared.answers.Job.{Job}
use Rattle.frame_wire.specs.Spelling.{header_length}
use Rattle.client_worker.specs.declared.opened.OpenRead.{OpenRead}
use Rattle.client_worker.specs.declared.rooms.Rooms.{Rooms}
use Rattle.stream_steps.specs.declared.with_source.WithSource.{WithSource}
use Rattle.stream_steps.specs.Mine.{Mine, OwnCall, IsOwn}
use Rattle.stream_steps.specs.Steps.{Refuses, StartsCall, IsStarted, IsStartedWrite, IsWriteCall, IsRounded, IsJobFor}
use Rattle.stream_steps.specs.Steps.{HasStarted, IsOnBlocks, IsReadCall, AreBlocksOfCall}
use Rattle.stream_steps.specs.Seen.{IsNextUp}
use Rattle.client_worker.specs.Serving.{StaysOpen, KeepsOpen}
use Rattle.client_worker.specs.Ends.{NoneAcked, StartsOr, EndsTo, TakesUp}
use Rattle.client_worker.specs.Rooms.{AreBoxes, CarriesWrite, HasWriteRoom, HoldsWrite, BeginsIn, BeginsOr, IsOpenRead, ReadsIn, ReadsOr}
use Rattle.client_worker.proofs.Going.{one_of, after, goes_running}
use Rattle.client_worker.proofs.Served.{takes_refused, takes_started}
use Rattle.client_worker.proofs.Starting.{begins, begun_own}

-- ---- the turn of one replica

-- the bytes of the blocks, as a replica takes them in boxes
module _ (o : OwnCall) (block n : ℕ) (request : List ℕ) (boxes : List (Option (List ℕ)))
    (carries : CarriesWrite o block n request) (are : AreBoxes n boxes) where
  pub fills : length (take (length request - header_length) (drop header_length request)) ≡ length boxes * BLOCK_BYTES
  fills = ap length (take_rest request header_length ∙ carries.whole) ∙ carries.size ∙ ap (λ k. k * BLOCK_BYTES) (sym are.count)

  pub filled_boxes : (filled : List (Option (List ℕ)))
      → bytes_in filled ≡ take (length request - header_length) (drop header_length request)
      → All (λ b. is_some b ≡ true) filled → length filled ≡ length boxes → AreBlocksOfCall o filled
  filled_boxes filled bytes full count = record {
    full = full;
    count = omega (arith, carries.count, are.count, count);
    bytes = bytes ∙ take_rest request header_length ∙ carries.whole;
  }

-- what counts of a request is all but its header
pub write_same : (o : OwnCall) (block n : ℕ) (request request2 : List ℕ)
    → drop header_length request2 ≡ drop header_length request → length request2 ≡ length request
    → CarriesWrite o block n request → CarriesWrite o block n request2
write_same o block n request request2 same long c = record {
  writes = c.writes;
  rounded = c.rounded;
  header = omega (arith, c.header, long);
  few = omega (arith, c.few, long);
  whole = same ∙ c.whole;
  first = c.first;
  count = c.count;
  size = c.size;
}

-- a write that goes on is carried as before
write_on : (o : OwnCall) (a b : Mine) (goes : KeepsOpen a b) (t block n : ℕ) (own : IsOwn t o a) (request : List ℕ)
    → CarriesWrite o block n request → CarriesWrite (after o a b (goes o own.is)) block n request
write_on o a b goes t block n own request c = record {
  writes = c.writes;
  rounded = still_rounded o.call c.rounded;
  header = c.header;
  few = c.few;
  whole = c.whole;
  first = c.first;
  count = c.count;
  size = c.size;
}
  where
    still_rounded : (x : Call) → IsStarted x o → IsStarted x (after o a b (goes o own.is))
    still_rounded (call.Read offset k) s = (goes o own.is).long ∙ s
    still_rounded (call.Write offset bytes) s = s
    still_rounded call.Ping s = s
    still_rounded (call.Other k) s = s
    still_rounded (call.Command x) s = s

pub carries_one : (o : OwnCall) (a b : Mine) (goes : KeepsOpen a b) (t block n r : ℕ) (own : IsOwn t o a)
    (request request2 : List ℕ) (sets : List (List (Option (List ℕ)))) (boxes d : List (Option (List ℕ)))
    → CarriesWrite o block n request → All (AreBoxes n) sets → drop header_length request2 ≡ drop header_length request
    → length request2 ≡ length request → r < length sets → boxes ≡ get_or sets r d
    → (x : OwnCall) × (n : ℕ) × IsOwn t x b × CarriesWrite x block n request2 × AreBoxes n boxes
carries_one o a b goes t block n r own request request2 sets boxes d c are same long inside is = (
  after o a b (goes o own.is),
  n,
  record { is = goes_running o a b (goes o own.is); number = own.number },
  write_same (after o a b (goes o own.is)) block n request request2 same long (write_on o a b goes t block n own request c),
  subst (AreBoxes n) (sym is) (All-get_or (AreBoxes n) sets r d inside are),
)

-- the sets of the replicas from that one on are as they were
abbrev pub AreLeft : List (List (Option (List ℕ))) → List (List (Option (List ℕ))) → Option ℕ → Type 0
AreLeft before now next = IfSome next (λ r. (k : ℕ) (d : List (Option (List ℕ))) → r ≤ k → k < length now
    → get_or now k d ≡ get_or before k d)

pub sets_first : (sets : List (List (Option (List ℕ)))) (next : Option ℕ) → AreLeft sets sets next
sets_first sets None = tt
sets_first sets (Some r) = λ k d low high. refl

pub sets_left : (modes : List Mode) (xs ys zs : List (List (Option (List ℕ)))) (r : ℕ) (x : List (Option (List ℕ))) (next : Option ℕ)
    → AreLeft xs ys (Some r) → IsNextUp modes r next → zs ≡ set ys r x → AreLeft xs zs next
sets_left modes xs ys zs r x None left up is = tt
sets_left modes xs ys zs r x (Some q) left up is = λ k d low high.
    let long : length zs ≡ length ys = ap length is ∙ length-set ys r x in
    ap (λ l. get_or l k d) is ∙ get_or-set_other ys r k x d (λ e. absurd (omega (arith, low, up.0, e)))
    ∙ left k d (omega (arith, low, up.0)) (omega (arith, high, long))

-- how many replicas there are from that one on
abbrev pub left_from : ℕ → Option ℕ → ℕ
left_from n None = 0
left_from n (Some r) = n - r

-- ---- the start

-- what was said of the start
module _ (t : ℕ) (a c : Mine) (j : Option (WithSource Job)) (ok : (o : OwnCall) → IsOwn t o a → StartsOr o j a c) where
  pub not_begun : j ≡ None → (o : OwnCall) → IsOwn t o a → Refuses o a c
  not_begun e o h = subst (λ x. StartsOr o x a c) e (ok o h)

  pub begun : (start : WithSource Job) → j ≡ Some start → (o : OwnCall) → IsOwn t o a → StartsCall o start.answer a c
  begun start e o h = subst (λ x. StartsOr o x a c) e (ok o h)

-- the bytes of a started write fill its blocks, which were counted before
module _ (o : OwnCall) (job : Job) (a b : Mine) (s : StartsCall o job a b) (offset : ℤ) (bytes : List ℕ)
    (is : o.call ≡ call.Write offset bytes) (r : BlockRange) (around : r ≡ blocks_around (place_of offset) (length bytes))
    (up : r.first ≤ r.end) where
  whole_is : s.own.whole ≡ (job.front ++ bytes) ++ job.back
  whole_is = subst (λ c. IsJobFor c job s.own) is s.job

  rounded : IsRounded offset bytes s.own.range s.own.whole
  rounded = subst (λ c. IsStarted c s.own) is s.of

  counted : r ≡ s.own.range
  counted = around ∙ sym rounded.around

  same_call : s.own.call ≡ o.call
  same_call = ap (λ (x : OwnCall). x.call) s.same

  pub whole_long : length job.front + length bytes + length job.back ≡ (r.end - r.first) * BLOCK_BYTES
  whole_long =
      let parts = ap length whole_is ∙ length-append (job.front ++ bytes) job.back
      ∙ ap (λ k. k + length job.back) (length-append job.front bytes) in
      let count : r.first * BLOCK_BYTES + length s.own.whole ≡ r.end * BLOCK_BYTES =
      subst (λ (x : BlockRange). x.first * BLOCK_BYTES + length s.own.whole ≡ x.end * BLOCK_BYTES) (sym counted)
      rounded.count in
      omega (arith, parts, count, up)

  pub begins_in : (replicas : ℕ) (rooms filled : Rooms) → r.end * BLOCK_BYTES ≤ LARGEST_SIZE
      → HasWriteRoom (r.end - r.first) replicas rooms
      → filled.sets.items ≡ rooms.sets.items → vec_capacity filled.arrivals ≡ vec_capacity rooms.arrivals
      → drop header_length filled.request.items ≡ (job.front ++ bytes) ++ job.back
      → length filled.request.items ≡ header_length + (length job.front + length bytes + length job.back)
      → BeginsIn o job replicas filled a b
  begins_in replicas rooms filled inside fits sets arrivals whole count =
      record {
        own = s.own;
        begins = begins o job a b s;
        filled = record {
          blocks = r.end - r.first;
          carries = record {
            writes = (ap (λ (x : OwnCall). x.started) s.same, subst IsWriteCall (sym (same_call ∙ is)) tt);
            rounded = subst (λ c. IsStarted c s.own) (sym same_call) s.of;
            header = omega (arith, count);
            few = omega (arith, count, whole_long, inside, up);
            whole = whole ∙ sym whole_is;
            first = ap (λ (x : BlockRange). x.first) (sym s.range);
            count = omega (arith, up, ap (λ (x : BlockRange). x.first) counted, ap (λ (x : BlockRange). x.end) counted);
            size = ap length whole_is ∙ length-append (job.front ++ bytes) job.back
                ∙ ap (λ k. k + length job.back) (length-append job.front bytes) ∙ whole_long;
          };
          boxes = subst (All (AreBoxes (r.end - r.first))) (sym sets) fits.boxes;
          arrivals = omega (arith, count, whole_long, fits.arrivals, arrivals);
          sets = ap length sets ∙ fits.sets;
        };
      }

pub reads_begun : (o : OwnCall) (job : Job) (offset : ℤ) (n : ℕ) (a b : Mine) → StartsCall o job a b
    → o.call ≡ call.Read offset n → ReadsIn o offset n a b
reads_begun o job offset n a b s is = record {
  own = s.own;
  begins = begins o job a b s;
  none = λ p run r e. s.none r
      (subst (λ (x : OwnCall). part_at x.parts r ≡ Acked) (one_of p s.own (sym run ∙ ap (λ (m : Mine). m.running) s.is)) e);
  started = ap (λ (x : OwnCall). x.started) s.same;
  call = ap (λ (x : OwnCall). x.call) s.same ∙ is;
  long = subst (λ c. IsStarted c s.own) is s.of;
}

pub reads_or : {E : Type 0} (res : Result (Option (WithSource Job)) E) (t : ℕ) (offset : ℤ) (n : ℕ) (a b : Mine)
    → IfOk res (λ j. (o : OwnCall) → IsOwn t o a → StartsOr o j a b)
    → IfOk res (λ j. (o : OwnCall) → IsOwn t o a → o.call ≡ call.Read offset n → ReadsOr o j offset n a b)
reads_or (Ok None) t offset n a b ok = λ o own is. ok o own
reads_or (Ok (Some start)) t offset n a b ok = λ o own is. reads_begun o start.answer offset n a b (ok o own) is
reads_or (Err e) t offset n a b ok = tt

-- ---- its end

pub only_own : (t : ℕ) (m : Mine) (o p : OwnCall) → IsOwn t o m → IsOwn t p m → p ≡ o
only_own t m o p a b = one_of p o (sym b.is ∙ a.is)

pub begins_none : (t n : ℕ) (a b : Mine) (j : Option Job) (rooms : Rooms)
    → ((o : OwnCall) → IsOwn t o a → BeginsOr o j n rooms a b) → j ≡ None → (o : OwnCall) → IsOwn t o a → TakesUp o a b
begins_none t n a b j rooms ok e o h = takes_refused o a b (subst (λ x. BeginsOr o x n rooms a b) e (ok o h))

pub begins_some : (t n : ℕ) (a b : Mine) (j : Option Job) (job : Job) (rooms : Rooms)
    → ((o : OwnCall) → IsOwn t o a → BeginsOr o j n rooms a b) → j ≡ Some job → (o : OwnCall) → IsOwn t o a
    → BeginsIn o job n rooms a b
begins_some t n a b j job rooms ok e o h = subst (λ x. BeginsOr o x n rooms a b) e (ok o h)

pub begins_own : (t n : ℕ) (job : Job) (a b : Mine) (rooms : Rooms) (o : OwnCall) → IsOwn t o a → BeginsIn o job n rooms a b
    → (x : OwnCall) × IsOwn t x b × HoldsWrite x job.range.first n rooms
begins_own t n job a b rooms o own s = (s.own, begun_own t o s.own a b own s.begins, s.filled)

pub begins_ends : (t n : ℕ) (job : Job) (a b c : Mine) (rooms : Rooms)
    → ((o : OwnCall) → IsOwn t o a → BeginsIn o job n rooms a b) → ((o : OwnCall) → IsOwn t o b → EndsTo o b c)
    → (o : OwnCall) → IsOwn t o a → TakesUp o a c
begins_ends t n job a b c rooms begins ends o own =
    let s = begins o own in
    takes_started o s.own a b c s.begins (ends s.own (begun_own t o s.own a b own s.begins))

pub reads_none : (t : ℕ) (offset : ℤ) (n : ℕ) (a b : Mine) (j : Option (WithSource Job)) (op : (o : OwnCall) × IsOwn t o a)
    → ReadsOr op.0 j offset n a b → j ≡ None → (o : OwnCall) → IsOwn t o a → TakesUp o a b
reads_none t offset n a b j op ok e o h =
    subst (λ x. TakesUp x a b) (only_own t a o op.0 h op.1) (takes_refused op.0 a b (subst (λ x. ReadsOr op.0 x offset n a b) e ok))

pub reads_some : (o : OwnCall) (offset : ℤ) (n : ℕ) (a b : Mine) (j : Option (WithSource Job)) (start : WithSource Job)
    → ReadsOr o j offset n a b → j ≡ Some start → ReadsIn o offset n a b
reads_some o offset n a b j start ok e = subst (λ x. ReadsOr o x offset n a b) e ok

pub reads_ends : (t : ℕ) (offset : ℤ) (n : ℕ) (a b c : Mine) (op : (o : OwnCall) × IsOwn t o a) → ReadsIn op.0 offset n a b
    → ((o : OwnCall) → IsOwn t o b → EndsTo o b c) → (o : OwnCall) → IsOwn t o a → TakesUp o a c
reads_ends t offset n a b c op s ends o own =
    subst (λ x. TakesUp x a c) (only_own t a o op.0 own op.1)
    (takes_started op.0 s.own a b c s.begins (ends s.own (begun_own t op.0 s.own a b op.1 s.begins)))

-- in room for its bytes
pub reads_own : (read : OpenRead) (a b : Mine) (reply : List ℕ) (o : OwnCall) → IsOwn read.ticket o a
    → length reply ≡ header_length + read.count → ReadsIn o read.offset read.count a b → IsOpenRead read b reply
reads_own read a b reply o own fits s = record {
  own = s.own;
  is = begun_own read.ticket o s.own a b own s.begins;
  none = s.none;
  carries = record { started = s.started; call = s.call; long = s.long; count = fits };
}

pub goes_replicas : (a b : Mine) (o : OwnCall) → KeepsOpen a b → a.running ≡ o ∷ [] → b.replicas ≡ a.replicas
goes_replicas a b o goes e = ap (λ (m : Mine). m.replicas) (goes o e).is

-- a call that goes on has started
on_blocks : (c : Call) → IsWriteCall c → IsOnBlocks c
on_blocks (call.Read offset k) w = tt
on_blocks (call.Write offset bytes) w = tt
on_blocks call.Ping w = w
on_blocks (call.Other k) w = w
on_blocks (call.Command x) w = w

pub write_is_started : (o : OwnCall) → IsStartedWrite o → HasStarted o
write_is_started o w = (w.0, on_blocks o.call w.1)

pub write_started : (o : OwnCall) (t block n : ℕ) (a b : Mine) (rooms : Rooms) → IsOwn t o a → HoldsWrite o block n rooms
    → KeepsOpen a b → (x : OwnCall) × IsOwn t x b × HasStarted x
write_started o t block n a b rooms own f goes =
    let g = goes o own.is in
    (after o a b g, record { is = goes_running o a b g; number = own.number }, write_is_started o f.carries.writes)

-- a read that goes on
module _ (read : OpenRead) (a b : Mine) (reply : List ℕ) (goes : KeepsOpen a b) (h : IsOpenRead read a reply) where
  on : StaysOpen h.own a b
  on = goes h.own h.is.is

  on_own : IsOwn read.ticket (after h.own a b on) b
  on_own = record { is = goes_running h.own a b on; number = h.is.number }

  pub read_started : (x : OwnCall) × IsOwn read.ticket x b × HasStarted x
  read_started = (after h.own a b on, on_own, (h.carries.started, subst IsOnBlocks (sym h.carries.call) tt))

  pub still_read : (x : OwnCall) × IsOwn read.ticket x b × IsReadCall x.call
  still_read = (after h.own a b on, on_own, subst IsReadCall (sym h.carries.call) tt)

  -- it is carried as before
  pub reads_on : (reply2 : List ℕ) → NoneAcked b → length reply2 ≡ length reply → IsOpenRead read b reply2
  reads_on reply2 none long = record {
    own = after h.own a b on;
    is = on_own;
    none = none;
    carries = record {
      started = h.carries.started;
      call = h.carries.call;
      long = on.long ∙ h.carries.long;
      count = long ∙ h.carries.count;
    };
  }
