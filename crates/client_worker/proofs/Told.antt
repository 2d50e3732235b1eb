-- What lines tell goes on: an exchange that was told is told still.
use Rattle.std.proofs.Common.{zero, suc, arith, ◌≡◌, ◌≢◌, ℕ, ◌+◌, ◌-◌, ◌<◌, ◌≤◌, ℤ, List, [], ◌∷◌, ◌++◌, length, take}
use Rattle.std.proofs.Common.{drop, length-append, length-drop, get_or, set, map, Option, Some, None, IfSome, Result}
use Rattle.std.proofs.Common.{Ok, Err, is_ok, true, subst, sym, ap, ◌∙◌, append_assoc, append-nil, All}
use Rattle.std.proofs.lemmas.List.{length-take-le, map-set, get_or-set_other}
use Rattle.std.proofs.lemmas.List.Elements.{All-weaker, All-append, All-push, All-nil, All-head, All-tail}
use Rattle.std.proofs.lemmas.Slice.{between_to_end, between-put_mid}
use borrow.Rule.Slice.PartMut.{put_mid, post_of}
use Rattle.volume_model.specs.declared.call.Call.{Call}
use Rattle.volume_model.specs.declared.call.Call.TheVariants as call
use Rattle.volume_model.specs.declared.call.Reply.{Reply}
use Rattle.volume_model.specs.declared.call.Reply.TheVariants as reply
use Rattle.volume_model.specs.declared.entry.Entry.{Entry}
use Rattle.volume_model.specs.declared.entry.Entry.TheVariants as entry
use Rattle.volume_model.specs.declared.mode.Mode.{Mode}
use Rattle.frame_wire.specs.declared.head.Head.{Head}
use Rattle.frame_wire.specs.Spelling.{header, header_length, frame, IsHead, IsFrame}
use Rattle.outer_traits.specs.Lines.{TellsMore, Carries}
use Rattle.outer_traits.proofs.Lines.{TellsMore-nil}
use Rattle.stream_steps.specs.Mine.{OwnCall, Placed}
use Rattle.stream_steps.specs.Steps.{IsStarted, IsWriteCall}
use Rattle.client_worker.specs.Frames.{read_head, read_reply_head, write_head, write_reply_head, read_request}
use Rattle.client_worker.specs.Frames.{read_reply, write_request, write_reply}
use Rattle.client_worker.specs.Exchanges.{told_in, HasExchange, HasRead, HasBlocks, HasWrite, HasPart, AreAcked}
use Rattle.client_worker.specs.Exchanges.{CarryFrames, CarriedOf, IsCarried, AreCarried}
use Rattle.client_worker.specs.Asking.{TellsOn, TellOn, LacksReply}
use Rattle.client_worker.specs.Rooms.{CarriesWrite, CarriesRead}

-- ---- with more frames behind

pub exchange-more : (request reply : List ℕ) (xs ys : List (List ℕ)) → HasExchange request reply xs → HasExchange request reply (xs ++ ys)
exchange-more request reply xs ys h = (h.0, h.1 ++ ys, ap (λ l. l ++ ys) h.2 ∙ append_assoc h.0 (request ∷ reply ∷ h.1) ys)

read-more : (offset : ℤ) (bytes : List ℕ) (xs ys : List (List ℕ)) → HasRead offset bytes xs → HasRead offset bytes (xs ++ ys)
read-more offset bytes xs ys h = (h.0, exchange-more (read_request h.0 offset (length bytes)) (read_reply h.0 offset bytes) xs ys h.1)

write-more : (offset : ℤ) (bytes : List ℕ) (xs ys : List (List ℕ)) → HasWrite offset bytes xs → HasWrite offset bytes (xs ++ ys)
write-more offset bytes xs ys h = record {
  range = h.range;
  whole = h.whole;
  rounded = h.rounded;
  has = (
    h.has.0,
    exchange-more (write_request h.has.0 h.range.first h.whole)
        (write_reply h.has.0 h.range.first (length h.whole)) xs ys h.has.1,
  );
}

part-more : (c : Call) (buffer : List ℕ) (xs ys : List (List ℕ)) → HasPart c buffer xs → HasPart c buffer (xs ++ ys)
part-more (call.Read offset n) buffer xs ys h = read-more offset buffer xs ys h
part-more (call.Write offset bytes) buffer xs ys h = write-more offset bytes xs ys h
part-more call.Ping buffer xs ys h = tt
part-more (call.Other k) buffer xs ys h = tt
part-more (call.Command c) buffer xs ys h = tt

-- what holds of the frames that are told, and of more frames with them
pub still : (P : List (List ℕ) → Type 0) → ((xs ys : List (List ℕ)) → P xs → P (xs ++ ys))
    → (s t : Option (List (List ℕ))) (more : List (List ℕ)) → TellsMore s t more → IfSome s P → IfSome t P
still P grow s None more h p = tt
still P grow None (Some now) more h p = absurd h
still P grow (Some before) (Some now) more h p = subst P (sym h) (grow before more p)

module _ (before now : List (Option (List (List ℕ)))) (on : TellOn before now) where
  pub acked-on : (o : OwnCall) → AreAcked (told_in before) o → AreAcked (told_in now) o
  acked-on o h = λ r e. still (HasPart o.call o.buffer) (part-more o.call o.buffer) (told_in before r) (told_in now r)
      (on r).0 (on r).1 (h r e)

  carried-on : (n : ℕ) (modes : List Mode) (c : Call) (a : Reply) → CarriedOf n (told_in before) modes c a
      → CarriedOf n (told_in now) modes c a
  carried-on n modes (call.Read offset k) (reply.Read bytes) h = (
    h.0,
    h.1,
    still (HasRead offset bytes) (read-more offset bytes) (told_in before h.0) (told_in now h.0) (on h.0).0
        (on h.0).1 h.2,
  )
  carried-on n modes (call.Write offset bytes) reply.Done h =
      λ r e. still (HasWrite offset bytes) (write-more offset bytes) (told_in before r) (told_in now r) (on r).0 (on r).1
      (h r e)
  carried-on n modes (call.Read offset k) reply.Done h = tt
  carried-on n modes (call.Read offset k) (reply.Status layers ms) h = tt
  carried-on n modes (call.Read offset k) (reply.Refused why) h = tt
  carried-on n modes (call.Read offset k) (reply.Aborted place) h = tt
  carried-on n modes (call.Write offset bytes) (reply.Read read) h = tt
  carried-on n modes (call.Write offset bytes) (reply.Status layers ms) h = tt
  carried-on n modes (call.Write offset bytes) (reply.Refused why) h = tt
  carried-on n modes (call.Write offset bytes) (reply.Aborted place) h = tt
  carried-on n modes call.Ping a h = tt
  carried-on n modes (call.Other k) a h = tt
  carried-on n modes (call.Command c) a h = tt

  carries-on : (n : ℕ) (modes : List Mode) (e : Entry) → IsCarried n (told_in before) modes e → IsCarried n (told_in now) modes e
  carries-on n modes (entry.Answer a) h = carried-on n modes a.call a.reply h
  carries-on n modes (entry.Mark m) h = tt

  pub are_carried-on : (n : ℕ) (ps : List Placed) → AreCarried n (told_in before) ps → AreCarried n (told_in now) ps
  are_carried-on n ps h = All-weaker (λ (p : Placed). IsCarried n (told_in before) p.spot.modes p.entry)
      (λ (p : Placed). IsCarried n (told_in now) p.spot.modes p.entry) (λ p. carries-on n p.spot.modes p.entry) ps h

-- ---- whole frames

pub header_alone : (h : Head) → header h ≡ frame h []
header_alone h = sym (append-nil (header h))

-- data behind a header that tells its length is one
pub is_framed : (h : Head) (body bytes : List ℕ) → IsHead h → length body ≡ h.len → bytes ≡ frame h body → IsFrame bytes
is_framed h body bytes fits long is = record { head = h; body = body; fits = fits; long = long; spelled = is }

-- so is a header alone that tells of none
pub is_framed_alone : (h : Head) (bytes : List ℕ) → IsHead h → h.len ≡ 0 → bytes ≡ header h → IsFrame bytes
is_framed_alone h bytes fits none is = is_framed h [] bytes fits (sym none) (is ∙ header_alone h)

-- lines that have carried nothing have carried nothing but whole frames
pub frames_none : (told : List (Option (List (List ℕ)))) → All (λ t. IfSome t (λ frames. frames ≡ [])) told
    → CarryFrames (told_in told)
frames_none [] none r = tt
frames_none (None ∷ ts) none zero = tt
frames_none (Some frames ∷ ts) none zero =
    subst (All IsFrame) (sym (All-head (λ t. IfSome t (λ frames. frames ≡ [])) (Some frames) ts none)) (All-nil IsFrame)
frames_none (t ∷ ts) none (suc r) = frames_none ts (All-tail (λ t. IfSome t (λ frames. frames ≡ [])) t ts none) r

-- so have lines that have carried whole frames more
pub frames-on : (before now : List (Option (List (List ℕ)))) → TellOn before now → CarryFrames (told_in before)
    → CarryFrames (told_in now)
frames-on before now on framed r = further (told_in before r) (told_in now r) (on r) (framed r)
  where
    further : (s t : Option (List (List ℕ))) → TellsOn s t → IfSome s (All IsFrame) → IfSome t (All IsFrame)
    further s None h framed = tt
    further None (Some now) h framed = absurd h.1
    further (Some before) (Some now) h framed =
        subst (All IsFrame) (sym h.1) (All-append IsFrame before h.0 framed h.2)

-- ---- one line told more

-- a line that is as it was
pub tells_on_same : (told : Option (List (List ℕ))) → TellsOn told told
tells_on_same told = ([], TellsMore-nil told, All-nil IsFrame)

-- a carry on one line of a list
pub on_set : {L : Type 0} (told : L → Option (List (List ℕ))) (xs : List L) (i : ℕ) (x d : L) → i < length xs
    → TellsOn (told (get_or xs i d)) (told x) → TellOn (map told xs) (map told (set xs i x))
on_set told [] i x d l h r = absurd (omega arith)
on_set told (y ∷ ys) zero x d l h zero = h
on_set told (y ∷ ys) zero x d l h (suc k) = tells_on_same (told_in (map told ys) k)
on_set told (y ∷ ys) (suc i) x d l h zero = tells_on_same (told y)
on_set told (y ∷ ys) (suc i) x d l h (suc k) = on_set told ys i x d (omega arith) h k

pub here_set : {L : Type 0} (told : L → Option (List (List ℕ))) (xs : List L) (i : ℕ) (x d : L) (more : List (List ℕ))
    → i < length xs → TellsMore (told (get_or xs i d)) (told x) more
    → TellsMore (told_in (map told xs) i) (told_in (map told (set xs i x)) i) more
here_set told [] i x d more l h = absurd (omega arith)
here_set told (y ∷ ys) zero x d more l h = h
here_set told (y ∷ ys) (suc i) x d more l h = here_set told ys i x d more (omega arith) h

-- no other line tells more
pub other_set : {L : Type 0} (told : L → Option (List (List ℕ))) (xs : List L) (i r : ℕ) (x : L) → r ≢ i
    → told_in (map told (set xs i x)) r ≡ told_in (map told xs) r
other_set told xs i r x apart = ap (λ ls. told_in ls r) (map-set told xs i x) ∙ get_or-set_other (map told xs) i r (told x) None apart

-- whether the frame came through or not
pub carry_more : {E : Type 0} (res : Result (Unit {0}) E) (s t : Option (List (List ℕ))) (frame : List ℕ) → IsFrame frame
    → Carries s t frame res → TellsOn s t
carry_more (Ok u) s t frame whole c = (frame ∷ [], c.ok, All-push IsFrame [] frame (All-nil IsFrame) whole)
carry_more (Err e) s t frame whole c = ([], c.err, All-nil IsFrame)

pub carry_ok : {E : Type 0} (res : Result (Unit {0}) E) (s t : Option (List (List ℕ))) (frame : List ℕ) → is_ok res ≡ true
    → Carries s t frame res → TellsMore s t (frame ∷ [])
carry_ok (Ok u) s t frame e c = c.ok
carry_ok (Err x) s t frame e c = absurd cc

-- ---- the exchange of the open call

-- the request is told last, so that the reply makes the exchange
pub exchange-now : (request reply : List ℕ) (front frames : List (List ℕ)) → frames ≡ front ++ request ∷ []
    → HasExchange request reply (frames ++ reply ∷ [])
exchange-now request reply front frames e = (front, [], ap (λ l. l ++ reply ∷ []) e ∙ append_assoc front (request ∷ []) (reply ∷ []))

-- what is left to be told, where the request is told last
lacks : (o : OwnCall) (s t : Option (List (List ℕ))) (request reply : List ℕ) → TellsMore s t (request ∷ [])
    → ((frames : List (List ℕ)) → HasExchange request reply frames → HasPart o.call o.buffer frames) → LacksReply o t reply
lacks o s None request reply h part = tt
lacks o None (Some now) request reply h part = absurd h
lacks o (Some before) (Some now) request reply h part = part (now ++ reply ∷ []) (exchange-now request reply before now h)

-- the reply came through
pub has_part : (o : OwnCall) (s t : Option (List (List ℕ))) (reply : List ℕ) → TellsMore s t (reply ∷ [])
    → LacksReply o s reply → IfSome t (HasPart o.call o.buffer)
has_part o s None reply h part = tt
has_part o None (Some now) reply h part = absurd h
has_part o (Some before) (Some now) reply h part = subst (HasPart o.call o.buffer) (sym h) part

-- of a write
part_of_write : (c : Call) (o : OwnCall) (buffer : List ℕ) (frames : List (List ℕ)) → IsWriteCall c → IsStarted c o
    → HasBlocks o.range.first o.whole frames → HasPart c buffer frames
part_of_write (call.Read offset n) o buffer frames w s has = absurd w
part_of_write (call.Write offset bytes) o buffer frames w s has = record { range = o.range; whole = o.whole; rounded = s; has = has }
part_of_write call.Ping o buffer frames w s has = absurd w
part_of_write (call.Other k) o buffer frames w s has = absurd w
part_of_write (call.Command c) o buffer frames w s has = absurd w

-- the request of a started write came through, and its reply is next
pub write_lacks : (o p : OwnCall) (s t : Option (List (List ℕ))) (seq first n : ℕ) (before request reply : List ℕ)
    (asked said : Head) → CarriesWrite o first n before → p.call ≡ o.call
    → asked ≡ write_head seq first (length before - header_length)
    → said ≡ write_reply_head seq first (length before - header_length)
    → request ≡ frame asked (drop header_length before) → reply ≡ header said → TellsMore s t (request ∷ [])
    → LacksReply p t reply
write_lacks o p s t seq first n before request reply asked said c same a b q r h =
    lacks p s t request reply h (λ frames e. subst (λ c. HasPart c p.buffer frames) (sym same)
    (part_of_write o.call o p.buffer frames c.writes.1 c.rounded (seq, exchange_is frames e)))
  where
    count : length before - header_length ≡ length o.whole
    count = sym (length-drop header_length before) ∙ ap length c.whole

    asks : request ≡ write_request seq o.range.first o.whole
    asks = q ∙ (λ i. frame (a i) (c.whole i)) ∙ (λ i. frame (write_head seq (sym c.first i) (count i)) o.whole)

    says : reply ≡ write_reply seq o.range.first (length o.whole)
    says = r ∙ ap header b ∙ (λ i. header (write_reply_head seq (sym c.first i) (count i)))
        ∙ header_alone (write_reply_head seq o.range.first (length o.whole))

    exchange_is : (frames : List (List ℕ)) → HasExchange request reply frames
        → HasExchange (write_request seq o.range.first o.whole) (write_reply seq o.range.first (length o.whole)) frames
    exchange_is frames e = (e.0, e.1, e.2 ∙ (λ i. e.0 ++ asks i ∷ says i ∷ e.1))

-- what was put behind a header stands there
pub body_put : (before bytes : List ℕ) → header_length ≤ length before → length bytes ≡ length before - header_length
    → drop header_length (put_mid header_length (length before - header_length) before bytes) ≡ bytes
body_put before bytes long same =
    let put_mid_here = put_mid header_length (length before - header_length) before bytes in
    let post_here = post_of header_length (length before - header_length) before in
    let post : length post_here ≡ length (drop header_length before) - (length before - header_length) =
    length-drop (length before - header_length) (drop header_length before) in
    let parts : length put_mid_here ≡ length (take header_length before) + (length bytes + length post_here) =
    length-append (take header_length before) (bytes ++ post_of header_length (length before - header_length) before)
    ∙ ap (λ k. length (take header_length before) + k) (length-append bytes post_here) in
    let all : length put_mid_here ≤ length before =
    omega (arith, parts, post, length-take-le header_length before long, length-drop header_length before, same, long) in
    sym (between_to_end put_mid_here header_length (length before) all)
    ∙ between-put_mid header_length (length before - header_length) before bytes (length before) long same

-- the same of a read, with the bytes that the replica gave
pub read_lacks : (o p : OwnCall) (s t : Option (List (List ℕ))) (seq : ℕ) (offset : ℤ) (n : ℕ) (before request reply : List ℕ)
    (asked said : Head) → CarriesRead o offset n before → p.call ≡ o.call → length p.buffer ≡ length o.buffer
    → asked ≡ read_head seq offset n → said ≡ read_reply_head seq offset n → request ≡ header asked
    → reply ≡ frame said p.buffer → TellsMore s t (request ∷ []) → LacksReply p t reply
read_lacks o p s t seq offset n before request reply asked said c same long a b q r h =
    lacks p s t request reply h (λ frames e. subst (λ c. HasPart c p.buffer frames) (sym (same ∙ c.call)) (seq, exchange_is frames e))
  where
    count : n ≡ length p.buffer
    count = sym (long ∙ c.long)

    asks : request ≡ read_request seq offset (length p.buffer)
    asks = q ∙ ap header a ∙ (λ i. header (read_head seq offset (count i))) ∙ header_alone (read_head seq offset (length p.buffer))

    says : reply ≡ read_reply seq offset p.buffer
    says = r ∙ ap (λ x. frame x p.buffer) b ∙ (λ i. frame (read_reply_head seq offset (count i)) p.buffer)

    exchange_is : (frames : List (List ℕ)) → HasExchange request reply frames
        → HasExchange (read_request seq offset (length p.buffer)) (read_reply seq offset p.buffer) frames
    exchange_is frames e = (e.0, e.1, e.2 ∙ (λ i. e.0 ++ asks i ∷ says i ∷ e.1))
