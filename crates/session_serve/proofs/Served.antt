-- What a worker was lent of a session, and what it gave back.
use Rattle.std.proofs.Common.{◌≡◌, ℕ, false, List, [], length, map, Option, Result, Ok, IfOk, OnErr, subst, sym, ap, ◌∙◌}
use Rattle.std.proofs.Common.{Err as Failed}
use Rattle.desk_lock.specs.declared.seats.Desk.{Desk}
use Rattle.desk_lock.specs.declared.seats.Seat.{Seat}
use Rattle.desk_lock.specs.Seats.{last_of}
use Rattle.volume_model.specs.declared.call.Call.{Call}
use Rattle.volume_model.specs.declared.call.Reply.{Reply}
use Rattle.volume_core.specs.Sound.{IsSound}
use Rattle.client_worker.specs.declared.channel.Channel.{Channel}
use Rattle.client_worker.specs.Serving.{IsShown, GrewBy}
use Rattle.stream_steps.specs.Mine.{Mine}
use Rattle.stream_steps.specs.Steps.{IsFrameCall}
use Rattle.world_holder.specs.declared.kept.WorldOnDesk.{WorldOnDesk}
use Rattle.world_holder.specs.Laid.{laid}
use Rattle.world_holder.specs.Lent.{IsLent, IsSince}
use Rattle.world_holder.specs.Rests.{IsSeated}
use Rattle.world_holder.specs.View.{view, IsFree}
use Rattle.session_serve.specs.Replies.{IsLastReply}
use Rattle.session_serve.specs.Sessions.{Caller, MayCall, IsReplied, own_of}
use Rattle.session_serve.proofs.Replied.{replied}
use Rattle.session_serve.proofs.Seats.{none_open}

abbrev At : Type 0
At = Seat WorldOnDesk

-- what a stream knows of the World that its seat saw last
abbrev known_at : ℕ → At → Mine
known_at n s = view false n (laid (last_of s))

-- ---- what it gives back: the seat v, which was u behind the worker, of the stream that it had

pub since_first : (d : Desk WorldOnDesk) (s first u v : At) (n : ℕ) → first ≡ s → v ≡ u → IsLent d first u n
    → IsSince (laid (last_of s)) (laid (last_of v))
since_first d s first u v n is same lent =
    subst (λ (x : At). IsSince (laid (last_of s)) (laid (last_of x))) (sym same)
    (subst (λ (x : At). IsSince (laid (last_of x)) (laid (last_of u))) is lent.since)

module _ {L : Type 0} (count : L → ℕ) (told : L → Option (List (List ℕ))) (d : Desk WorldOnDesk) (n : ℕ) (cs : List (Channel L)) where
  abbrev me : Caller L
  me = record { number = n; channels = cs }

  may_here : (v : At) → IsSeated d v n → IsFree n (laid (last_of v)) → (known_at n v).running ≡ []
      → length cs ≡ (known_at n v).replicas
      → IsShown (known_at n v) (map (λ x. count x.line) cs) (map (λ x. told x.line) cs) → MayCall count told d v me
  may_here v seated free idle lines shown = record {
    seated = seated;
    idle = none_open n (laid (last_of v)) free idle;
    lines = lines;
    shown = shown;
  }

  module _ (m : ℕ) (number : m ≡ n) (u : At) (free : IsFree m (laid (last_of u))) (idle : (known_at m u).running ≡ [])
      (lines : length cs ≡ (known_at m u).replicas)
      (shown : IsShown (known_at m u) (map (λ x. count x.line) cs) (map (λ x. told x.line) cs)) where
    -- with no look behind it
    pub may_back : (e : Desk WorldOnDesk) (first v : At) → e ≡ d → v ≡ u → IsLent e first u m → MayCall count told d v me
    may_back e first v desk same lent = subst (λ (x : At). MayCall count told d x me) (sym same) (may_here u
        (subst (λ (x : Desk WorldOnDesk). IsSeated x u n) desk (subst (IsSeated e u) number lent.seated))
        (subst (λ k. IsFree k (laid (last_of u))) number free)
        (subst (λ k. (known_at k u).running ≡ []) number idle)
        (subst (λ k. length cs ≡ (known_at k u).replicas) number lines)
        (subst (λ k. IsShown (known_at k u) (map (λ x. count x.line) cs) (map (λ x. told x.line) cs)) number shown))

    -- and with one, which left the seat as t
    pub may_look : (e : Desk WorldOnDesk) (first t v : At) → e ≡ d → v ≡ t → IsLent e first t n
        → (IsFree n (laid (last_of u)) → IsFree n (laid (last_of t))) → known_at n t ≡ known_at n u → MayCall count told d v me
    may_look e first t v desk same lent frees view_same =
        subst (λ (x : At). MayCall count told d x me) (sym same) (may_here t
        (subst (λ (x : Desk WorldOnDesk). IsSeated x t n) desk lent.seated)
        (frees (subst (λ k. IsFree k (laid (last_of u))) number free))
        (ap (λ (x : Mine). x.running) view_same ∙ subst (λ k. (known_at k u).running ≡ []) number idle)
        (subst (λ k. length cs ≡ (known_at k u).replicas) number lines ∙ sym (ap (λ (x : Mine). x.replicas) view_same))
        (subst (λ (x : Mine). IsShown x (map (λ x. count x.line) cs) (map (λ x. told x.line) cs)) (sym view_same)
        (subst (λ k. IsShown (known_at k u) (map (λ x. count x.line) cs) (map (λ x. told x.line) cs)) number shown)))

-- ---- what the call came to: the seat s was lent as h, and its stream is n

module _ (n m : ℕ) (number : m ≡ n) (s h u : At) (same : h ≡ s) where
  pub grew_here : (c : Call) → GrewBy c (known_at n h) (known_at m u) → GrewBy c (known_at n s) (known_at n u)
  grew_here c grew = subst (λ k. GrewBy c (known_at n s) (known_at k u)) number
      (subst (λ (x : At). GrewBy c (known_at n x) (known_at m u)) same grew)

  -- nothing, out of memory
  pub own_kept : (v : At) → v ≡ u → known_at m u ≡ known_at n h → own_of n (laid (last_of v)) ≡ own_of n (laid (last_of s))
  own_kept v is kept =
      ap (λ (x : At). (known_at n x).entries) is
      ∙ ap (λ k. (known_at k u).entries) (sym number) ∙ ap (λ (x : Mine). x.entries) kept
      ∙ ap (λ (x : At). (known_at n x).entries) same

  -- its answer, where the look left the seat as t
  pub replied_here : (c : Call) (r : Reply) (t v : At) → v ≡ t → IsFrameCall c → GrewBy c (known_at n h) (known_at m u)
      → known_at n t ≡ known_at n u → IsSince (laid (last_of s)) (laid (last_of t)) → IsSound (laid (last_of t))
      → IsLastReply n r (laid (last_of t)).book.entries → IsReplied n c r (laid (last_of s)) (laid (last_of v))
  replied_here c r t v is frame grew view_same since ok reply =
      subst (λ (x : At). IsReplied n c r (laid (last_of s)) (laid (last_of x))) (sym is)
      (replied n c r (laid (last_of s)) (laid (last_of u)) (laid (last_of t)) frame (grew_here c grew) view_same since ok reply)

-- ---- by the answer

module _ {A E : Type 0} where
  pub if_ok : (P : A → Type 0) (res : Result A E) (a : A) → res ≡ Ok a → P a → IfOk res P
  if_ok P res a is p = subst (λ (r : Result A E). IfOk r P) (sym is) p

  pub if_failed : (P : A → Type 0) (res : Result A E) (e : E) → res ≡ Failed e → IfOk res P
  if_failed P res e is = subst (λ (r : Result A E). IfOk r P) (sym is) tt

  pub on_failed : {P : Type 0} (res : Result A E) → P → OnErr res P
  on_failed (Ok a) p = tt
  on_failed (Failed e) p = p

  pub not_failed : (P : Type 0) (res : Result A E) (a : A) → res ≡ Ok a → OnErr res P
  not_failed P res a is = subst (λ (r : Result A E). OnErr r P) (sym is) tt
