-- A call is served, and then the next.
use Rattle.std.proofs.Common.{◌≡◌, ℕ, List, [], ◌∷◌, ◌++◌, Option, Some, None, IfSome, Result, Ok, Err, OnOk, map}
use Rattle.std.proofs.Common.{subst, sym, refl, ap, ◌∙◌, append_assoc, append-nil}
use Rattle.std.specs.Prelude.{All}
use Rattle.std.specs.Option.{option_map}
use Rattle.std.proofs.lemmas.List.{map-append}
use Rattle.std.proofs.lemmas.List.Elements.{All-append}
use Rattle.volume_model.specs.declared.call.Call.{Call}
use Rattle.volume_model.specs.declared.call.Reply.{Reply}
use Rattle.volume_model.specs.declared.call.Reply.TheVariants as reply
use Rattle.volume_model.specs.declared.entry.Entry.{Entry}
use Rattle.volume_model.specs.Modes.{HasSource}
use Rattle.stream_steps.specs.Mine.{Mine, Log, OwnCall, IsOwn, entries_in, longer, length_of, with_more, with_running, answer_placed}
use Rattle.stream_steps.specs.Steps.{IsUncarried, EnrolsAt, AnswersNow, Answers, Refuses}
use Rattle.stream_steps.proofs.MineLemmas.{entries-append, longer_none, longer_twice, more_none, more_twice}
use Rattle.client_worker.specs.Serving.{IsOwnFault, StaysOpen, KeepsOpen, Serves, AreServed, GrewBy, Grew}
use Rattle.client_worker.specs.Ends.{BeginsAs, EndsTo, EndsOpen, TakesUp}
use Rattle.client_worker.proofs.Going.{after, goes_running, own_of, no_faults}

-- ---- one call

-- an open call is answered behind its faults
ends_answered : (o : OwnCall) (a b c : Mine) (g : StaysOpen o a b) → Answers (after o a b g) b c → EndsTo o a c
ends_answered o a b c g s = record {
  marks = g.marks;
  spot = s.spot;
  answer = s.answer;
  is = s.is ∙ ap (λ (m : Mine). with_more m (answer_placed s.spot s.answer ∷ []) []) g.is
      ∙ more_twice a g.marks (answer_placed s.spot s.answer ∷ []) (after o a b g ∷ []) [];
  faults = g.faults;
  call = s.call;
  by = s.by ∙ ap (λ (m : Mine). m.stream) g.is;
  saw = s.saw;
}

-- one that is answered behind what went on before
ends_later : (o : OwnCall) (a b c : Mine) (g : StaysOpen o a b) → EndsTo (after o a b g) b c → EndsTo o a c
ends_later o a b c g s = record {
  marks = g.marks ++ s.marks;
  spot = s.spot;
  answer = s.answer;
  is = s.is ∙ ap (λ (m : Mine). with_more m (s.marks ++ answer_placed s.spot s.answer ∷ []) []) g.is
      ∙ more_twice a g.marks (s.marks ++ answer_placed s.spot s.answer ∷ []) (after o a b g ∷ []) []
      ∙ ap (λ ps. with_more a ps []) (sym (append_assoc g.marks s.marks (answer_placed s.spot s.answer ∷ [])));
  faults = subst (All (IsOwnFault a.stream)) (sym (entries-append g.marks s.marks))
      (All-append (IsOwnFault a.stream) (entries_in g.marks) (entries_in s.marks) g.faults
      (subst (λ n. All (IsOwnFault n) (entries_in s.marks)) (ap (λ (m : Mine). m.stream) g.is) s.faults));
  call = s.call;
  by = s.by ∙ ap (λ (m : Mine). m.stream) g.is;
  saw = s.saw;
}

pub ends_then : (a b c : Mine) → KeepsOpen a b → EndsOpen b c → EndsOpen a c
ends_then a b c goes ends o run =
    let g = goes o run in
    ends_later o a b c g (ends (after o a b g) (goes_running o a b g))

pub ends_own : (t : ℕ) (a c : Mine) → EndsOpen a c → (o : OwnCall) → IsOwn t o a → EndsTo o a c
ends_own t a c ends o own = ends o own.is

pub ends_by : (t : ℕ) (a b c : Mine) → KeepsOpen a b → ((x : OwnCall) × IsOwn t x a)
    → ((x : OwnCall) → IsOwn t x b → Answers x b c) → (o : OwnCall) → IsOwn t o a → EndsTo o a c
ends_by t a b c goes op done o own =
    let g = goes o own.is in
    ends_answered o a b c g
    (done (after o a b g)
    (own_of t b (after o a b g) (after o a b g, record { is = goes_running o a b g; number = own.number })
    (goes_running o a b g)))

-- with nothing carried no bytes are read
no_bytes : (c : Call) (a : Reply) (bytes : List ℕ) → IsUncarried c a → a ≡ reply.Read bytes → ⊥
no_bytes c (reply.Read read) bytes h e = h
no_bytes c reply.Done bytes h e = cc
no_bytes c (reply.Status layers modes) bytes h e = cc
no_bytes c (reply.Refused why) bytes h e = cc
no_bytes c (reply.Aborted place) bytes h e = cc

-- there is no replica
pub takes_refused : (o : OwnCall) (a b : Mine) → Refuses o a b → TakesUp o a b
takes_refused o a b s = record {
  ends = record {
    marks = [];
    spot = s.ends.spot;
    answer = s.ends.answer;
    is = s.ends.is;
    faults = no_faults a.stream;
    call = s.ends.call;
    by = s.ends.by;
    saw = s.ends.saw;
  };
  source = λ bytes e. absurd (no_bytes o.call s.ends.answer.reply bytes s.uncarried e);
}

-- one that has started
pub takes_started : (o p : OwnCall) (a b c : Mine) → BeginsAs o p a b → EndsTo p b c → TakesUp o a c
takes_started o p a b c g s = record {
  ends = record {
    marks = s.marks;
    spot = s.spot;
    answer = s.answer;
    is = s.is ∙ ap (λ (m : Mine). with_more m (s.marks ++ answer_placed s.spot s.answer ∷ []) []) g.is;
    faults = subst (λ n. All (IsOwnFault n) (entries_in s.marks)) (ap (λ (m : Mine). m.stream) g.is) s.faults;
    call = s.call ∙ g.call;
    by = s.by ∙ ap (λ (m : Mine). m.stream) g.is;
    saw = s.saw ∙ g.saw;
  };
  source = λ bytes e. g.source;
}

known : (log : Option Log) (k n : ℕ) → n ≡ k → IfSome (option_map length_of log) (λ p. k ≡ p) → IfSome log (λ l. n ≡ length_of l)
known None k n e h = tt
known (Some l) k n e h = e ∙ h

-- one that was enrolled
grew_enrolled : (t : ℕ) (c : Call) (a b d : Mine) (e : EnrolsAt t c a b) → TakesUp e.own b d → GrewBy c a d
grew_enrolled t c a b d e s =
    let n = s.ends in
    let log : b.log ≡ a.log = ap (λ (m : Mine). m.log) e.is in
    record {
      added = n.marks ++ answer_placed n.spot n.answer ∷ [];
      is = n.is ∙ ap (λ (m : Mine). with_more m (n.marks ++ answer_placed n.spot n.answer ∷ []) []) e.is;
      served = record {
        marks = entries_in n.marks;
        answer = n.answer;
        is = entries-append n.marks (answer_placed n.spot n.answer ∷ []);
        faults = subst (λ k. All (IsOwnFault k) (entries_in n.marks)) (ap (λ (m : Mine). m.stream) e.is) n.faults;
        call = n.call ∙ e.call;
        by = n.by ∙ ap (λ (m : Mine). m.stream) e.is;
        saw = known a.log e.own.saw n.answer.saw n.saw e.saw;
        source = λ bytes is none. subst (λ l. IfSome l (λ (x : Log). HasSource x.spot.modes)) log (s.source bytes is);
      };
    }

pub grew_now : (c : Call) (a b : Mine) → AnswersNow c a b → GrewBy c a b
grew_now c a b s = record {
  added = answer_placed s.spot s.answer ∷ [];
  is = s.is;
  served = record {
    marks = [];
    answer = s.answer;
    is = refl;
    faults = no_faults a.stream;
    call = s.call;
    by = s.by;
    saw = known a.log s.answer.saw s.answer.saw refl (saw_of a.log s.answer.saw s.saw);
    source = λ bytes e none. absurd (no_bytes c s.answer.reply bytes s.uncarried e);
  };
}
  where
    saw_of : (log : Option Log) (n : ℕ) → IfSome (option_map length_of log) (λ place. n ≡ place)
        → IfSome (option_map length_of log) (λ p. n ≡ p)
    saw_of log n h = h

pub enrol_served : {E : Type 0} (res : Result (Unit {0}) E) (t : ℕ) (c : Call) (a b d : Mine) → EnrolsAt t c a b
    → OnOk res ((o : OwnCall) → IsOwn t o b → TakesUp o b d) → OnOk res (GrewBy c a d)
enrol_served (Ok u) t c a b d e ends =
    grew_enrolled t c a b d e (ends e.own (record { is = ap (λ (m : Mine). m.running) e.is; number = e.number }))
enrol_served (Err u) t c a b d e ends = tt

-- ---- the next

served_next : (stream : ℕ) (log : Option Log) (cs : List Call) (c : Call) (xs ys : List Entry) → AreServed stream log cs xs
    → Serves stream (longer log xs) c ys → AreServed stream log (cs ++ c ∷ []) (xs ++ ys)
served_next stream log [] c xs ys none s = (
  ys,
  [],
  ap (λ zs. zs ++ ys) none ∙ sym (append-nil ys),
  subst (λ p. Serves stream p c ys) (ap (longer log) none ∙ longer_none log) s,
  refl,
)
served_next stream log (d ∷ cs) c xs ys more s = (
  more.0,
  more.1 ++ ys,
  ap (λ zs. zs ++ ys) more.2 ∙ append_assoc more.0 more.1 ys,
  more.3,
  served_next stream (longer log more.0) cs c more.1 ys more.4
      (subst (λ p. Serves stream p c ys) (ap (longer log) more.2 ∙ sym (longer_twice log more.0 more.1)) s),
)

pub grew_none : (m : Mine) → m.running ≡ [] → Grew [] m m
grew_none m idle = record { added = []; is = ap (with_running m) idle ∙ sym (more_none m []); served = refl }

grew_next : (cs : List Call) (c : Call) (a b d : Mine) → Grew cs a b → GrewBy c b d → Grew (cs ++ c ∷ []) a d
grew_next cs c a b d g h = record {
  added = g.added ++ h.added;
  is = h.is ∙ ap (λ (m : Mine). with_more m h.added []) g.is ∙ more_twice a g.added h.added [] [];
  served = subst (AreServed a.stream a.log (cs ++ c ∷ [])) (sym (entries-append g.added h.added))
      (served_next a.stream a.log cs c (entries_in g.added) (entries_in h.added) g.served
      (subst (λ (n : ℕ). Serves n (longer a.log (entries_in g.added)) c (entries_in h.added)) (ap (λ (m : Mine). m.stream) g.is)
      (subst (λ p. Serves b.stream p c (entries_in h.added)) (ap (λ (m : Mine). m.log) g.is) h.served)));
}

-- one ask more
pub grew_ask : {A : Type 0} (f : A → Call) (xs : List A) (x : A) (a b d : Mine) → Grew (map f xs) a b → GrewBy (f x) b d
    → Grew (map f (xs ++ x ∷ [])) a d
grew_ask f xs x a b d g h = subst (λ (cs : List Call). Grew cs a d) (sym (map-append f xs (x ∷ []))) (grew_next (map f xs) (f x) a b d g h)
