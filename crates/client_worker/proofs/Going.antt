-- How an open call goes on: what each step adds to what its worker knows.
use Rattle.std.proofs.Common.{◌≡◌, ℕ, zero, suc, arith, List, [], ◌∷◌, ◌++◌, Result, Ok, Err, OnOk, OnErr, is_err}
use Rattle.std.proofs.Common.{false, set, length, subst, sym, refl, ap, ◌∙◌}
use Rattle.std.specs.Prelude.{All}
use Rattle.std.proofs.lemmas.List.Elements.{All-append}
use Rattle.volume_model.specs.declared.entry.Entry.TheVariants as entry
use Rattle.volume_model.specs.declared.mark.Mark.TheVariants as mark
use Rattle.step_answers.specs.declared.parts.Part.{Part}
use Rattle.step_answers.specs.declared.parts.Part.TheVariants.{Taken, Acked}
use Rattle.stream_steps.specs.Mine.{Mine, OwnCall, IsOwn, entries_in, with_more, with_running, fault_placed}
use Rattle.stream_steps.specs.Steps.{TakesTo, AcksTo, FaultsTo}
use Rattle.stream_steps.proofs.MineLemmas.{entries-append, more_none, more_twice}
use Rattle.client_worker.specs.Serving.{IsOwnFault, StaysOpen, KeepsOpen}

-- no marks, and one
pub no_faults : (stream : ℕ) → All (IsOwnFault stream) []
no_faults stream = λ k d l. absurd (omega (arith, l))

one_fault : (stream r count : ℕ) → All (IsOwnFault stream) (entry.Mark (mark.Fault stream r count) ∷ [])
one_fault stream r count zero d l = refl
one_fault stream r count (suc k) d l = absurd (omega (arith, l))

-- ---- the open call

pub one_of : (x y : OwnCall) → x ∷ [] ≡ y ∷ [] → x ≡ y
one_of x y e = cc

-- the one that there is has the number
pub own_of : (t : ℕ) (m : Mine) (o : OwnCall) → ((x : OwnCall) × IsOwn t x m) → m.running ≡ o ∷ [] → IsOwn t o m
own_of t m o op e = record { is = e; number = ap (λ (x : OwnCall). x.number) (one_of o op.0 (sym e ∙ op.1.is)) ∙ op.1.number }

abbrev pub after : (o : OwnCall) (m m2 : Mine) → StaysOpen o m m2 → OwnCall
after o m m2 g = record o { buffer = g.buffer; parts = g.parts }

pub goes_running : (o : OwnCall) (m m2 : Mine) (g : StaysOpen o m m2) → m2.running ≡ after o m m2 g ∷ []
goes_running o m m2 g = ap (λ (x : Mine). x.running) g.is

goes_step : (o : OwnCall) (buffer : List ℕ) (parts : List Part) (a b : Mine) → length buffer ≡ length o.buffer
    → b ≡ with_running a (record o { buffer = buffer; parts = parts } ∷ []) → StaysOpen o a b
goes_step o buffer parts a b long e =
    record {
      marks = [];
      buffer = buffer;
      parts = parts;
      long = long;
      faults = no_faults a.stream;
      is = e
          ∙ sym (more_none a _);
    }

pub goes_same : (a b : Mine) → b ≡ a → KeepsOpen a b
goes_same a b e = λ o r. goes_step o o.buffer o.parts a b refl (e ∙ ap (with_running a) r)

pub goes_then : (a b c : Mine) → KeepsOpen a b → KeepsOpen b c → KeepsOpen a c
goes_then a b c f h = λ o r.
    let g = f o r in
    let k = h (after o a b g) (goes_running o a b g) in
    record {
      marks = g.marks ++ k.marks;
      buffer = k.buffer;
      parts = k.parts;
      long = k.long ∙ g.long;
      faults = subst (All (IsOwnFault a.stream)) (sym (entries-append g.marks k.marks))
          (All-append (IsOwnFault a.stream) (entries_in g.marks) (entries_in k.marks) g.faults
          (subst (λ n. All (IsOwnFault n) (entries_in k.marks)) (ap (λ (m : Mine). m.stream) g.is) k.faults));
      is = k.is ∙ ap (λ (m : Mine). with_more m k.marks (after (after o a b g) b c k ∷ [])) g.is
          ∙ more_twice a g.marks k.marks (after o a b g ∷ []) (after (after o a b g) b c k ∷ []);
    }

goes_fault : (r count : ℕ) (a b : Mine) → FaultsTo r count a b → KeepsOpen a b
goes_fault r count a b f = λ o e. record {
  marks = fault_placed f.spot a.stream r count ∷ [];
  buffer = o.buffer;
  parts = o.parts;
  long = refl;
  faults = one_fault a.stream r count;
  is = f.is ∙ ap (with_more a (fault_placed f.spot a.stream r count ∷ [])) e;
}

pub goes_told : {E : Type 0} (res : Result (Unit {0}) E) (r count : ℕ) (a b : Mine) → OnOk res (FaultsTo r count a b)
    → OnErr res (b ≡ a) → KeepsOpen a b
goes_told (Ok u) r count a b ok err = goes_fault r count a b ok
goes_told (Err e) r count a b ok err = goes_same a b err

-- a replica had its step
pub goes_takes : (t r : ℕ) (buffer : List ℕ) (o : OwnCall) (a b : Mine) → IsOwn t o a → length buffer ≡ length o.buffer
    → TakesTo o r buffer a b → KeepsOpen a b
goes_takes t r buffer o a b own long e = λ x run.
    let same : o ≡ x = one_of o x (sym own.is ∙ run) in
    subst (λ y. StaysOpen y a b) same (goes_step o buffer (set o.parts r Taken) a b long e)

-- and it is its stream's still
pub taken_own : (t r : ℕ) (buffer : List ℕ) (o : OwnCall) (a b : Mine) → IsOwn t o a → TakesTo o r buffer a b
    → IsOwn t (record o { buffer = buffer; parts = set o.parts r Taken }) b
taken_own t r buffer o a b own e = record { is = ap (λ (m : Mine). m.running) e; number = own.number }

pub done_well : {E P : Type 0} (res : Result (Unit {0}) E) → is_err res ≡ false → OnOk res P → P
done_well (Ok u) e p = p
done_well (Err x) e p = absurd cc

pub goes_acked : {E : Type 0} (res : Result (Unit {0}) E) (t r : ℕ) (a b : Mine) → ((o : OwnCall) × IsOwn t o a)
    → OnOk res ((o : OwnCall) → IsOwn t o a → AcksTo o r a b) → OnErr res (b ≡ a) → KeepsOpen a b
goes_acked (Ok u) t r a b op ok err = λ o e. goes_step o o.buffer (set o.parts r Acked) a b refl (ok o (own_of t a o op e))
goes_acked (Err e) t r a b op ok err = goes_same a b err
