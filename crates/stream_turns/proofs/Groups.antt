-- The entries of a stream's calls, call by call: marks, and then the answer. They are the stream's own, and each call is
-- answered once and in order.
use Rattle.std.proofs.Common.{◌≡◌, ℕ, suc, ◌+◌, inl, ⊎_elim, cond, List, [], ◌∷◌, ◌++◌, length, map, Option, sym}
use Rattle.std.proofs.Common.{refl, ap, subst, ◌∙◌, eq-eqb}
use Rattle.std.specs.List.{All}
use Rattle.std.proofs.lemmas.List.Elements.{All-head, All-tail, All-weaker}
use Rattle.volume_model.specs.declared.command.Command.{Command}
use Rattle.volume_model.specs.declared.call.Call.{Call}
use Rattle.volume_model.specs.declared.call.Call.TheVariants as call
use Rattle.volume_model.specs.declared.entry.Answer.{Answer}
use Rattle.volume_model.specs.declared.entry.Entry.{Entry}
use Rattle.volume_model.specs.declared.entry.Entry.TheVariants as entry
use Rattle.volume_model.specs.declared.mark.Mark.{Mark}
use Rattle.volume_model.specs.declared.mark.Mark.TheVariants as mark
use Rattle.volume_model.specs.History.{answers_from}
use Rattle.volume_model.proofs.LegalLemmas.{answers_from-append}
use Rattle.volume_core.specs.Streams.{MayAppend, MayAppendMark}
use Rattle.stream_steps.specs.Mine.{Log, longer}
use Rattle.stream_steps.specs.Steps.{IsNoFault}
use Rattle.client_worker.specs.Serving.{IsFaultMark, IsOwnFault, Serves, AreServed}
use Rattle.control_worker.specs.Purges.{MayComeBefore}
use Rattle.control_worker.specs.Serving.{Commands, AreCommanded}

-- ---- marks before an answer

pub record AreBefore (w : ℕ) (marks : List Entry) : Type 0 where
  pub own : MayAppend w marks
  pub none : (v place : ℕ) → answers_from v place marks ≡ []

fault_own : (w : ℕ) (m : Mark) → IsFaultMark w m → MayAppendMark w m
fault_own w (mark.Purged part) is = tt
fault_own w (mark.Fault s r n) is = is
fault_own w (mark.Failed r) is = tt
fault_own w (mark.Added r source name) is = tt
fault_own w (mark.Promoted r) is = tt
fault_own w (mark.Aborted r) is = tt

no_fault_own : (w : ℕ) (m : Mark) → IsNoFault m → MayAppendMark w m
no_fault_own w (mark.Purged part) is = tt
no_fault_own w (mark.Fault s r n) is = absurd is
no_fault_own w (mark.Failed r) is = tt
no_fault_own w (mark.Added r source name) is = tt
no_fault_own w (mark.Promoted r) is = tt
no_fault_own w (mark.Aborted r) is = tt

pub marks_before : (w : ℕ) (marks : List Entry) → All (MayComeBefore w) marks → AreBefore w marks
marks_before w [] all = record { own = tt; none = λ v place. refl }
marks_before w (entry.Answer a ∷ marks) all = absurd (All-head (MayComeBefore w) (entry.Answer a) marks all)
marks_before w (entry.Mark m ∷ marks) all =
    let more = marks_before w marks (All-tail (MayComeBefore w) (entry.Mark m) marks all) in
    record {
      own = (⊎_elim (fault_own w m) (no_fault_own w m) (All-head (MayComeBefore w) (entry.Mark m) marks all), more.own);
      none = λ v place. more.none v (suc place);
    }

pub fault_may : (w : ℕ) (e : Entry) → IsOwnFault w e → MayComeBefore w e
fault_may w (entry.Answer a) is = is
fault_may w (entry.Mark m) is = inl is

-- ---- the entries of one call, and of calls

pub record IsGroup (w : ℕ) (c : Call) (es : List Entry) : Type 0 where
  pub marks : List Entry
  pub answer : Answer
  pub is : es ≡ marks ++ entry.Answer answer ∷ []
  pub before : AreBefore w marks
  pub call : answer.call ≡ c
  pub by : answer.stream ≡ w

abbrev pub AreGroups : ℕ → List Call → List Entry → Type 0
AreGroups w [] es = es ≡ []
AreGroups w (c ∷ cs) es = (first more : List Entry) × (es ≡ first ++ more) × IsGroup w c first × AreGroups w cs more

abbrev pub served_group : (w : ℕ) (log : Option Log) (c : Call) (es : List Entry) → Serves w log c es → IsGroup w c es
served_group w log c es s =
    record {
      marks = s.marks;
      answer = s.answer;
      is = s.is;
      before =
          marks_before w s.marks (All-weaker (IsOwnFault w) (MayComeBefore w) (fault_may w) s.marks s.faults);
      call = s.call;
      by =
          s.by;
    }

abbrev pub commanded_group : (w : ℕ) (log : Option Log) (c : Command) (es : List Entry) → Commands w log c es
    → IsGroup w (call.Command c) es
commanded_group w log c es s =
    record {
      marks = s.marks;
      answer = s.answer;
      is = s.is;
      before = marks_before w s.marks s.are;
      call = s.call;
      by =
          s.by;
    }

pub served_groups : (w : ℕ) (log : Option Log) (cs : List Call) (es : List Entry) → AreServed w log cs es → AreGroups w cs es
served_groups w log [] es done = done
served_groups w log (c ∷ cs) es done =
    (done.0, done.1, done.2, served_group w log c done.0 done.3, served_groups w (longer log done.0) cs done.1 done.4)

pub commanded_groups : (w : ℕ) (log : Option Log) (cs : List Command) (es : List Entry) → AreCommanded w log cs es
    → AreGroups w (map call.Command cs) es
commanded_groups w log [] es done = done
commanded_groups w log (c ∷ cs) es done =
    (done.0, done.1, done.2, commanded_group w log c done.0 done.3, commanded_groups w (longer log done.0) cs done.1 done.4)

-- ---- they are the stream's own

pub MayAppend-append : (w : ℕ) (xs ys : List Entry) → MayAppend w xs → MayAppend w ys → MayAppend w (xs ++ ys)
MayAppend-append w [] ys f g = g
MayAppend-append w (entry.Answer a ∷ xs) ys f g = (f.0, MayAppend-append w xs ys f.1 g)
MayAppend-append w (entry.Mark m ∷ xs) ys f g = (f.0, MayAppend-append w xs ys f.1 g)

pub group_own : (w : ℕ) (c : Call) (es : List Entry) → IsGroup w c es → MayAppend w es
group_own w c es g = subst (MayAppend w) (sym g.is) (MayAppend-append w g.marks (entry.Answer g.answer ∷ []) g.before.own (g.by, tt))

pub groups_own : (w : ℕ) (cs : List Call) (es : List Entry) → AreGroups w cs es → MayAppend w es
groups_own w [] es done = subst (MayAppend w) (sym done) tt
groups_own w (c ∷ cs) es done =
    subst (MayAppend w) (sym done.2)
    (MayAppend-append w done.0 done.1 (group_own w c done.0 done.3) (groups_own w cs done.1 done.4))

-- ---- their answers

pub one_answer : (w place : ℕ) (a : Answer) → a.stream ≡ w → answers_from w place (entry.Answer a ∷ []) ≡ (place, a) ∷ []
one_answer w place a by = ap (λ b. cond b ((place, a) ∷ []) []) (eq-eqb a.stream w by)

-- the first is that of the first group, behind its marks
pub group_answers : (w place : ℕ) (c : Call) (es more : List Entry) → (g : IsGroup w c es)
    → answers_from w place (es ++ more) ≡ (place + length g.marks, g.answer) ∷ answers_from w (place + length es) more
group_answers w place c es more g =
    answers_from-append w place es more ∙ ap (λ l. l ++ answers_from w (place + length es) more) (
    ap (answers_from w place) g.is ∙ answers_from-append w place g.marks (entry.Answer g.answer ∷ [])
    ∙ ap (λ l. l ++ answers_from w (place + length g.marks) (entry.Answer g.answer ∷ [])) (g.before.none w place)
    ∙ one_answer w (place + length g.marks) g.answer g.by)

-- each call once and in order
pub groups_calls : (w place : ℕ) (cs : List Call) (es : List Entry) → AreGroups w cs es
    → map (λ (p : ℕ × Answer). p.1.call) (answers_from w place es) ≡ cs
groups_calls w place [] es done = ap (λ l. map (λ (p : ℕ × Answer). p.1.call) (answers_from w place l)) done
groups_calls w place (c ∷ cs) es done =
    ap (λ l. map (λ (p : ℕ × Answer). p.1.call) (answers_from w place l)) done.2
    ∙ ap (map (λ (p : ℕ × Answer). p.1.call)) (group_answers w place c done.0 done.1 done.3)
    ∙ (λ i. done.3.call i ∷ groups_calls w (place + length done.0) cs done.1 done.4 i)
