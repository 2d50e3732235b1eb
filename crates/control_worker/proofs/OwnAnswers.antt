-- The answers that a stream's own entries have, entries after entries.
use Rattle.std.proofs.Common.{◌≡◌, ℕ, zero, suc, arith, List, [], ◌∷◌, ◌++◌, map, Option, sym, refl, ap, ◌∙◌}
use Rattle.std.specs.Prelude.{All}
use Rattle.volume_model.specs.declared.command.Command.{Command}
use Rattle.volume_model.specs.declared.call.Call.TheVariants as call
use Rattle.volume_model.specs.declared.entry.Answer.{Answer}
use Rattle.volume_model.specs.declared.entry.Entry.{Entry}
use Rattle.volume_model.specs.declared.entry.Entry.TheVariants as entry
use Rattle.volume_model.specs.History.{Spot}
use Rattle.stream_steps.specs.Mine.{Mine, Placed, Log, entries_in, longer, answer_placed}
use Rattle.stream_steps.proofs.MineLemmas.{entries-append}
use Rattle.control_worker.specs.OwnAnswers.{answers_in, HasAnswers}
use Rattle.control_worker.specs.Purges.{MayComeBefore}
use Rattle.control_worker.specs.Serving.{Commands, AreCommanded, Commanded}

pub answers-append : (xs ys : List Entry) → answers_in (xs ++ ys) ≡ answers_in xs ++ answers_in ys
answers-append [] ys = refl
answers-append (entry.Answer a ∷ xs) ys = ap (λ zs. a ∷ zs) (answers-append xs ys)
answers-append (entry.Mark m ∷ xs) ys = answers-append xs ys

-- both, one behind the other
pub has_both : (xs ys : List Placed) (es fs : List Entry) → HasAnswers xs es → HasAnswers ys fs → HasAnswers (xs ++ ys) (es ++ fs)
has_both xs ys es fs f g = ap answers_in (entries-append xs ys) ∙ answers-append (entries_in xs) (entries_in ys)
    ∙ (λ i. f i ++ g i) ∙ sym (answers-append es fs)

-- none of what may come before an answer is one
pub none_answer : (stream : ℕ) (es : List Entry) → All (MayComeBefore stream) es → answers_in es ≡ []
none_answer stream [] h = refl
none_answer stream (entry.Answer a ∷ es) h = absurd (h zero (entry.Answer a) (omega (arith)))
none_answer stream (entry.Mark m ∷ es) h = none_answer stream es (λ k d l. h (suc k) d (omega (arith, l)))

-- marks that are not the stream's own
pub has_none : (stream : ℕ) (es : List Entry) → All (MayComeBefore stream) es → HasAnswers [] es
has_none stream es h = sym (none_answer stream es h)

-- marks and an answer
pub answers-last : (stream : ℕ) (es : List Entry) (a : Answer) → All (MayComeBefore stream) es
    → answers_in (es ++ entry.Answer a ∷ []) ≡ a ∷ []
answers-last stream es a h = answers-append es (entry.Answer a ∷ []) ∙ ap (λ xs. xs ++ a ∷ []) (none_answer stream es h)

-- the stream's own of those is the answer
pub has_last : (stream : ℕ) (spot : Spot) (a : Answer) (es : List Entry) → All (MayComeBefore stream) es
    → HasAnswers (answer_placed spot a ∷ []) (es ++ entry.Answer a ∷ [])
has_last stream spot a es h = sym (answers-last stream es a h)

-- ---- of commands

one_answer : (stream : ℕ) (log : Option Log) (c : Command) (es : List Entry) → (s : Commands stream log c es)
    → answers_in es ≡ s.answer ∷ []
one_answer stream log c es s = ap answers_in s.is ∙ answers-last stream s.marks s.answer s.are

calls_are : (stream : ℕ) (log : Option Log) (cs : List Command) (es : List Entry) → AreCommanded stream log cs es
    → map (λ (a : Answer). a.call) (answers_in es) ≡ map call.Command cs
calls_are stream log [] es d = ap (λ xs. map (λ (a : Answer). a.call) (answers_in xs)) d
calls_are stream log (c ∷ cs) es d =
    ap (λ xs. map (λ (a : Answer). a.call) (answers_in xs)) d.2
    ∙ ap (map (λ (a : Answer). a.call)) (answers-append d.0 d.1 ∙ ap (λ xs. xs ++ answers_in d.1) (one_answer stream log c d.0 d.3))
    ∙ (λ i. d.3.call i ∷ calls_are stream (longer log d.0) cs d.1 d.4 i)

streams_are : (stream : ℕ) (log : Option Log) (cs : List Command) (es : List Entry) → AreCommanded stream log cs es
    → map (λ (a : Answer). a.stream) (answers_in es) ≡ map (λ (c : Command). stream) cs
streams_are stream log [] es d = ap (λ xs. map (λ (a : Answer). a.stream) (answers_in xs)) d
streams_are stream log (c ∷ cs) es d =
    ap (λ xs. map (λ (a : Answer). a.stream) (answers_in xs)) d.2
    ∙ ap (map (λ (a : Answer). a.stream)) (answers-append d.0 d.1 ∙ ap (λ xs. xs ++ answers_in d.1) (one_answer stream log c d.0 d.3))
    ∙ (λ i. d.3.by i ∷ streams_are stream (longer log d.0) cs d.1 d.4 i)

-- the stream's own answers are those of its commands, each once and in their order
pub own_calls : (cs : List Command) (a b : Mine) → (g : Commanded cs a b)
    → map (λ (x : Answer). x.call) (answers_in (entries_in g.own)) ≡ map call.Command cs
own_calls cs a b g = ap (map (λ (x : Answer). x.call)) g.same ∙ calls_are a.stream a.log cs g.all g.done

-- and each has the stream's number
pub own_streams : (cs : List Command) (a b : Mine) → (g : Commanded cs a b)
    → map (λ (x : Answer). x.stream) (answers_in (entries_in g.own)) ≡ map (λ (c : Command). a.stream) cs
own_streams cs a b g = ap (map (λ (x : Answer). x.stream)) g.same ∙ streams_are a.stream a.log cs g.all g.done
