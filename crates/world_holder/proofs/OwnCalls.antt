-- A stream's own entries tell which of its calls a journal answers.
use Rattle.std.proofs.Common.{◌≡◌, ℕ, suc, Bool, true, false, cond, eqb, List, [], ◌∷◌, map, refl, ap, ◌∙◌}
use Rattle.volume_model.specs.declared.call.Call.{Call}
use Rattle.volume_model.specs.declared.entry.Answer.{Answer}
use Rattle.volume_model.specs.declared.entry.Entry.{Entry}
use Rattle.volume_model.specs.declared.entry.Entry.TheVariants as entry
use Rattle.volume_model.specs.declared.mark.Mark.{Mark}
use Rattle.volume_model.specs.History.{Spot, answers_from, calls_of}
use Rattle.volume_model.specs.OneWorker.{behind_entries}
use Rattle.stream_steps.specs.Mine.{Placed, entries_in}
use Rattle.world_holder.specs.View.{is_own_mark, own_entries}

-- the calls answered, which do not depend on where the answers stand
abbrev pub calls_at : ℕ → ℕ → List Entry → List Call
calls_at n place es = map (λ (p : ℕ × Answer). p.1.call) (answers_from n place es)

-- of a first entry that is an answer, and one that is a mark
answer_calls : (n p q : ℕ) (b : Bool) (spot : Spot) (a : Answer) (more : List Placed) (es : List Entry)
    → eqb a.stream n ≡ b → ((i j : ℕ) → calls_at n i (entries_in more) ≡ calls_at n j es)
    → calls_at n p (entries_in (cond b (record { spot = spot; entry = entry.Answer a } ∷ more) more)) ≡ map
    (λ (p : ℕ × Answer). p.1.call) (cond b ((q, a) ∷ answers_from n (suc q) es) (answers_from n (suc q) es))
answer_calls n p q true spot a more es e rest =
    ap (λ (b : Bool). map (λ (p : ℕ × Answer). p.1.call)
    (cond b ((p, a) ∷ answers_from n (suc p) (entries_in more)) (answers_from n (suc p) (entries_in more)))) e
    ∙ ap (λ l. a.call ∷ l) (rest (suc p) (suc q))
answer_calls n p q false spot a more es e rest = rest p (suc q)

mark_calls : (n p q : ℕ) (b : Bool) (spot : Spot) (m : Mark) (more : List Placed) (es : List Entry)
    → ((i j : ℕ) → calls_at n i (entries_in more) ≡ calls_at n j es)
    → calls_at n p (entries_in (cond b (record { spot = spot; entry = entry.Mark m } ∷ more) more)) ≡ calls_at n (suc q) es
mark_calls n p q true spot m more es rest = rest (suc p) (suc q)
mark_calls n p q false spot m more es rest = rest p (suc q)

own_calls : (n p q : ℕ) (spot : Spot) (es : List Entry) → calls_at n p (entries_in (own_entries n spot es)) ≡ calls_at n q es
own_calls n p q spot [] = refl
own_calls n p q spot (entry.Answer a ∷ es) =
    let after = behind_entries spot (entry.Answer a ∷ []) in
    answer_calls n p q (eqb a.stream n) spot a (own_entries n after es) es refl (λ i j. own_calls n i j after es)
own_calls n p q spot (entry.Mark m ∷ es) =
    let after = behind_entries spot (entry.Mark m ∷ []) in
    mark_calls n p q (is_own_mark n m) spot m (own_entries n after es) es (λ i j. own_calls n i j after es)

pub own_asked : (n : ℕ) (spot : Spot) (es : List Entry) → calls_of n (entries_in (own_entries n spot es)) ≡ calls_of n es
own_asked n spot es = own_calls n 0 0 spot es
