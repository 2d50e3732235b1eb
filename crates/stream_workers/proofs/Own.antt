-- Of answers that all are a stream's.
use Rattle.std.proofs.Common.{◌≡◌, ℕ, suc, Bool, cond, List, [], ◌∷◌, map, refl, ap, ◌∙◌, eq-eqb}
use Rattle.volume_model.specs.declared.command.Command.{Command}
use Rattle.volume_model.specs.declared.call.Call.{Call}
use Rattle.volume_model.specs.declared.entry.Answer.{Answer}
use Rattle.volume_model.specs.declared.entry.Entry.{Entry}
use Rattle.volume_model.specs.declared.entry.Entry.TheVariants as entry
use Rattle.volume_model.specs.History.{answers_from, calls_of}
use Rattle.control_worker.specs.OwnAnswers.{answers_in}
use Rattle.world_holder.proofs.OwnCalls.{calls_at}

first_same : {A : Type 0} (x y : A) (xs ys : List A) → x ∷ xs ≡ y ∷ ys → x ≡ y
first_same x y xs ys e = cc

more_same : {A : Type 0} (x y : A) (xs ys : List A) → x ∷ xs ≡ y ∷ ys → xs ≡ ys
more_same x y xs ys e = cc

answered_at : (n p : ℕ) (es : List Entry) (cs : List Command)
    → map (λ (a : Answer). a.stream) (answers_in es) ≡ map (λ (c : Command). n) cs
    → calls_at n p es ≡ map (λ (a : Answer). a.call) (answers_in es)
answered_at n p [] cs e = refl
answered_at n p (entry.Mark m ∷ es) cs e = answered_at n (suc p) es cs e
answered_at n p (entry.Answer a ∷ es) [] e = absurd cc
answered_at n p (entry.Answer a ∷ es) (c ∷ cs) e =
    let own = first_same a.stream n (map (λ (x : Answer). x.stream) (answers_in es)) (map (λ (x : Command). n) cs) e in
    let more = more_same a.stream n (map (λ (x : Answer). x.stream) (answers_in es)) (map (λ (x : Command). n) cs) e in
    ap (λ (b : Bool). map (λ (p : ℕ × Answer). p.1.call) (cond b ((p, a) ∷ answers_from n (suc p) es) (answers_from n (suc p) es)))
    (eq-eqb a.stream n own)
    ∙ ap (λ l. a.call ∷ l) (answered_at n (suc p) es cs more)

pub answered : (n : ℕ) (es : List Entry) (cs : List Command)
    → map (λ (a : Answer). a.stream) (answers_in es) ≡ map (λ (c : Command). n) cs
    → calls_of n es ≡ map (λ (a : Answer). a.call) (answers_in es)
answered n es cs e = answered_at n 0 es cs e
