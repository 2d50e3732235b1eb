-- The commands of a stream that have the maintenance turn or wait for it, after one was enrolled, started or taken out.
use Rattle.std.proofs.Common.{◌≡◌, ◌≢◌, ℕ, zero, suc, ◌<◌, ⊎_elim, Bool, true, cond, List, [], ◌∷◌, ◌++◌, length, sym, ap, ◌∙◌, arith}
use Rattle.std.proofs.Common.{subst, eq-eqb, ne_eqb}
use Rattle.std.proofs.lemmas.Bool.{cases_eq}
use Rattle.std.specs.List.{remove}
use Rattle.range_turns.specs.declared.ticket.Ticket.{Ticket}
use Rattle.range_turns.specs.Order.{ticket_at, with_started}
use Rattle.open_calls.specs.declared.open_call.OpenCall.{OpenCall}
use Rattle.open_calls.specs.Calls.{open_at}
use Rattle.open_calls.specs.declared.maint.MaintCall.{MaintCall}
use Rattle.open_calls.specs.Maint.{command_at}
use Rattle.desk_lock.specs.Account.{Each}
use Rattle.volume_core.specs.Streams.{calls_in, commands_in}
use Rattle.volume_core.proofs.CallLemmas.{calls-idle}
use Rattle.world_holder.proofs.Found.{turn_of_none}
use Rattle.world_steps.proofs.Heads.{with_head, without_head, commands-none}

abbrev Pairs : Type 0
Pairs = List (Ticket × MaintCall)

rest_none : (x y : Ticket × MaintCall) (xs : Pairs) → y ∷ xs ≡ x ∷ [] → xs ≡ []
rest_none x y xs e = cc

head_same : (x y : Ticket × MaintCall) (xs : Pairs) → y ∷ xs ≡ x ∷ [] → y ≡ x
head_same x y xs e = cc

some_none : (x : Ticket × MaintCall) (xs : Pairs) → x ∷ xs ≡ [] → ⊥
some_none x xs e = cc

-- ---- where it stands

-- the one command of the stream is at k
pub commands-one : (n : ℕ) (ts : List Ticket) (cs : List MaintCall) (k : ℕ) (x : Ticket × MaintCall)
    → commands_in n ts cs ≡ x ∷ [] → k < length ts → k < length cs → (command_at cs k).stream ≡ n
    → (ticket_at ts k, command_at cs k) ≡ x
commands-one n [] cs k x e h l m = absurd (omega arith)
commands-one n (u ∷ ts) [] k x e h l m = absurd (omega arith)
commands-one n (u ∷ ts) (c ∷ cs) zero x e h l m = head_same x (u, c) (commands_in n ts cs) (sym (with_head n u c ts cs m) ∙ e)
commands-one n (u ∷ ts) (c ∷ cs) (suc k) x e h l m =
    ⊎_elim
    (λ is. absurd (commands-none n ts cs k (rest_none x (u, c) (commands_in n ts cs) (sym (with_head n u c ts cs is) ∙ e))
    (omega arith) (omega arith) m))
    (λ is. commands-one n ts cs k x (sym (without_head n u c ts cs is) ∙ e) (omega arith) (omega arith) m)
    (cases_eq c.stream n)

-- where the one command of the stream stands
pub commands-place : (n : ℕ) (ts : List Ticket) (cs : List MaintCall) (x : Ticket × MaintCall)
    → commands_in n ts cs ≡ x ∷ [] → (k : ℕ) × (k < length ts) × (k < length cs) × ((command_at cs k).stream ≡ n)
commands-place n [] cs x e = absurd (some_none x [] (sym e))
commands-place n (u ∷ ts) [] x e = absurd (some_none x [] (sym e))
commands-place n (u ∷ ts) (c ∷ cs) x e =
    ⊎_elim
    (λ is. (0, omega arith, omega arith, is))
    (λ is. let more = commands-place n ts cs x (sym (without_head n u c ts cs is) ∙ e) in
    (suc more.0, omega (arith, more.1), omega (arith, more.2), more.3))
    (cases_eq c.stream n)

-- ---- what steps make of them

-- one of the stream is enrolled
pub commands-push_own : (n : ℕ) (ts : List Ticket) (cs : List MaintCall) (t : Ticket) (c : MaintCall)
    → length cs ≡ length ts → c.stream ≡ n → commands_in n ts cs ≡ []
    → commands_in n (ts ++ t ∷ []) (cs ++ c ∷ []) ≡ (t, c) ∷ []
commands-push_own n [] [] t c e b none = with_head n t c [] [] b
commands-push_own n [] (d ∷ cs) t c e b none = absurd (omega arith)
commands-push_own n (u ∷ ts) [] t c e b none = absurd (omega arith)
commands-push_own n (u ∷ ts) (d ∷ cs) t c e b none =
    ⊎_elim
    (λ is. absurd (some_none (u, d) (commands_in n ts cs) (sym (with_head n u d ts cs is) ∙ none)))
    (λ is. without_head n u d (ts ++ t ∷ []) (cs ++ c ∷ []) is
    ∙ commands-push_own n ts cs t c (omega arith) b (sym (without_head n u d ts cs is) ∙ none))
    (cases_eq d.stream n)

-- the first is the stream's, and starts
pub first_begun : (n : ℕ) (ts : List Ticket) (cs : List MaintCall) (p : Ticket × MaintCall) → commands_in n ts cs ≡ p ∷ []
    → 0 < length ts → 0 < length cs → (command_at cs 0).stream ≡ n
    → commands_in n (with_started ts 0) cs ≡ (record p.0 { started = true }, p.1) ∷ []
first_begun n [] cs p e h l own = absurd (omega arith)
first_begun n (u ∷ ts) [] p e h l own = absurd (omega arith)
first_begun n (u ∷ ts) (c ∷ cs) p e h l own =
    let all : (u, c) ∷ commands_in n ts cs ≡ p ∷ [] = sym (with_head n u c ts cs own) ∙ e in
    let first : (u, c) ≡ p = head_same p (u, c) (commands_in n ts cs) all in
    let rest : commands_in n ts cs ≡ [] = rest_none p (u, c) (commands_in n ts cs) all in
    with_head n (record u { started = true }) c ts cs own ∙ (λ i. (record (first i).0 { started = true }, (first i).1) ∷ rest i)

-- it goes, and no other is the stream's
pub first_gone : (n : ℕ) (ts : List Ticket) (cs : List MaintCall) → 0 < length cs → length cs ≡ length ts
    → (command_at cs 0).stream ≡ n
    → ((k l : ℕ) → k < l → l < length cs → (command_at cs k).stream ≢ (command_at cs l).stream)
    → commands_in n (remove ts 0) (remove cs 0) ≡ []
first_gone n [] cs some pair own alone = absurd (omega arith)
first_gone n (u ∷ ts) [] some pair own alone = absurd (omega arith)
first_gone n (u ∷ ts) (c ∷ cs) some pair own alone =
    turn_of_none n ts cs (λ k less e. alone 0 (suc k) (omega arith) (omega (arith, less)) (own ∙ sym e))

-- the first is the stream's one
pub first_only : (n : ℕ) (ts : List Ticket) (cs : List MaintCall) → 0 < length cs → length cs ≡ length ts
    → (command_at cs 0).stream ≡ n
    → ((k l : ℕ) → k < l → l < length cs → (command_at cs k).stream ≢ (command_at cs l).stream)
    → commands_in n ts cs ≡ (ticket_at ts 0, command_at cs 0) ∷ []
first_only n [] cs some pair own alone = absurd (omega arith)
first_only n (u ∷ ts) [] some pair own alone = absurd (omega arith)
first_only n (u ∷ ts) (c ∷ cs) some pair own alone =
    with_head n u c ts cs own ∙ ap (λ (l : Pairs). (u, c) ∷ l)
    (turn_of_none n ts cs (λ k less e. alone 0 (suc k) (omega arith) (omega (arith, less)) (own ∙ sym e)))

-- ---- a stream has one at most

abbrev pub AreFew : {A : Type 0} → List A → Type 0
AreFew [] = Unit {0}
AreFew (x ∷ []) = Unit {0}
AreFew (x ∷ y ∷ xs) = ⊥

pub few_turns : (n : ℕ) (ts : List Ticket) (cs : List MaintCall)
    → ((k l : ℕ) → k < l → l < length cs → (command_at cs k).stream ≢ (command_at cs l).stream)
    → AreFew (commands_in n ts cs)
few_turns n [] cs alone = tt
few_turns n (u ∷ ts) [] alone = tt
few_turns n (u ∷ ts) (c ∷ cs) alone =
    ⊎_elim
    (λ is.
    let rest : commands_in n ts cs ≡ [] =
    turn_of_none n ts cs (λ k less e. alone 0 (suc k) (omega arith) (omega (arith, less)) (is ∙ sym e)) in
    subst AreFew (sym (with_head n u c ts cs is ∙ ap (λ (l : Pairs). (u, c) ∷ l) rest)) tt)
    (λ not. subst AreFew (sym (without_head n u c ts cs not))
    (few_turns n ts cs (λ k l less within. alone (suc k) (suc l) (omega (arith, less)) (omega (arith, within)))))
    (cases_eq c.stream n)

call_head : (n : ℕ) (t : Ticket) (c : OpenCall) (ts : List Ticket) (cs : List OpenCall) → c.stream ≡ n
    → calls_in n (t ∷ ts) (c ∷ cs) ≡ (t, c) ∷ calls_in n ts cs
call_head n t c ts cs e = ap (λ (b : Bool). cond b ((t, c) ∷ calls_in n ts cs) (calls_in n ts cs)) (eq-eqb c.stream n e)

call_rest : (n : ℕ) (t : Ticket) (c : OpenCall) (ts : List Ticket) (cs : List OpenCall) → c.stream ≢ n
    → calls_in n (t ∷ ts) (c ∷ cs) ≡ calls_in n ts cs
call_rest n t c ts cs e = ap (λ (b : Bool). cond b ((t, c) ∷ calls_in n ts cs) (calls_in n ts cs)) (ne_eqb c.stream n e)

pub few_calls : (n : ℕ) (ts : List Ticket) (cs : List OpenCall)
    → ((k l : ℕ) → k < l → l < length cs → (open_at cs k).stream ≢ (open_at cs l).stream) → AreFew (calls_in n ts cs)
few_calls n [] cs alone = tt
few_calls n (u ∷ ts) [] alone = tt
few_calls n (u ∷ ts) (c ∷ cs) alone =
    ⊎_elim
    (λ is.
    let rest : calls_in n ts cs ≡ [] = calls-idle n ts cs (λ k less e. alone 0 (suc k) (omega arith) (omega (arith, less)) (is ∙ sym e)) in
    subst AreFew (sym (call_head n u c ts cs is ∙ ap (λ (l : List (Ticket × OpenCall)). (u, c) ∷ l) rest)) tt)
    (λ not. subst AreFew (sym (call_rest n u c ts cs not))
    (few_calls n ts cs (λ k l less within. alone (suc k) (suc l) (omega (arith, less)) (omega (arith, within)))))
    (cases_eq c.stream n)

-- none of another stream's calls has that number, which is of a call of this one
pub none_numbered : (m t : ℕ) (ts : List Ticket) (cs : List OpenCall)
    → ((j : ℕ) → j < length ts → (ticket_at ts j).number ≡ t → (open_at cs j).stream ≢ m)
    → Each (λ (p : Ticket × OpenCall). p.0.number ≢ t) (calls_in m ts cs)
none_numbered m t [] cs apart = tt
none_numbered m t (u ∷ ts) [] apart = tt
none_numbered m t (u ∷ ts) (c ∷ cs) apart =
    let rest = none_numbered m t ts cs (λ j less is. apart (suc j) (omega (arith, less)) is) in
    ⊎_elim
    (λ is. subst (Each (λ (p : Ticket × OpenCall). p.0.number ≢ t)) (sym (call_head m u c ts cs is))
    ((λ number. apart 0 (omega arith) number is), rest))
    (λ not. subst (Each (λ (p : Ticket × OpenCall). p.0.number ≢ t)) (sym (call_rest m u c ts cs not)) rest)
    (cases_eq c.stream m)
