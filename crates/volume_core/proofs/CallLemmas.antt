-- The open calls of a stream, after one was changed, enrolled or taken out.
use Rattle.std.proofs.Common.{◌≡◌, ◌≢◌, ℕ, zero, suc, ◌<◌, Bool, cond, eqb, ⊎_elim, List, [], ◌∷◌, ◌++◌, length, set}
use Rattle.std.proofs.Common.{sym, refl, ap, ◌∙◌, arith, ne_eqb, eq-eqb}
use Rattle.std.proofs.lemmas.Bool.{cases_eq}
use Rattle.std.specs.List.{remove}
use Rattle.range_turns.specs.declared.ticket.Ticket.{Ticket}
use Rattle.range_turns.specs.Order.{ticket_at}
use Rattle.open_calls.specs.declared.open_call.OpenCall.{OpenCall}
use Rattle.open_calls.specs.Calls.{open_at}
use Rattle.open_calls.specs.Clients.{IsIdle}
use Rattle.volume_core.specs.Streams.{calls_in}

abbrev Pairs : Type 0
Pairs = List (Ticket × OpenCall)

-- the head is of the stream, or not
with_head : (n : ℕ) (t : Ticket) (j : OpenCall) (ts : List Ticket) (js : List OpenCall) → j.stream ≡ n
    → calls_in n (t ∷ ts) (j ∷ js) ≡ (t, j) ∷ calls_in n ts js
with_head n t j ts js e = ap (λ (b : Bool). cond b ((t, j) ∷ calls_in n ts js) (calls_in n ts js)) (eq-eqb j.stream n e)

without_head : (n : ℕ) (t : Ticket) (j : OpenCall) (ts : List Ticket) (js : List OpenCall) → j.stream ≢ n
    → calls_in n (t ∷ ts) (j ∷ js) ≡ calls_in n ts js
without_head n t j ts js e = ap (λ (b : Bool). cond b ((t, j) ∷ calls_in n ts js) (calls_in n ts js)) (ne_eqb j.stream n e)

no_jobs : (n : ℕ) (ts : List Ticket) → calls_in n ts [] ≡ []
no_jobs n [] = refl
no_jobs n (t ∷ ts) = refl

rest_none : (x y : Ticket × OpenCall) (xs : Pairs) → y ∷ xs ≡ x ∷ [] → xs ≡ []
rest_none x y xs e = cc

head_same : (x y : Ticket × OpenCall) (xs : Pairs) → y ∷ xs ≡ x ∷ [] → y ≡ x
head_same x y xs e = cc

some_none : (x : Ticket × OpenCall) (xs : Pairs) → x ∷ xs ≡ [] → ⊥
some_none x xs e = cc

-- a call of another stream is changed
pub calls-set_other : (n : ℕ) (ts : List Ticket) (js : List OpenCall) (i : ℕ) (t : Ticket) (j : OpenCall)
    → (open_at js i).stream ≢ n → j.stream ≢ n → calls_in n (set ts i t) (set js i j) ≡ calls_in n ts js
calls-set_other n [] js i t j a b = refl
calls-set_other n (u ∷ ts) [] i t j a b = no_jobs n (set (u ∷ ts) i t)
calls-set_other n (u ∷ ts) (k ∷ js) zero t j a b = without_head n t j ts js b ∙ sym (without_head n u k ts js a)
calls-set_other n (u ∷ ts) (k ∷ js) (suc i) t j a b =
    ap (λ (ps : Pairs). cond (eqb k.stream n) ((u, k) ∷ ps) ps) (calls-set_other n ts js i t j a b)

-- where the stream has none, no place has one of its calls
pub calls-none : (n : ℕ) (ts : List Ticket) (js : List OpenCall) (i : ℕ) → calls_in n ts js ≡ [] → i < length ts
    → i < length js → (open_at js i).stream ≢ n
calls-none n [] js i e h k = absurd (omega arith)
calls-none n (u ∷ ts) [] i e h k = absurd (omega arith)
calls-none n (u ∷ ts) (j ∷ js) zero e h k = λ is. some_none (u, j) (calls_in n ts js) (sym (with_head n u j ts js is) ∙ e)
calls-none n (u ∷ ts) (j ∷ js) (suc i) e h k =
    ⊎_elim
    (λ is. absurd (some_none (u, j) (calls_in n ts js) (sym (with_head n u j ts js is) ∙ e)))
    (λ is. calls-none n ts js i (sym (without_head n u j ts js is) ∙ e) (omega arith) (omega arith))
    (cases_eq j.stream n)

-- the one call of the stream is at i
pub calls-one : (n : ℕ) (ts : List Ticket) (js : List OpenCall) (i : ℕ) (x : Ticket × OpenCall) → calls_in n ts js ≡ x ∷ []
    → i < length ts → i < length js → (open_at js i).stream ≡ n → (ticket_at ts i, open_at js i) ≡ x
calls-one n [] js i x e h k m = absurd (omega arith)
calls-one n (u ∷ ts) [] i x e h k m = absurd (omega arith)
calls-one n (u ∷ ts) (j ∷ js) zero x e h k m = head_same x (u, j) (calls_in n ts js) (sym (with_head n u j ts js m) ∙ e)
calls-one n (u ∷ ts) (j ∷ js) (suc i) x e h k m =
    ⊎_elim
    (λ is. absurd (calls-none n ts js i (rest_none x (u, j) (calls_in n ts js) (sym (with_head n u j ts js is) ∙ e))
    (omega arith) (omega arith) m))
    (λ is. calls-one n ts js i x (sym (without_head n u j ts js is) ∙ e) (omega arith) (omega arith) m)
    (cases_eq j.stream n)

-- where the one call of the stream stands
pub calls-place : (n : ℕ) (ts : List Ticket) (js : List OpenCall) (x : Ticket × OpenCall) → calls_in n ts js ≡ x ∷ []
    → (i : ℕ) × (i < length ts) × (i < length js) × ((open_at js i).stream ≡ n)
calls-place n [] js x e = absurd (some_none x [] (sym e))
calls-place n (u ∷ ts) [] x e = absurd (some_none x [] (sym e))
calls-place n (u ∷ ts) (j ∷ js) x e =
    ⊎_elim
    (λ is. (0, omega arith, omega arith, is))
    (λ is. let more = calls-place n ts js x (sym (without_head n u j ts js is) ∙ e) in
    (suc more.0, omega (arith, more.1), omega (arith, more.2), more.3))
    (cases_eq j.stream n)

-- the one call of the stream is changed
pub calls-set_own : (n : ℕ) (ts : List Ticket) (js : List OpenCall) (i : ℕ) (t : Ticket) (j : OpenCall)
    (x : Ticket × OpenCall) → calls_in n ts js ≡ x ∷ [] → i < length ts → i < length js → (open_at js i).stream ≡ n
    → j.stream ≡ n
    → calls_in n (set ts i t) (set js i j) ≡ (t, j) ∷ []
calls-set_own n [] js i t j x e h k m q = absurd (omega arith)
calls-set_own n (u ∷ ts) [] i t j x e h k m q = absurd (omega arith)
calls-set_own n (u ∷ ts) (l ∷ js) zero t j x e h k m q = with_head n t j ts js q
    ∙ ap (λ (ps : Pairs). (t, j) ∷ ps) (rest_none x (u, l) (calls_in n ts js) (sym (with_head n u l ts js m) ∙ e))
calls-set_own n (u ∷ ts) (l ∷ js) (suc i) t j x e h k m q =
    ⊎_elim
    (λ is. absurd (calls-none n ts js i (rest_none x (u, l) (calls_in n ts js) (sym (with_head n u l ts js is) ∙ e))
    (omega arith) (omega arith) m))
    (λ is. without_head n u l (set ts i t) (set js i j) is
    ∙ calls-set_own n ts js i t j x (sym (without_head n u l ts js is) ∙ e) (omega arith) (omega arith) m q)
    (cases_eq l.stream n)

-- a call is enrolled
pub calls-push_other : (n : ℕ) (ts : List Ticket) (js : List OpenCall) (t : Ticket) (j : OpenCall) → length js ≡ length ts
    → j.stream ≢ n → calls_in n (ts ++ t ∷ []) (js ++ j ∷ []) ≡ calls_in n ts js
calls-push_other n [] [] t j e b = without_head n t j [] [] b
calls-push_other n [] (k ∷ js) t j e b = absurd (omega arith)
calls-push_other n (u ∷ ts) [] t j e b = absurd (omega arith)
calls-push_other n (u ∷ ts) (k ∷ js) t j e b = ap (λ (ps : Pairs). cond (eqb k.stream n) ((u, k) ∷ ps) ps)
    (calls-push_other n ts js t j (omega arith) b)

pub calls-push_own : (n : ℕ) (ts : List Ticket) (js : List OpenCall) (t : Ticket) (j : OpenCall) → length js ≡ length ts
    → j.stream ≡ n → calls_in n ts js ≡ [] → calls_in n (ts ++ t ∷ []) (js ++ j ∷ []) ≡ (t, j) ∷ []
calls-push_own n [] [] t j e b none = with_head n t j [] [] b
calls-push_own n [] (k ∷ js) t j e b none = absurd (omega arith)
calls-push_own n (u ∷ ts) [] t j e b none = absurd (omega arith)
calls-push_own n (u ∷ ts) (k ∷ js) t j e b none =
    ⊎_elim
    (λ is. absurd (some_none (u, k) (calls_in n ts js) (sym (with_head n u k ts js is) ∙ none)))
    (λ is. without_head n u k (ts ++ t ∷ []) (js ++ j ∷ []) is
    ∙ calls-push_own n ts js t j (omega arith) b (sym (without_head n u k ts js is) ∙ none))
    (cases_eq k.stream n)

-- a call is gone
pub calls-remove_other : (n : ℕ) (ts : List Ticket) (js : List OpenCall) (i : ℕ) → length js ≡ length ts
    → (open_at js i).stream ≢ n → calls_in n (remove ts i) (remove js i) ≡ calls_in n ts js
calls-remove_other n [] [] zero e b = refl
calls-remove_other n [] [] (suc i) e b = refl
calls-remove_other n [] (k ∷ js) i e b = absurd (omega arith)
calls-remove_other n (u ∷ ts) [] i e b = absurd (omega arith)
calls-remove_other n (u ∷ ts) (k ∷ js) zero e b = sym (without_head n u k ts js b)
calls-remove_other n (u ∷ ts) (k ∷ js) (suc i) e b =
    ap (λ (ps : Pairs). cond (eqb k.stream n) ((u, k) ∷ ps) ps) (calls-remove_other n ts js i (omega arith) b)

pub calls-remove_own : (n : ℕ) (ts : List Ticket) (js : List OpenCall) (i : ℕ) (x : Ticket × OpenCall)
    → calls_in n ts js ≡ x ∷ [] → length js ≡ length ts → i < length ts → (open_at js i).stream ≡ n
    → calls_in n (remove ts i) (remove js i) ≡ []
calls-remove_own n [] [] i x e l h m = absurd (omega arith)
calls-remove_own n [] (k ∷ js) i x e l h m = absurd (omega arith)
calls-remove_own n (u ∷ ts) [] i x e l h m = absurd (omega arith)
calls-remove_own n (u ∷ ts) (k ∷ js) zero x e l h m = rest_none x (u, k) (calls_in n ts js) (sym (with_head n u k ts js m) ∙ e)
calls-remove_own n (u ∷ ts) (k ∷ js) (suc i) x e l h m =
    ⊎_elim
    (λ is. absurd (calls-none n ts js i (rest_none x (u, k) (calls_in n ts js) (sym (with_head n u k ts js is) ∙ e))
    (omega arith) (omega arith) m))
    (λ is. without_head n u k (remove ts i) (remove js i) is
    ∙ calls-remove_own n ts js i x (sym (without_head n u k ts js is) ∙ e) (omega arith) (omega arith) m)
    (cases_eq k.stream n)

-- where no open call is the stream's, it has none
pub calls-idle : (n : ℕ) (ts : List Ticket) (js : List OpenCall) → IsIdle n js → calls_in n ts js ≡ []
calls-idle n [] js idle = refl
calls-idle n (u ∷ ts) [] idle = refl
calls-idle n (u ∷ ts) (j ∷ js) idle = without_head n u j ts js (idle 0 (omega arith))
    ∙ calls-idle n ts js (λ i l. idle (suc i) (omega (arith, l)))

-- and where it has none, none is the stream's
pub idle-calls : (n : ℕ) (ts : List Ticket) (js : List OpenCall) → length js ≡ length ts → calls_in n ts js ≡ [] → IsIdle n js
idle-calls n ts js pair e i l = calls-none n ts js i e (omega (arith, l, pair)) l
