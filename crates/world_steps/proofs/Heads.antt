-- The commands of a stream among all, and the names of a call on the whole volume.
use Rattle.std.proofs.Common.{◌≡◌, ◌≢◌, ℕ, zero, suc, ◌<◌, ⊎_elim, Bool, cond, List, [], ◌∷◌, ◌++◌, length, Option, None, Some, sym, refl}
use Rattle.std.proofs.Common.{ap, ◌∙◌, arith, ne_eqb, eq-eqb}
use Rattle.std.proofs.lemmas.Bool.{cases_eq}
use Rattle.volume_model.specs.declared.command.Command.{Command}
use Rattle.range_turns.specs.declared.ticket.Kind.{Kind}
use Rattle.range_turns.specs.declared.ticket.Kind.TheVariants as kind
use Rattle.range_turns.specs.declared.ticket.Ticket.{Ticket}
use Rattle.volume_model.specs.declared.call.Call.TheVariants as call
use Rattle.open_calls.specs.declared.open_call.OpenCall.{OpenCall}
use Rattle.step_answers.specs.declared.whole_op.WholeOp.{WholeOp}
use Rattle.step_answers.specs.Asked.{command_of}
use Rattle.open_calls.specs.Calls.{call_asked, whole_asked}
use Rattle.open_calls.specs.declared.maint.MaintCall.{MaintCall}
use Rattle.open_calls.specs.Maint.{command_at}
use Rattle.volume_core.specs.Streams.{commands_in}
use Rattle.stream_steps.specs.Mine.{OwnCall}

some_none : (x : Ticket × MaintCall) (xs : List (Ticket × MaintCall)) → x ∷ xs ≡ [] → ⊥
some_none x xs e = cc

pub with_head : (n : ℕ) (t : Ticket) (c : MaintCall) (ts : List Ticket) (cs : List MaintCall) → c.stream ≡ n
    → commands_in n (t ∷ ts) (c ∷ cs) ≡ (t, c) ∷ commands_in n ts cs
with_head n t c ts cs e = ap (λ (b : Bool). cond b ((t, c) ∷ commands_in n ts cs) (commands_in n ts cs)) (eq-eqb c.stream n e)

pub without_head : (n : ℕ) (t : Ticket) (c : MaintCall) (ts : List Ticket) (cs : List MaintCall) → c.stream ≢ n
    → commands_in n (t ∷ ts) (c ∷ cs) ≡ commands_in n ts cs
without_head n t c ts cs e = ap (λ (b : Bool). cond b ((t, c) ∷ commands_in n ts cs) (commands_in n ts cs)) (ne_eqb c.stream n e)

pub commands-none : (n : ℕ) (ts : List Ticket) (cs : List MaintCall) (i : ℕ) → commands_in n ts cs ≡ [] → i < length ts → i < length cs
    → (command_at cs i).stream ≢ n
commands-none n [] cs i e h k = absurd (omega arith)
commands-none n (u ∷ ts) [] i e h k = absurd (omega arith)
commands-none n (u ∷ ts) (c ∷ cs) zero e h k = λ is. some_none (u, c) (commands_in n ts cs) (sym (with_head n u c ts cs is) ∙ e)
commands-none n (u ∷ ts) (c ∷ cs) (suc i) e h k =
    ⊎_elim
    (λ is. absurd (some_none (u, c) (commands_in n ts cs) (sym (with_head n u c ts cs is) ∙ e)))
    (λ is. commands-none n ts cs i (sym (without_head n u c ts cs is) ∙ e) (omega arith) (omega arith))
    (cases_eq c.stream n)

pub asks_whole : (k : Kind) (c : OpenCall) (d : Command) → call_asked k c ≡ call.Command d → k ≡ kind.Whole
asks_whole kind.Read c d e = absurd cc
asks_whole kind.Write c d e = absurd cc
asks_whole kind.Whole c d e = refl

pub same_command : (c d : Command) → call.Command c ≡ call.Command d → c ≡ d
same_command c d e = cc

pub asks_op : (k : Kind) (c : OpenCall) (op : WholeOp) → k ≡ kind.Whole → c.op ≡ Some op → call_asked k c ≡ call.Command (command_of op)
asks_op k c op e is = ap (λ x. call_asked x c) e ∙ ap whole_asked is

pub one_head : (x y : OwnCall) → x ∷ [] ≡ y ∷ [] → x ≡ y
one_head x y e = cc

pub last_one : (turn : List OwnCall) (x o : OwnCall) → x ∷ [] ≡ turn ++ o ∷ [] → ([] ≡ turn) × (x ≡ o)
last_one [] x o e = (refl, cc)
last_one (y ∷ []) x o e = absurd cc
last_one (y ∷ z ∷ ys) x o e = absurd cc

pub last_two : (turn : List OwnCall) (w x o : OwnCall) → w ∷ x ∷ [] ≡ turn ++ o ∷ [] → (w ∷ [] ≡ turn) × (x ≡ o)
last_two [] w x o e = absurd cc
last_two (y ∷ []) w x o e = (cc, cc)
last_two (y ∷ z ∷ []) w x o e = absurd cc
last_two (y ∷ z ∷ v ∷ ys) w x o e = absurd cc

pub last_some : (turn : List OwnCall) (o : OwnCall) → [] ≡ turn ++ o ∷ [] → ⊥
last_some [] o e = cc
last_some (y ∷ ys) o e = cc

pub no_op : (op : WholeOp) (x : Option WholeOp) → x ≡ None → x ≡ Some op → ⊥
no_op op x e f = cc
