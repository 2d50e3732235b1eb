use Rattle.std.proofs.Common.{rules, ◌≡◌, ◌∷◌, ◌++◌, [], refl, sym, subst, map}
use Rattle.std.proofs.lemmas.List.Elements.{All-head, All-rest, All-same}
use Rattle.frame_stream.specs.Asked.{call_of}
use Rattle.client_worker.specs.Asks.{IsAsked, IsShort}
use Rattle.client_worker.specs.Serving.{GrewBy, GrewSome}
use Rattle.client_worker.specs.Working.{Work}
use Rattle.client_worker.proofs.Calls.{asked_short, whole_next}
use Rattle.client_worker.proofs.Carrying.{stays_then}
use Rattle.client_worker.proofs.Served.{grew_none, grew_ask}
use Rattle.client_worker.proofs.worker.Worker.run_stream.Goals as goal

pub loop-left-init : goal.loop-left-init
loop-left-init g c =
    let same : c.in_ok-left.left ≡ c.args.frames.now = search rules in
    let idle : (g.C.ClientSteps.mine c.args.self.now.steps).running ≡ [] =
    subst (λ (w : Work g.row.C.Denot g.row.L.Denot). (g.C.ClientSteps.mine w.steps).running ≡ []) c.self.view_is c.self.invariant in
    record {
      stays = record { home = refl; lines = record { count = refl; ends = refl } };
      asked = All-same IsAsked c.in_ok-left.left c.args.frames.now same c.requires.asked;
      done = ([], same, grew_none (g.C.ClientSteps.mine c.args.self.now.steps) idle);
    }

pub serve_call-requires-clause-short : goal.serve_call-requires-clause-short
serve_call-requires-clause-short g c =
    let cut : c.loop-left.left ≡ c.in-Some.frame ∷ c.next.new.self = search rules in
    subst IsShort (sym c.call_of.ensures)
    (asked_short c.in-Some.frame
    (All-head IsAsked c.in-Some.frame c.next.new.self
    (All-same IsAsked (c.in-Some.frame ∷ c.next.new.self) c.loop-left.left (sym cut) c.loop-left.invariant.asked)))

pub loop-left-preserved : goal.loop-left-preserved
loop-left-preserved g c =
    let mine_serve_call = g.C.ClientSteps.mine c.serve_call.new.self.steps in
    let mine_left = g.C.ClientSteps.mine c.loop-left.self.steps in
    let cut : c.loop-left.left ≡ c.in-Some.frame ∷ c.next.new.self = search rules in
    let d = c.loop-left.invariant.done in
    let grew : GrewBy (call_of c.in-Some.frame) mine_left mine_serve_call =
    subst (λ x. GrewBy x mine_left mine_serve_call) c.call_of.ensures c.in_ok-serve_call.ensures.ok in
    record {
      stays = stays_then c.args.self.now c.loop-left.self c.serve_call.new.self
          c.loop-left.invariant.stays c.in_ok-serve_call.ensures.stays;
      asked = All-rest IsAsked c.in-Some.frame c.next.new.self c.loop-left.left cut c.loop-left.invariant.asked;
      done = (
        d.0 ++ c.in-Some.frame ∷ [],
        whole_next c.args.frames.now d.0 c.next.new.self c.loop-left.left c.in-Some.frame d.1 cut,
        grew_ask call_of d.0 c.in-Some.frame (g.C.ClientSteps.mine c.args.self.now.steps) mine_left mine_serve_call d.2 grew,
      );
    }

-- none was served
pub returns-in_err-left-clause-err : goal.returns-in_err-left-clause-err
returns-in_err-left-clause-err g c =
    let idle : (g.C.ClientSteps.mine c.args.self.now.steps).running ≡ [] =
    subst (λ (w : Work g.row.C.Denot g.row.L.Denot). (g.C.ClientSteps.mine w.steps).running ≡ []) c.self.view_is c.self.invariant in
    let none : GrewSome (map call_of c.args.frames.now) (g.C.ClientSteps.mine c.args.self.now.steps)
    (g.C.ClientSteps.mine c.args.self.now.steps) = record {
      done = [];
      left = map call_of c.args.frames.now;
      are = refl;
      grew = grew_none (g.C.ClientSteps.mine c.args.self.now.steps) idle;
    } in
    search rules
