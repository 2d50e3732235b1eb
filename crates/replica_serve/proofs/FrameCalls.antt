-- What a frame asks that asks a call.
use Rattle.std.proofs.Common.{◌≡◌, ◌==◌, ◌∙◌, Bool, true, false, cond, eq-eqb, refl, sym, true≢false}
use Rattle.frame_stream.specs.Asked.{asked_of, call_of, close_kind}
use Rattle.frame_stream.specs.Frames.{IsClose}
use Rattle.frame_stream.specs.declared.asked.Asked.TheVariants as asked
use Rattle.frame_stream.specs.declared.frame.Frame.{Frame}
use Rattle.volume_model.specs.declared.call.Call.{Call}

-- a Close or that call: it asks the call
the_call : (b : Bool) (that c : Call) → cond b asked.End (asked.Call that) ≡ asked.Call c → (b ≡ false) × (c ≡ that)
the_call true that c e = cc
the_call false that c e = (refl, cc)

-- it is no Close, and the call is its own
pub asks_call : (f : Frame) (c : Call) → asked_of f ≡ asked.Call c → (IsClose f → ⊥) × (c ≡ call_of f)
asks_call f c e =
    let parts = the_call (f.head.kind == close_kind) (call_of f) c e in
    (λ close. true≢false (sym (eq-eqb f.head.kind close_kind close) ∙ parts.0), parts.1)
