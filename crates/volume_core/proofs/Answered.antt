-- What may be answered where the journal ends.
use Rattle.std.proofs.Common.{◌≡◌, ◌≢◌, ℕ, ◌+◌, ◌≤◌, true, false, List, length, refl, sym, ap, ◌∙◌, pos, arith}
use Rattle.std.specs.Prelude.{None, Some}
use Rattle.std.proofs.lemmas.Bool.{le-ltb}
use Rattle.std.proofs.lemmas.Bool.Decides.{nat_tests}
use Rattle.vol_units.specs.Range.{is_good}
use Rattle.volume_model.specs.declared.command.Command.{Command}
use Rattle.volume_model.specs.declared.command.Command.TheVariants as command
use Rattle.volume_model.specs.declared.call.Call.TheVariants as call
use Rattle.volume_model.specs.declared.call.Refusal.{Refusal}
use Rattle.volume_model.specs.declared.call.Refusal.TheVariants.{NoReplica}
use Rattle.volume_model.specs.declared.call.Reply.{Reply}
use Rattle.volume_model.specs.declared.call.Reply.TheVariants as reply
use Rattle.volume_model.specs.declared.entry.Answer.{Answer}
use Rattle.volume_model.specs.declared.mode.Mode.{Mode}
use Rattle.volume_model.specs.declared.mode.Mode.TheVariants.{Err}
use Rattle.volume_model.specs.History.{IsAnswered, OfVolume, OfReplicas, OfStore, subject_of}
use Rattle.volume_model.specs.Modes.{mode_of, HasSource, HasNoSource, is_change, asks_replica}
use Rattle.volume_model.specs.PlainState.{PlainState}
use Rattle.volume_model.specs.PlainStep.{refusal_of, plain_step, step_unless, longest_call}
use Rattle.volume_model.specs.Rebuilds.{added_by}
use Rattle.volume_model.specs.Replay.{is_refusal}
use Rattle.volume_model.proofs.StepLemmas.{says-plain_step}
use Rattle.range_turns.specs.declared.ticket.Kind.{Kind}
use Rattle.range_turns.specs.declared.ticket.Kind.TheVariants as kind
use Rattle.open_calls.specs.declared.open_call.OpenCall.{OpenCall}
use Rattle.open_calls.specs.Calls.{call_asked}
use Rattle.open_calls.proofs.FreeLemmas.{not_both}

-- ---- a read or a write is no command

pub no_command : (k : Kind) (x : OpenCall) (c : Command) → k ≢ kind.Whole → call_asked k x ≡ call.Command c → ⊥
no_command kind.Read x c range e = cc
no_command kind.Write x c range e = cc
no_command kind.Whole x c range e = range refl

pub no_add : (k : Kind) (x : OpenCall) → k ≢ kind.Whole → added_by (call_asked k x) ≡ None
no_add kind.Read x range = refl
no_add kind.Write x range = refl
no_add kind.Whole x range = absurd (range refl)

pub asks_one : (k : Kind) (x : OpenCall) → k ≢ kind.Whole → asks_replica (call_asked k x) ≡ true
asks_one kind.Read x n = refl
asks_one kind.Write x n = refl
asks_one kind.Whole x n = absurd (n refl)

-- ---- nothing stands against a call on a good range

good_range : (size at n : ℕ) → at + n ≤ size → is_good size (pos at) n ≡ true
good_range size at n inside = grind (arith, nat_tests)

pub write_free : (modes : List Mode) (p : PlainState) (at : ℕ) (bytes : List ℕ) → at + length bytes ≤ length p.volume.disk
    → refusal_of modes p (call.Write (pos at) bytes) ≡ None
write_free modes p at bytes inside = rw (good_range (length p.volume.disk) at (length bytes) inside) refl

pub read_free : (modes : List Mode) (p : PlainState) (at n : ℕ) → at + n ≤ length p.volume.disk → n ≤ longest_call
    → refusal_of modes p (call.Read (pos at) n) ≡ None
read_free modes p at n inside short = rw (le-ltb longest_call n short) (rw (good_range (length p.volume.disk) at n inside) refl)

-- ---- what a reply is about is one

pub not_replicas : (r : Reply) → subject_of r ≡ OfVolume → subject_of r ≡ OfReplicas → ⊥
not_replicas r e f = cc

pub not_store : (r : Reply) → subject_of r ≡ OfVolume → subject_of r ≡ OfStore → ⊥
not_store r e f = cc

pub replicas_not_store : (r : Reply) → subject_of r ≡ OfReplicas → subject_of r ≡ OfStore → ⊥
replicas_not_store r e f = cc

-- ---- as the plain disk answers

pub plainly : (modes : List Mode) (p : PlainState) (a : Answer) → a.reply ≡ (plain_step modes p a.call).1
    → ((r : ℕ) → a.call ≡ call.Command (command.Fail r) → mode_of modes r ≡ Err)
    → (is_change a.call ≡ true → is_refusal a.reply ≡ false → HasSource modes)
    → (a.call ≡ call.Command command.Purge → is_refusal a.reply ≡ false → ⊥)
    → IsAnswered p modes a
plainly modes p a is fails source purge = record {
  reply = λ _. is;
  none = λ says. absurd (not_replicas a.reply (ap subject_of is ∙ says-plain_step modes p a.call) says);
  store = λ says. absurd (not_store a.reply (ap subject_of is ∙ says-plain_step modes p a.call) says);
  fails = fails;
  source = source;
  purged = λ e done. absurd (purge e done);
}

pub refused_plainly : (modes : List Mode) (p : PlainState) (a : Answer) (why : Refusal)
    → refusal_of modes p a.call ≡ Some why → a.reply ≡ reply.Refused why
    → ((r : ℕ) → a.call ≡ call.Command (command.Fail r) → ⊥) → IsAnswered p modes a
refused_plainly modes p a why refused is fails =
    let no = λ (done : is_refusal a.reply ≡ false). not_both (is_refusal a.reply) done (ap is_refusal is) in
    plainly modes p a (is ∙ sym (ap (λ w. (step_unless w modes p a.call).1) refused)) (λ r e. absurd (fails r e))
    (λ _ done. absurd (no done)) (λ _ done. no done)

-- a call that nothing stands against, as nothing does
pub done_plainly : (modes : List Mode) (p : PlainState) (a : Answer) → refusal_of modes p a.call ≡ None
    → a.reply ≡ (step_unless None modes p a.call).1
    → ((c : Command) → a.call ≡ call.Command c → ⊥) → (is_change a.call ≡ true → HasSource modes) → IsAnswered p modes a
done_plainly modes p a free is none source =
    plainly modes p a (is ∙ sym (ap (λ w. (step_unless w modes p a.call).1) free)) (λ r e. absurd (none (command.Fail r) e))
    (λ change _. source change) (λ e _. none command.Purge e)

-- ---- that there is no replica

pub none_answered : (modes : List Mode) (p : PlainState) (a : Answer) → refusal_of modes p a.call ≡ None
    → asks_replica a.call ≡ true → ((c : Command) → a.call ≡ call.Command c → ⊥)
    → a.reply ≡ reply.Refused NoReplica → HasNoSource modes → IsAnswered p modes a
none_answered modes p a free asks none is no_source = record {
  reply = λ says. absurd (not_replicas a.reply says (ap subject_of is));
  none = λ _. record { asks = asks; refused = free; none = no_source };
  store = λ says. absurd (replicas_not_store a.reply (ap subject_of is) says);
  fails = λ r e. absurd (none (command.Fail r) e);
  source = λ _ done. absurd (not_both (is_refusal a.reply) done (ap is_refusal is));
  purged = λ _ done. absurd (not_both (is_refusal a.reply) done (ap is_refusal is));
}
