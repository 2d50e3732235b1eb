-- What a write carries that starts: the volume's bytes in its blocks, with its own put in.
use Rattle.std.proofs.Common.{◌≡◌, ℕ, ◌*◌, ◌<◌, Bool, List, length, subst, sym, refl, ap, ◌∙◌, arith}
use Rattle.vol_units.specs.Bytes.{bytes_at, with_bytes_at}
use Rattle.vol_units.specs.declared.size.TheConstants.{BLOCK_BYTES}
use Rattle.vol_units.specs.declared.range.BlockRange.{BlockRange}
use Rattle.range_turns.specs.declared.ticket.Kind.{Kind}
use Rattle.range_turns.specs.declared.ticket.Kind.TheVariants as kind
use Rattle.range_turns.specs.Order.{ticket_at, from_of, StandsAt}
use Rattle.open_calls.specs.Calls.{open_at, call_asked, whole_of}
use Rattle.open_calls.specs.Clients.{IsWriting}
use Rattle.open_calls.proofs.FreeLemmas.{write_no_whole}
use Rattle.step_answers.specs.declared.answers.Admit.{Admit}
use Rattle.step_answers.specs.declared.answers.Admit.TheVariants as admit
use Rattle.volume_core.specs.State.{State, told_of}
use Rattle.volume_core.specs.Sound.{IsSound}
use Rattle.volume_core.proofs.Keep.{calm_at}
use Rattle.stream_steps.specs.Mine.{Mine, OwnCall, IsOwn}
use Rattle.stream_steps.specs.Seen.{CarriesVolume}
use Rattle.stream_steps.specs.Steps.{IsOnBlocks, AdmitsTo, IsJobFor, IsMerged}
use Rattle.stream_steps.proofs.WholeBytes.{bytes_merged}
use Rattle.world_holder.specs.View.{view}
use Rattle.world_steps.specs.Seen.{seen_of}
use Rattle.world_steps.proofs.Own.{IsAt, own_place, own_stands}

-- all bytes of a write that has started
volume_bytes : (s : State) (i : ℕ) → IsSound s → i < length s.tickets → IsWriting (ticket_at s.tickets i)
    → whole_of (open_at s.calls i) ≡ bytes_at
    (with_bytes_at (told_of s).volume.disk (open_at s.calls i).at (open_at s.calls i).bytes) (from_of (ticket_at s.tickets i))
    (length (whole_of (open_at s.calls i)))
volume_bytes s i ok within writing =
    let t = ticket_at s.tickets i in
    let c = open_at s.calls i in
    let clients = (calm_at s i ok within writing.started (write_no_whole t.kind writing.writes)).clients in
    let fits = clients.fits i within in
    let whole = fits.whole writing in
    bytes_merged (told_of s).volume.disk c.bytes (whole_of c) c.at (from_of t)
    (omega (arith, fits.lies.good, fits.count writing.writes, clients.agree.disk))
    (omega (arith, fits.lies.within, whole, clients.agree.disk))
    (λ k from until. (clients.writes i within writing).merged k from (omega (arith, until, whole)))

-- so the job does of the call that starts
pub carries : (a : Bool) (n t : ℕ) (o : OwnCall) (ad : Admit) (m : Mine) (s : State) → IsSound s → IsOwn t o m → IsOnBlocks o.call
    → AdmitsTo o ad m (view a n s) → CarriesVolume o.call ad (seen_of s)
carries a n t o (admit.After k) m s ok own blocks waits = tt
carries a n t o (admit.NoReplica place) m s ok own blocks refused = tt
carries a n t o (admit.Go job) m s ok own blocks starts =
    subst (λ c. IsJobFor c job starts.own → IsMerged (told_of s).volume.disk c job) asked
    (by (ticket_at s.tickets at.0).kind refl) starts.job
  where
    same_call : starts.own.call ≡ o.call
    same_call = ap (λ (x : OwnCall). x.call) starts.same

    started : IsOwn t starts.own (view a n s)
    started = record {
      is = ap (λ (x : Mine). x.running) starts.is;
      number = ap (λ (x : OwnCall). x.number) starts.same ∙ own.number;
    }

    on_blocks : IsOnBlocks starts.own.call
    on_blocks = subst IsOnBlocks (sym same_call) blocks

    at : (i : ℕ) × StandsAt s.tickets t i
    at = own_place a n t starts.own s ok started on_blocks

    here : IsAt n starts.own s at.0
    here = own_stands a n t starts.own s ok started on_blocks at.0 at.1

    asked : call_asked (ticket_at s.tickets at.0).kind (open_at s.calls at.0) ≡ o.call
    asked = here.at.asked ∙ same_call

    by : (k : Kind) → (ticket_at s.tickets at.0).kind ≡ k
        → IsJobFor (call_asked k (open_at s.calls at.0)) job starts.own
        → IsMerged (told_of s).volume.disk (call_asked k (open_at s.calls at.0)) job
    by kind.Read e carried = tt
    by kind.Whole e carried = absurd (here.other e)
    by kind.Write e carried =
        let t = ticket_at s.tickets at.0 in
        let c = open_at s.calls at.0 in
        let writing : IsWriting t = record {
          started = ap (λ (x : OwnCall). x.started) (here.is ∙ starts.same);
          writes = e;
        } in
        let whole = ap (λ (x : OwnCall). x.whole) here.is ∙ carried in
        let first : from_of t ≡ job.range.first * BLOCK_BYTES =
        ap (λ (r : BlockRange). r.first * BLOCK_BYTES) (ap (λ (x : OwnCall). x.range) here.is ∙ sym starts.range) in
        let disk = with_bytes_at (told_of s).volume.disk c.at c.bytes in
        subst (λ (w : List ℕ). w ≡ bytes_at disk (job.range.first * BLOCK_BYTES) (length w)) whole
        (subst (λ from. whole_of c ≡ bytes_at disk from (length (whole_of c))) first
        (volume_bytes s at.0 ok at.1.within writing))
