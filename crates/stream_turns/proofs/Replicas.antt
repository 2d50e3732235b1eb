-- While no call is open, each replica that is read and written is the volume that the journal tells.
use Rattle.std.proofs.Common.{◌≡◌, ◌≢◌, ℕ, suc, List, [], ◌∷◌, length, refl, sym, ap, ◌∙◌, arith}
use Rattle.std.specs.Prelude.{Option, None, Some}
use Rattle.volume_model.specs.declared.mode.Mode.TheVariants.{Rw, Err}
use Rattle.volume_model.specs.Modes.{mode_of}
use Rattle.replica_node.specs.Volume.{volume_of_node}
use Rattle.open_calls.specs.Calls.{node_at}
use Rattle.open_calls.specs.Clients.{byte_of, IsUnheld}
use Rattle.open_calls.specs.declared.whole.Whole.{Whole}
use Rattle.open_calls.specs.Whole.{IsWhole}
use Rattle.open_calls.proofs.Forms.{length-forms}
use Rattle.volume_core.specs.State.{State, told_of, modes_in}
use Rattle.volume_core.specs.Sound.{IsSound}
use Rattle.volume_core.proofs.Keep.{calm_of}

-- ---- the same bytes

same_bytes : (xs ys : List ℕ) → length xs ≡ length ys → ((k : ℕ) → byte_of xs k ≡ byte_of ys k) → xs ≡ ys
same_bytes [] [] many each = refl
same_bytes [] (y ∷ ys) many each = absurd (omega (arith, many))
same_bytes (x ∷ xs) [] many each = absurd (omega (arith, many))
same_bytes (x ∷ xs) (y ∷ ys) many each = λ i. each 0 i ∷ same_bytes xs ys (omega (arith, many)) (λ k. each (suc k)) i

rw_is_up : Rw ≢ Err
rw_is_up e = cc

pub replicas_are : (s : State) → IsSound s → s.tickets ≡ [] → (r : ℕ) → mode_of (modes_in s) r ≡ Rw
    → volume_of_node (node_at s.nodes r) ≡ (told_of s).volume
replicas_are s sound rest r up =
    let agree = (calm_of s sound (none_started s.whole sound.whole)).clients.agree in
    let here : mode_of (modes_in s) r ≢ Err = λ e. rw_is_up (sym up ∙ e) in
    let disk = same_bytes (node_at s.nodes r).disk (told_of s).volume.disk (agree.sizes r here ∙ sym agree.disk)
    (λ k. agree.bytes r k up (unheld k)) in
    λ i. record { disk = disk i; copies = agree.copies r up i; snapshots = agree.tree r here i }
  where
    unheld : (k : ℕ) → IsUnheld s.tickets k
    unheld k i low writes from = absurd (omega (arith, low, ap length rest))

    none_started : (w : Option Whole) → IsWhole (told_of s) (modes_in s) s.tickets s.calls s.nodes w → w ≡ None
    none_started None is = refl
    none_started (Some w) is = absurd (omega (arith, is.stands.within, ap length rest))

pub as_many : (s : State) → IsSound s → length s.nodes ≡ length (modes_in s)
as_many s sound = sym (sound.on.clients.agree.as_many ∙ length-forms s.whole s.nodes)
