-- A World that has just been opened has begun for the scripts that ask for as many streams and replicas.
use Rattle.std.proofs.Common.{◌≡◌, ◌≢◌, ℕ, zero, suc, false, ◌<◌, ◌≤◌, inl, inr, List, [], length, replicate}
use Rattle.std.proofs.Common.{sym, refl, ap, subst, ◌∙◌, arith}
use Rattle.std.proofs.lemmas.Bool.{cases_lt}
use Rattle.std.proofs.lemmas.List.{length-replicate, get_or-replicate, get_or_past}
use Rattle.volume_model.specs.declared.mode.Mode.TheVariants.{Rw, Err}
use Rattle.journal_book.specs.declared.opening.Opening.{Opening}
use Rattle.replica_node.specs.Node.{Node, blank}
use Rattle.replica_node.specs.Volume.{volume_of_node}
use Rattle.volume_core.specs.declared.world.World.{World}
use Rattle.volume_core.specs.Opened.{IsOpenedOn, blank_opening}
use Rattle.volume_core.specs.State.{State, state_of, opening_of, gave_up_at}
use Rattle.volume_core.specs.Sound.{IsSound, NoneGaveUp}
use Rattle.script_text.specs.declared.script.Script.{Script}
use Rattle.stream_turns.specs.Serving.{IsBegun}
use Rattle.stream_turns.specs.Volume.{blank_spot, spot_of_zeros}

all_false : (n i : ℕ) → gave_up_at (replicate n false) i ≡ false
all_false zero i = refl
all_false (suc n) zero = refl
all_false (suc n) (suc i) = all_false n i

-- no command was given up in it
pub none_gave_up_yet : (size streams : ℕ) (opening : Opening) (nodes : List Node) (s : State) → IsOpenedOn size opening nodes streams s
    → NoneGaveUp s.gave_up
none_gave_up_yet size streams opening nodes s opened n =
    ap (λ (x : State). gave_up_at x.gave_up n) opened.state ∙ all_false streams n

-- it begins at the spot where it was opened
pub begun_opened : (script : Script) (size streams : ℕ) (opening : Opening) (nodes : List Node) (w : World) → IsSound (state_of w)
    → IsOpenedOn size opening nodes streams (state_of w) → length nodes ≤ 8 → streams ≡ length script.streams
    → length nodes ≡ script.replicas → IsBegun script (opening_of (state_of w)) w
begun_opened script size streams opening nodes w sound opened few as_many_streams as_many_replicas =
    let many : length w.nodes.items ≡ length nodes = ap (λ (x : State). length x.nodes) opened.state in
    record {
      between = record {
        sound = sound;
        rest = ap (λ (x : State). x.tickets) opened.state;
        turns = ap (λ (x : State). x.commands) opened.state;
        gave_up = none_gave_up_yet size streams opening nodes (state_of w) opened;
        few = omega (arith, many, few);
      };
      none = ap (λ (x : State). x.book.entries) opened.state;
      opening = refl;
      streams = ap (λ (x : State). length x.indices) opened.state ∙ length-replicate streams 0 ∙ as_many_streams;
      replicas = many ∙ as_many_replicas;
    }

-- ---- on blank replicas

module _ (size replicas streams : ℕ) (s : State)
    (opened : IsOpenedOn size (blank_opening replicas) (replicate replicas (blank size)) streams s) where
  err_read : Err ≢ Rw
  err_read e = cc

  there : opened.source < replicas
  there = elim (cases_lt opened.source replicas) [
    | inl low ↦ low
    | inr high ↦ absurd (err_read
        (sym (get_or_past (replicate replicas Rw) opened.source Err (omega (arith, high, length-replicate replicas Rw)))
        ∙ opened.first.read))
  ]

  pub begins_blank : opening_of s ≡ spot_of_zeros size replicas
  begins_blank =
      ap opening_of opened.state
      ∙ ap (λ (n : Node). record { state = record { volume = volume_of_node n; used = [] }; modes = replicate replicas Rw })
      (get_or-replicate replicas opened.source (blank size) (blank 0) there)

  pub as_many_nodes : length s.nodes ≡ replicas
  as_many_nodes = ap (λ (x : State). length x.nodes) opened.state ∙ length-replicate replicas (blank size)

-- of as many streams as the script has
pub begun_blank : (script : Script) (streams : ℕ) (w : World) → IsSound (state_of w)
    → IsOpenedOn script.size (blank_opening script.replicas) (replicate script.replicas (blank script.size)) streams (state_of w)
    → script.replicas ≤ 8 → streams ≡ length script.streams → IsBegun script (blank_spot script) w
begun_blank script streams w sound opened few as_many =
    let many : length (replicate script.replicas (blank script.size)) ≡ script.replicas =
    length-replicate script.replicas (blank script.size) in
    subst (λ spot. IsBegun script spot w) (begins_blank script.size script.replicas streams (state_of w) opened)
    (begun_opened script script.size streams (blank_opening script.replicas) (replicate script.replicas (blank script.size)) w
    sound opened (omega (arith, many, few)) as_many many)
