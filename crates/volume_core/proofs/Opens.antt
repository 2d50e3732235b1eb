-- A World that has just been opened meets the invariant, and blank replicas may be opened.
use Rattle.std.proofs.Common.{◌≡◌, ◌≢◌, ℕ, zero, ◌<◌, ◌≤◌, false, List, [], length, replicate, get_or, refl, sym, ap}
use Rattle.std.proofs.Common.{subst, ◌∙◌, ⊎_elim, arith}
use Rattle.std.proofs.lemmas.List.{length-replicate, get_or-replicate, get_or_past}
use Rattle.std.proofs.lemmas.Bool.{cases_lt}
use Rattle.std.proofs.lemmas.List.Sums.{count_by-le-length}
use Rattle.vol_units.proofs.BytesLemmas.{length-zeros}
use Rattle.volume_model.specs.declared.mode.Mode.{Mode}
use Rattle.volume_model.specs.declared.mode.Mode.TheVariants.{Rw, Wo, Err}
use Rattle.volume_model.specs.Copies.{HasCopies}
use Rattle.volume_model.specs.Modes.{mode_of}
use Rattle.volume_model.specs.PlainState.{Volume}
use Rattle.journal_book.specs.declared.opening.Opening.{Opening}
use Rattle.range_turns.specs.Order.{AreInOrder}
use Rattle.replica_node.specs.Node.{Node, blank}
use Rattle.replica_node.specs.Volume.{volume_of_node}
use Rattle.open_calls.specs.Clients.{byte_of}
use Rattle.open_calls.proofs.PartLemmas.{up_in, rw_up}
use Rattle.volume_core.specs.State.{State}
use Rattle.volume_core.specs.Sound.{IsSound, is_up}
use Rattle.volume_core.specs.Opened.{FitsOpening, MayOpen, IsOpenedOn, blank_opening}

read_where_up : (m : Mode) → m ≢ Err → m ≢ Wo → m ≡ Rw
read_where_up Rw e w = refl
read_where_up Wo e w = absurd (w refl)
read_where_up Err e w = absurd (e refl)

none_answered : (streams stream : ℕ) → stream < length (replicate streams zero) → get_or (replicate streams zero) stream zero ≡ zero
none_answered streams stream l = get_or-replicate streams stream zero zero (subst (λ n. stream < n) (length-replicate streams zero) l)

pub opened_sound : (size streams : ℕ) (opening : Opening) (nodes : List Node) (s : State) → MayOpen size opening nodes
    → IsOpenedOn size opening nodes streams s → HasCopies (length s.first.disk) (volume_of_node s.first) → IsSound s
opened_sound size streams opening nodes s may is whole =
    let source = is.source in
    let copies = subst (λ (x : State). HasCopies (length x.first.disk) (volume_of_node x.first)) is.state whole in
    let read = is.first.read in
    let begin = may.each source read in
    let reads = λ (r : ℕ) (up : mode_of opening.modes r ≢ Err). read_where_up (mode_of opening.modes r) up (may.rebuilt r) in
    let same = λ (r : ℕ) (e : mode_of opening.modes r ≡ Rw). may.agree r source e read in
    subst IsSound (sym is.state) (record {
      on = record {
        opened = record { layers = begin.layers; names = begin.names; named = begin.named; copies = copies; number = begin.number };
        told = record {
          legal = tt;
          ordered = record {
            rise = λ stream r. tt;
            order = λ stream. tt;
            index = λ stream l. none_answered streams stream l;
            few = λ stream l. omega (arith, none_answered streams stream l);
            own = begin.own;
            rebuild = λ q. refl;
          };
        };
        clients = record {
          paired = refl;
          order = no_order;
          fits = λ i l. absurd (omega arith);
          agree = record {
            disk = begin.long;
            as_many = may.as_many;
            sizes = λ r up. (may.each r (reads r up)).long;
            tree = λ r up. ap (λ (v : Volume). v.snapshots) (same r (reads r up));
            copies = λ r e. ap (λ (v : Volume). v.copies) (same r e);
            bytes = λ r k e free. ap (λ (v : Volume). byte_of v.disk k) (same r e);
          };
          writes = λ i l. absurd (omega arith);
          reads = λ i l. absurd (omega arith);
          seen = record {
            alone = λ i k below within. absurd (omega arith);
            past = λ i l. absurd (omega arith);
            saw =
                λ i l. absurd (omega arith);
          };
        };
        spare = omega (arith, count_by-le-length is_up opening.modes, may.as_many);
        spare_data = omega arith;
      };
      whole = λ i l. absurd (omega arith);
      maint = record {
        queued = record {
          paired = refl;
          order = no_order;
          kinds = λ k l. absurd (omega arith);
          want = λ k l. absurd (omega arith);
          within = λ k l. absurd (omega arith);
          alone = λ k j below within. absurd (omega arith);
          past = λ k l. absurd (omega arith);
          saw = λ k l. absurd (omega arith);
        };
        fits = λ i l. absurd (omega arith);
      };
      disk = begin.long;
      rebuild = record { roles = may.rebuilt; claim = tt };
      adds = record { of_begun = tt; of_ended = tt; one = tt };
      caused = λ none. record { fell = tt; within = tt };
      streams = length-replicate streams false ∙ sym (length-replicate streams zero);
    })
  where
    no_order : AreInOrder []
    no_order = record { numbered = λ i j below within. absurd (omega arith); apart = λ i within. absurd (omega arith) }

-- ---- blank replicas

blank_begins : (size : ℕ) (modes : List Mode) → FitsOpening size (record { modes = modes; layers = 1; names = [] }) (blank size)
blank_begins size modes = record {
  long = length-zeros size;
  number = omega arith;
  own = λ number low most. refl;
  layers = refl;
  names = record { used = refl; live = λ name. refl };
  named = record { once = tt; taken = λ name e. e };
}

pub blank_may_open : (size n : ℕ) → 0 < n → MayOpen size (blank_opening n) (replicate n (blank size))
blank_may_open size n some =
    let within = λ (r : ℕ) (e : mode_of (replicate n Rw) r ≡ Rw). subst (λ m. r < m) (length-replicate n Rw)
    (up_in (replicate n Rw) r (rw_up (mode_of (replicate n Rw) r) e)) in
    let one = λ (r : ℕ) (l : r < n). get_or-replicate n r (blank size) (blank 0) l in
    record {
      as_many = length-replicate n Rw ∙ sym (length-replicate n (blank size));
      source = (0, subst (λ m. 0 < m) (sym (length-replicate n Rw)) some, get_or-replicate n 0 Rw Rw some);
      rebuilt = λ r. not_written n r;
      each = λ r e. subst (FitsOpening size (blank_opening n)) (sym (one r (within r e))) (blank_begins size (replicate n Rw));
      agree = λ r q e f. ap volume_of_node (one r (within r e) ∙ sym (one q (within q f)));
    }
  where
    not_written : (n r : ℕ) → mode_of (replicate n Rw) r ≢ Wo
    not_written n r = ⊎_elim
        (λ l e. apart (sym (get_or-replicate n r Rw Err l) ∙ e))
        (λ l e. past (sym (get_or_past (replicate n Rw) r Err (subst (λ m. m ≤ r) (sym (length-replicate n Rw)) l)) ∙ e))
        (cases_lt r n)
      where
        apart : Rw ≢ Wo
        apart e = cc

        past : Err ≢ Wo
        past e = cc
