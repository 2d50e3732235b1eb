-- A rebuild is given up: the invariant is kept, and other streams see no more of it than its mark.
use Rattle.std.proofs.Common.{◌≡◌, ℕ, ◌<◌, true, false, List, [], ◌∷◌, ◌++◌, length, set, length-set}
use Rattle.std.proofs.Common.{get_or-set_other, refl, sym, ap, subst, ◌∙◌, arith}
use Rattle.std.specs.Prelude.{Option, None, Some, IfSome}
use Rattle.std.specs.List.{count_by}
use Rattle.volume_model.specs.declared.entry.Entry.{Entry}
use Rattle.volume_model.specs.declared.entry.Entry.TheVariants as entry
use Rattle.volume_model.specs.declared.mark.Mark.{Mark}
use Rattle.volume_model.specs.declared.mark.Mark.TheVariants as mark
use Rattle.volume_model.specs.declared.mode.Mode.{Mode}
use Rattle.volume_model.specs.declared.mode.Mode.TheVariants.{Err}
use Rattle.volume_model.specs.Modes.{mode_of}
use Rattle.volume_model.specs.PlainState.{PlainState, Volume}
use Rattle.volume_model.specs.Rebuilds.{rebuild_of}
use Rattle.volume_model.proofs.FaultLemmas.{rise-aborted}
use Rattle.volume_model.proofs.PushLemmas.{modes_after-push}
use Rattle.volume_model.proofs.RebuildLemmas.{legal_abort}
use Rattle.volume_model.proofs.StepLemmas.{replay-push}
use Rattle.range_turns.specs.Order.{ticket_at}
use Rattle.replica_node.specs.Node.{Node}
use Rattle.open_calls.specs.Calls.{open_at}
use Rattle.open_calls.proofs.Gone.{seen_clients}
use Rattle.open_calls.proofs.PartLemmas.{up_in, rw_before}
use Rattle.open_calls.proofs.SeenLemmas.{seen_mark}
use Rattle.open_calls.specs.Due.{due, forms}
use Rattle.open_calls.proofs.Kept.{whole_failed, queued_mark, fits_still}
use Rattle.open_rebuild.specs.declared.rebuilding.Rebuilding.{Rebuilding}
use Rattle.open_rebuild.specs.Claim.{IsRebuilding}
use Rattle.open_rebuild.proofs.ModeSteps.{rebuild_given_up}
use Rattle.open_rebuild.proofs.RangeSteps.{up_wo}
use Rattle.volume_core.specs.declared.world.EndedRebuild.{EndedRebuild}
use Rattle.volume_core.specs.State.{State, opening_of, told_of, modes_in, gave_up_at}
use Rattle.volume_core.specs.Steps.{given_up}
use Rattle.volume_core.specs.Sound.{IsSound, IsSoundOn, IsOrdered, HasAdd, is_up, how_far, owed_end}
use Rattle.volume_core.specs.Streams.{running, turning, MayGo, origin_of}
use Rattle.volume_core.proofs.Caused.{given_caused}
use Rattle.volume_core.proofs.Ends.{same_clients}
use Rattle.volume_core.proofs.Falls.{failed_again, fewer_up}
use Rattle.volume_core.proofs.FarLemmas.{begun_of, far_aborted}
use Rattle.volume_core.proofs.Keep.{same_whole, same_maint, on_same}
use Rattle.volume_core.proofs.Told.{mark_ordered}

module _ (s : State) (stream : ℕ) (b : Rebuilding) (ok : IsSound s) (within : stream < length s.indices) (begun : s.rebuild ≡ Some b) where
  abbrev its : Mark
  its = mark.Aborted b.target

  abbrev longer : List Entry
  longer = s.book.entries ++ entry.Mark its ∷ []

  abbrev its_end : EndedRebuild
  its_end = record { target = b.target; place = length s.book.entries }

  abbrev fewer : List Mode
  fewer = set (modes_in s) b.target Err

  abbrev next : State
  next = given_up s stream b.target

  is_open : IsRebuilding s.size (modes_in s) s.tickets s.calls s.whole s.nodes (Some b)
  is_open = subst (λ (x : Option Rebuilding). IsRebuilding s.size (modes_in s) s.tickets s.calls s.whole s.nodes x) begun ok.rebuild

  target_in : b.target < length (modes_in s)
  target_in = up_in (modes_in s) b.target (up_wo (mode_of (modes_in s) b.target) is_open.roles.target)

  modes : fewer ≡ modes_in next
  modes = sym (modes_after-push (opening_of s).modes s.book.entries (entry.Mark its))

  told : told_of s ≡ told_of next
  told = sym (replay-push (opening_of s).state s.book.entries (entry.Mark its))

  far : (q : ℕ) → rebuild_of q s.book.entries ≡ how_far (Some b) s.ended q
  far q = ok.on.told.ordered.rebuild q ∙ ap (λ (x : Option Rebuilding). how_far x s.ended q) begun

  ordered_next : IsOrdered (opening_of s) longer s.indices None (Some its_end)
  ordered_next =
      let was : IsOrdered (opening_of s) s.book.entries s.indices (Some b) s.ended =
      subst (λ (x : Option Rebuilding). IsOrdered (opening_of s) s.book.entries s.indices x s.ended) begun
      ok.on.told.ordered in
      mark_ordered (opening_of s) s.book.entries s.indices (Some b) None s.ended (Some its_end) its was tt
      (rise-aborted s.book.entries b.target ok.on.told.ordered.rise) (far_aborted s.book.entries b s.ended far)

  on_next : (v : Volume) (ns : List Node) → IsSoundOn v ns s → IsSoundOn v ns next
  on_next v ns on = record {
    opened = on.opened;
    told = record {
      legal = legal_abort (opening_of s) s.book.entries b.target b.source on.told.legal
          (begun_of s.book.entries b s.ended far);
      ordered = ordered_next;
    };
    clients = same_clients v s.size (length s.indices) (length s.indices) longer fewer (modes_in next) s.tickets s.calls ns refl modes
        (seen_clients v s.size (length s.indices) s.book.entries longer fewer s.tickets s.calls ns
        (seen_mark s.book.entries s.calls on.clients.seen its)
        (failed_again v s.size (length s.indices) b.target s.book.entries (modes_in s) s.tickets s.calls ns on.clients));
    spare = omega (arith, on.spare, ap owed_end begun, fewer_up (modes_in s) b.target, ap (count_by is_up) modes);
    spare_data = omega (arith, on.spare_data);
  }

  pub given_up_kept : IsSound next
  given_up_kept = record {
    on = on_same s.whole (told_of s) (told_of next) s.nodes next told
        (on_next (due s.whole (told_of s).volume) (forms s.whole s.nodes) ok.on);
    whole = same_whole (told_of s) (told_of next) fewer (modes_in next) s.tickets s.calls s.nodes s.whole told modes
        (whole_failed (told_of s) (modes_in s) s.tickets s.calls s.nodes s.whole b.target ok.whole target_in);
    maint = same_maint (told_of s).volume.snapshots (told_of next).volume.snapshots (length s.indices) (length s.indices)
        longer fewer (modes_in next) s.tickets s.calls s.nodes s.maint s.commands
        (ap (λ (p : PlainState). p.volume.snapshots) told) refl modes
        (record {
          queued = queued_mark (length s.indices) s.book.entries its s.maint s.commands ok.maint.queued;
          fits = λ i l. fits_still (told_of s).volume.snapshots (modes_in s) fewer s.nodes s.nodes s.maint s.commands
              (ticket_at s.tickets i) (open_at s.calls i)
              (λ q e. rw_before (modes_in s) b.target q target_in e) (λ q. refl) (ok.maint.fits i l);
        });
    disk = ap (λ (p : PlainState). length p.volume.disk) (sym told) ∙ ok.disk;
    rebuild = subst (λ (x : List Mode). IsRebuilding s.size x s.tickets s.calls s.whole s.nodes None) modes
        (rebuild_given_up s.size (modes_in s) s.tickets s.calls s.whole s.nodes b is_open);
    adds = record {
      of_begun = tt;
      of_ended = subst (λ (x : Option Rebuilding). IfSome x (λ y. HasAdd s.maint s.commands y.target)) begun ok.adds.of_begun;
      one = tt;
    };
    caused = given_caused s.gave_up stream s.maint s.commands longer (omega (arith, within, ok.streams));
    streams = length-set s.gave_up stream true ∙ ok.streams;
  }

pub given_up_may : (s s2 : State) (stream target : ℕ) → s2 ≡ given_up s stream target → IsSound s2 → MayGo stream s s2
given_up_may s s2 stream target is ok2 = record {
  sound = ok2;
  origin = ap origin_of is;
  added = (entry.Mark (mark.Aborted target) ∷ [], ap (λ (x : State). x.book.entries) is, (tt, tt));
  others = λ n other. ap (λ (x : State). running x n) is;
  turns = λ n other. ap (λ (x : State). turning x n) is;
  gave_up = λ n other. ap (λ (x : State). gave_up_at x.gave_up n) is ∙ get_or-set_other s.gave_up stream n true false other;
  removes = λ m other turn name. tt;
}
