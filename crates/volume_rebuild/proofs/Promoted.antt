-- The target is promoted, and its command is answered: the invariant stays.
use Rattle.std.proofs.Common.{◌≡◌, ◌≢◌, ℕ, ◌+◌, ◌<◌, cond, List, [], ◌∷◌, ◌++◌, length, set, length-set, refl, sym}
use Rattle.std.proofs.Common.{ap, subst, ◌∙◌, arith, append_assoc}
use Rattle.std.specs.Prelude.{Option, None, Some}
use Rattle.std.specs.List.{count_by}
use Rattle.std.proofs.lemmas.List.Edits.{length-remove}
use Rattle.std.proofs.lemmas.List.Sums.{sum_by-set}
use Rattle.volume_model.specs.declared.command.Command.TheVariants as command
use Rattle.volume_model.specs.declared.call.Call.{Call}
use Rattle.volume_model.specs.declared.call.Call.TheVariants as call
use Rattle.volume_model.specs.declared.call.Reply.TheVariants as reply
use Rattle.volume_model.specs.declared.entry.Answer.{Answer}
use Rattle.volume_model.specs.declared.entry.Entry.{Entry}
use Rattle.volume_model.specs.declared.entry.Entry.TheVariants as entry
use Rattle.volume_model.specs.declared.mark.Mark.TheVariants as mark
use Rattle.volume_model.specs.declared.mode.Mode.{Mode}
use Rattle.volume_model.specs.declared.mode.Mode.TheVariants.{Rw, Wo, Err}
use Rattle.volume_model.specs.History.{Spot, IsLegal}
use Rattle.volume_model.specs.Modes.{mode_of}
use Rattle.volume_model.specs.PlainState.{PlainState}
use Rattle.volume_model.specs.PlainStep.{after_call}
use Rattle.volume_model.proofs.FallLemmas.{behind_falls_promoted}
use Rattle.volume_model.proofs.PushLemmas.{modes_after-push}
use Rattle.volume_model.proofs.RebuildLemmas.{legal_promotion}
use Rattle.volume_model.proofs.StepLemmas.{replay-push}
use Rattle.range_turns.specs.declared.ticket.Ticket.{Ticket}
use Rattle.replica_node.specs.Node.{Node}
use Rattle.open_calls.specs.declared.open_call.OpenCall.{OpenCall}
use Rattle.open_calls.specs.Calls.{node_at}
use Rattle.open_calls.specs.Clients.{AreClients}
use Rattle.open_calls.proofs.Gone.{seen_clients}
use Rattle.open_calls.proofs.ListLemmas.{at_set}
use Rattle.open_calls.proofs.PartLemmas.{up_in}
use Rattle.open_calls.proofs.SeenLemmas.{seen_mark, seen_answer}
use Rattle.open_calls.specs.declared.maint.MaintCall.{MaintCall}
use Rattle.open_calls.specs.declared.whole.Whole.{Whole}
use Rattle.open_calls.specs.Due.{due, forms}
use Rattle.open_calls.specs.Maint.{AreMaint, command_at}
use Rattle.open_calls.specs.Whole.{IsWhole}
use Rattle.open_calls.proofs.Answered.{command_answered}
use Rattle.open_calls.proofs.Folds.{idle_maint}
use Rattle.open_calls.proofs.Forms.{length-forms}
use Rattle.open_calls.proofs.Kept.{queued_mark}
use Rattle.open_rebuild.specs.Rebuild.{IsReplica}
use Rattle.open_rebuild.specs.declared.rebuilding.Rebuilding.{Rebuilding}
use Rattle.open_rebuild.specs.Claim.{IsBesideStarted, IsRebuilding}
use Rattle.open_rebuild.proofs.ModeSteps.{promoted_clients, promoted_roles}
use Rattle.open_rebuild.proofs.PageSteps.{replica_form}
use Rattle.open_rebuild.proofs.RangeSteps.{up_rw, up_wo}
use Rattle.volume_core.specs.State.{State, opening_of, told_of, modes_in, index_at, gave_up_at}
use Rattle.volume_core.specs.Steps.{answer_entry}
use Rattle.volume_core.specs.Sound.{IsSound, IsSoundOn, IsOrdered, AreAdds, is_up, owed_end}
use Rattle.volume_core.specs.Streams.{running, turning, MayGo, origin_of}
use Rattle.volume_core.proofs.Caused.{caused_ended, caused_more}
use Rattle.volume_core.proofs.Ends.{its_answer, same_clients}
use Rattle.volume_core.proofs.FarLemmas.{begun_of}
use Rattle.volume_core.proofs.Keep.{same_whole, same_maint, on_same}
use Rattle.volume_core.specs.Turn.{IsFreeTurn}
use Rattle.volume_core.proofs.InTurn.{not_in_turn}
use Rattle.volume_core.proofs.TurnLemmas.{none_adds, commands-remove_other, told_named}
use Rattle.volume_rebuild.specs.Answers.{IsAllListed}
use Rattle.volume_rebuild.specs.Places.{IsPast}
use Rattle.volume_rebuild.specs.Steps.{promoted}
use Rattle.volume_rebuild.proofs.Order.{promoted_ordered}

-- ---- the modes

module _ (modes : List Mode) (r : ℕ) (written : mode_of modes r ≡ Wo) where
  inside : r < length modes
  inside = up_in modes r (up_wo (mode_of modes r) written)

  -- as many have not failed as before
  pub up_before : (q : ℕ) → mode_of (set modes r Rw) q ≢ Err → mode_of modes q ≢ Err
  up_before q = at_set (λ (m : Mode). m ≢ Err → mode_of modes q ≢ Err) modes r q Rw Err inside
      (λ same _. subst (λ n. mode_of modes n ≢ Err) (sym same) (up_wo (mode_of modes r) written)) (λ _ n. n)

  pub as_many_up : count_by is_up (set modes r Rw) ≡ count_by is_up modes
  as_many_up = omega (arith, sum_by-set (λ m. cond (is_up m) 1 0) modes r Rw Err inside, ap (λ m. cond {A = ℕ} (is_up m) 1 0) written)

  -- what has started on the whole volume goes on
  pub whole_promoted : (p : PlainState) (ts : List Ticket) (cs : List OpenCall) (ns : List Node) (w : Option Whole)
      → IsWhole p modes ts cs ns w → IsWhole p (set modes r Rw) ts cs ns w
  whole_promoted p ts cs ns None is = is
  whole_promoted p ts cs ns (Some w) is = record {
    place = is.place;
    stands = is.stands;
    kind = is.kind;
    started = is.started;
    op = is.op;
    parts = is.parts;
    owes = λ q up. is.owes q (up_before q up);
    may = is.may;
    takes = λ q up owed. is.takes q (up_before q up) owed;
  }

-- ---- the invariant

module _ (s : State) (t : ℕ) (b : Rebuilding) (n m : ℕ) (ok : IsSound s) (turn : IsFreeTurn s t) (past : IsPast s b)
    (all : IsAllListed b) (source : IsReplica (node_at s.nodes b.source) n)
    (target : IsReplica (node_at s.nodes b.target) m) where
  abbrev its : MaintCall
  its = command_at s.commands 0

  abbrev c : Call
  c = call.Command its.command

  abbrev a : Answer
  a = its_answer s its.stream its.saw c reply.Done

  abbrev es : List Entry
  es = s.book.entries

  abbrev e : Entry
  e = entry.Mark (mark.Promoted b.target)

  abbrev one : List Entry
  one = es ++ e ∷ []

  abbrev two : List Entry
  two = one ++ entry.Answer a ∷ []

  abbrev o : Spot
  o = opening_of s

  abbrev next : State
  next = promoted s b.target

  abbrev modes : List Mode
  modes = set (modes_in s) b.target Rw

  abbrev v : Rattle.volume_model.specs.PlainState.Volume
  v = due s.whole (told_of s).volume

  abbrev ns : List Node
  ns = forms s.whole s.nodes

  begun : IsRebuilding s.size (modes_in s) s.tickets s.calls s.whole s.nodes (Some b)
  begun = subst (λ x. IsRebuilding s.size (modes_in s) s.tickets s.calls s.whole s.nodes x) past.begun ok.rebuild

  adds : AreAdds s.maint s.commands (Some b) s.ended
  adds = subst (λ x. AreAdds s.maint s.commands x s.ended) past.begun ok.adds

  asks : its.command ≡ command.Add b.target
  asks = let has = adds.of_begun in has.turn.command

  here : 0 < length s.commands
  here = omega (arith, turn.stands.within, ok.maint.queued.paired)

  same_modes : modes ≡ modes_in next
  same_modes = sym (modes_after-push o.modes one (entry.Answer a) ∙ modes_after-push o.modes es e)

  told : told_of s ≡ told_of next
  told = sym (replay-push o.state one (entry.Answer a) ∙ ap (λ p. after_call p c) (replay-push o.state es e)
      ∙ ap (λ x. after_call (told_of s) (call.Command x)) asks)

  -- ---- the replicas

  many : length (modes_in s) ≡ length s.nodes
  many = omega (arith, ok.on.clients.agree.as_many, length-forms s.whole s.nodes)

  formed : (r k : ℕ) → mode_of (modes_in s) r ≢ Err → IsReplica (node_at s.nodes r) k → IsReplica (node_at ns r) k
  formed r k up is = go s.whole ok.whole (let x = begun.claim in x.beside past.ended)
    where
      go : (w : Option Whole) → IsWhole (told_of s) (modes_in s) s.tickets s.calls s.nodes w → IsBesideStarted b w
          → IsReplica (node_at (forms w s.nodes) r) k
      go None whole beside = is
      go (Some w) whole beside = replica_form (told_of s) (modes_in s) s.tickets s.calls s.nodes w b.frozen r k
          (told_named s ok) whole many up beside is

  up_source : mode_of (modes_in s) b.source ≢ Err
  up_source = up_rw (mode_of (modes_in s) b.source) begun.roles.source

  up_target : mode_of (modes_in s) b.target ≢ Err
  up_target = up_wo (mode_of (modes_in s) b.target) begun.roles.target

  source_form : IsReplica (node_at ns b.source) n
  source_form = formed b.source n up_source source

  target_form : IsReplica (node_at ns b.target) m
  target_form = formed b.target m up_target target

  same_count : m ≡ n
  same_count = omega (
    arith,
    source_form.chained.head.size,
    target_form.chained.head.size,
    ok.on.clients.agree.sizes b.source up_source,
    ok.on.clients.agree.sizes b.target up_target,
  )

  clients : AreClients v s.size (length next.indices) two (modes_in next) s.tickets s.calls ns
  clients =
      let read = promoted_clients v s.size (length s.indices) es (modes_in s) s.tickets s.calls s.whole s.nodes b n
      ok.on.clients begun source_form (subst (IsReplica (node_at ns b.target)) same_count target_form) all in
      same_clients v s.size (length s.indices) (length next.indices) two modes (modes_in next) s.tickets s.calls ns
      (sym (length-set s.indices its.stream (index_at s.indices its.stream + 1))) same_modes
      (seen_clients v s.size (length s.indices) es two modes s.tickets s.calls ns
      (seen_answer one s.calls (seen_mark es s.calls ok.on.clients.seen (mark.Promoted b.target)) a turn.idle) read)

  -- ---- the journal

  was : IsOrdered o es s.indices (Some b) s.ended
  was = subst (λ x. IsOrdered o es s.indices x s.ended) past.begun ok.on.told.ordered

  none : next.ended ≡ None
  none = refl

  ordered : IsOrdered o two next.indices None next.ended
  ordered = subst (λ x. IsOrdered o two next.indices None x) (sym none)
      (promoted_ordered o es s.indices b s.ended a was (ap call.Command asks) (ok.maint.queued.within 0 here) refl
      (ok.maint.queued.past 0 here) (ok.maint.queued.saw 0 here))

  legal : IsLegal o two
  legal = subst (IsLegal o) (sym (append_assoc es (e ∷ []) (entry.Answer a ∷ [])))
      (legal_promotion o es b.target b.source a ok.on.told.legal (begun_of es b s.ended was.rebuild) (ap call.Command asks) refl)

  on : IsSoundOn v ns next
  on = record {
    opened = ok.on.opened;
    told = record { legal = legal; ordered = ordered };
    clients = clients;
    spare = omega (
      arith,
      ok.on.spare,
      length-remove s.commands 0 here,
      ap owed_end past.begun,
      as_many_up (modes_in s) b.target begun.roles.target,
      ap (count_by is_up) same_modes,
    );
    spare_data = omega (arith, ok.on.spare_data);
  }

  -- ---- the calls on the whole volume, and the turn

  maint : AreMaint (told_of s).volume.snapshots (length s.indices) two modes s.tickets s.calls s.nodes next.maint next.commands
  maint =
      let snapshots = (told_of s).volume.snapshots in
      let marked : AreMaint snapshots (length s.indices) one modes s.tickets s.calls s.nodes s.maint s.commands = record {
        queued = queued_mark (length s.indices) es (mark.Promoted b.target) s.maint s.commands ok.maint.queued;
        fits = idle_maint snapshots snapshots (modes_in s) modes s.nodes s.nodes s.maint s.commands s.tickets s.calls
            ok.on.clients.paired turn.idle ok.maint.fits;
      } in
      command_answered snapshots (length s.indices) one modes s.tickets s.calls s.nodes s.maint s.commands marked a
      ok.on.clients.paired turn.stands.within turn.idle refl

  pub promoted_kept : IsSound next
  promoted_kept =
      let length_set_here = length-set s.indices its.stream (index_at s.indices its.stream + 1) in
      record {
        on = on_same s.whole (told_of s) (told_of next) s.nodes next told on;
        whole = same_whole (told_of s) (told_of next) modes (modes_in next) s.tickets s.calls s.nodes s.whole told same_modes
            (whole_promoted (modes_in s) b.target begun.roles.target (told_of s) s.tickets s.calls s.nodes s.whole ok.whole);
        maint = same_maint (told_of s).volume.snapshots (told_of next).volume.snapshots (length s.indices) (length next.indices)
            two modes (modes_in next) s.tickets s.calls s.nodes next.maint next.commands
            (ap (λ (p : PlainState). p.volume.snapshots) told) (sym length_set_here) same_modes maint;
        disk = ap (λ (p : PlainState). length p.volume.disk) (sym told) ∙ ok.disk;
        rebuild = subst (λ (x : List Mode). IsRebuilding s.size x s.tickets s.calls s.whole s.nodes None) same_modes
            (promoted_roles s.size (modes_in s) s.tickets s.calls s.whole s.nodes b begun);
        adds = none_adds next.maint next.commands None next.ended (refl, none);
        caused = λ given. let was = ok.caused given in
            caused_ended s.maint s.commands one
            (caused_more s.maint s.commands es was (e ∷ []) (behind_falls_promoted es b.target was.fell) (refl, tt))
            next.maint next.commands a refl refl;
        streams = ok.streams ∙ sym length_set_here;
      }

-- ---- what other streams see

pub promoted_goes : (s s2 : State) (target : ℕ) → IsSound s → IsSound s2 → s2 ≡ promoted s target
    → MayGo (command_at s.commands 0).stream s s2
promoted_goes s s2 target ok ok2 is =
    let c = command_at s.commands 0 in
    let e = entry.Mark (mark.Promoted target) in
    let a = answer_entry s c.stream c.saw (call.Command c.command) reply.Done in
    record {
      sound = ok2;
      origin = ap origin_of is
          ∙ ap (λ k. record { first = s.first; opening = s.book.opening; size = s.size; streams = k; replicas = length s.nodes })
          (length-set s.indices c.stream (index_at s.indices c.stream + 1));
      added = (e ∷ a ∷ [], ap (λ (x : State). x.book.entries) is ∙ append_assoc s.book.entries (e ∷ []) (a ∷ []), (tt, (refl, tt)));
      others = λ n other. ap (λ (x : State). running x n) is;
      turns = λ n other. ap (λ (x : State). turning x n) is
          ∙ commands-remove_other n s.maint s.commands 0 ok.maint.queued.paired (λ f. other (sym f));
      gave_up = λ n other. ap (λ (x : State). gave_up_at x.gave_up n) is;
      removes = λ n other turn name. absurd (not_in_turn s ok c.stream n refl other turn);
    }
