-- What the steps of reads, writes and faults leave of the call on the whole volume and of the maintenance turn.
use Rattle.std.proofs.Common.{◌≡◌, ◌≢◌, ℕ, ◌<◌, ◌≤◌, ⊎_elim, true, false, List, [], ◌∷◌, ◌++◌, length}
use Rattle.std.proofs.Common.{get_or-set_same, get_or-set_other, set, length-set, refl, sym, ap, subst, ◌∙◌, arith}
use Rattle.std.specs.Prelude.{Option, None, Some}
use Rattle.std.specs.List.{remove}
use Rattle.std.proofs.lemmas.Bool.{cases_eq, cases_lt}
use Rattle.std.proofs.lemmas.List.{get_or_append_left, get_or_push, length_push, length-append}
use Rattle.std.proofs.lemmas.List.Edits.{length-remove}
use Rattle.volume_model.specs.declared.entry.Answer.{Answer}
use Rattle.volume_model.specs.declared.entry.Entry.{Entry}
use Rattle.volume_model.specs.declared.entry.Entry.TheVariants as entry
use Rattle.volume_model.specs.declared.mark.Mark.{Mark}
use Rattle.volume_model.specs.declared.mark.FoldOrDrop.{FoldOrDrop}
use Rattle.volume_model.specs.declared.mark.FoldOrDrop.TheVariants as part
use Rattle.volume_model.specs.declared.mode.Mode.{Mode}
use Rattle.volume_model.specs.declared.mode.Mode.TheVariants.{Rw, Err}
use Rattle.volume_model.specs.Modes.{mode_of}
use Rattle.volume_model.specs.PlainState.{PlainState}
use Rattle.volume_model.specs.Snapshots.{Snapshots}
use Rattle.range_turns.specs.declared.ticket.Kind.{Kind}
use Rattle.range_turns.specs.declared.ticket.Kind.TheVariants as kind
use Rattle.range_turns.specs.declared.ticket.Ticket.{Ticket}
use Rattle.range_turns.specs.Order.{ticket_at, no_ticket, IsFresh, IsClear, StandsAt, AreInOrder}
use Rattle.replica_node.specs.Fold.{IsBare}
use Rattle.replica_node.specs.Node.{Node, Kept}
use Rattle.open_calls.specs.declared.open_call.OpenCall.{OpenCall}
use Rattle.step_answers.specs.declared.whole_op.WholeOp.{WholeOp}
use Rattle.step_answers.specs.declared.whole_op.WholeOp.TheVariants as whole
use Rattle.open_calls.specs.Calls.{no_call, open_at, node_at}
use Rattle.open_calls.specs.Clients.{place_behind}
use Rattle.open_calls.proofs.FreeLemmas.{not_both}
use Rattle.open_calls.proofs.ListLemmas.{skip, skip-in, get_or-remove, skip-hit, skip-other}
use Rattle.open_calls.proofs.PartLemmas.{up_before}
use Rattle.open_calls.proofs.SeenLemmas.{mark_more, other_more}
use Rattle.open_calls.specs.declared.maint.MaintCall.{MaintCall}
use Rattle.open_calls.specs.declared.whole.Whole.{Whole}
use Rattle.open_calls.specs.Whole.{IsWhole, IsFolded}
use Rattle.open_calls.specs.Maint.{command_at, HasNoCommand, FitsMaint, AreQueued, CanStill}

-- ---- the call on the whole volume

-- a started ticket of the whole volume is in the way of each that stands behind it, and each before it is in its way
pub whole_after : (ts : List Ticket) (i j : ℕ) → j < i → (ticket_at ts j).kind ≡ kind.Whole → IsClear ts i → ⊥
whole_after ts i j l w clear =
    subst (λ k. Rattle.range_turns.specs.Order.ConflictBy k (ticket_at ts i).kind (ticket_at ts j).range (ticket_at ts i).range → ⊥) w
    (clear j l) tt

pub whole_before : (ts : List Ticket) (i j : ℕ) → i < j → (ticket_at ts j).kind ≡ kind.Whole → IsClear ts j → ⊥
whole_before ts i j l w clear = by (ticket_at ts i).kind
    (subst (λ k. Rattle.range_turns.specs.Order.ConflictBy (ticket_at ts i).kind k (ticket_at ts i).range (ticket_at ts j).range → ⊥) w
    (clear i l))
  where
    by : (k : Kind) → (Rattle.range_turns.specs.Order.ConflictBy k kind.Whole (ticket_at ts i).range (ticket_at ts j).range → ⊥) → ⊥
    by kind.Read f = f tt
    by kind.Write f = f tt
    by kind.Whole f = f tt

-- where a ticket is clear that is no started one of the whole volume, none of the whole volume has started
pub none_whole : (p : PlainState) (modes : List Mode) (ts : List Ticket) (cs : List OpenCall) (ns : List Node)
    (w : Option Whole) (i : ℕ) → IsWhole p modes ts cs ns w → AreInOrder ts → i < length ts → IsClear ts i
    → ((ticket_at ts i).kind ≡ kind.Whole → (ticket_at ts i).started ≡ false) → w ≡ None
none_whole p modes ts cs ns None i is order h clear not = refl
none_whole p modes ts cs ns (Some w) i is order h clear not =
    absurd (⊎_elim
    (λ l. whole_after ts i is.place l is.kind clear)
    (λ l. ⊎_elim
    (λ e. not_both (ticket_at ts i).started (not (subst (λ n. (ticket_at ts n).kind ≡ kind.Whole) e is.kind))
    (subst (λ n. (ticket_at ts n).started ≡ true) e is.started))
    (λ n. whole_before ts i is.place (omega (arith, l, n)) is.kind (order.apart is.place is.stands.within is.started))
    (cases_eq is.place i))
    (cases_lt is.place i))

module _ (p : PlainState) (modes : List Mode) (ts : List Ticket) (cs : List OpenCall) (ns : List Node) where
  -- a call is enrolled
  pub whole_enrolled : (w : Option Whole) (t : Ticket) (c : OpenCall) → IsWhole p modes ts cs ns w → length cs ≡ length ts
      → t.started ≡ false → IsFresh ts t.number → IsWhole p modes (ts ++ t ∷ []) (cs ++ c ∷ []) ns w
  whole_enrolled None t c is paired new fresh = λ i l.
      ⊎_elim
      (λ m. subst (λ (x : Ticket). x.kind ≡ kind.Whole → x.started ≡ false) (sym (get_or_append_left ts (t ∷ []) no_ticket i m)) (is i m))
      (λ m. subst (λ (x : Ticket). x.kind ≡ kind.Whole → x.started ≡ false)
      (sym (get_or_push ts t no_ticket i (omega (arith, l, m, length_push ts t)))) (λ _. new))
      (cases_lt i (length ts))
  whole_enrolled (Some w) t c is paired new fresh =
      let here = get_or_append_left ts (t ∷ []) no_ticket is.place is.stands.within in
      record {
        place = is.place;
        stands = record {
          within = omega (arith, is.stands.within, length_push ts t);
          is = subst (λ (x : Ticket). x.number ≡ w.number) (sym here) is.stands.is;
          only = λ i l. ⊎_elim
              (λ m. subst (λ (x : Ticket). x.number ≡ w.number → i ≡ is.place)
              (sym (get_or_append_left ts (t ∷ []) no_ticket i m)) (is.stands.only i m))
              (λ m. subst (λ (x : Ticket). x.number ≡ w.number → i ≡ is.place)
              (sym (get_or_push ts t no_ticket i (omega (arith, l, m, length_push ts t))))
              (λ e. absurd (fresh is.place no_ticket is.stands.within (is.stands.is ∙ sym e))))
              (cases_lt i (length ts));
        };
        kind = subst (λ (x : Ticket). x.kind ≡ kind.Whole) (sym here) is.kind;
        started = subst (λ (x : Ticket). x.started ≡ true) (sym here) is.started;
        op = subst (λ (x : OpenCall). x.op ≡ Some w.op)
            (sym (get_or_append_left cs (c ∷ []) no_call is.place (omega (arith, is.stands.within, paired)))) is.op;
        parts = is.parts;
        owes = is.owes;
        may = is.may;
        takes = is.takes;
      }

  -- a call goes that is not the started one on the whole volume
  pub whole_left : (w : Option Whole) (i : ℕ) → IsWhole p modes ts cs ns w → length cs ≡ length ts → i < length ts
      → ((ticket_at ts i).kind ≡ kind.Whole → (ticket_at ts i).started ≡ false)
      → IsWhole p modes (remove ts i) (remove cs i) ns w
  whole_left None i is paired h not = λ j l.
      subst (λ (x : Ticket). x.kind ≡ kind.Whole → x.started ≡ false) (sym (get_or-remove ts i j no_ticket h))
      (is (skip i j) (skip-in i j (length ts) (omega (arith, l, length-remove ts i h))))
  whole_left (Some w) i is paired h not =
      let off : is.place ≢ i = λ e. not_both (ticket_at ts i).started
      (not (subst (λ n. (ticket_at ts n).kind ≡ kind.Whole) e is.kind))
      (subst (λ n. (ticket_at ts n).started ≡ true) e is.started) in
      let hit = skip-hit i is.place (length ts) off is.stands.within h in
      let j = hit.0 in
      let there : ticket_at (remove ts i) j ≡ ticket_at ts is.place = get_or-remove ts i j no_ticket h ∙ ap (λ n. ticket_at ts n) hit.2 in
      record {
        place = j;
        stands = record {
          within = omega (arith, hit.1, length-remove ts i h);
          is = ap (λ (x : Ticket). x.number) there ∙ is.stands.is;
          only = λ k l e. same i k j (is.stands.only (skip i k)
              (skip-in i k (length ts) (omega (arith, l, length-remove ts i h)))
              (ap (λ (x : Ticket). x.number) (sym (get_or-remove ts i k no_ticket h)) ∙ e) ∙ sym hit.2);
        };
        kind = ap (λ (x : Ticket). x.kind) there ∙ is.kind;
        started = ap (λ (x : Ticket). x.started) there ∙ is.started;
        op = ap (λ (x : OpenCall). x.op) (get_or-remove cs i j no_call (omega (arith, h, paired)) ∙ ap (λ n. open_at cs n) hit.2) ∙ is.op;
        parts = is.parts;
        owes = is.owes;
        may = is.may;
        takes = is.takes;
      }
    where
      same : (i a b : ℕ) → skip i a ≡ skip i b → a ≡ b
      same i a b e =
          ⊎_elim
          (λ l. absurd (omega (arith, e, Rattle.open_calls.proofs.ListLemmas.skip-more i a b l)))
          (λ l. ⊎_elim
          (λ m. absurd (omega (arith, e, Rattle.open_calls.proofs.ListLemmas.skip-more i b a m)))
          (λ m. omega (arith, l, m))
          (cases_lt b a))
          (cases_lt a b)

  -- a replica fails
  pub whole_failed : (w : Option Whole) (r : ℕ) → IsWhole p modes ts cs ns w → r < length modes → IsWhole p (set modes r Err) ts cs ns w
  whole_failed None r is h = is
  whole_failed (Some w) r is h = record {
    place = is.place;
    stands = is.stands;
    kind = is.kind;
    started = is.started;
    op = is.op;
    parts = is.parts;
    owes = λ q up. is.owes q (up_before modes r q h up);
    may = is.may;
    takes = λ q up owed. is.takes q (up_before modes r q h up) owed;
  }

-- ---- the maintenance turn

-- of each ticket with its call
abbrev Each : (Ticket → OpenCall → Type 0) → List Ticket → List OpenCall → Type 0
Each Q ts cs = (i : ℕ) → i < length ts → Q (ticket_at ts i) (open_at cs i)

pub each_push : (Q : Ticket → OpenCall → Type 0) (ts : List Ticket) (cs : List OpenCall) (t : Ticket) (c : OpenCall)
    → length cs ≡ length ts → Each Q ts cs → Q t c → Each Q (ts ++ t ∷ []) (cs ++ c ∷ [])
each_push Q ts cs t c paired old new i l =
    ⊎_elim
    (λ m. subst (λ (x : Ticket). Q x (open_at (cs ++ c ∷ []) i)) (sym (get_or_append_left ts (t ∷ []) no_ticket i m))
    (subst (λ (x : OpenCall). Q (ticket_at ts i) x) (sym (get_or_append_left cs (c ∷ []) no_call i (omega (arith, m, paired)))) (old i m)))
    (λ m. let e : i ≡ length ts = omega (arith, l, m, length_push ts t) in
    subst (λ (x : Ticket). Q x (open_at (cs ++ c ∷ []) i)) (sym (get_or_push ts t no_ticket i (sym e)))
    (subst (λ (x : OpenCall). Q t x) (sym (get_or_push cs c no_call i (sym (e ∙ sym paired)))) new))
    (cases_lt i (length ts))

pub each_left : (Q : Ticket → OpenCall → Type 0) (ts : List Ticket) (cs : List OpenCall) (i : ℕ) → length cs ≡ length ts
    → i < length ts → Each Q ts cs → Each Q (remove ts i) (remove cs i)
each_left Q ts cs i paired h old j l =
    subst (λ (x : Ticket). Q x (open_at (remove cs i) j)) (sym (get_or-remove ts i j no_ticket h))
    (subst (λ (x : OpenCall). Q (ticket_at ts (skip i j)) x) (sym (get_or-remove cs i j no_call (omega (arith, h, paired))))
    (old (skip i j) (skip-in i j (length ts) (omega (arith, l, length-remove ts i h)))))

pub each_set : (Q : Ticket → OpenCall → Type 0) (ts : List Ticket) (cs : List OpenCall) (i : ℕ) (t : Ticket) (c : OpenCall)
    → length cs ≡ length ts → i < length ts → Each Q ts cs → Q t c → Each Q (set ts i t) (set cs i c)
each_set Q ts cs i t c paired h old new j l =
    ⊎_elim
    (λ e. subst (λ n. Q (ticket_at (set ts i t) n) (open_at (set cs i c) n)) (sym e)
    (subst (λ (x : Ticket). Q x (open_at (set cs i c) i)) (sym (get_or-set_same ts i t no_ticket h))
    (subst (λ (x : OpenCall). Q t x) (sym (get_or-set_same cs i c no_call (omega (arith, h, paired)))) new)))
    (λ n. subst (λ (x : Ticket). Q x (open_at (set cs i c) j)) (sym (get_or-set_other ts i j t no_ticket n))
    (subst (λ (x : OpenCall). Q (ticket_at ts j) x) (sym (get_or-set_other cs i j c no_call n))
    (old j (omega (arith, l, length-set ts i t)))))
    (cases_eq j i)

-- the journal has an answer more, of a stream with no command
pub queued_answer : (streams : ℕ) (es : List Entry) (a : Answer) (maint : List Ticket) (commands : List MaintCall)
    → AreQueued streams es maint commands → HasNoCommand a.stream commands
    → AreQueued streams (es ++ entry.Answer a ∷ []) maint commands
queued_answer streams es a maint commands ok none = record {
  paired = ok.paired;
  order = ok.order;
  kinds = ok.kinds;
  want = ok.want;
  within = ok.within;
  alone = ok.alone;
  past = λ k l. subst (λ xs. place_behind 0 xs ≤ (command_at commands k).saw)
      (sym (other_more es a (command_at commands k).stream (λ e. none k l (sym e)))) (ok.past k l);
  saw = λ k l. omega (arith, ok.saw k l, length-append es (entry.Answer a ∷ []));
}

-- or a mark
pub queued_mark : (streams : ℕ) (es : List Entry) (m : Mark) (maint : List Ticket) (commands : List MaintCall)
    → AreQueued streams es maint commands → AreQueued streams (es ++ entry.Mark m ∷ []) maint commands
queued_mark streams es m maint commands ok = record {
  paired = ok.paired;
  order = ok.order;
  kinds = ok.kinds;
  want = ok.want;
  within = ok.within;
  alone = ok.alone;
  past = λ k l. subst (λ xs. place_behind 0 xs ≤ (command_at commands k).saw)
      (sym (mark_more es m (command_at commands k).stream)) (ok.past k l);
  saw = λ k l. omega (arith, ok.saw k l, length-append es (entry.Mark m ∷ []));
}

-- what a waiting operation asks stays, where fewer replicas are read and their layers are as they were
pub still_can : (s : Snapshots) (modes modes2 : List Mode) (ns ns2 : List Node) (op : WholeOp)
    → ((r : ℕ) → mode_of modes2 r ≡ Rw → mode_of modes r ≡ Rw) → ((r : ℕ) → (node_at ns2 r).layers ≡ (node_at ns r).layers)
    → CanStill s modes ns op → CanStill s modes2 ns2 op
still_can s modes modes2 ns ns2 (whole.Snapshot name) fewer same can = tt
still_can s modes modes2 ns ns2 (whole.Remove name) fewer same can = tt
still_can s modes modes2 ns ns2 (whole.Revert name) fewer same can = tt
still_can s modes modes2 ns ns2 (whole.Barrier q) fewer same can = tt
still_can s modes modes2 ns ns2 (whole.Purge f) fewer same can =
    record { can = can.can; folded = λ r e. folded f r (can.folded r (fewer r e)) }
  where
    folded : (f : FoldOrDrop) (r : ℕ) → IsFolded f (node_at ns r) → IsFolded f (node_at ns2 r)
    folded (part.Fold p c) r bare = subst (λ (ks : List Kept). IsBare ks c) (sym (same r)) bare
    folded (part.Drop p) r bare = tt

pub fits_still : (s : Snapshots) (modes modes2 : List Mode) (ns ns2 : List Node) (maint : List Ticket)
    (commands : List MaintCall) (t : Ticket) (c : OpenCall) → ((r : ℕ) → mode_of modes2 r ≡ Rw → mode_of modes r ≡ Rw)
    → ((r : ℕ) → (node_at ns2 r).layers ≡ (node_at ns r).layers) → FitsMaint s modes ns maint commands t c
    → FitsMaint s modes2 ns2 maint commands t c
fits_still s modes modes2 ns ns2 maint commands t c fewer same fit = record {
  apart = fit.apart;
  whole = λ w. let o = fit.whole w in
      record {
        op = o.op;
        is = o.is;
        asked = o.asked;
        saw = o.saw;
        still =
            λ n. still_can s modes modes2 ns ns2 o.op fewer same (o.still n);
      };
}

-- a read or a write of a stream with no command fits
pub fits_range : (s : Snapshots) (modes : List Mode) (ns : List Node) (maint : List Ticket) (commands : List MaintCall)
    (t : Ticket) (c : OpenCall) → t.kind ≢ kind.Whole → HasNoCommand c.stream commands
    → FitsMaint s modes ns maint commands t c
fits_range s modes ns maint commands t c range none = record { apart = λ k l e. absurd (none k l (sym e)); whole = λ w. absurd (range w) }

-- and has none
pub range_alone : (s : Snapshots) (modes : List Mode) (ns : List Node) (maint : List Ticket) (commands : List MaintCall)
    (t : Ticket) (c : OpenCall) → t.kind ≢ kind.Whole → FitsMaint s modes ns maint commands t c
    → HasNoCommand c.stream commands
range_alone s modes ns maint commands t c range fit k l e = range (fit.apart k l (sym e))
