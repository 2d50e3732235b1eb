-- Replicas fail, and the rebuilt one is promoted.
use Rattle.std.proofs.Common.{◌≡◌, ◌≢◌, ⊎_elim, ◌⊎◌, inl, inr, ℕ, ◌*◌, ◌<◌, ◌≤◌, List, length, length-set, set}
use Rattle.std.proofs.Common.{get_or-set_same, get_or-set_other, Option, None, Some, sym, ap, subst, ◌∙◌, arith}
use Rattle.std.proofs.lemmas.Bool.{cases_eq, cases_lt}
use Rattle.std.proofs.lemmas.List.{get_or_past}
use Rattle.volume_model.specs.declared.entry.Entry.{Entry}
use Rattle.volume_model.specs.declared.mode.Mode.{Mode}
use Rattle.volume_model.specs.declared.mode.Mode.TheVariants.{Rw, Wo, Err}
use Rattle.volume_model.specs.Modes.{mode_of}
use Rattle.volume_model.specs.PlainState.{Volume}
use Rattle.range_turns.specs.declared.ticket.Ticket.{Ticket}
use Rattle.replica_node.specs.Node.{Node}
use Rattle.open_calls.specs.declared.open_call.OpenCall.{OpenCall}
use Rattle.open_calls.specs.Calls.{node_at}
use Rattle.open_calls.specs.Clients.{AreClients}
use Rattle.open_calls.proofs.ListLemmas.{at_set}
use Rattle.open_calls.proofs.PartLemmas.{up_in}
use Rattle.open_calls.specs.declared.whole.Whole.{Whole}
use Rattle.open_calls.specs.Due.{forms}
use Rattle.open_rebuild.specs.Listed.{AreListed}
use Rattle.open_rebuild.specs.Rebuild.{IsReplica}
use Rattle.open_rebuild.proofs.ListedLemmas.{all_listed}
use Rattle.open_rebuild.proofs.PromoteLemmas.{promoted_agree}
use Rattle.open_rebuild.specs.declared.rebuilding.Rebuilding.{Rebuilding}
use Rattle.open_rebuild.specs.Claim.{AreRoles, listed_of, IsRebuilding, IsApart}
use Rattle.open_rebuild.proofs.RangeSteps.{up_rw, up_wo}

err≢wo : Err ≢ Wo
err≢wo e = cc

rw≢wo : Rw ≢ Wo
rw≢wo e = cc

-- ---- a replica fails

-- a replica that is rebuilt once another failed was so before, and is none that failed
wo_before : (modes : List Mode) (r q : ℕ) → mode_of (set modes r Err) q ≡ Wo → (q ≢ r) × (mode_of modes q ≡ Wo)
wo_before modes r q e =
    ⊎_elim
    (λ same. absurd (err≢wo (sym (gone (cases_lt r (length modes))) ∙ ap (mode_of (set modes r Err)) (sym same) ∙ e)))
    (λ n. (n, sym (get_or-set_other modes r q Err Err n) ∙ e))
    (cases_eq q r)
  where
    gone : (r < length modes) ⊎ (length modes ≤ r) → mode_of (set modes r Err) r ≡ Err
    gone (inl h) = get_or-set_same modes r Err Err h
    gone (inr h) = get_or_past (set modes r Err) r Err (omega (arith, length-set modes r Err, h))

-- another replica than those of a rebuild
pub other_failed : (size : ℕ) (modes : List Mode) (ts : List Ticket) (cs : List OpenCall) (w : Option Whole)
    (ns : List Node) (rebuild : Option Rebuilding) (r : ℕ) → IsApart rebuild r
    → IsRebuilding size modes ts cs w ns rebuild → IsRebuilding size (set modes r Err) ts cs w ns rebuild
other_failed size modes ts cs w ns rebuild r apart k = record { roles = go rebuild apart k.roles; claim = k.claim }
  where
    go : (o : Option Rebuilding) → IsApart o r → AreRoles modes o → AreRoles (set modes r Err) o
    go None apart roles = λ q e. roles q (wo_before modes r q e).1
    go (Some b) apart roles = record {
      target = get_or-set_other modes r b.target Err Err (λ e. apart.0 (sym e)) ∙ roles.target;
      source = get_or-set_other modes r b.source Err Err (λ e. apart.1 (sym e)) ∙ roles.source;
      only = λ q e. roles.only q (wo_before modes r q e).1;
    }

-- the source or the target: the target has failed then, and no rebuild is open
pub rebuild_failed : (size : ℕ) (modes : List Mode) (ts : List Ticket) (cs : List OpenCall) (w : Option Whole)
    (ns : List Node) (b : Rebuilding) (r : ℕ)
    → IsRebuilding size modes ts cs w ns (Some b) → IsRebuilding size (set (set modes r Err) b.target Err) ts cs w ns None
rebuild_failed size modes ts cs w ns b r k = record {
  roles = λ q e. let once = wo_before (set modes r Err) b.target q e in once.0 (k.roles.only q (wo_before modes r q once.1).1);
  claim = tt;
}

-- so it is where it is given up
pub rebuild_given_up : (size : ℕ) (modes : List Mode) (ts : List Ticket) (cs : List OpenCall) (w : Option Whole)
    (ns : List Node) (b : Rebuilding)
    → IsRebuilding size modes ts cs w ns (Some b) → IsRebuilding size (set modes b.target Err) ts cs w ns None
rebuild_given_up size modes ts cs w ns b k = record {
  roles = λ q e. let was = wo_before modes b.target q e in was.0 (k.roles.only q was.1);
  claim = tt;
}

-- ---- promotion

module _ (v : Volume) (size streams : ℕ) (es : List Entry) (modes : List Mode) (ts : List Ticket) (cs : List OpenCall)
    (w : Option Whole) (ns : List Node) (b : Rebuilding) (count : ℕ)
    (ok : AreClients v size streams es modes ts cs (forms w ns)) (k : IsRebuilding size modes ts cs w ns (Some b))
    (source : IsReplica (node_at (forms w ns) b.source) count) (target : IsReplica (node_at (forms w ns) b.target) count)
    (all : AreListed b.listed (length b.listed)) where
  up : mode_of modes b.target ≢ Err
  up = up_wo (mode_of modes b.target) k.roles.target

  inside : b.target < length modes
  inside = up_in modes b.target up

  up_after : (q : ℕ) → mode_of (set modes b.target Rw) q ≢ Err → mode_of modes q ≢ Err
  up_after q = at_set (λ (m : Mode). m ≢ Err → mode_of modes q ≢ Err) modes b.target q Rw Err inside
      (λ same _. subst (λ n. mode_of modes n ≢ Err) (sym same) up) (λ _ n. n)

  blocks : count ≡ b.pages * 512
  blocks =
      let o = k.claim in
      let u = o.under_way in
      omega (arith, u.pages, source.chained.head.size, ok.agree.sizes b.source (up_rw (mode_of modes b.source) k.roles.source))

  pub promoted_clients : AreClients v size streams es (set modes b.target Rw) ts cs (forms w ns)
  promoted_clients =
      let o = k.claim in
      let u = o.under_way in
      record {
        paired = ok.paired;
        order = ok.order;
        fits = ok.fits;
        agree = promoted_agree count b.frozen (listed_of b) v size modes ts (forms w ns) b.source b.target ok.agree
            k.roles.source inside up source target u.rebuilt
            (all_listed b.frozen b.pages count b.listed blocks u.bits all);
        writes = λ i l x. let c = ok.writes i l x in record {
          owed = λ q n. c.owed q (up_after q n);
          room = λ q n. c.room q (up_after q n);
          taken = c.taken;
          merged = c.merged;
        };
        reads = λ i l x. let c = ok.reads i l x in record { owed = λ q n. c.owed q (up_after q n); read = c.read };
        seen = ok.seen;
      }

-- and none is rebuilt any more
pub promoted_roles : (size : ℕ) (modes : List Mode) (ts : List Ticket) (cs : List OpenCall) (w : Option Whole)
    (ns : List Node) (b : Rebuilding)
    → IsRebuilding size modes ts cs w ns (Some b) → IsRebuilding size (set modes b.target Rw) ts cs w ns None
promoted_roles size modes ts cs w ns b k = record {
  roles = λ q e. ⊎_elim
      (λ same. rw≢wo (sym (get_or-set_same modes b.target Rw Err (up_in modes b.target (up_wo (mode_of modes b.target) k.roles.target)))
      ∙ ap (mode_of (set modes b.target Rw)) (sym same) ∙ e))
      (λ n. n (k.roles.only q (sym (get_or-set_other modes b.target q Rw Err n) ∙ e)))
      (cases_eq q b.target);
  claim = tt;
}
