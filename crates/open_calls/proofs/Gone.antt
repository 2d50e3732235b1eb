-- A call is gone: it has ended, or is withdrawn; and a replica fails.
use Rattle.std.proofs.Common.{◌≡◌, ◌≢◌, ℕ, ◌+◌, ◌<◌, ◌≤◌, ⊎_elim, true, false, List, length, length-set, slice_set}
use Rattle.std.proofs.Common.{subst, sym, refl, ◌∙◌, arith}
use Rattle.std.specs.List.{remove}
use Rattle.std.proofs.lemmas.Bool.{cases_lt}
use Rattle.std.proofs.lemmas.List.Edits.{length-remove}
use Rattle.vol_units.specs.Bytes.{with_bytes_at}
use Rattle.volume_model.specs.declared.entry.Entry.{Entry}
use Rattle.volume_model.specs.declared.mode.Mode.{Mode}
use Rattle.volume_model.specs.declared.mode.Mode.TheVariants.{Rw, Err}
use Rattle.volume_model.specs.PlainState.{Volume}
use Rattle.volume_model.specs.Modes.{mode_of}
use Rattle.range_turns.specs.declared.ticket.Ticket.{Ticket}
use Rattle.range_turns.specs.Order.{ticket_at, no_ticket, from_of, until_of}
use Rattle.range_turns.proofs.OrderLemmas.{AreInOrder-remove}
use Rattle.replica_node.specs.Node.{Node}
use Rattle.open_calls.specs.declared.open_call.OpenCall.{OpenCall}
use Rattle.step_answers.specs.Parts.{part_at, is_pending_at}
use Rattle.open_calls.specs.Calls.{no_call, open_at, node_at}
use Rattle.open_calls.specs.Clients.{AreClients, AreSeen, Fits, WritesOn, ReadsFrom, IsWriting, IsReading, IsUnheld, byte_of}
use Rattle.open_calls.proofs.ByteLemmas.{length-put, get_or-put_in, get_or-put_out, same_bytes_at}
use Rattle.open_calls.proofs.ListLemmas.{skip, skip-other, skip-in, get_or-remove}
use Rattle.open_calls.proofs.FreeLemmas.{free_before, held_apart}
use Rattle.open_calls.proofs.PartLemmas.{up_in, rw_up, rw_before, up_before, taken_unless_pending}
use Rattle.open_calls.proofs.SeenLemmas.{seen_remove}

-- a byte of two disks, once the same bytes are put over both
same_merged : (d e : List ℕ) (at k : ℕ) (bytes : List ℕ) → length d ≡ length e → at + length bytes ≤ length d → byte_of d k ≡ byte_of e k
    → byte_of (with_bytes_at d at bytes) k ≡ byte_of (with_bytes_at e at bytes) k
same_merged d e at k bytes long inside same =
    let inside2 : at + length bytes ≤ length e = omega arith in
    ⊎_elim
    (λ l. get_or-put_out d at bytes k 0 inside (λ g. absurd (omega arith)) ∙ same
    ∙ sym (get_or-put_out e at bytes k 0 inside2 (λ g. absurd (omega arith))))
    (λ g. ⊎_elim
    (λ u. get_or-put_in d at bytes k 0 inside g u ∙ sym (get_or-put_in e at bytes k 0 inside2 g u))
    (λ u. get_or-put_out d at bytes k 0 inside (λ _. u) ∙ same ∙ sym (get_or-put_out e at bytes k 0 inside2 (λ _. u)))
    (cases_lt k (at + length bytes)))
    (cases_lt k at)

-- what the disk owes that is there once the call at i is gone
record IsLeft (v : Volume) (size : ℕ) (modes : List Mode) (tickets : List Ticket) (nodes : List Node) (i : ℕ) (disk : List ℕ) : Type 0 where
  long : length disk ≡ size
  bytes : (r k : ℕ) → mode_of modes r ≡ Rw → IsUnheld (remove tickets i) k → byte_of (node_at nodes r).disk k ≡ byte_of disk k
  kept : (j k : ℕ) → j ≢ i → j < length tickets → (ticket_at tickets j).started ≡ true → from_of (ticket_at tickets j) ≤ k
      → k < until_of (ticket_at tickets j)
      → byte_of disk k ≡ byte_of v.disk k

module _ (v : Volume) (size streams : ℕ) (entries : List Entry) (modes : List Mode) (tickets : List Ticket)
    (calls : List OpenCall) (nodes : List Node) (i : ℕ) (ok : AreClients v size streams entries modes tickets calls nodes)
    (h : i < length tickets) where
  abbrev c : OpenCall
  c = open_at calls i

  abbrev t : Ticket
  t = ticket_at tickets i

  call_in : i < length calls
  call_in = omega (arith, ok.paired)

  left_in : (j : ℕ) → j < length (remove tickets i) → skip i j < length tickets
  left_in j l = skip-in i j (length tickets) (omega (arith, length-remove tickets i h))

  -- what holds of a ticket and its call, for those that stay
  each_left : (Q : Ticket → OpenCall → Type 0) (j : ℕ) → Q (ticket_at tickets (skip i j)) (open_at calls (skip i j))
      → Q (ticket_at (remove tickets i) j) (open_at (remove calls i) j)
  each_left Q j q =
      subst (λ (x : Ticket). Q x (open_at (remove calls i) j)) (sym (get_or-remove tickets i j no_ticket h))
      (subst (λ (x : OpenCall). Q (ticket_at tickets (skip i j)) x) (sym (get_or-remove calls i j no_call call_in)) q)

  gone_clients : (disk : List ℕ) → IsLeft v size modes tickets nodes i disk
      → AreClients (record v { disk = disk }) size streams entries modes (remove tickets i) (remove calls i) nodes
  gone_clients disk g =
      let a = ok.agree in
      record {
        paired = omega (arith, length-remove tickets i h, length-remove calls i call_in, ok.paired);
        order = AreInOrder-remove tickets i h ok.order;
        fits = λ j l. each_left (λ x y. Fits size streams (length nodes) x y) j (ok.fits (skip i j) (left_in j l));
        agree = record { disk = g.long; as_many = a.as_many; sizes = a.sizes; tree = a.tree; copies = a.copies; bytes = g.bytes };
        writes = λ j l. each_left (λ x y. IsWriting x → WritesOn disk modes nodes x y) j
            (λ w. let o = ok.writes (skip i j) (left_in j l) w in
            let f = ok.fits (skip i j) (left_in j l) in
            let y = open_at calls (skip i j) in
            record {
              owed = o.owed;
              room = o.room;
              taken = o.taken;
              merged = λ k low high. o.merged k low high
                  ∙ sym (same_merged disk v.disk y.at k y.bytes (omega (arith, g.long, a.disk))
                  (omega (arith, g.long, f.lies.good, f.count w.writes))
                  (g.kept (skip i j) k (skip-other i j) (left_in j l) w.started low high));
            });
        reads = λ j l. each_left (λ x y. IsReading x → ReadsFrom disk modes y) j
            (λ w. let o = ok.reads (skip i j) (left_in j l) w in
            let f = ok.fits (skip i j) (left_in j l) in
            let y = open_at calls (skip i j) in
            record {
              owed = o.owed;
              read = λ r tk. o.read r tk
                  ∙ sym (same_bytes_at disk v.disk y.at y.length (omega (arith, g.long, f.lies.good)) (omega (arith, a.disk, f.lies.good))
                  (λ k b u. let in' = f.lies.covers k b u in g.kept (skip i j) k (skip-other i j) (left_in j l) w.started in'.0 in'.1));
            });
        seen = seen_remove entries calls ok.seen i call_in;
      }

  -- a call that held nothing, or where no replica is read
  pub left_clients : ((r : ℕ) → mode_of modes r ≡ Rw → IsWriting t → ⊥)
      → AreClients v size streams entries modes (remove tickets i) (remove calls i) nodes
  left_clients none = gone_clients v.disk (record {
    long = ok.agree.disk;
    bytes = λ r k e free. ok.agree.bytes r k e (free_before tickets i k h free (λ w. absurd (none r e w)));
    kept = λ j k n l s low high. refl;
  })

  -- a write that each replica has acknowledged which has not failed
  pub written_clients : IsWriting t → ((q : ℕ) → q < length nodes → is_pending_at (mode_of modes q) (part_at c.parts q) ≡ false)
      → AreClients (record v { disk = with_bytes_at v.disk c.at c.bytes }) size streams entries modes (remove tickets i)
      (remove calls i) nodes
  written_clients w acknowledged =
      let f = ok.fits i h in
      let o = ok.writes i h w in
      let a = ok.agree in
      let n : length c.bytes ≡ c.length = f.count w.writes in
      let within : c.at + length c.bytes ≤ length v.disk = omega (arith, n, f.lies.good, a.disk) in
      let all = λ (q : ℕ) (e : mode_of modes q ≡ Rw). let up = rw_up (mode_of modes q) e in
      taken_unless_pending (mode_of modes q) (part_at c.parts q) e
      (acknowledged q (omega (arith, up_in modes q up, a.as_many))) (o.owed q up) in
      let outside = λ (k : ℕ) (out : from_of t ≤ k → until_of t ≤ k). get_or-put_out v.disk c.at c.bytes k 0 within
      (λ g. ⊎_elim (λ u. let in' = f.lies.covers k g (omega (arith, n)) in
      absurd (omega (arith, out in'.0, in'.1))) (λ u. u) (cases_lt k (c.at + length c.bytes))) in
      gone_clients (with_bytes_at v.disk c.at c.bytes) (record {
        long = length-put v.disk c.at c.bytes within ∙ a.disk;
        bytes = λ r k e free. ⊎_elim
            (λ l. a.bytes r k e (free_before tickets i k h free (λ _ g. absurd (omega arith)))
            ∙ sym (outside k (λ g. absurd (omega arith))))
            (λ l. ⊎_elim
            (λ m. o.taken r (all r e) k l m ∙ o.merged k l m)
            (λ m. a.bytes r k e (free_before tickets i k h free (λ _ _. m)) ∙ sym (outside k (λ _. m)))
            (cases_lt k (until_of t)))
            (cases_lt k (from_of t));
        kept = λ j k m l s low high. outside k
            (λ g. ⊎_elim (λ u. absurd (omega (arith, held_apart tickets i j k ok.order.apart h l (λ e. m (sym e)) w s g u low)))
            (λ u. u) (cases_lt k (until_of t)));
      })

-- ---- a replica fails: what it owed it owes no more

pub failed_clients : (v : Volume) (size streams r : ℕ) (entries : List Entry) (modes : List Mode) (tickets : List Ticket)
    (calls : List OpenCall) (nodes : List Node) → mode_of modes r ≢ Err
    → AreClients v size streams entries modes tickets calls nodes
    → AreClients v size streams entries (slice_set modes r Err) tickets calls nodes
failed_clients v size streams r entries modes tickets calls nodes up ok =
    let h = up_in modes r up in
    let a = ok.agree in
    record {
      paired = ok.paired;
      order = ok.order;
      fits = ok.fits;
      agree = record {
        disk = a.disk;
        as_many = length-set modes r Err ∙ a.as_many;
        sizes = λ q n. a.sizes q (up_before modes r q h n);
        tree = λ q n. a.tree q (up_before modes r q h n);
        copies = λ q e. a.copies q (rw_before modes r q h e);
        bytes = λ q k e. a.bytes q k (rw_before modes r q h e);
      };
      writes = λ j l w. let o = ok.writes j l w in record {
        owed = λ q n. o.owed q (up_before modes r q h n);
        room = λ q n. o.room q (up_before modes r q h n);
        taken = o.taken;
        merged = o.merged;
      };
      reads = λ j l w. let o = ok.reads j l w in record { owed = λ q n. o.owed q (up_before modes r q h n); read = o.read };
      seen = ok.seen;
    }

-- ---- the journal has more entries, of which that is seen

pub seen_clients : (v : Volume) (size streams : ℕ) (entries more : List Entry) (modes : List Mode) (tickets : List Ticket)
    (calls : List OpenCall) (nodes : List Node)
    → AreSeen more calls → AreClients v size streams entries modes tickets calls nodes
    → AreClients v size streams more modes tickets calls nodes
seen_clients v size streams entries more modes tickets calls nodes seen ok =
    record { paired = ok.paired; order = ok.order; fits = ok.fits; agree = ok.agree; writes = ok.writes; reads = ok.reads; seen = seen }
