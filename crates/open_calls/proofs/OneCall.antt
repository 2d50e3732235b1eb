-- Steps that change one open call, and one replica.
use Rattle.std.proofs.Common.{◌≡◌, ◌≢◌, ℕ, ◌+◌, ◌<◌, ◌≤◌, List, length, set, length-set, subst, sym, refl, ap, ◌∙◌, ⊎_elim, arith}
use Rattle.std.proofs.lemmas.Bool.{cases_lt}
use Rattle.vol_units.specs.Bytes.{bytes_at}
use Rattle.volume_model.specs.declared.entry.Entry.{Entry}
use Rattle.volume_model.specs.declared.mode.Mode.{Mode}
use Rattle.volume_model.specs.declared.mode.Mode.TheVariants.{Rw, Err}
use Rattle.volume_model.specs.PlainState.{Volume}
use Rattle.volume_model.specs.Modes.{mode_of}
use Rattle.range_turns.specs.declared.ticket.Ticket.{Ticket}
use Rattle.range_turns.specs.Order.{ticket_at, from_of, until_of}
use Rattle.replica_node.specs.Node.{Node, blank}
use Rattle.replica_node.specs.Fold.{snapshots_of}
use Rattle.replica_node.specs.Room.{put_at, HasRoom}
use Rattle.replica_node.specs.Volume.{copies_in}
use Rattle.step_answers.specs.declared.parts.Part.{Part}
use Rattle.step_answers.specs.declared.parts.Part.TheVariants.{Taken, Acked}
use Rattle.open_calls.specs.declared.open_call.OpenCall.{OpenCall}
use Rattle.step_answers.specs.Parts.{part_at, IsTaken}
use Rattle.open_calls.specs.Calls.{no_call, open_at, node_at, whole_of, with_part_at, read_from}
use Rattle.open_calls.specs.Clients.{AreClients, WritesOn, ReadsFrom, HasBytes, IsWriting, IsReading, Fits, byte_of}
use Rattle.open_calls.proofs.ByteLemmas.{length-put, get_or-put_in, get_or-put_out, same_bytes_at, length-bytes_at}
use Rattle.open_calls.proofs.ListLemmas.{each_set}
use Rattle.open_calls.proofs.FreeLemmas.{held_apart, read_free, write_no_read, write_no_whole}
use Rattle.open_calls.proofs.PartLemmas.{up_in, rw_up, taken_in, part_owed, part_was, acked_was, taken≢apart, acked≢apart}
use Rattle.open_calls.proofs.SeenLemmas.{seen_set}

-- a call with another part fits as before
fits_part : (size streams replicas r : ℕ) (t : Ticket) (c : OpenCall) (part : Part) → Fits size streams replicas t c
    → Fits size streams replicas t (with_part_at c r part)
fits_part size streams replicas r t c part f = record {
  lies = record {
    around = f.lies.around;
    up = f.lies.up;
    within = f.lies.within;
    good = f.lies.good;
    covers =
        f.lies.covers;
    empty = f.lies.empty;
  };
  stream = f.stream;
  short = f.short;
  count = f.count;
  parts = λ e n. length-set c.parts r part ∙ f.parts e n;
  buffer = f.buffer;
  whole = f.whole;
}

module _ (v : Volume) (size streams : ℕ) (entries : List Entry) (modes : List Mode) (tickets : List Ticket)
    (calls : List OpenCall) (nodes : List Node) (i r : ℕ) (ok : AreClients v size streams entries modes tickets calls nodes)
    (h : i < length tickets) where
  abbrev c : OpenCall
  c = open_at calls i

  abbrev t : Ticket
  t = ticket_at tickets i

  call_in : i < length calls
  call_in = omega (arith, ok.paired)

  -- what holds of each call, once that one is changed
  each_call : (Q : ℕ → OpenCall → Type 0) (x : OpenCall) (j : ℕ) → Q i x → (j ≢ i → Q j (open_at calls j)) → Q j (open_at (set calls i x) j)
  each_call Q x j here other = each_set Q calls i j x no_call call_in here other

  -- the replica acknowledges its part
  pub acked_clients : IsTaken (part_at c.parts r)
      → AreClients v size streams entries modes tickets (set calls i (with_part_at c r Acked)) nodes
  acked_clients mine =
      let x : OpenCall = with_part_at c r Acked in
      let part_in : r < length c.parts = taken_in c.parts r mine in
      record {
        paired = length-set calls i x ∙ ok.paired;
        order = ok.order;
        fits = λ j l. each_call (λ n y. Fits size streams (length nodes) (ticket_at tickets n) y) x j
            (fits_part size streams (length nodes) r t c Acked (ok.fits i h)) (λ _. ok.fits j l);
        agree = ok.agree;
        writes = λ j l. each_call (λ n y. IsWriting (ticket_at tickets n) → WritesOn v.disk modes nodes (ticket_at tickets n) y) x j
            (λ w. let o = ok.writes i h w in record {
              owed = λ q up. part_owed c.parts r q Acked part_in acked≢apart (o.owed q up);
              room = o.room;
              taken = λ q tk. o.taken q (acked_was c.parts r q mine tk);
              merged = o.merged;
            })
            (λ _. ok.writes j l);
        reads = λ j l. each_call (λ n y. IsReading (ticket_at tickets n) → ReadsFrom v.disk modes y) x j
            (λ w. let o = ok.reads i h w in record {
              owed = λ q up. part_owed c.parts r q Acked part_in acked≢apart (o.owed q up);
              read = λ q tk. o.read q (acked_was c.parts r q mine tk);
            })
            (λ _. ok.reads j l);
        seen = seen_set entries calls ok.seen i x call_in refl refl;
      }

  -- the replica takes the bytes of the write
  pub wrote_clients : IsWriting t → mode_of modes r ≢ Err
      → AreClients v size streams entries modes tickets (set calls i (with_part_at c r Taken))
      (set nodes r (put_at (node_at nodes r) t.range.first (whole_of c)))
  wrote_clients w up =
      let x : OpenCall = with_part_at c r Taken in
      let f = ok.fits i h in
      let a = ok.agree in
      let node_in : r < length nodes = omega (arith, up_in modes r up, a.as_many) in
      let part_in : r < length c.parts = omega (arith, f.parts w.started (write_no_whole t.kind w.writes)) in
      let old = node_at nodes r in
      let new : Node = put_at old t.range.first (whole_of c) in
      let from = from_of t in
      let whole = f.whole w in
      let long : length old.disk ≡ size = a.sizes r up in
      let fit : from + length (whole_of c) ≤ length old.disk = omega (arith, long, whole, f.lies.within) in
      let each_node = λ (Q : ℕ → Node → Type 0) (q : ℕ) (here : Q r new) (other : q ≢ r → Q q (node_at nodes q)). each_set Q
      nodes r q new (blank 0) node_in here other in
      record {
        paired = length-set calls i x ∙ ok.paired;
        order = ok.order;
        fits = λ j l. subst (λ n. Fits size streams n (ticket_at tickets j) (open_at (set calls i x) j)) (sym (length-set nodes r new))
            (each_call (λ n y. Fits size streams (length nodes) (ticket_at tickets n) y) x j
            (fits_part size streams (length nodes) r t c Taken f) (λ _. ok.fits j l));
        agree = record {
          disk = a.disk;
          as_many = a.as_many ∙ sym (length-set nodes r new);
          sizes = λ q. each_node (λ m n. mode_of modes m ≢ Err → length n.disk ≡ size) q
              (λ _. length-put old.disk from (whole_of c) fit ∙ long) (λ _. a.sizes q);
          tree = λ q. each_node (λ m n. mode_of modes m ≢ Err → snapshots_of n ≡ v.snapshots) q (a.tree r) (λ _. a.tree q);
          copies = λ q. each_node (λ m n. mode_of modes m ≡ Rw → copies_in n.layers ≡ v.copies) q (a.copies r) (λ _. a.copies q);
          bytes = λ q k e free. each_node (λ m n. mode_of modes m ≡ Rw → byte_of n.disk k ≡ byte_of v.disk k) q
              (λ e. get_or-put_out old.disk from (whole_of c) k 0 fit (λ g. omega (arith, free i h w g, whole))
              ∙ a.bytes r k e free) (λ _ e. a.bytes q k e free) e;
        };
        writes = λ j l. each_call (λ n y. IsWriting (ticket_at tickets n)
            → WritesOn v.disk modes (set nodes r new) (ticket_at tickets n) y) x j
            (λ w1. let o = ok.writes i h w1 in record {
              owed = λ q up. part_owed c.parts r q Taken part_in taken≢apart (o.owed q up);
              room = λ q. each_node (λ m n. mode_of modes m ≢ Err → HasRoom n t.range) q (o.room r) (λ _. o.room q);
              taken = λ q tk. each_node (λ m n. IsTaken (part_at x.parts m) → HasBytes t x n) q
                  (λ _ k g u. get_or-put_in old.disk from (whole_of c) k 0 fit g (omega (arith, u, whole)))
                  (λ n tk2. o.taken q (part_was c.parts r q Taken n tk2)) tk;
              merged = o.merged;
            })
            (λ n w2. let o = ok.writes j l w2 in record {
              owed = o.owed;
              room = λ q. each_node (λ m y. mode_of modes m ≢ Err → HasRoom y (ticket_at tickets j).range) q (o.room r) (λ _. o.room q);
              taken = λ q tk. each_node (λ m y. IsTaken (part_at (open_at calls j).parts m)
                  → HasBytes (ticket_at tickets j) (open_at calls j) y) q
                  (λ tk2 k g u. get_or-put_out old.disk from (whole_of c) k 0 fit
                  (λ g2. ⊎_elim (λ m. absurd (omega
                  (arith, held_apart tickets i j k ok.order.apart h l (λ e. n (sym e)) w w2.started g2 m g)))
                  (λ m. omega (arith, m, whole)) (cases_lt k (until_of t)))
                  ∙ o.taken r tk2 k g u)
                  (λ _ tk2. o.taken q tk2) tk;
              merged = o.merged;
            });
        reads = λ j l. each_call (λ n y. IsReading (ticket_at tickets n) → ReadsFrom v.disk modes y) x j
            (λ b. absurd (write_no_read t.kind w.writes b.reads)) (λ _. ok.reads j l);
        seen = seen_set entries calls ok.seen i x call_in refl refl;
      }

  -- the replica gives the bytes of the read
  pub read_clients : IsReading t → mode_of modes r ≡ Rw
      → AreClients v size streams entries modes tickets (set calls i (read_from c r (node_at nodes r))) nodes
  read_clients w rw' =
      let f = ok.fits i h in
      let a = ok.agree in
      let n = node_at nodes r in
      let up = rw_up (mode_of modes r) rw' in
      let long : length n.disk ≡ size = a.sizes r up in
      let count : length c.buffer ≡ c.length = f.buffer w in
      let part_in : r < length c.parts =
      omega (
        arith,
        f.parts w.started (Rattle.open_calls.proofs.FreeLemmas.read_no_whole t.kind w.reads),
        up_in modes r up,
        a.as_many,
      ) in
      let x : OpenCall = read_from c r n in
      let no_write = λ (b : IsWriting t). write_no_read t.kind b.writes w.reads in
      let same : bytes_at n.disk c.at (length c.buffer) ≡ bytes_at v.disk c.at c.length =
      ap (bytes_at n.disk c.at) count ∙ same_bytes_at n.disk v.disk c.at c.length (omega (arith, long, f.lies.good))
      (omega (arith, a.disk, f.lies.good))
      (λ k g u. let in' = f.lies.covers k g u in a.bytes r k rw' (read_free tickets i k ok.order.apart h w in'.0 in'.1)) in
      record {
        paired = length-set calls i x ∙ ok.paired;
        order = ok.order;
        fits = λ j l. each_call (λ n y. Fits size streams (length nodes) (ticket_at tickets n) y) x j
            (record {
              lies = record {
                around = f.lies.around;
                up = f.lies.up;
                within = f.lies.within;
                good = f.lies.good;
                covers =
                    f.lies.covers;
                empty = f.lies.empty;
              };
              stream = f.stream;
              short = f.short;
              count = f.count;
              parts = λ e m. length-set c.parts r Taken ∙ f.parts e m;
              buffer = λ b. ap length same ∙ length-bytes_at v.disk c.at c.length (omega (arith, a.disk, f.lies.good));
              whole = λ b. absurd (no_write b);
            })
            (λ _. ok.fits j l);
        agree = a;
        writes = λ j l. each_call (λ n y. IsWriting (ticket_at tickets n)
            → WritesOn v.disk modes nodes (ticket_at tickets n) y) x j (λ b. absurd (no_write b)) (λ _. ok.writes j l);
        reads = λ j l. each_call (λ n y. IsReading (ticket_at tickets n) → ReadsFrom v.disk modes y) x j
            (λ b. let o = ok.reads i h b in
            record { owed = λ q up. part_owed c.parts r q Taken part_in taken≢apart (o.owed q up); read = λ q tk. same })
            (λ _. ok.reads j l);
        seen = seen_set entries calls ok.seen i x call_in refl refl;
      }
