-- Places are made, and a call starts.
use Rattle.std.proofs.Common.{◌≡◌, ◌≢◌, ℕ, ◌+◌, ◌-◌, ◌<◌, ◌≤◌, ⊎_elim, true, false, List, ◌++◌, length, map, set}
use Rattle.std.proofs.Common.{length-set, subst, sym, refl, ap, ◌∙◌, arith}
use Rattle.std.proofs.lemmas.Bool.{cases_lt}
use Rattle.std.proofs.lemmas.List.{length-map, length-append, get_or_append_left, get_or-append_right}
use Rattle.vol_units.specs.Bytes.{with_bytes_at}
use Rattle.volume_model.specs.declared.entry.Entry.{Entry}
use Rattle.volume_model.specs.declared.mode.Mode.{Mode}
use Rattle.volume_model.specs.declared.mode.Mode.TheVariants.{Rw, Err}
use Rattle.volume_model.specs.PlainState.{Volume}
use Rattle.volume_model.specs.Modes.{mode_of}
use Rattle.range_turns.specs.declared.ticket.Ticket.{Ticket}
use Rattle.range_turns.specs.declared.ticket.Kind.TheVariants as kind
use Rattle.range_turns.specs.Order.{ticket_at, no_ticket, from_of, until_of, IsClear, with_started}
use Rattle.range_turns.proofs.OrderLemmas.{AreInOrder-with_started}
use Rattle.replica_node.specs.Node.{Node}
use Rattle.replica_node.specs.Fold.{snapshots_of}
use Rattle.replica_node.specs.Volume.{copies_in}
use Rattle.open_calls.specs.declared.open_call.OpenCall.{OpenCall}
use Rattle.step_answers.specs.Parts.{part_for, part_at, IsTaken}
use Rattle.open_calls.specs.Calls.{no_call, open_at, node_at, whole_of, begun}
use Rattle.open_calls.specs.Clients.{AreClients, Fits, WritesOn, ReadsFrom, IsWriting, IsReading, IsMerged, byte_of}
use Rattle.open_calls.specs.Starts.{KeepsNodes, HaveRoom, AreEdges}
use Rattle.open_calls.proofs.ByteLemmas.{get_or-put_in, get_or-put_out, get_or-bytes_at}
use Rattle.open_calls.proofs.ListLemmas.{at_set}
use Rattle.open_calls.proofs.FreeLemmas.{clear_free}
use Rattle.open_calls.proofs.PartLemmas.{rw_up, part_of, part_for_up, part_for_new}
use Rattle.open_calls.proofs.SeenLemmas.{seen_set}

-- ---- more places

pub same_keeps : (nodes : List Node) → KeepsNodes nodes nodes
same_keeps nodes = record { count = refl; same = λ r. refl; kept = λ r block e. e }

pub roomed_clients : (v : Volume) (size streams : ℕ) (entries : List Entry) (modes : List Mode) (tickets : List Ticket)
    (calls : List OpenCall) (old nodes : List Node)
    → AreClients v size streams entries modes tickets calls old → KeepsNodes old nodes
    → AreClients v size streams entries modes tickets calls nodes
roomed_clients v size streams entries modes tickets calls old nodes ok keeps =
    let a = ok.agree in
    let disk = λ (r : ℕ). ap (λ (n : Node). n.disk) (keeps.same r) in
    record {
      paired = ok.paired;
      order = ok.order;
      fits = λ i l. subst (λ n. Fits size streams n (ticket_at tickets i) (open_at calls i)) (sym keeps.count) (ok.fits i l);
      agree = record {
        disk = a.disk;
        as_many = a.as_many ∙ sym keeps.count;
        sizes = λ r e. ap length (disk r) ∙ a.sizes r e;
        tree = λ r e. ap snapshots_of (keeps.same r) ∙ a.tree r e;
        copies = λ r e. ap (λ (n : Node). copies_in n.layers) (keeps.same r) ∙ a.copies r e;
        bytes = λ r k e free. ap (λ d. byte_of d k) (disk r) ∙ a.bytes r k e free;
      };
      writes = λ i l w. let o = ok.writes i l w in record {
        owed = o.owed;
        room = λ r e block b. keeps.kept r block (o.room r e block b);
        taken = λ r t k g u. ap (λ d. byte_of d k) (disk r) ∙ o.taken r t k g u;
        merged = o.merged;
      };
      reads = ok.reads;
      seen = ok.seen;
    }

-- ---- the bytes of a write that starts

-- its blocks are the disk's, once its bytes are put there
pub edges_merge : (from until at k : ℕ) (bytes front back disk other : List ℕ)
    → AreEdges from until at (length bytes) disk front back → until ≤ length disk → at + length bytes ≤ length other
    → ((b : ℕ) → from ≤ b → b < until → byte_of disk b ≡ byte_of other b) → from ≤ k → k < until
    → byte_of ((front ++ bytes) ++ back) (k - from) ≡ byte_of (with_bytes_at other at bytes) k
edges_merge from until at k bytes front back disk other e inside within same low high =
    let start : from + length front ≡ at = e.first (omega arith) in
    let fb : length (front ++ bytes) ≡ length front + length bytes = length-append front bytes in
    let long = e.whole in
    ⊎_elim
    (λ l. get_or_append_left (front ++ bytes) back 0 (k - from) (omega (arith, fb, l, start))
    ∙ get_or_append_left front bytes 0 (k - from) (omega (arith, l, start))
    ∙ ap (λ x. byte_of x (k - from)) e.before ∙ get_or-bytes_at disk from (length front) (k - from)
    (omega (arith, long, inside)) (omega (arith, l, start))
    ∙ ap (byte_of disk) (back_to from k low) ∙ same k low high
    ∙ sym (get_or-put_out other at bytes k 0 within (λ g. absurd (omega (arith, g, l)))))
    (λ g. ⊎_elim
    (λ l. get_or_append_left (front ++ bytes) back 0 (k - from) (omega (arith, fb, l, start))
    ∙ get_or-append_right front bytes (length front) (k - from) 0 refl (omega (arith, g, start))
    ∙ ap (byte_of bytes) (shifted from (length front) at k start) ∙ sym (get_or-put_in other at bytes k 0 within g l))
    (λ m. get_or-append_right (front ++ bytes) back (length front + length bytes) (k - from) 0 fb (omega (arith, m, start))
    ∙ ap (λ x. byte_of x (k - from - (length front + length bytes))) e.behind
    ∙ get_or-bytes_at disk (at + length bytes) (length back) (k - from - (length front + length bytes))
    (omega (arith, long, start, inside)) (omega (arith, long, start, high, m))
    ∙ ap (byte_of disk) (beyond from (length front) (length bytes) at k start m) ∙ same k low high
    ∙ sym (get_or-put_out other at bytes k 0 within (λ _. m)))
    (cases_lt k (at + length bytes)))
    (cases_lt k at)
  where
    back_to : (f b : ℕ) → f ≤ b → f + (b - f) ≡ b
    back_to f b l = omega arith

    shifted : (f n a b : ℕ) → f + n ≡ a → b - f - n ≡ b - a
    shifted f n a b e = omega arith

    beyond : (f n m a b : ℕ) → f + n ≡ a → a + m ≤ b → a + m + (b - f - (n + m)) ≡ b
    beyond f n m a b e l = omega arith

-- ---- the start

module _ (v : Volume) (size streams : ℕ) (entries : List Entry) (modes : List Mode) (tickets : List Ticket)
    (calls : List OpenCall) (nodes : List Node) (i : ℕ) (front back buffer : List ℕ)
    (ok : AreClients v size streams entries modes tickets calls nodes) (h : i < length tickets)
    (waits : (ticket_at tickets i).started ≡ false) (clear : IsClear tickets i) where
  abbrev t : Ticket
  t = ticket_at tickets i

  abbrev started : Ticket
  started = record t { started = true }

  abbrev c : OpenCall
  c = open_at calls i

  abbrev x : OpenCall
  x = begun c modes front back buffer

  each_begun : (Q : ℕ → Ticket → OpenCall → Type 0) (j : ℕ) → Q i started x
      → (j ≢ i → Q j (ticket_at tickets j) (open_at calls j))
      → Q j (ticket_at (set tickets i started) j) (open_at (set calls i x) j)
  each_begun Q j here other =
      at_set (λ (y : Ticket). Q j y (open_at (set calls i x) j)) tickets i j started no_ticket h
      (λ e. at_set (Q j started) calls i j x no_call (omega (arith, ok.paired))
      (λ _. subst (λ (n : ℕ). Q n started x) (sym e) here) (λ n. absurd (n e)))
      (λ n. at_set (Q j (ticket_at tickets j)) calls i j x no_call (omega (arith, ok.paired)) (λ e. absurd (n e)) (λ _. other n))

  still : (j : ℕ) → j < length (set tickets i started) → j < length tickets
  still j l = omega (arith, length-set tickets i started)

  pub started_clients : (t.kind ≡ kind.Read → length buffer ≡ c.length)
      → (t.kind ≡ kind.Write → from_of t + length (whole_of x) ≡ until_of t)
      → (t.kind ≡ kind.Write → IsMerged v.disk t x)
      → (t.kind ≡ kind.Write → HaveRoom modes nodes t.range)
      → AreClients v size streams entries modes (with_started tickets i) (set calls i x) nodes
  started_clients count whole merged room =
      let a = ok.agree in
      let f = ok.fits i h in
      let owed = λ (q : ℕ) (up : mode_of modes q ≢ Err)
      (e : part_at (map part_for modes) q ≡ Rattle.step_answers.specs.declared.parts.Part.TheVariants.Apart). part_for_up
      (mode_of modes q) up (sym (part_of modes q) ∙ e) in
      let new = λ (q : ℕ) (tk : IsTaken (part_at (map part_for modes) q)). part_for_new (mode_of modes q)
      (subst IsTaken (part_of modes q) tk) in
      record {
        paired = length-set calls i x ∙ ok.paired ∙ sym (length-set tickets i started);
        order = AreInOrder-with_started tickets i clear ok.order;
        fits = λ j l. each_begun (λ n y z. Fits size streams (length nodes) y z) j
            (record {
              lies = record {
                around = f.lies.around;
                up = f.lies.up;
                within = f.lies.within;
                good = f.lies.good;
                covers =
                    f.lies.covers;
                empty = f.lies.empty;
              };
              stream = f.stream;
              short = f.short;
              count = f.count;
              parts = λ _ _. length-map modes part_for ∙ a.as_many;
              buffer = λ e. count e.reads;
              whole = λ e. whole e.writes;
            })
            (λ _. ok.fits j (still j l));
        agree = record {
          disk = a.disk;
          as_many = a.as_many;
          sizes = a.sizes;
          tree = a.tree;
          copies = a.copies;
          bytes = λ r k e free. a.bytes r k e
              (λ j l. at_set (λ (y : Ticket). (IsWriting y → from_of y ≤ k → until_of y ≤ k)
              → IsWriting (ticket_at tickets j) → from_of (ticket_at tickets j) ≤ k → until_of (ticket_at tickets j) ≤ k)
              tickets i j started no_ticket h
              (λ e. subst (λ (n : ℕ). (IsWriting started → from_of started ≤ k → until_of started ≤ k)
              → IsWriting (ticket_at tickets n) → from_of (ticket_at tickets n) ≤ k → until_of (ticket_at tickets n) ≤ k)
              (sym e) (λ g w. g (record { started = refl; writes = w.writes })))
              (λ _ g. g)
              (free j (omega (arith, length-set tickets i started))));
        };
        writes = λ j l. each_begun (λ n y z. IsWriting y → WritesOn v.disk modes nodes y z) j
            (λ w. record { owed = owed; room = room w.writes; taken = λ q tk. absurd (new q tk); merged = merged w.writes })
            (λ _. ok.writes j (still j l));
        reads = λ j l. each_begun (λ n y z. IsReading y → ReadsFrom v.disk modes z) j
            (λ w. record { owed = owed; read = λ q tk. absurd (new q tk) })
            (λ _. ok.reads j (still j l));
        seen = seen_set entries calls ok.seen i x (omega (arith, ok.paired)) refl refl;
      }

  -- with edges that a replica gave which is read, before places were made
  pub begun_clients : (source : ℕ) (old : List Node) → AreClients v size streams entries modes tickets calls old → mode_of modes source ≡ Rw
      → (t.kind ≡ kind.Read → length buffer ≡ c.length)
      → (t.kind ≡ kind.Write → AreEdges (from_of t) (until_of t) c.at (length c.bytes) (node_at old source).disk front back)
      → (t.kind ≡ kind.Write → HaveRoom modes nodes t.range)
      → AreClients v size streams entries modes (with_started tickets i) (set calls i x) nodes
  begun_clients source old before rw' count edges room =
      let f = ok.fits i h in
      let up = rw_up (mode_of modes source) rw' in
      started_clients count
      (λ w. omega (arith, (edges w).whole, length-append (front ++ c.bytes) back, length-append front c.bytes))
      (λ w k low high. edges_merge (from_of t) (until_of t) c.at k c.bytes front back (node_at old source).disk v.disk (edges w)
      (omega (arith, f.lies.within, before.agree.sizes source up)) (omega (arith, f.lies.good, f.count w, ok.agree.disk))
      (λ b g u. before.agree.bytes source b rw' (clear_free tickets i b ok.order.apart h clear waits w g u)) low high)
      room
