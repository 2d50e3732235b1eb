-- A call is enrolled behind all others.
use Rattle.std.proofs.Common.{◌≡◌, ℕ, ◌+◌, ◌-◌, ◌*◌, ◌/◌, ◌%◌, ◌<◌, ◌≤◌, Bool, true, false, cond, eqb, List, [], ◌∷◌}
use Rattle.std.proofs.Common.{◌++◌, length, subst, sym, refl, ◌∙◌, arith}
use Rattle.std.proofs.lemmas.Bool.{eqb-true, eqb-false}
use Rattle.std.proofs.lemmas.List.{get_or_append_left, get_or_push, length_push}
use Rattle.vol_units.specs.Range.{blocks_around}
use Rattle.volume_model.specs.declared.entry.Entry.{Entry}
use Rattle.volume_model.specs.declared.mode.Mode.{Mode}
use Rattle.volume_model.specs.PlainState.{Volume}
use Rattle.volume_model.specs.PlainStep.{longest_call}
use Rattle.range_turns.specs.declared.ticket.Ticket.{Ticket}
use Rattle.range_turns.specs.declared.ticket.Kind.TheVariants as kind
use Rattle.range_turns.specs.Order.{ticket_at, no_ticket, from_of, until_of, IsFresh}
use Rattle.range_turns.proofs.OrderLemmas.{AreInOrder-push}
use Rattle.replica_node.specs.Node.{Node}
use Rattle.open_calls.specs.declared.open_call.OpenCall.{OpenCall}
use Rattle.open_calls.specs.Calls.{no_call, open_at}
use Rattle.open_calls.specs.Clients.{AreClients, Fits, WritesOn, ReadsFrom, IsWriting, IsReading, IsIdle, behind_last}
use Rattle.open_calls.proofs.ListLemmas.{at_push}
use Rattle.open_calls.proofs.FreeLemmas.{not_both}
use Rattle.open_calls.proofs.SeenLemmas.{seen_push}

module _ (v : Volume) (size streams : ℕ) (entries : List Entry) (modes : List Mode) (tickets : List Ticket)
    (calls : List OpenCall) (nodes : List Node) (t : Ticket) (c : OpenCall)
    (ok : AreClients v size streams entries modes tickets calls nodes) (new : t.started ≡ false) where
  not_new : t.started ≡ true → ⊥
  not_new e = not_both t.started new e

  -- what holds of each ticket and its call, once these are behind them
  each_pushed : (Q : Ticket → OpenCall → Type 0) (i : ℕ) → i < length (tickets ++ t ∷ [])
      → (i < length tickets → Q (ticket_at tickets i) (open_at calls i)) → Q t c
      → Q (ticket_at (tickets ++ t ∷ []) i) (open_at (calls ++ c ∷ []) i)
  each_pushed Q i l old here =
      at_push (λ (x : Ticket). Q x (open_at (calls ++ c ∷ []) i)) tickets t i no_ticket l
      (λ m. subst (λ (y : OpenCall). Q (ticket_at tickets i) y)
      (sym (get_or_append_left calls (c ∷ []) no_call i (omega (arith, ok.paired)))) (old m))
      (λ e. subst (λ (y : OpenCall). Q t y) (sym (get_or_push calls c no_call i (sym (e ∙ sym ok.paired)))) here)

  pub enrolled_clients : IsFresh tickets t.number → Fits size streams (length nodes) t c → IsIdle c.stream calls
      → behind_last c.stream entries ≤ c.saw → c.saw ≤ length entries
      → AreClients v size streams entries modes (tickets ++ t ∷ []) (calls ++ c ∷ []) nodes
  enrolled_clients fresh fit idle past saw =
      let a = ok.agree in
      record {
        paired = omega (arith, length_push calls c, length_push tickets t, ok.paired);
        order = AreInOrder-push tickets t fresh new ok.order;
        fits = λ i l. each_pushed (Fits size streams (length nodes)) i l (ok.fits i) fit;
        agree = record {
          disk = a.disk;
          as_many = a.as_many;
          sizes = a.sizes;
          tree = a.tree;
          copies = a.copies;
          bytes = λ r k e free. a.bytes r k e (λ i l. subst (λ (x : Ticket). IsWriting x → from_of x ≤ k → until_of x ≤ k)
              (get_or_append_left tickets (t ∷ []) no_ticket i l) (free i (omega (arith, length_push tickets t))));
        };
        writes = λ i l. each_pushed (λ x y. IsWriting x → WritesOn v.disk modes nodes x y) i l (ok.writes i)
            (λ w. absurd (not_new w.started));
        reads = λ i l. each_pushed (λ x y. IsReading x → ReadsFrom v.disk modes y) i l (ok.reads i) (λ w. absurd (not_new w.started));
        seen = seen_push entries calls ok.seen c idle past saw;
      }

-- ---- a call as it is enrolled fits: the volume's size is whole blocks

around_covers : (at n k : ℕ) → at ≤ k → k < at + n → ((blocks_around at n).first * 4096 ≤ k) × (k < (blocks_around at n).end * 4096)
around_covers at n k low high = one (eqb n 0) refl
  where
    one : (b : Bool) → eqb n 0 ≡ b → (at / 4096 * 4096 ≤ k) × (k < cond b (at / 4096) ((at + n - 1) / 4096 + 1) * 4096)
    one true e = absurd (omega (arith, eqb-true n 0 e))
    one false e = (omega arith, omega arith)

around_within : (size at n blocks : ℕ) → at + n ≤ size → blocks * 4096 ≡ size
    → ((blocks_around at n).first * 4096 ≤ (blocks_around at n).end * 4096) × ((blocks_around at n).end * 4096 ≤ size)
around_within size at n blocks inside whole = one (eqb n 0) refl
  where
    one : (b : Bool) → eqb n 0 ≡ b → (at / 4096 * 4096 ≤ cond b (at / 4096) ((at + n - 1) / 4096 + 1) * 4096)
        × (cond b (at / 4096) ((at + n - 1) / 4096 + 1) * 4096 ≤ size)
    one true e = (omega arith, omega arith)
    one false e = (omega arith, omega (arith, eqb-false n 0 e))

around_empty : (at n : ℕ) → n ≡ 0 → (blocks_around at n).first * 4096 ≡ (blocks_around at n).end * 4096
around_empty at n e = rw e refl

pub enrolled_fits : (size streams replicas : ℕ) (t : Ticket) (c : OpenCall) → size % 2097152 ≡ 0
    → t.range ≡ blocks_around c.at c.length → t.started ≡ false
    → c.at + c.length ≤ size → (t.kind ≡ kind.Read → c.length ≤ longest_call)
    → (t.kind ≡ kind.Write → length c.bytes ≡ c.length) → c.stream < streams
    → Fits size streams replicas t c
enrolled_fits size streams replicas t c whole is new good short count stream =
    let blocks : size / 4096 * 4096 ≡ size = omega arith in
    let w = around_within size c.at c.length (size / 4096) good blocks in
    record {
      lies = record {
        around = is;
        up = rw is w.0;
        within = rw is w.1;
        good = good;
        covers = λ k a b. rw is (around_covers c.at c.length k a b);
        empty = λ e. rw is (around_empty c.at c.length e);
      };
      stream = stream;
      short = short;
      count = count;
      parts = λ e n. absurd (not_both t.started new e);
      buffer = λ e. absurd (not_both t.started new e.started);
      whole = λ e. absurd (not_both t.started new e.started);
    }
