-- What reads and writes keep of a rebuild, from their enrolment to their end.
use Rattle.std.proofs.Common.{◌≡◌, ◌≢◌, ⊎_elim, inl, inr, ℕ, ◌+◌, ◌-◌, ◌*◌, ◌<◌, ◌≤◌, true, false, List, [], ◌∷◌}
use Rattle.std.proofs.Common.{◌++◌, length, length-set, set, Option, None, refl, sym, ap, subst, ◌∙◌, arith}
use Rattle.std.specs.List.{remove}
use Rattle.std.proofs.lemmas.Bool.{cases_lt}
use Rattle.std.proofs.lemmas.List.{get_or_append_left, length_push}
use Rattle.volume_model.specs.declared.entry.Entry.{Entry}
use Rattle.volume_model.specs.declared.mode.Mode.{Mode}
use Rattle.volume_model.specs.declared.mode.Mode.TheVariants.{Rw, Wo, Err}
use Rattle.volume_model.specs.PlainState.{Volume}
use Rattle.volume_model.specs.Modes.{mode_of}
use Rattle.range_turns.specs.declared.ticket.Ticket.{Ticket}
use Rattle.range_turns.specs.Order.{ticket_at, no_ticket, from_of, until_of, with_started}
use Rattle.replica_node.specs.Node.{Node, blank}
use Rattle.replica_node.specs.Held.{IsChained}
use Rattle.replica_node.specs.Room.{head_block, put_at}
use Rattle.open_calls.specs.declared.open_call.OpenCall.{OpenCall}
use Rattle.step_answers.specs.declared.parts.Part.TheVariants.{Taken}
use Rattle.open_calls.specs.Calls.{no_call, open_at, node_at, whole_of, with_part_at, begun}
use Rattle.open_calls.specs.Clients.{AreClients, IsWriting}
use Rattle.step_answers.specs.Parts.{part_at, is_pending_at, IsTaken}
use Rattle.open_calls.specs.Starts.{KeepsNodes}
use Rattle.open_calls.proofs.FreeLemmas.{free_before, not_both}
use Rattle.open_calls.proofs.ListLemmas.{at_set, each_set}
use Rattle.open_calls.proofs.PartLemmas.{up_in, part_was, part_of, part_for_new}
use Rattle.open_calls.specs.declared.whole.Whole.{Whole}
use Rattle.open_calls.specs.Due.{forms}
use Rattle.open_calls.proofs.Forms.{done_part}
use Rattle.open_calls.proofs.Kept.{each_push, each_left}
use Rattle.open_rebuild.specs.Rebuild.{IsFreeBlock, HasPut}
use Rattle.open_rebuild.proofs.WriteLemmas.{put_inside, put_outside}
use Rattle.open_rebuild.specs.declared.rebuilding.Rebuilding.{Rebuilding}
use Rattle.open_rebuild.specs.Claim.{HasRoles, HasWrite, IsKeptBy, AreWritesKept, IsUnderWay, IsRebuilding}
use Rattle.open_rebuild.proofs.UnderWay.{each_rebuild, HasLayers, moved, IsOutside, free_outside, other_outside}

-- ---- a replica takes a write

module _ (v : Volume) (size streams : ℕ) (es : List Entry) (modes : List Mode) (ts : List Ticket) (cs : List OpenCall)
    (ns : List Node) (i r count : ℕ) (ok : AreClients v size streams es modes ts cs ns)
    (h : i < length ts) (w : IsWriting (ticket_at ts i)) (up : mode_of modes r ≢ Err) (chained : IsChained (node_at ns r) count) where
  abbrev t : Ticket
  t = ticket_at ts i

  abbrev c : OpenCall
  c = open_at cs i

  abbrev x : OpenCall
  x = with_part_at c r Taken

  abbrev old : Node
  old = node_at ns r

  abbrev new : Node
  new = put_at old t.range.first (whole_of c)

  abbrev blocks : ℕ
  blocks = t.range.end - t.range.first

  node_in : r < length ns
  node_in = omega (arith, up_in modes r up, ok.agree.as_many)

  call_in : i < length cs
  call_in = omega (arith, h, ok.paired)

  in_order : t.range.first ≤ t.range.end
  in_order = let f = ok.fits i h in let e = f.whole w in omega (arith, e)

  long : length (whole_of c) ≡ blocks * 4096
  long = let f = ok.fits i h in let e = f.whole w in omega (arith, e, in_order)

  inside : t.range.first + blocks ≤ count
  inside = let f = ok.fits i h in let e = f.lies.within in omega (arith, in_order, e, ok.agree.sizes r up, chained.head.size)

  is_put : HasPut new t.range.first blocks (whole_of c)
  is_put = put_inside old t.range.first (whole_of c) count blocks chained long inside

  stays : (block : ℕ) → IsOutside t block → head_block new block ≡ head_block old block
  stays block out =
      put_outside old t.range.first (whole_of c) count blocks chained long inside block
      (⊎_elim (λ l. inl l) (λ l. inr (omega (arith, l, in_order))) out)

  each_node : (Q : ℕ → Node → Type 0) (q : ℕ) → Q r new → (q ≢ r → Q q (node_at ns q)) → Q q (node_at (set ns r new) q)
  each_node Q q here other = each_set Q ns r q new (blank 0) node_in here other

  layers : (q : ℕ) → HasLayers (node_at ns q) (node_at (set ns r new) q)
  layers q = each_node (λ m n. HasLayers (node_at ns m) n) q (record { layers = refl; on = refl; number = refl })
      (λ _. record { layers = refl; on = refl; number = refl })

  free_head : (q block : ℕ) → IsFreeBlock ts block → head_block (node_at (set ns r new) q) block ≡ head_block (node_at ns q) block
  free_head q block free = each_node (λ m n. head_block n block ≡ head_block (node_at ns m) block) q
      (stays block (free_outside ts i block h w free)) (λ _. refl)

  kept : AreWritesKept ts cs ns → AreWritesKept ts (set cs i x) (set ns r new)
  kept k j l =
      each_set (λ n y. IsKeptBy (set ns r new) (ticket_at ts n) y) cs i j x no_call call_in
      (λ _ q tk. each_node (λ m n. IsTaken (part_at x.parts m) → HasWrite t x n) q (λ _. is_put)
      (λ n tk2. k i h w q (part_was c.parts r q Taken n tk2)) tk)
      (λ n w2 q tk. each_node (λ m y. IsTaken (part_at (open_at cs j).parts m) → HasWrite (ticket_at ts j) (open_at cs j) y) q
      (λ tk2 block f u. stays block (other_outside ts i j block ok.order.apart h l (λ e. n (sym e)) w w2.started f
      (omega (arith, f, u))) ∙ k j l w2 r tk2 block f u)
      (λ _ tk2. k j l w2 q tk2) tk)

  pub wrote : (rebuild : Option Rebuilding) → IsRebuilding size modes ts cs None ns rebuild
      → IsRebuilding size modes ts (set cs i x) None (set ns r new) rebuild
  wrote rebuild k =
      each_rebuild size modes ts ts cs (set cs i x) None None ns (set ns r new) rebuild
      (λ b _ _ o. let u = o.under_way in record {
        under_way = moved size ts ts cs (set cs i x) ns (set ns r new) b (layers b.source) (layers b.target)
            (λ block f. free_head b.target block f ∙ u.rebuilt.head block f ∙ sym (free_head b.source block f)) (kept u.writes) u;
        beside = o.beside;
      })
      k

-- ---- what leaves heads as they are

module _ (size : ℕ) (modes : List Mode) (ts us : List Ticket) (cs ds : List OpenCall) (w : Option Whole) (ns : List Node)
    (rebuild : Option Rebuilding) where
  -- other tickets and calls, which hold the same blocks
  pub other_calls : ((block : ℕ) → IsFreeBlock us block → IsFreeBlock ts block)
      → (AreWritesKept ts cs (forms w ns) → AreWritesKept us ds (forms w ns))
      → IsRebuilding size modes ts cs w ns rebuild → IsRebuilding size modes us ds w ns rebuild
  other_calls free kept k =
      each_rebuild size modes ts us cs ds w w ns ns rebuild
      (λ b _ _ o. let u = o.under_way in record {
        under_way = moved size ts us cs ds (forms w ns) (forms w ns) b (record { layers = refl; on = refl; number = refl })
            (record { layers = refl; on = refl; number = refl })
            (λ block f. u.rebuilt.head block (free block f)) (kept u.writes) u;
        beside = o.beside;
      })
      k

-- a replica has its step of a call that is no write, or acknowledges one that it had
pub call_changed : (size : ℕ) (modes : List Mode) (ts : List Ticket) (cs : List OpenCall) (w : Option Whole)
    (ns : List Node) (rebuild : Option Rebuilding) (i : ℕ) (x : OpenCall) → i < length cs → i < length ts
    → whole_of x ≡ whole_of (open_at cs i)
    → (IsWriting (ticket_at ts i) → (q : ℕ) → IsTaken (part_at x.parts q) → IsTaken (part_at (open_at cs i).parts q))
    → IsRebuilding size modes ts cs w ns rebuild → IsRebuilding size modes ts (set cs i x) w ns rebuild
call_changed size modes ts cs w ns rebuild i x in_calls h same was =
    other_calls size modes ts ts cs (set cs i x) w ns rebuild (λ block f. f)
    (λ k j l. each_set (λ n y. IsKeptBy (forms w ns) (ticket_at ts n) y) cs i j x no_call in_calls
    (λ writes q tk. subst (λ bytes. HasPut (node_at (forms w ns) q) (ticket_at ts i).range.first
    ((ticket_at ts i).range.end - (ticket_at ts i).range.first) bytes) (sym same) (k i h writes q (was writes q tk)))
    (λ _. k j l))

-- a call is enrolled
pub call_enrolled : (size : ℕ) (modes : List Mode) (ts : List Ticket) (cs : List OpenCall) (w : Option Whole)
    (ns : List Node) (rebuild : Option Rebuilding) (t : Ticket) (c : OpenCall) → length cs ≡ length ts → t.started ≡ false
    → IsRebuilding size modes ts cs w ns rebuild → IsRebuilding size modes (ts ++ t ∷ []) (cs ++ c ∷ []) w ns rebuild
call_enrolled size modes ts cs w ns rebuild t c paired waits =
    other_calls size modes ts (ts ++ t ∷ []) cs (cs ++ c ∷ []) w ns rebuild
    (λ block f j l. subst (λ (x : Ticket). IsWriting x → from_of x ≤ block * 4096 → until_of x ≤ block * 4096)
    (get_or_append_left ts (t ∷ []) no_ticket j l) (f j (omega (arith, l, length_push ts t))))
    (λ k. each_push (IsKeptBy (forms w ns)) ts cs t c paired k (λ writes. absurd (not_both t.started waits writes.started)))

-- a call is gone that was no started write
pub call_gone : (size : ℕ) (modes : List Mode) (ts : List Ticket) (cs : List OpenCall) (w : Option Whole) (ns : List Node)
    (rebuild : Option Rebuilding) (i : ℕ) → length cs ≡ length ts → i < length ts
    → (IsWriting (ticket_at ts i) → ⊥) → IsRebuilding size modes ts cs w ns rebuild
    → IsRebuilding size modes (remove ts i) (remove cs i) w ns rebuild
call_gone size modes ts cs w ns rebuild i paired h none =
    other_calls size modes ts (remove ts i) cs (remove cs i) w ns rebuild
    (λ block f. free_before ts i (block * 4096) h f (λ writes. absurd (none writes)))
    (λ k. each_left (IsKeptBy (forms w ns)) ts cs i paired h k)

-- ---- a call on a range starts

module _ (size : ℕ) (modes : List Mode) (ts : List Ticket) (cs : List OpenCall) (ns ms : List Node)
    (rebuild : Option Rebuilding) (i : ℕ) (front back buffer : List ℕ) (in_calls : i < length cs) (h : i < length ts)
    (keeps : KeepsNodes ns ms) where
  abbrev y : OpenCall
  y = begun (open_at cs i) modes front back buffer

  abbrev started : Ticket
  started = record (ticket_at ts i) { started = true }

  same_layers : (q : ℕ) → HasLayers (node_at ns q) (node_at ms q)
  same_layers q = record {
    layers = ap (λ (n : Node). n.layers) (keeps.same q);
    on = ap (λ (n : Node). n.on) (keeps.same q);
    number = ap (λ (n : Node). n.number) (keeps.same q);
  }

  same_head : (q block : ℕ) → head_block (node_at ms q) block ≡ head_block (node_at ns q) block
  same_head q block = ap (λ (n : Node). head_block n block) (keeps.same q)

  was_free : (block : ℕ) → IsFreeBlock (with_started ts i) block → IsFreeBlock ts block
  was_free block f j l =
      at_set (λ (x : Ticket). (IsWriting x → from_of x ≤ block * 4096 → until_of x ≤ block * 4096)
      → IsWriting (ticket_at ts j) → from_of (ticket_at ts j) ≤ block * 4096 → until_of (ticket_at ts j) ≤ block * 4096)
      ts i j started no_ticket h
      (λ e. subst (λ (n : ℕ). (IsWriting started → from_of started ≤ block * 4096 → until_of started ≤ block * 4096)
      → IsWriting (ticket_at ts n) → from_of (ticket_at ts n) ≤ block * 4096 → until_of (ticket_at ts n) ≤ block * 4096)
      (sym e)
      (λ g w. g (record { started = refl; writes = w.writes })))
      (λ _ g. g)
      (f j (omega (arith, l, length-set ts i started)))

  kept_begun : AreWritesKept ts cs ns → AreWritesKept (with_started ts i) (set cs i y) ms
  kept_begun k j l =
      at_set (λ (x : Ticket). IsKeptBy ms x (open_at (set cs i y) j)) ts i j started no_ticket h
      (λ e. at_set (IsKeptBy ms started) cs i j y no_call in_calls
      (λ _ _ q tk. absurd (part_for_new (mode_of modes q) (subst IsTaken (part_of modes q) tk))) (λ n. absurd (n e)))
      (λ n. at_set (IsKeptBy ms (ticket_at ts j)) cs i j y no_call in_calls (λ e. absurd (n e))
      (λ _ writes q tk block f u. same_head q block ∙ k j (omega (arith, l, length-set ts i started)) writes q tk block f u))

  pub call_started : IsRebuilding size modes ts cs None ns rebuild
      → IsRebuilding size modes (with_started ts i) (set cs i y) None ms rebuild
  call_started =
      each_rebuild size modes ts (with_started ts i) cs (set cs i y) None None ns ms rebuild
      (λ b _ _ o. let u = o.under_way in record {
        under_way = moved size ts (with_started ts i) cs (set cs i y) ns ms b (same_layers b.source) (same_layers b.target)
            (λ block f. same_head b.target block ∙ u.rebuilt.head block (was_free block f) ∙ sym (same_head b.source block))
            (kept_begun u.writes) u;
        beside = o.beside;
      })

-- ---- a write ends

pub up_rw : (m : Mode) → m ≡ Rw → m ≢ Err
up_rw m e f = cc

pub up_wo : (m : Mode) → m ≡ Wo → m ≢ Err
up_wo m e f = cc

module _ (v : Volume) (size streams : ℕ) (es : List Entry) (modes : List Mode) (ts : List Ticket) (cs : List OpenCall)
    (ns : List Node) (i : ℕ) (ok : AreClients v size streams es modes ts cs ns)
    (h : i < length ts) (w : IsWriting (ticket_at ts i))
    (acknowledged : (q : ℕ) → q < length ns → is_pending_at (mode_of modes q) (part_at (open_at cs i).parts q) ≡ false)
  where
    is_taken : (q : ℕ) → mode_of modes q ≢ Err → IsTaken (part_at (open_at cs i).parts q)
    is_taken q up =
        let o = ok.writes i h w in
        subst IsTaken (sym (done_part (mode_of modes q) (part_at (open_at cs i).parts q) up
        (acknowledged q (omega (arith, up_in modes q up, ok.agree.as_many))) (o.owed q up))) tt

    -- both have its blocks, which are free from now on
    same_heads : (b : Rebuilding) → HasRoles modes b → IsUnderWay size ts cs ns b → (block : ℕ)
        → IsFreeBlock (remove ts i) block → head_block (node_at ns b.target) block ≡ head_block (node_at ns b.source) block
    same_heads b roles u block f =
        ⊎_elim
        (λ l. u.rebuilt.head block (free_before ts i (block * 4096) h f (λ _ g. absurd (omega (arith, l, g)))))
        (λ g. ⊎_elim
        (λ l. u.writes i h w b.target (is_taken b.target (up_wo (mode_of modes b.target) roles.target)) block g (omega (arith, l, g))
        ∙ sym (u.writes i h w b.source (is_taken b.source (up_rw (mode_of modes b.source) roles.source)) block g (omega (arith, l, g))))
        (λ l. u.rebuilt.head block (free_before ts i (block * 4096) h f (λ _ _. omega (arith, l))))
        (cases_lt block (ticket_at ts i).range.end))
        (cases_lt block (ticket_at ts i).range.first)

    pub write_ended : (rebuild : Option Rebuilding) → IsRebuilding size modes ts cs None ns rebuild
        → IsRebuilding size modes (remove ts i) (remove cs i) None ns rebuild
    write_ended rebuild =
        each_rebuild size modes ts (remove ts i) cs (remove cs i) None None ns ns rebuild
        (λ b _ roles o. let u = o.under_way in record {
          under_way = moved size ts (remove ts i) cs (remove cs i) ns ns b
              (record { layers = refl; on = refl; number = refl }) (record { layers = refl; on = refl; number = refl })
              (same_heads b roles u) (each_left (IsKeptBy ns) ts cs i ok.paired h u.writes) u;
          beside = o.beside;
        })
