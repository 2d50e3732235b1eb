-- Which bytes no started write holds.
use Rattle.std.proofs.Common.{◌≡◌, ◌≢◌, ℕ, ◌<◌, ◌≤◌, ⊎_elim, Bool, true, false, List, length, subst, sym, ap, ◌∙◌, arith}
use Rattle.std.specs.List.{remove}
use Rattle.std.proofs.lemmas.Bool.{cases_eq, cases_lt}
use Rattle.std.proofs.lemmas.List.Edits.{length-remove}
use Rattle.range_turns.specs.declared.ticket.Ticket.{Ticket}
use Rattle.range_turns.specs.declared.ticket.Kind.{Kind}
use Rattle.range_turns.specs.declared.ticket.Kind.TheVariants as kind
use Rattle.range_turns.specs.Order.{ticket_at, no_ticket, from_of, until_of, IsClear, AreApart}
use Rattle.range_turns.proofs.Ranges.{apart_behind, apart_before}
use Rattle.open_calls.specs.Clients.{IsWriting, IsReading, IsUnheld}
use Rattle.open_calls.proofs.ListLemmas.{skip-hit, get_or-remove}

pub not_both : (b : Bool) → b ≡ false → b ≡ true → ⊥
not_both b e f = cc

pub write_no_read : (k : Kind) → k ≡ kind.Write → k ≡ kind.Read → ⊥
write_no_read k e f = cc

pub write_no_whole : (k : Kind) → k ≡ kind.Write → k ≢ kind.Whole
write_no_whole k e f = cc

pub read_no_whole : (k : Kind) → k ≡ kind.Read → k ≢ kind.Whole
read_no_whole k e f = cc

-- a started write has no byte in common with another started ticket
pub held_apart : (ts : List Ticket) (i j k : ℕ) → AreApart ts → i < length ts → j < length ts → i ≢ j
    → IsWriting (ticket_at ts i) → (ticket_at ts j).started ≡ true
    → from_of (ticket_at ts i) ≤ k → k < until_of (ticket_at ts i) → from_of (ticket_at ts j) ≤ k → until_of (ticket_at ts j) ≤ k
held_apart ts i j k apart hi hj n w s f u g =
    ⊎_elim
    (λ l. apart_behind (ticket_at ts i) (ticket_at ts j) k (apart j hj s i l) w.writes f u g)
    (λ l. apart_before (ticket_at ts j) (ticket_at ts i) k (apart i hi w.started j (omega arith)) w.writes f u g)
    (cases_lt i j)

-- a started read's bytes are free
pub read_free : (ts : List Ticket) (i k : ℕ) → AreApart ts → i < length ts → IsReading (ticket_at ts i)
    → from_of (ticket_at ts i) ≤ k → k < until_of (ticket_at ts i) → IsUnheld ts k
read_free ts i k apart h w f u j l v g =
    ⊎_elim
    (λ m. let e : j ≢ i = λ (e : j ≡ i). write_no_read (ticket_at ts j).kind v.writes (ap (λ n. (ticket_at ts n).kind) e ∙ w.reads) in
    absurd (omega (arith, held_apart ts j i k apart l h e v w.started g m f)))
    (λ m. m)
    (cases_lt k (until_of (ticket_at ts j)))

-- so are those of a write that waits, and in whose way nothing is
pub clear_free : (ts : List Ticket) (i k : ℕ) → AreApart ts → i < length ts → IsClear ts i
    → (ticket_at ts i).started ≡ false → (ticket_at ts i).kind ≡ kind.Write
    → from_of (ticket_at ts i) ≤ k → k < until_of (ticket_at ts i) → IsUnheld ts k
clear_free ts i k apart h clear waits w f u j l v g =
    ⊎_elim
    (λ m. ⊎_elim
    (λ b. absurd (omega (arith, apart_behind (ticket_at ts j) (ticket_at ts i) k (clear j b) v.writes g m f)))
    (λ b. ⊎_elim
    (λ e. absurd (not_both (ticket_at ts j).started (ap (λ n. (ticket_at ts n).started) e ∙ waits) v.started))
    (λ n. absurd (omega (
      arith,
      apart_before (ticket_at ts i) (ticket_at ts j) k (apart j l v.started i (omega (arith, n)))
          v.writes g m f,
    )))
    (cases_eq j i))
    (cases_lt j i))
    (λ m. m)
    (cases_lt k (until_of (ticket_at ts j)))

-- a byte that is free once the ticket at i has gone, and is none that it held, was free
pub free_before : (ts : List Ticket) (i k : ℕ) → i < length ts → IsUnheld (remove ts i) k
    → (IsWriting (ticket_at ts i) → from_of (ticket_at ts i) ≤ k → until_of (ticket_at ts i) ≤ k) → IsUnheld ts k
free_before ts i k h free out j l =
    ⊎_elim
    (λ e. subst (λ (n : ℕ). IsWriting (ticket_at ts n) → from_of (ticket_at ts n) ≤ k → until_of (ticket_at ts n) ≤ k) (sym e) out)
    (λ n. let m = skip-hit i j (length ts) n l h in
    subst (λ (t : Ticket). IsWriting t → from_of t ≤ k → until_of t ≤ k)
    (get_or-remove ts i m.0 no_ticket h ∙ ap (ticket_at ts) m.2) (free m.0 (omega (arith, length-remove ts i h, m.1))))
    (cases_eq j i)
