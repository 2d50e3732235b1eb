-- Where no line counted a fault, a journal shows none.
use Rattle.std.proofs.Common.{◌≡◌, ℕ, suc, ◌<◌, eqb, ◌&&◌, cond, Bool, true, false, List, [], ◌∷◌, refl, sym, subst, ◌∙◌, arith, All}
use Rattle.std.proofs.lemmas.Bool.{eq-eqb, and_from, cond-true}
use Rattle.volume_model.specs.declared.entry.Entry.{Entry}
use Rattle.volume_model.specs.declared.entry.Entry.TheVariants as entry
use Rattle.volume_model.specs.declared.mark.Mark.{Mark}
use Rattle.volume_model.specs.declared.mark.Mark.TheVariants as mark
use Rattle.volume_model.specs.Faults.{NamesLine, count_first, fault_counts, RisesTo, FaultsShown}
use Rattle.load_laws.proofs.Marks.{IsNoFault}
use Rattle.load_laws.proofs.Runs.{HasNoFault}

-- what rises to nothing is nothing
pub none_rises : (ns : List ℕ) → RisesTo 0 0 ns → ns ≡ []
none_rises [] rises = refl
none_rises (n ∷ ns) rises = absurd (omega (arith, rises.0, rises.1))

none_more : (b : Bool) (n : ℕ) (ns : List ℕ) → cond b (n ∷ ns) ns ≡ [] → ns ≡ []
none_more true n ns e = absurd cc
none_more false n ns e = e

not_nil : (n : ℕ) (ns : List ℕ) → n ∷ ns ≡ [] → ⊥
not_nil n ns e = cc

-- a mark adds to the counts, or leaves them
pub none_later : (stream replica : ℕ) (m : Mark) (ns : List ℕ) → count_first stream replica m ns ≡ [] → ns ≡ []
none_later stream replica (mark.Purged part) ns e = e
none_later stream replica (mark.Fault s r n) ns e = none_more (eqb s stream && eqb r replica) n ns e
none_later stream replica (mark.Failed r) ns e = e
none_later stream replica (mark.Added r source name) ns e = e
none_later stream replica (mark.Promoted r) ns e = e
none_later stream replica (mark.Aborted r) ns e = e

-- a fault adds to those of its line
pub fault_counted : (s r n : ℕ) (ns : List ℕ) → count_first s r (mark.Fault s r n) ns ≡ n ∷ ns
fault_counted s r n ns = cond-true (eqb s s && eqb r r) (n ∷ ns) ns (and_from (eqb s s) (eqb r r) (eq-eqb s s refl) (eq-eqb r r refl))

-- of no line a count is shown
abbrev CountNone : ℕ → ℕ → List Entry → Type 0
CountNone streams replicas es = (s r : ℕ) → s < streams → r < replicas → fault_counts s r es ≡ []

-- a mark of a line of which no count is shown is no fault
none_first : (streams replicas : ℕ) (m : Mark) (es : List Entry) → NamesLine streams replicas (entry.Mark m)
    → CountNone streams replicas (entry.Mark m ∷ es) → IsNoFault (entry.Mark m)
none_first streams replicas (mark.Purged part) es named none = tt
none_first streams replicas (mark.Fault s r n) es named none =
    not_nil n (fault_counts s r es) (sym (fault_counted s r n (fault_counts s r es)) ∙ none s r named.0 named.1)
none_first streams replicas (mark.Failed r) es named none = tt
none_first streams replicas (mark.Added r source name) es named none = tt
none_first streams replicas (mark.Promoted r) es named none = tt
none_first streams replicas (mark.Aborted r) es named none = tt

-- what is so of all entries is so of those behind the first
all_behind : (P : Entry → Type 0) (e : Entry) (es : List Entry) → All P (e ∷ es) → All P es
all_behind P e es all = λ k d low. all (suc k) d (omega (arith, low))

-- so there is no fault
none_shown : (streams replicas : ℕ) (es : List Entry) → All (NamesLine streams replicas) es → CountNone streams replicas es → HasNoFault es
none_shown streams replicas [] named none = tt
none_shown streams replicas (entry.Answer a ∷ es) named none =
    (tt, none_shown streams replicas es (all_behind (NamesLine streams replicas) (entry.Answer a) es named) none)
none_shown streams replicas (entry.Mark m ∷ es) named none = (
  none_first streams replicas m es (named 0 (entry.Mark m) (omega arith)) none,
  none_shown streams replicas es (all_behind (NamesLine streams replicas) (entry.Mark m) es named)
      (λ s r low low_too. none_later s r m (fault_counts s r es) (none s r low low_too)),
)

-- where the lines counted none and the faults are of these lines
pub no_fault_shown : (streams replicas : ℕ) (counted : ℕ → ℕ → ℕ) (journal : List Entry) → All (NamesLine streams replicas) journal
    → FaultsShown counted journal → ((s r : ℕ) → s < streams → r < replicas → counted s r ≡ 0) → HasNoFault journal
no_fault_shown streams replicas counted journal named shown none = none_shown streams replicas journal named
    (λ s r low low_too. none_rises (fault_counts s r journal)
    (subst (λ n. RisesTo n 0 (fault_counts s r journal)) (none s r low low_too) (shown s r)))
