-- The entries of a stream, in a journal.
use Rattle.std.proofs.Common.{◌≡◌, ℕ, Bool, true, false, ◌&&◌, cond, eqb, List, [], ◌∷◌, ◌++◌, sym, refl, ap, ◌∙◌, eq-eqb, ne_eqb}
use Rattle.volume_model.specs.declared.entry.Answer.{Answer}
use Rattle.volume_model.specs.declared.entry.Entry.{Entry}
use Rattle.volume_model.specs.declared.entry.Entry.TheVariants as entry
use Rattle.volume_model.specs.declared.mark.Mark.TheVariants as mark
use Rattle.volume_model.specs.History.{Spot}
use Rattle.volume_model.specs.OneWorker.{behind_entries}
use Rattle.volume_model.specs.Faults.{count_first, fault_counts, last_in, last_count}
use Rattle.desk_lock.specs.Account.{Each, is_stream}
use Rattle.world_holder.specs.Laid.{stream_of}
use Rattle.stream_steps.specs.Mine.{Placed, entries_in, answer_placed, fault_placed}
use Rattle.world_holder.specs.View.{is_own, own_entries}

-- ---- own entries

pub own-append : (n : ℕ) (spot : Spot) (xs ys : List Entry) → own_entries n spot (xs ++ ys) ≡ own_entries n spot xs
    ++ own_entries n (behind_entries spot xs) ys
own-append n spot [] ys = refl
own-append n spot (x ∷ xs) ys = by (is_own n x) (record { spot = spot; entry = x }) _ _ _
    (own-append n (behind_entries spot (x ∷ [])) xs ys)
  where
    by : (b : Bool) (p : Placed) (all front back : List Placed) → all ≡ front ++ back
        → cond b (p ∷ all) all ≡ cond b (p ∷ front) front ++ back
    by true p all front back e = ap (λ l. p ∷ l) e
    by false p all front back e = e

own_one : (b : Bool) (p : Placed) → b ≡ true → cond b (p ∷ []) [] ≡ p ∷ []
own_one b p e = ap (λ x. cond x (p ∷ []) []) e

pub own_answer : (n : ℕ) (spot : Spot) (a : Answer) → a.stream ≡ n
    → own_entries n spot (entry.Answer a ∷ []) ≡ answer_placed spot a ∷ []
own_answer n spot a e = own_one (eqb a.stream n) (answer_placed spot a) (eq-eqb a.stream n e)

pub own_fault : (n r count : ℕ) (spot : Spot)
    → own_entries n spot (entry.Mark (mark.Fault n r count) ∷ []) ≡ fault_placed spot n r count ∷ []
own_fault n r count spot = own_one (eqb n n) (fault_placed spot n r count) (eq-eqb n n refl)

-- they show the faults of the stream's lines that the journal shows
pub own_counts : (n r : ℕ) (spot : Spot) (es : List Entry)
    → fault_counts n r (entries_in (own_entries n spot es)) ≡ fault_counts n r es
own_counts n r spot [] = refl
own_counts n r spot (entry.Answer a ∷ es) =
    let next = behind_entries spot (entry.Answer a ∷ []) in
    by (eqb a.stream n) (answer_placed spot a) refl (own_entries n next es) (own_counts n r next es)
  where
    by : (b : Bool) (p : Placed) → p.entry ≡ entry.Answer a → (ps : List Placed)
        → fault_counts n r (entries_in ps) ≡ fault_counts n r es
        → fault_counts n r (entries_in (cond b (p ∷ ps) ps)) ≡ fault_counts n r es
    by true p e ps h = ap (λ (x : Entry). fault_counts n r (x ∷ entries_in ps)) e ∙ h
    by false p e ps h = h
own_counts n r spot (entry.Mark (mark.Fault s q count) ∷ es) =
    let next = behind_entries spot (entry.Mark (mark.Fault s q count) ∷ []) in
    by (eqb s n) refl (own_entries n next es) (own_counts n r next es)
  where
    by : (b : Bool) → eqb s n ≡ b → (ps : List Placed) → fault_counts n r (entries_in ps) ≡ fault_counts n r es
        → fault_counts n r (entries_in (cond b (fault_placed spot s q count ∷ ps) ps)) ≡ count_first n r
        (mark.Fault s q count) (fault_counts n r es)
    by true e ps h = ap (count_first n r (mark.Fault s q count)) h
    by false e ps h = h ∙ sym (ap (λ (x : Bool). cond (x && eqb q r) (count ∷ fault_counts n r es) (fault_counts n r es)) e)
own_counts n r spot (entry.Mark (mark.Purged part) ∷ es) = own_counts n r (behind_entries spot (entry.Mark (mark.Purged part) ∷ [])) es
own_counts n r spot (entry.Mark (mark.Failed q) ∷ es) = own_counts n r (behind_entries spot (entry.Mark (mark.Failed q) ∷ [])) es
own_counts n r spot (entry.Mark (mark.Added q source name) ∷ es) =
    own_counts n r (behind_entries spot (entry.Mark (mark.Added q source name) ∷ [])) es
own_counts n r spot (entry.Mark (mark.Promoted q) ∷ es) = own_counts n r (behind_entries spot (entry.Mark (mark.Promoted q) ∷ [])) es
own_counts n r spot (entry.Mark (mark.Aborted q) ∷ es) = own_counts n r (behind_entries spot (entry.Mark (mark.Aborted q) ∷ [])) es

pub own_last : (n r : ℕ) (spot : Spot) (es : List Entry)
    → last_count n r (entries_in (own_entries n spot es)) ≡ last_count n r es
own_last n r spot es = ap (last_in 0) (own_counts n r spot es)

-- ---- others' entries do not show

same_way : (a b : ℕ) → eqb b a ≡ false → eqb a b ≡ false
same_way a b e = ne_eqb a b (λ is. true_false (sym (eq-eqb b a (sym is)) ∙ e))
  where
    true_false : true ≡ false → ⊥
    true_false x = cc

not_own : (n : ℕ) (e : Entry) → is_stream n (stream_of e) ≡ false → is_own n e ≡ false
not_own n (entry.Answer a) h = same_way a.stream n h
not_own n (entry.Mark (mark.Fault s r count)) h = same_way s n h
not_own n (entry.Mark (mark.Purged part)) h = refl
not_own n (entry.Mark (mark.Failed q)) h = refl
not_own n (entry.Mark (mark.Added q source name)) h = refl
not_own n (entry.Mark (mark.Promoted q)) h = refl
not_own n (entry.Mark (mark.Aborted q)) h = refl

pub none_shown : (n : ℕ) (spot : Spot) (es : List Entry) → Each (λ e. is_stream n (stream_of e) ≡ false) es
    → own_entries n spot es ≡ []
none_shown n spot [] h = refl
none_shown n spot (e ∷ es) h =
    let more = own_entries n (behind_entries spot (e ∷ [])) es in
    ap (λ (b : Bool). cond b (record { spot = spot; entry = e } ∷ more) more) (not_own n e h.0)
    ∙ none_shown n (behind_entries spot (e ∷ [])) es h.1
