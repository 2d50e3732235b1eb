-- What a stream adds to a journal, other streams do not see: neither answers, nor faults, nor entries of their own.
use Rattle.std.proofs.Common.{◌≡◌, ◌≢◌, ℕ, suc, Bool, true, false, cond, eqb, ◌&&◌, List, [], ◌∷◌, refl, sym, ap, ◌∙◌, ne_eqb}
use Rattle.volume_model.specs.declared.entry.Entry.{Entry}
use Rattle.volume_model.specs.declared.entry.Entry.TheVariants as entry
use Rattle.volume_model.specs.declared.mark.Mark.{Mark}
use Rattle.volume_model.specs.declared.mark.Mark.TheVariants as mark
use Rattle.volume_model.specs.Faults.{count_first, fault_counts}
use Rattle.volume_model.specs.History.{Spot, answers_from}
use Rattle.volume_model.specs.OneWorker.{behind_entries}
use Rattle.volume_core.specs.Streams.{MayAppend, MayAppendMark}
use Rattle.stream_steps.specs.Mine.{Placed}
use Rattle.world_holder.specs.View.{is_own_mark, is_own, own_entries}

-- ---- of another stream

other : (w v : ℕ) → v ≢ w → (s : ℕ) → s ≡ w → eqb s v ≡ false
other w v apart s is = ne_eqb s v (λ e. apart (sym e ∙ is))

cond_false : {A : Type 0} (b : Bool) (x y : A) → b ≡ false → cond b x y ≡ y
cond_false b x y e = ap (λ t. cond t x y) e

-- no faults
faults_mark : (w v r : ℕ) (m : Mark) (ns : List ℕ) → v ≢ w → MayAppendMark w m → count_first v r m ns ≡ ns
faults_mark w v r (mark.Purged part) ns apart own = refl
faults_mark w v r (mark.Fault s q n) ns apart own =
    cond_false (eqb s v && eqb q r) (n ∷ ns) ns (ap (λ b. b && eqb q r) (other w v apart s own))
faults_mark w v r (mark.Failed q) ns apart own = refl
faults_mark w v r (mark.Added q source name) ns apart own = refl
faults_mark w v r (mark.Promoted q) ns apart own = refl
faults_mark w v r (mark.Aborted q) ns apart own = refl

pub no_faults : (w v r : ℕ) (es : List Entry) → v ≢ w → MayAppend w es → fault_counts v r es ≡ []
no_faults w v r [] apart own = refl
no_faults w v r (entry.Answer a ∷ es) apart own = no_faults w v r es apart own.1
no_faults w v r (entry.Mark m ∷ es) apart own = faults_mark w v r m (fault_counts v r es) apart own.0 ∙ no_faults w v r es apart own.1

-- no answers
pub no_answers : (w v place : ℕ) (es : List Entry) → v ≢ w → MayAppend w es → answers_from v place es ≡ []
no_answers w v place [] apart own = refl
no_answers w v place (entry.Answer a ∷ es) apart own =
    cond_false (eqb a.stream v) ((place, a) ∷ answers_from v (suc place) es) (answers_from v (suc place) es)
    (other w v apart a.stream own.0)
    ∙ no_answers w v (suc place) es apart own.1
no_answers w v place (entry.Mark m ∷ es) apart own = no_answers w v (suc place) es apart own.1

-- no entries of its own
not_own_mark : (w v : ℕ) (m : Mark) → v ≢ w → MayAppendMark w m → is_own_mark v m ≡ false
not_own_mark w v (mark.Purged part) apart own = refl
not_own_mark w v (mark.Fault s q n) apart own = other w v apart s own
not_own_mark w v (mark.Failed q) apart own = refl
not_own_mark w v (mark.Added q source name) apart own = refl
not_own_mark w v (mark.Promoted q) apart own = refl
not_own_mark w v (mark.Aborted q) apart own = refl

pub none_own : (w v : ℕ) (spot : Spot) (es : List Entry) → v ≢ w → MayAppend w es → own_entries v spot es ≡ []
none_own w v spot [] apart own = refl
none_own w v spot (entry.Answer a ∷ es) apart own =
    let after = behind_entries spot (entry.Answer a ∷ []) in
    let more = own_entries v after es in
    cond_false (eqb a.stream v) (record { spot = spot; entry = entry.Answer a } ∷ more) more
    (other w v apart a.stream own.0) ∙ none_own w v after es apart own.1
none_own w v spot (entry.Mark m ∷ es) apart own =
    let after = behind_entries spot (entry.Mark m ∷ []) in
    let more = own_entries v after es in
    cond_false (is_own_mark v m) (record { spot = spot; entry = entry.Mark m } ∷ more) more
    (not_own_mark w v m apart own.0) ∙ none_own w v after es apart own.1

-- ---- of a stream that has no entries

pub not_some : {A : Type 0} (x : A) (xs : List A) → x ∷ xs ≡ [] → ⊥
not_some x xs e = cc

tail_none : (b : Bool) (p : Placed) (ps : List Placed) → cond b (p ∷ ps) ps ≡ [] → ps ≡ []
tail_none true p ps e = absurd (not_some p ps e)
tail_none false p ps e = e

-- the first is not its own
pub none_first : (v : ℕ) (spot : Spot) (e : Entry) (es : List Entry) → is_own v e ≡ true → own_entries v spot (e ∷ es) ≡ [] → ⊥
none_first v spot e es own none =
    let p : Placed = record { spot = spot; entry = e } in
    let more = own_entries v (behind_entries spot (e ∷ [])) es in
    not_some p more (sym (ap (λ b. cond b (p ∷ more) more) own) ∙ none)

-- and none is behind it
pub none_behind : (v : ℕ) (spot : Spot) (e : Entry) (es : List Entry) → own_entries v spot (e ∷ es) ≡ []
    → own_entries v (behind_entries spot (e ∷ [])) es ≡ []
none_behind v spot e es none =
    tail_none (is_own v e) (record { spot = spot; entry = e }) (own_entries v (behind_entries spot (e ∷ [])) es) none
