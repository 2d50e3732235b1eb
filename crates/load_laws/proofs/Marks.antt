-- A mark: it is the control stream's next, behind what it comes of.
use Rattle.std.proofs.Common.{◌≡◌, ◌≢◌, ℕ, zero, suc, ◌<◌, eqb, cond, Bool, true, false, List, [], ◌∷◌, length}
use Rattle.std.proofs.Common.{refl, sym, ap, subst, ◌∙◌, arith, ⊎_elim}
use Rattle.std.specs.Fmt.{digits}
use Rattle.std.proofs.lemmas.Bool.{eqb-true}
use Rattle.vol_units.specs.Name.{sys_name}
use Rattle.volume_model.specs.declared.command.Command.TheVariants as command
use Rattle.volume_model.specs.declared.call.Call.{Call}
use Rattle.volume_model.specs.declared.call.Call.TheVariants as call
use Rattle.volume_model.specs.declared.entry.Entry.{Entry}
use Rattle.volume_model.specs.declared.entry.Entry.TheVariants as entry
use Rattle.volume_model.specs.declared.mark.Mark.{Mark}
use Rattle.volume_model.specs.declared.mark.Mark.TheVariants as mark
use Rattle.volume_model.specs.declared.mark.Rebuild.{Rebuild}
use Rattle.volume_model.specs.declared.mark.Rebuild.TheVariants as rebuild
use Rattle.volume_model.specs.declared.mode.Mode.{Mode}
use Rattle.volume_model.specs.declared.mode.Mode.TheVariants.{Rw, Wo, Err}
use Rattle.volume_model.specs.Marks.{after_mark}
use Rattle.volume_model.specs.Modes.{mode_of, modes_after_mark}
use Rattle.volume_model.specs.Rebuilds.{rebuild_of, rebuild_after_mark, AddComes, MayBegin, MayPromote, IsBehindFall, StandsBehindFall}
use Rattle.volume_model.specs.History.{FailsNext, MayStand}
use Rattle.load_laws.specs.Load.{fresh}
use Rattle.load_laws.proofs.Phases.{Phase, Begins, Taken, Falls, Fallen, Opened, Promoted, Rebuilt, Removed, Folded, Ends}
use Rattle.load_laws.proofs.Phases.{own_name, calls_left, mode_in, rebuild_in, state_in, modes_in}
use Rattle.load_laws.proofs.Phases.{rebuild_at, IsCalm, Is, Stands, GoesOn}
use Rattle.load_laws.proofs.Calls.{left_mark, fails_next}
use Rattle.load_laws.proofs.MarkSteps.{goes_by, could_in}
use Rattle.load_laws.proofs.PurgedMarks.{goes_by_purged}

-- the entry is no fault
abbrev pub IsNoFault : Entry → Type 0
IsNoFault (entry.Mark (mark.Fault stream replica count)) = ⊥
IsNoFault e = Unit {0}

-- ---- a replica that was told to fail

-- two lists of calls that begin with a fail, and are one, tell of one replica
same_number : (r q : ℕ) (rest more : List Call) → call.Command (command.Fail r) ∷ rest ≡ call.Command (command.Fail q) ∷ more → r ≡ q
same_number r q rest more e = cc

-- the control stream's next call is no fail
abbrev IsNoFail : List Call → Type 0
IsNoFail cs = (r : ℕ) (rest : List Call) → cs ≡ call.Command (command.Fail r) ∷ rest → ⊥

no_fail_left : (c : Call) (cs : List Call) → ((r : ℕ) → c ≡ call.Command (command.Fail r) → ⊥) → IsNoFail (c ∷ cs)
no_fail_left c cs other r rest e = other r (heads e)
  where
    heads : c ∷ cs ≡ call.Command (command.Fail r) ∷ rest → c ≡ call.Command (command.Fail r)
    heads e = cc

-- replica 1 fails as its command comes
goes_by_failed : (slices : ℕ) (blank : List ℕ) (p : Phase) (disk : List ℕ) (before es : List Entry) (r : ℕ) (rest : List Call)
    → Stands slices blank p disk before (entry.Mark (mark.Failed r) ∷ es) → mode_of (modes_in p) r ≢ Err
    → calls_left p ≡ call.Command (command.Fail r) ∷ rest → FailsNext r es
    → GoesOn slices blank p disk before (entry.Mark (mark.Failed r)) es
goes_by_failed slices blank Begins disk before es r rest at up left next = absurd (no_fail_left _ _ (λ q e. cc) r rest left)
goes_by_failed slices blank Taken disk before es r rest at up left next =
    let one : 1 ≡ r = same_number 1 r _ rest left in
    goes_by slices blank Taken Falls disk before es (mark.Failed r) at.is.copies at refl
    (ap (λ n. modes_after_mark (modes_in Taken) (mark.Failed n)) (sym one)) (λ q. refl) (λ q falls. tt) refl
    (subst (λ n. FailsNext n es) (sym one) next)
goes_by_failed slices blank Falls disk before es r rest at up left next =
    let one : 1 ≡ r = same_number 1 r _ rest left in
    absurd (up (ap (mode_of (modes_in Falls)) (sym one)))
goes_by_failed slices blank Fallen disk before es r rest at up left next = absurd (no_fail_left _ _ (λ q e. cc) r rest left)
goes_by_failed slices blank Opened disk before es r rest at up left next = absurd (no_fail_left _ _ (λ q e. cc) r rest left)
goes_by_failed slices blank Promoted disk before es r rest at up left next = absurd (no_fail_left _ _ (λ q e. cc) r rest left)
goes_by_failed slices blank Rebuilt disk before es r rest at up left next = absurd (no_fail_left _ _ (λ q e. cc) r rest left)
goes_by_failed slices blank Removed disk before es r rest at up left next = absurd (no_fail_left _ _ (λ q e. cc) r rest left)
goes_by_failed slices blank Folded disk before es r rest at up left next = absurd (no_fail_left _ _ (λ q e. cc) r rest left)
goes_by_failed slices blank Ends disk before es r rest at up left next = absurd (cc)

-- ---- a rebuild that begins

-- the rebuild's own snapshot, of the head of number 1
pub own_is : sys_name 1 ≡ own_name
unfolding digits
own_is = refl

rw≢err : Rw ≢ Err
rw≢err e = cc

wo≢err : Wo ≢ Err
wo≢err e = cc

err≢rw : Err ≢ Rw
err≢rw e = cc

-- of two replicas, the first of which is read, the second alone can have failed
second_failed : (m : Mode) (r : ℕ) → r < 2 → mode_of (Rw ∷ m ∷ []) r ≡ Err → (r ≡ 1) × (m ≡ Err)
second_failed m zero low failed = absurd (rw≢err failed)
second_failed m (suc zero) low failed = (refl, failed)
second_failed m (suc (suc r)) low failed = absurd (omega (arith, low))

-- and where it has, the first is the source
first_read : (s : ℕ) → mode_of (Rw ∷ Err ∷ []) s ≡ Rw → s ≡ 0
first_read zero read = refl
first_read (suc zero) read = absurd (err≢rw read)
first_read (suc (suc s)) read = absurd (err≢rw read)

-- how far the rebuild of a replica is as that of replica 1 begins
begun_once : (b : Bool) → cond b (rebuild.Open 0) (cond b rebuild.Unasked rebuild.Unasked) ≡ cond b (rebuild.Open 0) rebuild.Unasked
begun_once true = refl
begun_once false = refl

-- the rebuild of replica 1 begins, from replica 0
begins : (slices : ℕ) (blank disk : List ℕ) (before es : List Entry) (r s : ℕ) (name : List ℕ)
    → Stands slices blank Fallen disk before (entry.Mark (mark.Added r s name) ∷ es) → r ≡ 1 → s ≡ 0 → name ≡ own_name
    → GoesOn slices blank Fallen disk before (entry.Mark (mark.Added r s name)) es
begins slices blank disk before es r s name at one first own =
    let same : mark.Added r s name ≡ mark.Added 1 0 own_name = parts r 1 s 0 name own_name one first own in
    goes_by slices blank Fallen Opened disk before es (mark.Added r s name) _ at
    (ap (after_mark (state_in Fallen disk at.is.copies)) same) (ap (modes_after_mark (modes_in Fallen)) same)
    (λ q. ap (rebuild_after_mark q (length before) (rebuild_at Fallen q)) same ∙ begun_once (eqb 1 q)) (λ q falls. falls) refl tt
  where
    parts : (a b c d : ℕ) (n k : List ℕ) → a ≡ b → c ≡ d → n ≡ k → mark.Added a c n ≡ mark.Added b d k
    parts a b c d n k e f g = cc

-- that is so where replica 1 has failed, and its fail was answered
goes_by_added : (slices : ℕ) (blank : List ℕ) (p : Phase) (disk : List ℕ) (before es : List Entry) (r s : ℕ) (name : List ℕ)
    (at : Stands slices blank p disk before (entry.Mark (mark.Added r s name) ∷ es))
    → MayBegin (modes_in p) (state_in p disk at.is.copies) before r s name → mode_in p ≡ Err
    → GoesOn slices blank p disk before (entry.Mark (mark.Added r s name)) es
goes_by_added slices blank Begins disk before es r s name at may failed = absurd (rw≢err failed)
goes_by_added slices blank Taken disk before es r s name at may failed = absurd (rw≢err failed)
goes_by_added slices blank Falls disk before es r s name at may failed = absurd at.owed.0
goes_by_added slices blank Fallen disk before es r s name at may failed = begins slices blank disk before es r s name at
    (second_failed Err r may.replica may.failed).0 (first_read s may.source.read) (may.own ∙ own_is)
goes_by_added slices blank Opened disk before es r s name at may failed = absurd (wo≢err failed)
goes_by_added slices blank Promoted disk before es r s name at may failed = absurd (rw≢err failed)
goes_by_added slices blank Rebuilt disk before es r s name at may failed = absurd (rw≢err failed)
goes_by_added slices blank Removed disk before es r s name at may failed = absurd (rw≢err failed)
goes_by_added slices blank Folded disk before es r s name at may failed = absurd (rw≢err failed)
goes_by_added slices blank Ends disk before es r s name at may failed = absurd (rw≢err failed)

-- ---- the end of a rebuild

-- one that is open is that of replica 1
open_is : (b : Bool) (x : Rebuild) (s : ℕ) → cond b x rebuild.Unasked ≡ rebuild.Open s → (b ≡ true) × (x ≡ rebuild.Open s)
open_is true x s is = (refl, is)
open_is false x s is = absurd cc

-- and then it has begun, and has not ended
is_opened : (p : Phase) (s : ℕ) → rebuild_in p ≡ rebuild.Open s → p ≡ Opened
is_opened Begins s e = absurd cc
is_opened Taken s e = absurd cc
is_opened Falls s e = absurd cc
is_opened Fallen s e = absurd cc
is_opened Opened s e = refl
is_opened Promoted s e = absurd cc
is_opened Rebuilt s e = absurd cc
is_opened Removed s e = absurd cc
is_opened Folded s e = absurd cc
is_opened Ends s e = absurd cc

-- both, of what is behind these entries
opened_in : (blank : List ℕ) (p : Phase) (disk : List ℕ) (before : List Entry) (r s : ℕ) → Is blank p disk before
    → rebuild_of r before ≡ rebuild.Open s → (1 ≡ r) × (p ≡ Opened)
opened_in blank p disk before r s at begun =
    let found = open_is (eqb 1 r) (rebuild_in p) s (sym (at.rebuilds r) ∙ begun) in
    (eqb-true 1 r found.0, is_opened p s found.1)

-- and as it is promoted
promoted_once : (b : Bool) → cond b rebuild.Promoted (cond b (rebuild.Open 0) rebuild.Unasked) ≡ cond b rebuild.Promoted rebuild.Unasked
promoted_once true = refl
promoted_once false = refl

-- it is promoted as its add comes
promotes : (slices : ℕ) (blank disk : List ℕ) (before es : List Entry) (r : ℕ) → 1 ≡ r → AddComes es r
    → Stands slices blank Opened disk before (entry.Mark (mark.Promoted r) ∷ es)
    → GoesOn slices blank Opened disk before (entry.Mark (mark.Promoted r)) es
promotes slices blank disk before es r one ends at =
    let same : mark.Promoted r ≡ mark.Promoted 1 = ap mark.Promoted (sym one) in
    goes_by slices blank Opened Promoted disk before es (mark.Promoted r) at.is.copies at refl
    (ap (modes_after_mark (modes_in Opened)) same)
    (λ q. ap (rebuild_after_mark q (length before) (rebuild_at Opened q)) same ∙ promoted_once (eqb 1 q)) (λ q falls. falls) refl
    (subst (AddComes es) (sym one) ends)

-- that is so where it is open
goes_by_promoted : (slices : ℕ) (blank : List ℕ) (p : Phase) (disk : List ℕ) (before es : List Entry) (r : ℕ)
    → Stands slices blank p disk before (entry.Mark (mark.Promoted r) ∷ es) → MayPromote before es r
    → GoesOn slices blank p disk before (entry.Mark (mark.Promoted r)) es
goes_by_promoted slices blank p disk before es r at may =
    let found = opened_in blank p disk before r may.source at.is may.begun in
    subst (λ q. Stands slices blank q disk before (entry.Mark (mark.Promoted r) ∷ es)
    → GoesOn slices blank q disk before (entry.Mark (mark.Promoted r)) es) (sym found.1)
    (promotes slices blank disk before es r found.0 may.ends) at

-- none is given up where nothing fell
none_aborted : (blank : List ℕ) (p : Phase) (disk : List ℕ) (before : List Entry) (r : ℕ) → Is blank p disk before
    → IsBehindFall before r → ⊥
none_aborted blank p disk before r at behind =
    let found = opened_in blank p disk before r behind.source at behind.begun in
    let calm : IsCalm Opened before = subst (λ q. IsCalm q before) found.1 at.calm in
    ⊎_elim (λ target. calm behind.fell r behind.last target) (λ source. calm behind.fell behind.source behind.last source) behind.which

-- each mark
pub goes_by_mark : (slices : ℕ) (blank : List ℕ) (p : Phase) (disk : List ℕ) (before es : List Entry) (m : Mark)
    → Stands slices blank p disk before (entry.Mark m ∷ es) → MayStand (fresh blank) before (entry.Mark m) es
    → StandsBehindFall before (entry.Mark m) es → IsNoFault (entry.Mark m) → GoesOn slices blank p disk before (entry.Mark m) es
goes_by_mark slices blank p disk before es (mark.Purged f) at may behind none =
    goes_by_purged slices blank p disk before es f at (could_in blank p disk before es (mark.Purged f) at.is may).0
goes_by_mark slices blank p disk before es (mark.Fault stream replica count) at may behind none = absurd none
goes_by_mark slices blank p disk before es (mark.Failed r) at may behind none =
    let could = could_in blank p disk before es (mark.Failed r) at.is may in
    let next = fails_next slices p r es (left_mark slices p (mark.Failed r) es at.left) could.1 in
    goes_by_failed slices blank p disk before es r next.0 at could.0.up next.1 could.1
goes_by_mark slices blank p disk before es (mark.Added r s name) at may behind none =
    let begin = could_in blank p disk before es (mark.Added r s name) at.is may in
    goes_by_added slices blank p disk before es r s name at begin (second_failed (mode_in p) r begin.replica begin.failed).1
goes_by_mark slices blank p disk before es (mark.Promoted r) at may behind none =
    goes_by_promoted slices blank p disk before es r at (could_in blank p disk before es (mark.Promoted r) at.is may)
goes_by_mark slices blank p disk before es (mark.Aborted r) at may behind none =
    absurd (none_aborted blank p disk before r at.is behind)
