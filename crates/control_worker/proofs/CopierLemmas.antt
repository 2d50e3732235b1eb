-- What is in hand while the pages of a rebuild are copied, step after step.
use Rattle.std.proofs.Common.{◌≡◌, ◌≢◌, ◌⊎◌, inl, inr, ℕ, ◌<◌, ◌≤◌, Bool, true, false, arith, List, [], ◌∷◌, length}
use Rattle.std.proofs.Common.{length-set, map, set, get_or, Result, Ok, Err, IfOk, Option, Some, None, subst, sym, refl, ap, ◌∙◌}
use Rattle.sparse_image.specs.Image.{Table}
use Rattle.vol_units.specs.declared.page_ref.PageRef.{PageRef}
use Rattle.outer_traits.specs.Lines.{TellsMore}
use Rattle.outer_traits.proofs.Lines.{TellsMore-nil}
use Rattle.rebuild_worker.specs.Copying as copy
use Rattle.rebuild_worker.specs.Copying.{IsQuiet, CarriesTo, number_after, numbered}
use Rattle.rebuild_worker.specs.Told.{CopyEnds}
use Rattle.rebuild_worker.specs.declared.copy.Copied.{Copied}
use Rattle.rebuild_worker.specs.declared.copy.Copied.TheVariants as copied
use Rattle.rebuild_worker.specs.declared.steps.Carried.TheVariants as carried
use Rattle.rebuild_worker.specs.declared.steps.CopySide.{CopySide}
use Rattle.rebuild_worker.specs.declared.steps.CopySide.TheVariants.{Source, Target}
use Rattle.frame_wire.specs.declared.head.Head.{Head}
use Rattle.frame_wire.specs.Spelling.{frame, IsHead}
use Rattle.client_worker.specs.Exchanges.{told_in}
use Rattle.stream_steps.specs.Mine.{Mine, OwnCall, with_running}
use Rattle.stream_steps.specs.Add.{HasAdd}
use Rattle.client_worker.specs.Serving.{IsShown}
use Rattle.client_worker.specs.declared.channel.Channel.{Channel}
use Rattle.client_worker.specs.Working.{Work, IsServing}
use Rattle.control_worker.specs.Whole.{GoesOn}
use Rattle.std.proofs.lemmas.List.{length-map, map-set, get_or-set_other, get_or-set_same}
use Rattle.stream_steps.specs.Steps.{FallsTo}
use Rattle.client_worker.proofs.Counts.{at_map}
use Rattle.client_worker.proofs.Told.{here_set, other_set}
use Rattle.control_worker.proofs.ShownLemmas.{idle_told}
use Rattle.control_worker.proofs.Goes.{goes_fall, goes_same, goes_running}
use Rattle.control_worker.specs.Adding.{EndsAs}
use Rattle.control_worker.specs.Copier.{AreLines, HasInHand, IsTextOn, replica_for, work_of}

-- nothing is told on a line
pub quiet_same : (told : Option (List (List ℕ))) (seq : ℕ) → IsQuiet (record { told = told; seq = seq }) (record { told = told; seq = seq })
quiet_same told seq = record { told = TellsMore-nil told; seq = refl }

pub quiet_now : (told told2 : Option (List (List ℕ))) (seq seq2 : ℕ) → told2 ≡ told → seq2 ≡ seq
    → IsQuiet (record { told = told; seq = seq }) (record { told = told2; seq = seq2 })
quiet_now told told2 seq seq2 e f = record { told = subst (λ x. TellsMore told x []) (sym e) (TellsMore-nil told); seq = f }

-- the texts of pages are what they were
pub texts_kept : (p q : PageRef → Table → Type 0) → ((page : PageRef) (table : Table) → p page table → q page table)
    → (page : PageRef) (text : List ℕ) → IsTextOn p page text → IsTextOn q page text
texts_kept p q kept page text h = record { blocks = h.blocks; are = kept page h.blocks h.are; spelled = h.spelled }

-- ---- the page in hand

pub hand_none : (awaits : PageRef → Type 0) (is_page : PageRef → Table → Type 0) (hand : Option PageRef) (read : Bool)
    (blocks : Table) → hand ≡ None → HasInHand awaits is_page hand read blocks
hand_none awaits is_page hand read blocks none =
    record {
      waits = λ page is. absurd (not_some page (sym none ∙ is));
      reads =
          λ page is. absurd (not_some page (sym none ∙ is));
    }
  where
    not_some : (page : PageRef) → None ≡ Some page → ⊥
    not_some page e = cc

-- it is taken in hand, and once it was read has these blocks
pub hand_unread : (awaits : PageRef → Type 0) (is_page : PageRef → Table → Type 0) (hand : Option PageRef) (page : PageRef)
    (read : Bool) (blocks : Table) → hand ≡ Some page → read ≡ false → awaits page
    → HasInHand awaits is_page hand read blocks
hand_unread awaits is_page hand page read blocks is unread waits = record {
  waits = λ p e. subst awaits (same p (sym is ∙ e)) waits;
  reads = λ p e was. absurd (clash (sym unread ∙ was));
}
  where
    same : (p : PageRef) → Some page ≡ Some p → page ≡ p
    same p e = cc

    clash : false ≡ true → ⊥
    clash e = cc

pub hand_read : (awaits : PageRef → Type 0) (is_page : PageRef → Table → Type 0) (hand : Option PageRef) (page : PageRef)
    (read : Bool) (blocks : Table) → hand ≡ Some page → awaits page → is_page page blocks
    → HasInHand awaits is_page hand read blocks
hand_read awaits is_page hand page read blocks is waits blocks_are = record {
  waits = λ p e. subst awaits (same p (sym is ∙ e)) waits;
  reads = λ p e was. subst (λ q. is_page q blocks) (same p (sym is ∙ e)) blocks_are;
}
  where
    same : (p : PageRef) → Some page ≡ Some p → page ≡ p
    same p e = cc

pub hand_kept : (awaits awaits2 : PageRef → Type 0) (is_page is_page2 : PageRef → Table → Type 0) (hand : Option PageRef)
    (read : Bool) (blocks : Table) → ((p : PageRef) → awaits p → awaits2 p)
    → ((p : PageRef) (t : Table) → is_page p t → is_page2 p t) → HasInHand awaits is_page hand read blocks
    → HasInHand awaits2 is_page2 hand read blocks
hand_kept awaits awaits2 is_page is_page2 hand read blocks f g h =
    record { waits = λ p e. f p (h.waits p e); reads = λ p e was. g p blocks (h.reads p e was) }

-- ---- the add's turn

pub add_same : (t : ℕ) (a b : Mine) → b ≡ a → ((r : ℕ) × (o : OwnCall) × HasAdd t r o a) → (r : ℕ) × (o : OwnCall) × HasAdd t r o b
add_same t a b e h = (h.0, h.1, subst (HasAdd t h.0 h.1) (sym e) h.2)

pub add_goes : (t : ℕ) (a b : Mine) → GoesOn a b → ((r : ℕ) × (o : OwnCall) × HasAdd t r o a) → (r : ℕ) × (o : OwnCall) × HasAdd t r o b
add_goes t a b g h = (
  h.0,
  h.1,
  record {
    is = goes_running a.running a b g ∙ h.2.is;
    number = h.2.number;
    call = h.2.call;
    wants = h.2.wants;
    started =
        h.2.started;
  },
)

pub shown_still : (a b : Mine) (counts : List ℕ) (carried : List (Option (List (List ℕ)))) → b ≡ a
    → IsShown (with_running a []) counts carried → IsShown (with_running b []) counts carried
shown_still a b counts carried e h = subst (λ (m : Mine). IsShown (with_running m []) counts carried) (sym e) h

pub stays_same : (m a b : Mine) → b ≡ a → GoesOn m a → GoesOn m b
stays_same m a b e g = subst (GoesOn m) (sym e) g

-- by these a step keeps what is in hand
pub ruleset copy_step = (quiet_same, texts_kept, stays_same, add_same, shown_still, hand_none, hand_unread, hand_read, hand_kept)

-- ---- a frame that came through

pub carries_to : (side : CopySide) (source target : ℕ) → source ≢ target
    → (left left2 : ℕ) (hand hand2 : Option PageRef) (read read2 : Bool) (told told2 : List (Option (List (List ℕ))))
    (begun begun2 : List ℕ) (before after : List ℕ) (aborted : ℕ → Type 0)
    → TellsMore (told_in told (replica_for side source target)) (told_in told2 (replica_for side source target))
    (after ∷ []) → ((q : ℕ) → q ≢ replica_for side source target → told_in told2 q ≡ told_in told q)
    → ((h : Head) (body : List ℕ) → before ≡ frame h body
    → after ≡ frame (numbered (get_or begun2 (replica_for side source target) 0) h) body)
    → ((h : Head) (body : List ℕ) → IsHead h → before ≡ frame h body
    → get_or begun2 (replica_for side source target) 0 ≡ number_after (get_or begun (replica_for side source target) 0)
    h.kind)
    → ((q : ℕ) → q ≢ replica_for side source target → get_or begun2 q 0 ≡ get_or begun q 0) → left2 ≡ left
    → CarriesTo side carried.Whole aborted before after (work_of left hand read told begun source target)
    (work_of left2 hand2 read2 told2 begun2 source target)
carries_to Source source target apart left left2 hand hand2 read read2 told told2 begun begun2 before after aborted tells
    others spelled number same as_many = (
      record { told = tells; spelled = spelled; number = number },
      quiet_now (told_in told target) (told_in told2 target) (get_or begun target 0) (get_or begun2 target 0)
          (others target (λ e. apart (sym e))) (same target (λ e. apart (sym e))),
      as_many,
    )
carries_to Target source target apart left left2 hand hand2 read read2 told told2 begun begun2 before after aborted tells
    others spelled number same as_many = (
      record { told = tells; spelled = spelled; number = number },
      quiet_now (told_in told source) (told_in told2 source) (get_or begun source 0) (get_or begun2 source 0)
          (others source apart) (same source apart),
      as_many,
    )

pub add_at : (t r : ℕ) (o : OwnCall) (a b : Mine) → b ≡ a → HasAdd t r o a → HasAdd t r o b
add_at t r o a b e h = subst (HasAdd t r o) (sym e) h

-- ---- one line of several

lines_set : {L : Type 0} (told : L → Option (List (List ℕ))) (xs : List L) (i : ℕ) (x : L)
    → length (map told (set xs i x)) ≡ length (map told xs)
lines_set told xs i x = length-map (set xs i x) told ∙ length-set xs i x ∙ sym (length-map xs told)

pub lines_still : {L : Type 0} (told : L → Option (List (List ℕ))) (xs : List L) (i source target : ℕ) (x : L)
    → AreLines (length (map told xs)) source target → AreLines (length (map told (set xs i x))) source target
lines_still told xs i source target x h = subst (λ n. AreLines n source target) (sym (lines_set told xs i x)) h

for_one : (side : CopySide) (count source target : ℕ) → AreLines count source target → replica_for side source target < count
for_one Source count source target h = h.from
for_one Target count source target h = h.to

-- a frame goes to the source or to the target
pub one_of_both : (side : CopySide) (source target i : ℕ) → i ≡ replica_for side source target → (i ≡ source) ⊎ (i ≡ target)
one_of_both Source source target i is = inl is
one_of_both Target source target i is = inr is

pub within_lines : {L : Type 0} (told : L → Option (List (List ℕ))) (xs : List L) (side : CopySide) (source target i : ℕ)
    → i ≡ replica_for side source target → AreLines (length (map told xs)) source target → i < length xs
within_lines told xs side source target i is h = omega (arith, is, for_one side (length (map told xs)) source target h, length-map xs told)

pub came : {L : Type 0} (told : L → Option (List (List ℕ))) (seq : L → ℕ) (xs : List L) (i : ℕ) (x d : L) (side : CopySide)
    (source target : ℕ) → i ≡ replica_for side source target → i < length xs → source ≢ target
    → (left : ℕ) (hand : Option PageRef) (read : Bool) (before after : List ℕ) (aborted : ℕ → Type 0)
    → TellsMore (told (get_or xs i d)) (told x) (after ∷ [])
    → ((h : Head) (body : List ℕ) → before ≡ frame h body → after ≡ frame (numbered (seq x) h) body)
    → ((h : Head) (body : List ℕ) → IsHead h → before ≡ frame h body → seq x ≡ number_after (seq (get_or xs i d)) h.kind)
    → CarriesTo side carried.Whole aborted before after (work_of left hand read (map told xs) (map seq xs) source target)
    (work_of left hand read (map told (set xs i x)) (map seq (set xs i x)) source target)
came told seq xs i x d side source target is within apart left hand read before after aborted tells spelled number =
    let low : i < length (map seq xs) = omega (arith, within, length-map xs seq) in
    let here : get_or (map seq (set xs i x)) i 0 ≡ seq x = ap (λ l. get_or l i 0) (map-set seq xs i x)
    ∙ get_or-set_same (map seq xs) i (seq x) 0 low in
    let now : get_or (map seq (set xs i x)) (replica_for side source target) 0 ≡ seq x =
    subst (λ k. get_or (map seq (set xs i x)) k 0 ≡ seq x) is here in
    let was : get_or (map seq xs) (replica_for side source target) 0 ≡ seq (get_or xs i d) =
    subst (λ k. get_or (map seq xs) k 0 ≡ seq (get_or xs i d)) is (at_map seq xs i d within) in
    carries_to side source target apart left left hand hand read read (map told xs) (map told (set xs i x)) (map seq xs)
    (map seq (set xs i x)) before after aborted
    (subst (λ k. TellsMore (told_in (map told xs) k) (told_in (map told (set xs i x)) k) (after ∷ [])) is
    (here_set told xs i x d (after ∷ []) within tells))
    (λ q other. other_set told xs i q x (λ e. other (e ∙ is)))
    (λ h body e. spelled h body e ∙ ap (λ n. frame (numbered n h) body) (sym now))
    (λ h body fits e. now ∙ number h body fits e ∙ ap (λ n. number_after n h.kind) (sym was))
    (λ q other. ap (λ l. get_or l q 0) (map-set seq xs i x) ∙ get_or-set_other (map seq xs) i q (seq x) 0 (λ e. other (e ∙ is)))
    refl

-- ---- the line failed

pub fell_goes : (r n : ℕ) (a b : Mine) → FallsTo r n a b ⊎ (b ≡ a) → GoesOn a b
fell_goes r n a b (inl f) = goes_fall r n a b f
fell_goes r n a b (inr e) = goes_same a b e

pub fell_shown : (r n : ℕ) (a b : Mine) (counts : List ℕ) (carried : List (Option (List (List ℕ))))
    → FallsTo r n a b ⊎ (b ≡ a) → n ≤ get_or counts r 0 → IsShown (with_running a []) counts carried
    → IsShown (with_running b []) counts carried
fell_shown r n a b counts carried (inl f) low h = let done : Result (Unit {0}) (Unit {0}) = Ok tt in
    idle_told done r n a b counts carried f tt low h
fell_shown r n a b counts carried (inr e) low h = shown_still a b counts carried e h

pub count_here : {L : Type 0} (count : L → ℕ) (xs : List L) (i : ℕ) (x : L) → i < length xs → get_or (map count (set xs i x)) i 0 ≡ count x
count_here count xs i x within =
    let low : i < length (map count xs) = omega (arith, within, length-map xs count) in
    ap (λ l. get_or l i 0) (map-set count xs i x) ∙ get_or-set_same (map count xs) i (count x) 0 low

-- ---- what holds behind it

-- the next step can be taken again
pub serving_on : {C L : Type 0} {can : C → Type 0} {count : L → ℕ} {carried : L → Option (List (List ℕ))} (mine : C → Mine)
    (w : Work C L) (steps : C) (xs : List (Channel L)) → IsServing can (λ s. with_running (mine s) []) count carried w → can steps
    → length xs ≡ length w.channels → GoesOn (mine w.steps) (mine steps)
    → IsShown (with_running (mine steps) []) (map (λ c. count c.line) xs) (map (λ c. carried c.line) xs)
    → IsServing can (λ s. with_running (mine s) []) count carried (record { steps = steps; channels = xs })
serving_on mine w steps xs h ready long g shown = record {
  ready = ready;
  few = subst (λ n. n ≤ 8) (sym long) h.few;
  lines = long ∙ h.lines ∙ sym (ap (λ (m : Mine). m.replicas) g.is);
  shown = shown;
}

-- ---- how it ends

pub ends_as : {E : Type 0} (res : Result Copied E) (aborted : ℕ → Type 0) (is_text : PageRef → List ℕ → Type 0)
    (old new : copy.Copying) → IfOk res (λ e. CopyEnds e aborted is_text old new) → IfOk res (λ e. EndsAs e new.left aborted)
ends_as (Ok copied.All) aborted is_text old new h = h.0
ends_as (Ok (copied.Ended place)) aborted is_text old new h = h
ends_as (Err e) aborted is_text old new h = tt
