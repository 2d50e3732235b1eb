-- A stream's last answer in a journal is the last that its own entries tell.
use Rattle.std.proofs.Common.{◌≡◌, ℕ, zero, suc, Bool, true, false, cond, List, [], ◌∷◌, ◌++◌, take, drop, slice_get, Option, Some, None}
use Rattle.std.proofs.Common.{refl, sym, ap, ◌∙◌, subst, append_assoc, append-nil, ne_eqb}
use Rattle.volume_model.specs.declared.call.Call.{Call}
use Rattle.volume_model.specs.declared.call.Call.TheVariants as call
use Rattle.volume_model.specs.declared.entry.Answer.{Answer}
use Rattle.volume_model.specs.declared.entry.Entry.{Entry}
use Rattle.volume_model.specs.declared.entry.Entry.TheVariants as entry
use Rattle.volume_model.specs.History.{Spot, IsAnswered, IsEnded, IsLegal, MayStand}
use Rattle.volume_model.specs.Marks.{IsMark}
use Rattle.volume_model.specs.Modes.{modes_after}
use Rattle.volume_model.specs.OneWorker.{behind_entries}
use Rattle.volume_model.specs.Rebuilds.{added_by}
use Rattle.volume_model.specs.Replay.{replay}
use Rattle.volume_model.proofs.StandingLemmas.{StandFrom-behind}
use Rattle.stream_steps.specs.Mine.{Placed, answer_placed}
use Rattle.stream_steps.specs.Steps.{IsFrameCall}
use Rattle.world_holder.specs.View.{is_own, own_entries}
use Rattle.world_holder.proofs.Entries.{own-append, own_answer}
use Rattle.session_serve.specs.Replies.{IsNoAnswer, HasNoAnswer, IsLastOf}
use Rattle.session_serve.proofs.Lists.{tail_same, not_none, snoc_same}

-- ---- marks

-- none of these own entries is an answer
abbrev AreMarks : List Placed → Type 0
AreMarks [] = Unit {0}
AreMarks (p ∷ ps) = IsMark p.entry × AreMarks ps

mark_or_none : (b : Bool) (p : Placed) (ps : List Placed) → IsMark p.entry → AreMarks ps → AreMarks (cond b (p ∷ ps) ps)
mark_or_none true p ps is all = (is, all)
mark_or_none false p ps is all = all

-- where a stream has no answer, its own entries are marks
own_marks : (n : ℕ) (spot : Spot) (es : List Entry) → HasNoAnswer n es → AreMarks (own_entries n spot es)
own_marks n spot [] none = tt
own_marks n spot (entry.Answer a ∷ es) none =
    let more = own_entries n (behind_entries spot (entry.Answer a ∷ [])) es in
    subst (λ (b : Bool). AreMarks (cond b (record { spot = spot; entry = entry.Answer a } ∷ more) more))
    (sym (ne_eqb a.stream n none.0)) (own_marks n (behind_entries spot (entry.Answer a ∷ [])) es none.1)
own_marks n spot (entry.Mark m ∷ es) none =
    let after = behind_entries spot (entry.Mark m ∷ []) in
    mark_or_none (is_own n (entry.Mark m)) (record { spot = spot; entry = entry.Mark m }) (own_entries n after es) tt
    (own_marks n after es none.1)

mark_last : (zs : List Placed) (p : Placed) → AreMarks (zs ++ p ∷ []) → IsMark p.entry
mark_last [] p all = all.0
mark_last (z ∷ zs) p all = mark_last zs p all.1

-- marks behind entries whose last is no mark are none
marks_none : (xs ys zs : List Placed) (p : Placed) → AreMarks ys → xs ++ ys ≡ zs ++ p ∷ [] → (IsMark p.entry → ⊥) → ys ≡ []
marks_none [] ys zs p all e unmarked = absurd (unmarked (mark_last zs p (subst AreMarks e all)))
marks_none (x ∷ []) [] [] p all e unmarked = refl
marks_none (x ∷ []) (y ∷ ys) [] p all e unmarked = absurd (not_none y ys (tail_same x p (y ∷ ys) [] e))
marks_none (x ∷ w ∷ xs) ys [] p all e unmarked = absurd (not_none w (xs ++ ys) (tail_same x p (w ∷ xs ++ ys) [] e))
marks_none (x ∷ xs) ys (z ∷ zs) p all e unmarked = marks_none xs ys zs p all (tail_same x z (xs ++ ys) (zs ++ p ∷ []) e) unmarked

-- ---- the last answer

module _ (n : ℕ) (spot : Spot) (es : List Entry) (zs : List Placed) (sp : Spot) (b : Answer)
    (own : own_entries n spot es ≡ zs ++ answer_placed sp b ∷ []) where
  -- there is one
  pub has_answer : HasNoAnswer n es → ⊥
  has_answer none = mark_last zs (answer_placed sp b) (subst AreMarks own (own_marks n spot es none))

  module _ (a : Answer) (last : IsLastOf n a es) where
    abbrev till : List Entry
    till = last.before ++ entry.Answer a ∷ []

    abbrev there : Spot
    there = behind_entries spot last.before

    own_till : own_entries n spot till ≡ own_entries n spot last.before ++ answer_placed there a ∷ []
    own_till = own-append n spot last.before (entry.Answer a ∷ [])
        ∙ ap (λ l. own_entries n spot last.before ++ l) (own_answer n there a last.by)

    parts : own_entries n spot till ++ own_entries n (behind_entries spot till) last.behind ≡ zs ++ answer_placed sp b ∷ []
    parts = sym (own-append n spot till last.behind) ∙ ap (own_entries n spot) (sym last.is) ∙ own

    behind_none : own_entries n (behind_entries spot till) last.behind ≡ []
    behind_none = marks_none (own_entries n spot till) (own_entries n (behind_entries spot till) last.behind) zs (answer_placed sp b)
        (own_marks n (behind_entries spot till) last.behind last.none) parts (λ is. is)

    -- all of its own entries stand up to it
    pub own_there : own_entries n spot till ≡ zs ++ answer_placed sp b ∷ []
    own_there = sym (append-nil (own_entries n spot till)) ∙ ap (λ l. own_entries n spot till ++ l) (sym behind_none) ∙ parts

    ends : (own_entries n spot last.before ≡ zs) × (answer_placed there a ≡ answer_placed sp b)
    ends = snoc_same (own_entries n spot last.before) zs (answer_placed there a) (answer_placed sp b) (sym own_till ∙ own_there)

    -- and it is that one
    pub same_answer : a ≡ b
    same_answer = let e : entry.Answer a ≡ entry.Answer b = ap (λ (p : Placed). p.entry) ends.1 in cc

-- ---- it is legal there

frame_adds_none : (c : Call) → IsFrameCall c → added_by c ≡ None
frame_adds_none (call.Read offset n) f = refl
frame_adds_none (call.Write offset bytes) f = refl
frame_adds_none call.Ping f = refl
frame_adds_none (call.Other kind) f = refl
frame_adds_none (call.Command c) f = absurd f

pub answered_there : (n : ℕ) (spot : Spot) (es : List Entry) (a : Answer) (last : IsLastOf n a es) → IsLegal spot es
    → IsFrameCall a.call → IsAnswered (replay spot.state last.before) (modes_after spot.modes last.before) a
answered_there n spot es a last legal frame =
    let split = last.is ∙ append_assoc last.before (entry.Answer a ∷ []) last.behind in
    let stands = StandFrom-behind (MayStand spot) [] last.before (entry.Answer a ∷ last.behind) (subst (IsLegal spot) split legal) in
    subst (λ (o : Option ℕ). IsEnded o last.before (replay spot.state last.before) (modes_after spot.modes last.before) a)
    (frame_adds_none a.call frame) stands.0

-- ---- from the end on

some_is : {A : Type 0} (x y : A) → Some x ≡ Some y → x ≡ y
some_is x y e = cc

none_some : {A : Type 0} (y : A) → None ≡ Some y → ⊥
none_some y e = cc

-- one entry more that is no answer of the stream
pub none_more : (n : ℕ) (es : List Entry) (k : ℕ) (e : Entry) → slice_get es k ≡ Some e → IsNoAnswer n e
    → HasNoAnswer n (drop (suc k) es) → HasNoAnswer n (drop k es)
none_more n [] k e at is rest = absurd (none_some e at)
none_more n (x ∷ xs) zero e at is rest = (subst (IsNoAnswer n) (sym (some_is x e at)) is, rest)
none_more n (x ∷ xs) (suc k) e at is rest = none_more n xs k e at is rest

split_at : (es : List Entry) (k : ℕ) (e : Entry) → slice_get es k ≡ Some e → es ≡ (take k es ++ e ∷ []) ++ drop (suc k) es
split_at [] k e at = absurd (none_some e at)
split_at (x ∷ xs) zero e at = λ i. some_is x e at i ∷ xs
split_at (x ∷ xs) (suc k) e at = ap (λ l. x ∷ l) (split_at xs k e at)

-- an answer of the stream, behind which there is none
pub last_at : (n : ℕ) (es : List Entry) (k : ℕ) (e : Entry) (a : Answer) → slice_get es k ≡ Some e → e ≡ entry.Answer a → a.stream ≡ n
    → HasNoAnswer n (drop (suc k) es) → IsLastOf n a es
last_at n es k e a at is by none = record {
  before = take k es;
  behind = drop (suc k) es;
  is = split_at es k (entry.Answer a) (at ∙ ap Some is);
  by = by;
  none = none;
}
