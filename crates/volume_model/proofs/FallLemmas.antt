-- The aborted marks of a journal stand behind falls: with more entries at its end.
use Rattle.std.proofs.Common.{◌≡◌, ◌⊎◌, ℕ, List, [], ◌∷◌, ◌++◌, refl, ◌∙◌}
use Rattle.volume_model.specs.declared.entry.Answer.{Answer}
use Rattle.volume_model.specs.declared.entry.Entry.{Entry}
use Rattle.volume_model.specs.declared.entry.Entry.TheVariants as entry
use Rattle.volume_model.specs.declared.mark.FoldOrDrop.{FoldOrDrop}
use Rattle.volume_model.specs.declared.mark.Mark.TheVariants as mark
use Rattle.volume_model.specs.declared.mark.Rebuild.TheVariants as rebuild
use Rattle.volume_model.specs.Standing.{StandFrom}
use Rattle.volume_model.specs.Rebuilds.{rebuild_of, IsBehindFall, StandsBehindFall, AreBehindFalls}
use Rattle.volume_model.proofs.StandingLemmas.{StandFrom-append}
use Rattle.volume_model.proofs.RebuildLemmas.{rebuild_of-fault, rebuild_of-failed}

-- what it asks of an entry is not of those behind it
fall_longer : (before : List Entry) (e : Entry) (xs ys : List Entry) → StandsBehindFall before e xs → StandsBehindFall before e (xs ++ ys)
fall_longer before (entry.Answer a) xs ys h = tt
fall_longer before (entry.Mark (mark.Purged part)) xs ys h = tt
fall_longer before (entry.Mark (mark.Fault w r count)) xs ys h = tt
fall_longer before (entry.Mark (mark.Failed r)) xs ys h = tt
fall_longer before (entry.Mark (mark.Added r source name)) xs ys h = tt
fall_longer before (entry.Mark (mark.Promoted r)) xs ys h = tt
fall_longer before (entry.Mark (mark.Aborted r)) xs ys h = h

-- entries of which it is so, behind a journal of which it is
behind_falls_append : (es more : List Entry) → AreBehindFalls es → StandFrom StandsBehindFall es more → AreBehindFalls (es ++ more)
behind_falls_append es more = StandFrom-append StandsBehindFall fall_longer [] es more

-- one entry more, with what it asks
pub behind_falls_push : (es : List Entry) (e : Entry) → AreBehindFalls es → StandsBehindFall es e [] → AreBehindFalls (es ++ e ∷ [])
behind_falls_push es e behind stands = behind_falls_append es (e ∷ []) behind (stands, tt)

-- ---- entries that ask nothing

pub behind_falls_answer : (es : List Entry) (a : Answer) → AreBehindFalls es → AreBehindFalls (es ++ entry.Answer a ∷ [])
behind_falls_answer es a behind = behind_falls_push es (entry.Answer a) behind tt

pub behind_falls_purged : (es : List Entry) (part : FoldOrDrop) → AreBehindFalls es
    → AreBehindFalls (es ++ entry.Mark (mark.Purged part) ∷ [])
behind_falls_purged es part behind = behind_falls_push es (entry.Mark (mark.Purged part)) behind tt

pub behind_falls_fault : (es : List Entry) (w r count : ℕ) → AreBehindFalls es
    → AreBehindFalls (es ++ entry.Mark (mark.Fault w r count) ∷ [])
behind_falls_fault es w r count behind = behind_falls_push es (entry.Mark (mark.Fault w r count)) behind tt

pub behind_falls_failed : (es : List Entry) (r : ℕ) → AreBehindFalls es → AreBehindFalls (es ++ entry.Mark (mark.Failed r) ∷ [])
behind_falls_failed es r behind = behind_falls_push es (entry.Mark (mark.Failed r)) behind tt

pub behind_falls_added : (es : List Entry) (r source : ℕ) (name : List ℕ) → AreBehindFalls es
    → AreBehindFalls (es ++ entry.Mark (mark.Added r source name) ∷ [])
behind_falls_added es r source name behind = behind_falls_push es (entry.Mark (mark.Added r source name)) behind tt

pub behind_falls_promoted : (es : List Entry) (r : ℕ) → AreBehindFalls es → AreBehindFalls (es ++ entry.Mark (mark.Promoted r) ∷ [])
behind_falls_promoted es r behind = behind_falls_push es (entry.Mark (mark.Promoted r)) behind tt

-- ---- the end of a rebuild, behind the fall of its source or its target

pub behind_fault : (es : List Entry) (w r count q source : ℕ) → rebuild_of q es ≡ rebuild.Open source → (r ≡ q) ⊎ (r ≡ source)
    → IsBehindFall (es ++ entry.Mark (mark.Fault w r count) ∷ []) q
behind_fault es w r count q source begun which = record {
  source = source;
  begun = rebuild_of-fault q es w r count ∙ begun;
  fell = mark.Fault w r count;
  last = (es, refl);
  which = which;
}

pub behind_failed : (es : List Entry) (r q source : ℕ) → rebuild_of q es ≡ rebuild.Open source → (r ≡ q) ⊎ (r ≡ source)
    → IsBehindFall (es ++ entry.Mark (mark.Failed r) ∷ []) q
behind_failed es r q source begun which = record {
  source = source;
  begun = rebuild_of-failed q es r ∙ begun;
  fell = mark.Failed r;
  last = (es, refl);
  which = which;
}

-- a fault with the end of the rebuild
pub behind_falls_fall : (es : List Entry) (w r count q source : ℕ) → AreBehindFalls es
    → rebuild_of q es ≡ rebuild.Open source → (r ≡ q) ⊎ (r ≡ source)
    → AreBehindFalls (es ++ entry.Mark (mark.Fault w r count) ∷ entry.Mark (mark.Aborted q) ∷ [])
behind_falls_fall es w r count q source behind begun which =
    behind_falls_append es (entry.Mark (mark.Fault w r count) ∷ entry.Mark (mark.Aborted q) ∷ []) behind
    (tt, (behind_fault es w r count q source begun which, tt))

-- a replica that was told to fail, with the end of the rebuild
pub behind_falls_fail : (es : List Entry) (r q source : ℕ) → AreBehindFalls es → rebuild_of q es ≡ rebuild.Open source
    → (r ≡ q) ⊎ (r ≡ source)
    → AreBehindFalls (es ++ entry.Mark (mark.Failed r) ∷ entry.Mark (mark.Aborted q) ∷ [])
behind_falls_fail es r q source behind begun which =
    behind_falls_append es (entry.Mark (mark.Failed r) ∷ entry.Mark (mark.Aborted q) ∷ []) behind
    (tt, (behind_failed es r q source begun which, tt))

-- ---- entries without an aborted mark

abbrev pub IsNotAborted : Entry → Type 0
IsNotAborted (entry.Mark (mark.Aborted r)) = ⊥
IsNotAborted e = Unit {0}

abbrev pub HasNoAborted : List Entry → Type 0
HasNoAborted [] = Unit {0}
HasNoAborted (e ∷ es) = IsNotAborted e × HasNoAborted es

pub no_aborted-append : (xs ys : List Entry) → HasNoAborted xs → HasNoAborted ys → HasNoAborted (xs ++ ys)
no_aborted-append [] ys h k = k
no_aborted-append (x ∷ xs) ys h k = (h.0, no_aborted-append xs ys h.1 k)

stands_alone : (before : List Entry) (e : Entry) (after : List Entry) → IsNotAborted e → StandsBehindFall before e after
stands_alone before (entry.Answer a) after other = tt
stands_alone before (entry.Mark (mark.Purged part)) after other = tt
stands_alone before (entry.Mark (mark.Fault w r count)) after other = tt
stands_alone before (entry.Mark (mark.Failed r)) after other = tt
stands_alone before (entry.Mark (mark.Added r source name)) after other = tt
stands_alone before (entry.Mark (mark.Promoted r)) after other = tt
stands_alone before (entry.Mark (mark.Aborted r)) after other = absurd other

pub behind_falls_none : (before es : List Entry) → HasNoAborted es → StandFrom StandsBehindFall before es
behind_falls_none before [] none = tt
behind_falls_none before (e ∷ es) none = (stands_alone before e es none.0, behind_falls_none (before ++ e ∷ []) es none.1)
