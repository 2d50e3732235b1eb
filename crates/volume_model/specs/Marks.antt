-- What a mark of a journal changes: a part of a purge takes a snapshot out, and the begin of a rebuild takes one.
use Rattle.std.specs.Prelude.{List, [], ◌∷◌, map}
use Rattle.volume_model.specs.declared.entry.Entry.{Entry}
use Rattle.volume_model.specs.declared.entry.Entry.TheVariants as entry
use Rattle.volume_model.specs.declared.mark.FoldOrDrop.{FoldOrDrop}
use Rattle.volume_model.specs.declared.mark.Mark.{Mark}
use Rattle.volume_model.specs.declared.mark.Mark.TheVariants as mark
use Rattle.volume_model.specs.PlainState.{PlainState, purged, taken}

-- the entry is no answer
abbrev pub IsMark : Entry → Type 0
IsMark (entry.Answer a) = ⊥
IsMark (entry.Mark m) = Unit {0}

-- none of the entries is a mark
abbrev pub HasNoMark : List Entry → Type 0
HasNoMark [] = Unit {0}
HasNoMark (entry.Answer a ∷ es) = HasNoMark es
HasNoMark (entry.Mark m ∷ es) = ⊥

-- the state after a mark
abbrev pub after_mark : PlainState → Mark → PlainState
after_mark state (mark.Purged part) = record state { volume = purged state.volume part }
after_mark state (mark.Added replica source name) = taken state name
after_mark state m = state

-- the marks of a purge
abbrev pub marks_of : List FoldOrDrop → List Entry
marks_of parts = map (λ part. entry.Mark (mark.Purged part)) parts
