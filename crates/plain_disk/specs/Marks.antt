-- Which marks take memory.
use Rattle.volume_model.specs.declared.mark.Mark.{Mark}
use Rattle.volume_model.specs.declared.mark.Mark.TheVariants as mark

-- the mark takes a snapshot
abbrev pub MarkTakesSnapshot : Mark → Type 0
MarkTakesSnapshot (mark.Added replica source name) = Unit {0}
MarkTakesSnapshot m = ⊥
