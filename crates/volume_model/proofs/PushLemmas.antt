-- A journal with more entries at its end.
use Rattle.std.proofs.Common.{◌≡◌, List, [], ◌∷◌, ◌++◌}
use Rattle.volume_model.specs.declared.entry.Entry.{Entry}
use Rattle.volume_model.specs.declared.mode.Mode.{Mode}
use Rattle.volume_model.specs.Modes.{modes_after_entry, modes_after}
use Rattle.volume_model.specs.History.{Spot, MayStand, IsLegal}
use Rattle.volume_model.proofs.StepLemmas.{modes_after-append}
use Rattle.volume_model.proofs.LegalLemmas.{LegalAfter-append}

pub modes_after-push : (modes : List Mode) (es : List Entry) (e : Entry)
    → modes_after modes (es ++ e ∷ []) ≡ modes_after_entry (modes_after modes es) e
modes_after-push modes es e = modes_after-append modes es (e ∷ [])

-- an entry more that may stand there with nothing behind it
pub IsLegal-push : (o : Spot) (es : List Entry) (e : Entry) → IsLegal o es → MayStand o es e [] → IsLegal o (es ++ e ∷ [])
IsLegal-push o es e legal may = LegalAfter-append o [] es (e ∷ []) legal (may, tt)
