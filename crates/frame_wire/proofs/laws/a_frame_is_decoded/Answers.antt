use Rattle.std.proofs.Common.{◌++◌, sym, subst}
use Rattle.frame_wire.specs.Spelling.{frame}
use Rattle.frame_wire.specs.Decoding.{Decodes}
use Rattle.frame_wire.proofs.OneAnswer.{frame_decodes, one_answer}
use Rattle.frame_wire.proofs.laws.a_frame_is_decoded.Goals as goal

pub returns : goal.returns
returns c =
    λ h body rest most answer head len fits.
    let bytes = frame h body ++ rest in
    let there = frame_decodes h body rest most head len fits in
    (λ p. one_answer bytes most answer _ p there, λ e. subst (Decodes bytes most) (sym e) there)
