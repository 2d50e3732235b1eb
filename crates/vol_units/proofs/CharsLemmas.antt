-- Lemmas on specs/Chars.antt.
use Rattle.std.proofs.Common.{◌≡◌, ℕ, ◌+◌, ◌-◌, ◌≤◌, List, length, drop, replicate, ap, sym, ◌∙◌, arith}
use Rattle.std.proofs.Common.{length-append, length-take, length-drop}
use Rattle.std.proofs.lemmas.List.{drop-drop, drop-replicate}
use Rattle.std.proofs.lemmas.Slice.{drop-put_mid}
use borrow.Rule.Slice.PartMut.{put_mid}
use Rattle.vol_units.specs.Chars.{IsPadded}

-- more bytes take the first of the zeros
pub IsPadded-append : (places bytes : List ℕ) (len k : ℕ) → IsPadded places len → len + length bytes ≤ 64 → k ≡ length bytes
    → IsPadded (put_mid len k places bytes) (len + length bytes)
IsPadded-append places bytes len k p room same =
    let within : len + k ≤ length places = omega (arith, p.whole) in
    record {
      within = room;
      whole = simp (length-append, length-take, length-drop) (omega (arith, p.whole));
      rest =
          drop-put_mid len k places bytes (len + length bytes) (omega arith) (omega arith) (sym same)
          ∙ sym (drop-drop (length bytes) len places)
          ∙ ap (drop (length bytes)) p.rest
          ∙ drop-replicate (length bytes) (64 - len) 0
          ∙ ap (λ n. replicate n 0) (omega arith);
    }
