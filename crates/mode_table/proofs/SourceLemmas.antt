-- The source is the first replica that is read and written.
use Rattle.std.proofs.Common.{◌≡◌, ◌≢◌, ℕ, ◌<◌, Option, None, Some, MatchOption, IfSome, List, length, sym, ap, ◌∙◌, refl, ⊎_elim, arith}
use Rattle.std.proofs.lemmas.Bool.{cases_lt}
use Rattle.std.proofs.Math.ListN.{get_or-eq_default}
use Rattle.volume_model.specs.declared.mode.Mode.{Mode}
use Rattle.volume_model.specs.declared.mode.Mode.TheVariants.{Rw, Err}
use Rattle.volume_model.specs.Modes.{mode_of, source_of, IsSource, HasNoSource}
use Rattle.volume_model.proofs.SpotLemmas.{source_is, no_source}

err_not : Err ≢ Rw
err_not e = cc

-- a replica that is read is there
pub within_from_read : (modes : List Mode) (r : ℕ) → mode_of modes r ≡ Rw → r < length modes
within_from_read modes r read =
    ⊎_elim
    (λ within. within)
    (λ past. absurd (err_not (sym (get_or-eq_default modes Err past) ∙ read)))
    (cases_lt r (length modes))

-- so is the source
pub within_where_found : (modes : List Mode) (found : Option ℕ) → MatchOption found (HasNoSource modes) (IsSource modes)
    → IfSome found (λ s. s < length modes)
within_where_found modes None none = tt
within_where_found modes (Some s) source = within_from_read modes s source.read

-- there is one source
one_source : (modes : List Mode) (a b : ℕ) → IsSource modes a → IsSource modes b → a ≡ b
one_source modes a b x y =
    ⊎_elim
    (λ below. absurd (y.first a below x.read))
    (λ above. ⊎_elim (λ below. absurd (x.first b below y.read)) (λ same. omega arith) (cases_lt b a))
    (cases_lt a b)

-- an answer that is the source, or that there is none where there is none, is the first that is
pub source_of-found : (modes : List Mode) (found : Option ℕ) → MatchOption found (HasNoSource modes) (IsSource modes)
    → found ≡ source_of modes
source_of-found modes found tells = go found (source_of modes) refl tells
  where
    go : (found is : Option ℕ) → source_of modes ≡ is → MatchOption found (HasNoSource modes) (IsSource modes) → found ≡ is
    go None None e none = refl
    go None (Some s) e none = absurd (none s (source_is modes s e).read)
    go (Some s) None e source = absurd (no_source modes e s source.read)
    go (Some s) (Some t) e source = ap (λ r. Some r) (one_source modes s t source (source_is modes t e))
