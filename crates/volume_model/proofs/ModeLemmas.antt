-- A replica that has failed stays so where another one fails.
use Rattle.std.proofs.Common.{◌≡◌, ℕ, List, length, set, get_or-set_same, get_or-set_other, sym, subst, ◌∙◌, arith, ⊎_elim}
use Rattle.std.proofs.lemmas.Bool.{cases_lt, cases_eq}
use Rattle.std.proofs.lemmas.List.{length-set, get_or_past}
use Rattle.volume_model.specs.declared.mode.Mode.{Mode}
use Rattle.volume_model.specs.declared.mode.Mode.TheVariants.{Err}
use Rattle.volume_model.specs.Modes.{mode_of}

pub failed_is : (modes : List Mode) (r : ℕ) → mode_of (set modes r Err) r ≡ Err
failed_is modes r = ⊎_elim
    (λ l. get_or-set_same modes r Err Err l)
    (λ l. get_or_past (set modes r Err) r Err (omega (arith, l, length-set modes r Err)))
    (cases_lt r (length modes))

pub failed_stays : (modes : List Mode) (q r : ℕ) → mode_of modes r ≡ Err → mode_of (set modes q Err) r ≡ Err
failed_stays modes q r failed = ⊎_elim
    (λ e. subst (λ n. mode_of (set modes q Err) n ≡ Err) (sym e) (failed_is modes q))
    (λ apart. get_or-set_other modes q r Err Err apart ∙ failed)
    (cases_eq r q)
