-- The lines of backups, one after another.
use Rattle.std.proofs.Common.{◌≡◌, ℕ, zero, suc, ◌+◌, ◌<◌, ◌≤◌, List, [], ◌∷◌, ◌++◌, length, take, get_or, length-take}
use Rattle.std.proofs.Common.{Option, Err, inr, refl, sym, ap, subst, ◌∙◌, arith, append_assoc}
use Rattle.std.proofs.lemmas.List.{take_more, take_all, get_or-take, get_or_read}
use Rattle.outer_traits.specs.Passing.{WritesPrefix}
use Rattle.target_traits.specs.Objects.{Objects}
use Rattle.backup_restore.specs.Listed.{AreLines, IsListOf, WritesSomeList, HasCfg}
use Rattle.backup_restore.specs.Listed.{name_at, backup_line}
use Rattle.backup_restore.specs.Listing.{AddsLine, RefusesOneOf}
use Rattle.backup_restore.specs.ReadCfg.{RefusesCfg, AnswersCfg}
use Rattle.backup_restore.specs.declared.error.RestoreError.{RestoreError}
use Rattle.backup_restore.specs.declared.error.RestoreError.TheVariants.{Refused, TargetFault, WriteFault, NoMemory}

module _ (objects : Objects) (volume : List ℕ) where
  pub lines_none : AreLines objects volume [] []
  unfolding AreLines
  lines_none = refl

  one_more : (names : List (List ℕ)) (name old new : List ℕ) → AddsLine objects volume name old new
      → AreLines objects volume names old → AreLines objects volume (names ++ name ∷ []) new
  unfolding AreLines
  one_more [] name old new (cfg, is, same) none =
      (cfg, is, [], refl, same ∙ ap (λ text. text ++ (backup_line name cfg ++ (10 ∷ []))) none)
  one_more (first ∷ names) name old new (cfg, is, same) (of_first, read, rest, more, text) =
      let line = backup_line name cfg ++ (10 ∷ []) in (
        of_first,
        read,
        rest ++ line,
        one_more names name rest (rest ++ line) (cfg, is, refl) more,
        same ∙ ap (λ t. t ++ line) text ∙ append_assoc (backup_line first of_first) (10 ∷ rest) line,
      )

  -- each backup that has a line has a cfg
  pub has_cfgs : (names : List (List ℕ)) (text : List ℕ) → AreLines objects volume names text
      → (place : ℕ) → place < length names → HasCfg objects volume (name_at names place)
  unfolding AreLines
  has_cfgs [] text lines place within = absurd (omega (arith, within))
  has_cfgs (name ∷ names) text (cfg, is, rest, more, same) zero within = (cfg, is)
  has_cfgs (name ∷ names) text (cfg, is, rest, more, same) (suc place) within = has_cfgs names rest more place (omega (arith, within))

  module _ (names : List (List ℕ)) where
    pub lines_more : (i : ℕ) (name old new : List ℕ) → i < length names → name ≡ get_or names i name
        → AddsLine objects volume name old new → AreLines objects volume (take i names) old
        → AreLines objects volume (take (i + 1) names) new
    lines_more i name old new within is adds had =
        subst (λ l. AreLines objects volume l new)
        (sym (take_more names i name within ∙ ap (λ n. take i names ++ n ∷ []) (sym is)))
        (one_more (take i names) name old new adds had)

    pub lines_all : (i : ℕ) (text : List ℕ) → length names ≤ i → AreLines objects volume (take i names) text
        → AreLines objects volume names text
    lines_all i text past had = subst (λ l. AreLines objects volume l text) (take_all i names past) had

    cfgs_before : (i : ℕ) (text : List ℕ) → i < length names → AreLines objects volume (take i names) text
        → (place : ℕ) → place < i → HasCfg objects volume (name_at names place)
    cfgs_before i text within had place before =
        subst (HasCfg objects volume) (get_or-take i names place [] before)
        (has_cfgs (take i names) text had place (omega (arith, before, within, length-take i names)))

    -- the cfg of the next backup is refused
    pub first_refused : (i : ℕ) (name text : List ℕ) (e : RestoreError) → i < length names → name ≡ get_or names i name
        → AreLines objects volume (take i names) text → AnswersCfg objects volume name (Err e) → RefusesOneOf objects volume names e
    first_refused i name text (Refused kind object) within is had refused = (
      i,
      record {
        within = within;
        refused = subst (λ n. RefusesCfg objects volume n kind object) (get_or_read names i name within is []) refused;
        before = cfgs_before i text within had;
      },
    )
    first_refused i name text TargetFault within is had r = tt
    first_refused i name text WriteFault within is had r = absurd r
    first_refused i name text NoMemory within is had r = tt

  pub some_written : (text : List ℕ) (old new : Option (List ℕ)) → IsListOf objects volume text → WritesPrefix old new text
      → WritesSomeList objects volume old new
  some_written text old new is wrote = inr (text, is, wrote)
