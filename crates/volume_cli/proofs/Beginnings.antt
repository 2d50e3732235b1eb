-- What a run that began rules out, and one that did not.
use Rattle.std.proofs.Common.{◌≡◌, ℕ, Bool, true, false, Option, Some, List, get_or, subst, inl, inr}
use Rattle.shelf_traits.specs.Files.{Files}
use Rattle.folder_checks.specs.Told.{Told}
use Rattle.replica_node.specs.Node.{blank}
use Rattle.script_text.specs.declared.script.Script.{Script}
use Rattle.script_text.specs.declared.what.What.{What}
use Rattle.script_text.specs.Script.{IsScript, IsNoScript}
use Rattle.script_text.proofs.OneAnswer.{not_both, one_script}
use Rattle.volume_folders.specs.declared.reason.Reason.{Reason}
use Rattle.volume_folders.specs.Opened.{NoneIsClean}
use Rattle.volume_folders.proofs.CleanLemmas.{none_of}
use Rattle.volume_cli.specs.Begun.{Begin, BeginsOn, HasBegun, HasNoCleanShelf, HasCleanShelf, CanBegin, CannotBegin, HadScript}

-- what is told is true of what they hold
pub told_at : (held : Option Files) (files : Files) (Says : Files → Type 0) → held ≡ Some files → Told held Says → Says files
told_at held files Says is told = subst (λ h. Told h Says) is told

-- the disk of a run is a clean folder
begins_clean : (files : Files) (script : Script) (begin : Begin) → BeginsOn files script begin → HasCleanShelf script files
begins_clean files script begin on =
    (on.opened.source, on.opened.there, (get_or on.nodes on.opened.source (blank 0), on.opened.opened.clean))

-- a run that began could begin
pub began : (held : Option Files) (script : Script) (begin : Begin) → HasBegun held script begin → CannotBegin held script → ⊥
began held script begin has (opens, (files, is, none)) =
    none (begins_clean files script begin (told_at held files (λ fs. BeginsOn fs script begin) is (has.opened opens)))

not_both_flags : (flag : Bool) → flag ≡ true → flag ≡ false → ⊥
not_both_flags flag is is_not = cc

-- and one that no folder is clean for could not
pub began_not : (held : Option Files) (script : Script) (reasons : List Reason) → HasNoCleanShelf held script reasons
    → CanBegin held script → ⊥
began_not held script reasons none (inl blank) = not_both_flags script.opens none.opens blank
began_not held script reasons none (inr (files, is, (r, there, clean))) =
    none_of files script.size r reasons (told_at held files (λ fs. NoneIsClean fs script.size reasons) is none.refused)
    (rw none.many there) clean

-- ---- of what the source had

-- the source had one script
pub one_had : (told : List ℕ) (script other : Script) → HadScript (Some told) script → IsScript told other → other ≡ script
one_had told script other (input, is, same) other_is =
    one_script input other script (subst (λ text. IsScript text other) same other_is) is

-- where a run had a script, what the source had is refused nowhere
pub had_no_refusal : (told : List ℕ) (script : Script) (place : ℕ) (what : What) → HadScript (Some told) script
    → IsNoScript told place what → ⊥
had_no_refusal told script place what (input, is, same) refused =
    not_both input script place what is (subst (λ text. IsNoScript text place what) same refused)

-- a script that had begun could begin
pub had_begun : (told : List ℕ) (held : Option Files) (script other : Script) (begin : Begin) → HadScript (Some told) script
    → HasBegun held script begin → IsScript told other → CannotBegin held other → ⊥
had_begun told held script other begin had has is cannot =
    began held script begin has (subst (CannotBegin held) (one_had told script other had is) cannot)

-- and one that could not begin could not
pub had_not_begun : (told : List ℕ) (held : Option Files) (script other : Script) (reasons : List Reason)
    → HadScript (Some told) script → HasNoCleanShelf held script reasons → IsScript told other → CanBegin held other → ⊥
had_not_begun told held script other reasons had none is can =
    began_not held script reasons none (subst (CanBegin held) (one_had told script other had is) can)
