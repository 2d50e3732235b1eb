-- With one entry more, what a journal keeps is still what the entries leave.
use Rattle.std.proofs.Common.{◌≡◌, ℕ, List, [], ◌∷◌, ◌++◌, sym, ap, ◌∙◌}
use Rattle.journal_book.specs.declared.faults.LastCount.{LastCount}
use Rattle.journal_book.specs.Lines.{count_in, AreLast}
use Rattle.volume_model.specs.declared.entry.Entry.{Entry}
use Rattle.volume_model.specs.declared.mode.Mode.{Mode}
use Rattle.volume_model.specs.declared.names.UsedName.{UsedName}
use Rattle.volume_model.specs.Faults.{last_in, fault_counts, last_count}
use Rattle.volume_model.specs.Modes.{modes_after, modes_after_entry}
use Rattle.volume_model.specs.Names.{layers_after, layers_after_entry, names_after, names_after_entry}
use Rattle.volume_model.proofs.FaultLemmas.{last_count-append}
use Rattle.volume_model.proofs.PushLemmas.{modes_after-push}
use Rattle.journal_book.proofs.BookLemmas.{layers_after-push, names_after-push}

pub modes_left : (opening ms ms2 : List Mode) (es es2 : List Entry) (e : Entry)
    → ms ≡ modes_after opening es → ms2 ≡ modes_after_entry ms e → es2 ≡ es ++ e ∷ [] → ms2 ≡ modes_after opening es2
modes_left opening ms ms2 es es2 e left more pushed =
    more ∙ ap (λ m. modes_after_entry m e) left ∙ sym (modes_after-push opening es e) ∙ ap (modes_after opening) (sym pushed)

pub layers_left : (opening n n2 : ℕ) (es es2 : List Entry) (e : Entry)
    → n ≡ layers_after opening es → n2 ≡ layers_after_entry n e → es2 ≡ es ++ e ∷ [] → n2 ≡ layers_after opening es2
layers_left opening n n2 es es2 e left more pushed =
    more ∙ ap (λ m. layers_after_entry m e) left ∙ sym (layers_after-push opening es e) ∙ ap (layers_after opening) (sym pushed)

pub names_left : (opening ns ns2 : List UsedName) (es es2 : List Entry) (e : Entry)
    → ns ≡ names_after opening es → ns2 ≡ names_after_entry ns e → es2 ≡ es ++ e ∷ [] → ns2 ≡ names_after opening es2
names_left opening ns ns2 es es2 e left more pushed =
    more ∙ ap (λ m. names_after_entry m e) left ∙ sym (names_after-push opening es e) ∙ ap (names_after opening) (sym pushed)

pub lines_left : (ls ls2 : List LastCount) (es es2 : List Entry) (e : Entry) → AreLast ls es
    → ((s r : ℕ) → count_in s r ls2 ≡ last_in (count_in s r ls) (fault_counts s r (e ∷ []))) → es2 ≡ es ++ e ∷ [] → AreLast ls2 es2
lines_left ls ls2 es es2 e left more pushed s r =
    more s r ∙ ap (λ n. last_in n (fault_counts s r (e ∷ []))) (left s r) ∙ sym (last_count-append s r es (e ∷ []))
    ∙ ap (last_count s r) (sym pushed)
