use Rattle.std.proofs.Common.{◌∙◌, sym, ap, subst, map, string_bytes, Global}
use Rattle.std.specs.Prelude.{Contains}
use Rattle.std.proofs.lemmas.Bool.{false≢true}
use Rattle.shelf_memory.specs.Kept.{Kept, Stays}
use Rattle.shelf_memory.proofs.NameLemmas.{grows}
use Rattle.shelf_memory.proofs.names.add_name.Goals as goal

pub returns-then-file-shelf : goal.returns-then-file-shelf
returns-then-file-shelf c = Stays (λ on. absurd (c.if-file-shelf.true (ap (λ (k : Kept). k.shelf) c.file.view_is ∙ on)))

pub returns-then-has_name : goal.returns-then-has_name
returns-then-has_name c =
    let text = string_bytes {Z = Global} in
    let named = c.as_str.ensures.value ∙ ap (λ (k : Kept). k.name) c.file.view_is in
    let there = c.has_name.ensures.0 c.if-has_name.true in
    Stays (λ on. subst (Contains (map text c.args.names.now.items)) named
    (subst (λ items. Contains (map text items) c.as_str.result.now) c.deref.ensures.value there))

pub returns : goal.returns
returns c =
    let text = string_bytes {Z = Global} in
    let names = c.args.names.now.items in
    let named = c.as_str.ensures.value ∙ ap (λ (k : Kept). k.name) c.file.view_is in
    grows text c.args.shelf c.args.file.now names c.push.new.self.items c.in_ok-from_str.field-0 c.in_ok-push.ensures.items
    (c.in_ok-from_str.ensures.ok ∙ c.as_str-2.ensures.value ∙ ap (λ (k : Kept). k.name) c.file.view_is)
    (ap (λ (k : Kept). k.shelf) (sym c.file.view_is) ∙ c.if-file-shelf.false)
    (λ has. false≢true (sym c.if-has_name.false ∙ c.has_name.ensures.1
    (subst (λ items. Contains (map text items) c.as_str.result.now) (sym c.deref.ensures.value)
    (subst (Contains (map text names)) (sym named) has))))
