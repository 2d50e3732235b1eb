use Rattle.std.proofs.Common.{◌≡◌, Some, map, string_bytes, length, sym, ap, ◌∙◌}
use Rattle.std.proofs.lemmas.List.{length-map}
use Rattle.folder_layers.proofs.ParentLemmas.{parent_other, parent_by}
use Rattle.folder_layers.proofs.parents.parent_place.Goals as goal

pub returns-in-None : goal.returns-in-None
returns-in-None c = λ metas listed.
    let told : c.as_bytes.result.now ≡ c.in_ok-parent.parent.now = c.as_bytes.ensures.value ∙ c.as_str.ensures.value in
    parent_other (map string_bytes c.args.names.now) metas listed c.args.layer.now c.as_bytes.result.now
    (sym c.in_ok-parent.ensures.value ∙ ap Some (sym told)) c.in-None.ensures

pub returns-in-Some : goal.returns-in-Some
returns-in-Some c = λ metas listed.
    let told : c.as_bytes.result.now ≡ c.in_ok-parent.parent.now = c.as_bytes.ensures.value ∙ c.as_str.ensures.value in
    parent_by (map string_bytes c.args.names.now) metas listed c.args.layer.now c.as_bytes.result.now c.in-Some.name.now
    (length c.args.names.now) (sym (length-map c.args.names.now string_bytes)) (sym c.in_ok-parent.ensures.value ∙ ap Some (sym told))
    c.in-Some.ensures c.place_of.result (c.place_of.ensures listed.rising)
