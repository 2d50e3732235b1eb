use Rattle.std.proofs.Common.{◌∙◌, sym, map, string_bytes, Global}
use Rattle.folder_checks.proofs.ListingLemmas.{one_more, no_meta, no_name}
use Rattle.folder_checks.proofs.listing.add_snapshot.Goals as goal

pub returns-in-None : goal.returns-in-None
returns-in-None c =
    no_meta c.args.file.now (map (string_bytes {Z = Global}) c.args.names.now.items)
    (λ rest e. c.in-None.ensures rest (c.as_bytes.ensures.value ∙ e))

pub returns-in-None-snapshot_name : goal.returns-in-None-snapshot_name
returns-in-None-snapshot_name c =
    no_name c.args.file.now c.in-Some.image.now (map (string_bytes {Z = Global}) c.args.names.now.items)
    (sym c.as_bytes.ensures.value ∙ c.in-Some.ensures) c.in-None-snapshot_name.ensures

pub returns : goal.returns
returns c =
    one_more (string_bytes {Z = Global}) c.args.file.now c.in-Some.image.now c.in-Some-snapshot_name.name.now c.args.names.now.items
    c.push.new.self.items c.in_ok-name_text.field-0 c.in_ok-push.ensures.items c.in_ok-name_text.ensures c.in-Some-snapshot_name.ensures.0
    (sym c.as_bytes.ensures.value ∙ c.in-Some.ensures) c.in-Some-snapshot_name.ensures.1
