use Rattle.std.proofs.Common.{◌≡◌, ◌<◌, ◌∙◌, sym, ap, subst, rules, arith, map, string_bytes, Global, get_or, [], None, length}
use Rattle.std.proofs.lemmas.List.{get_or-map, length-map}
use Rattle.chain_meta.specs.ImageNames.{snapshot_file}
use Rattle.folder_checks.specs.Told.{Told}
use Rattle.folder_checks.specs.Images.{IsImageCheck}
use Rattle.folder_checks.proofs.SnapshotLemmas.{good_more, fault_at, known_more}
use Rattle.folder_checks.proofs.checking.check_snapshots.Goals as goal

pub returns-in-Bad-clause-told : goal.returns-in-Bad-clause-told
returns-in-Bad-clause-told g c =
    let text = string_bytes {Z = Global} in
    let names = c.args.names.now in
    let place = c.loop-place.place in
    let now = g.S.Shelves.holds c.loop-place.shelves in
    let within : place < length names = omega arith in
    let size : place < length (map text names) = omega (arith, length-map names text) in
    let item : get_or (map text names) place [] ≡ c.as_str-name.result.now =
    get_or-map text names place c.index-names-place.result [] within ∙ ap text (sym c.index-names-place.is)
    ∙ sym c.as_str-name.ensures.value in
    fault_at (g.S.Shelves.holds c.args.shelves.now) now c.args.shelf c.args.size c.args.block_count (map text names) place
    c.as_str-name.result.now (string_bytes c.in-Bad.damage.file) c.in-Bad.damage.place c.loop-place.all.items
    c.loop-place.invariant.same size item c.loop-place.invariant.good
    (subst (λ x. Told now (λ files. IsImageCheck (files c.args.shelf) c.args.size c.args.block_count
    (snapshot_file c.as_str-name.result.now) None x)) c.in-Bad.is c.in_ok-parts.ensures.told)

pub loop-place-preserved : goal.loop-place-preserved
loop-place-preserved g c =
    let text = string_bytes {Z = Global} in
    let names = c.args.names.now in
    let place = c.loop-place.place in
    let now = g.S.Shelves.holds c.loop-place.shelves in
    let within : place < length names = omega arith in
    let item : get_or (map text names) place [] ≡ c.as_str-name.result.now =
    get_or-map text names place c.index-names-place.result [] within ∙ ap text (sym c.index-names-place.is)
    ∙ sym c.as_str-name.ensures.value in
    record {
      good = good_more (g.S.Shelves.holds c.args.shelves.now) now c.args.shelf c.args.size c.args.block_count (map text names) place
          c.as_str-name.result.now c.loop-place.all.items c.push.new.self.items c.in-Good.parts c.loop-place.invariant.same item
          c.in_ok-push-in-Good.ensures.items c.loop-place.invariant.good
          (subst (λ x. Told now (λ files. IsImageCheck (files c.args.shelf) c.args.size c.args.block_count
          (snapshot_file c.as_str-name.result.now) None x)) c.in-Good.is c.in_ok-parts.ensures.told);
      known = known_more c.args.block_count (map text names) place c.as_str-name.result.now c.loop-place.all.items c.push.new.self.items
          c.in-Good.parts c.in_ok-parts.field-0 item c.in_ok-push-in-Good.ensures.items c.in-Good.is c.in_ok-parts.ensures.known
          c.loop-place.invariant.known;
      same = search rules;
      faults = search rules;
    }
