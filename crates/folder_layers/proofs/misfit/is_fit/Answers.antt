use Rattle.std.proofs.Common.{◌≡◌, ◌<◌, true, false, subst, sym, ap, refl, ◌∙◌, map, string_bytes, length, [], arith}
use Rattle.std.proofs.lemmas.Bool.{false≢true}
use Rattle.std.proofs.lemmas.List.{get_or-map, length-map}
use Rattle.folder_checks.specs.Snapshots.{metas_of, name_at}
use Rattle.folder_layers.specs.Layers.{IsEarlier}
use Rattle.folder_layers.proofs.FitLemmas.{metas_count, stands_at, fit_by}
use Rattle.folder_layers.proofs.misfit.is_fit.Goals as goal

pub returns-then-not-stands_on_one-clause-fit : goal.returns-then-not-stands_on_one-clause-fit
returns-then-not-stands_on_one-clause-fit c =
    let by = stands_at c.args.snapshots.now c.args.parents.now c.args.place c.index-snapshots-place.result false
    c.requires.parents c.requires.within c.if-not-stands_on_one.ensures in
    (λ no. absurd (false≢true no), λ fit. by.1 fit.stands)

pub returns-clause-fit : goal.returns-clause-fit
returns-clause-fit c =
    let names = map string_bytes c.args.names.now in
    let metas = metas_of c.args.snapshots.now in
    let place = c.args.place in
    let inside : place < length metas = omega (arith, metas_count c.args.snapshots.now, c.requires.within) in
    let in_names : place < length c.args.names.now =
    omega (arith, inside, c.requires.listed.count, length-map c.args.names.now string_bytes) in
    let by = stands_at c.args.snapshots.now c.args.parents.now place c.index-snapshots-place.result true
    c.requires.parents c.requires.within c.if-not-stands_on_one.ensures in
    let named : c.as_bytes.result.now ≡ name_at names place = c.as_bytes.ensures.value ∙ (ap string_bytes c.index-names-place.is
    ∙ sym (get_or-map string_bytes c.args.names.now place c.index-names-place.result [] in_names)) in
    fit_by c.args.number names metas c.args.parents.now c.requires.listed c.requires.parents place inside c.comes_back.result
    (by.0 refl) (subst (IsEarlier c.args.number) named (c.if-not-is_earlier.ensures.0 refl)) c.comes_back.ensures.answer
