use Rattle.std.proofs.Common.{refl, map, string_bytes, arith}
use Rattle.std.proofs.lemmas.Bool.{false≢true}
use Rattle.folder_checks.specs.Snapshots.{metas_of}
use Rattle.folder_layers.specs.Layers.{HeadStandsOnNone, IsFirst, AreTooMany}
use Rattle.folder_layers.proofs.FitLemmas.{metas_count, fit_all}
use Rattle.folder_layers.proofs.misfit.first_misfit.Goals as goal

pub returns-then-not-stands_on_one : goal.returns-then-not-stands_on_one
returns-then-not-stands_on_one c =
    let metas = metas_of c.args.snapshots.now in
    let by = c.if-not-stands_on_one.ensures metas (c.parent_place.ensures metas c.requires) in
    HeadStandsOnNone (λ stands. false≢true (by.1 stands))

pub returns-in-Some : goal.returns-in-Some
returns-in-Some c =
    let metas = metas_of c.args.snapshots.now in
    let by = c.if-not-stands_on_one.ensures metas (c.parent_place.ensures metas c.requires) in
    let first = c.in-Some.ensures in
    IsFirst c.in-Some.place first.within (by.0 refl) first.before first.unfit

pub returns-then-snapshots-ge-MOST_LAYERS : goal.returns-then-snapshots-ge-MOST_LAYERS
returns-then-snapshots-ge-MOST_LAYERS c =
    let metas = metas_of c.args.snapshots.now in
    let by = c.if-not-stands_on_one.ensures metas (c.parent_place.ensures metas c.requires) in
    AreTooMany (by.0 refl)
    (fit_all c.args.number (map string_bytes c.args.names.now) c.args.snapshots.now c.in_default.ensures)
    (omega (arith, metas_count c.args.snapshots.now))

pub returns : goal.returns
returns c =
    let metas = metas_of c.args.snapshots.now in
    let by = c.if-not-stands_on_one.ensures metas (c.parent_place.ensures metas c.requires) in
    record {
      head_stands = by.0 refl;
      snapshots = fit_all c.args.number (map string_bytes c.args.names.now) c.args.snapshots.now c.in_default.ensures;
      few = omega (arith, metas_count c.args.snapshots.now);
    }
