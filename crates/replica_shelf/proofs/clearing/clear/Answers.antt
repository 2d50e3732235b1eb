use Rattle.std.proofs.Common.{rules, map, string_bytes, ◌≡◌, ◌∙◌, get_or, [], sym, ap, arith, Global}
use Rattle.std.proofs.lemmas.List.{get_or-map, length-map}
use Rattle.replica_shelf.proofs.CallLemmas.{both_then, both_and, both_map, first_half}
use Rattle.replica_shelf.proofs.ClearLemmas.{clears_more, clear_is}
use Rattle.replica_shelf.proofs.clearing.clear.Goals as goal

pub loop-place-preserved : goal.loop-place-preserved
loop-place-preserved g c =
    let names = c.in_ok-names.names.items in
    let place = c.loop-place.place in
    let now = g.S.Shelves.holds c.loop-place.shelves in
    let new = g.S.Shelves.holds c.clear_file.new.shelves in
    let e = c.in_ok-clear_file.ensures in
    let is : c.as_str.result.now ≡ get_or (map string_bytes names) place [] =
    c.as_str.ensures.value ∙ ap (string_bytes {Z = Global}) c.index.ensures
    ∙ sym (get_or-map (string_bytes {Z = Global}) names place c.index.result.now [] (omega (arith, c.len-place-end.ensures))) in
    record {
      cleared = both_then (g.S.Shelves.holds c.args.shelves.now) now new _ _ _ c.loop-place.invariant.cleared
          (both_and now new _ _ (both_and now new _ _ e.ok e.kept) (both_and now new _ _ e.others e.only))
          (λ x y z before (done, rest).
          clears_more c.args.shelf (map string_bytes names) place c.as_str.result.now x y z is before done.0 done.1 rest.0 rest.1);
      faults = search rules;
    }

pub returns-clause-ok : goal.returns-clause-ok
returns-clause-ok g c =
    let names = map string_bytes c.in_ok-names.names.items in
    let old = g.S.Shelves.holds c.args.shelves.now in
    let new = g.S.Shelves.holds c.loop-place.shelves in
    both_map old new _ _
    (both_and old new _ _
    (first_half old (g.S.Shelves.holds c.files.new.self) new _ _ c.in_ok-names.ensures.names c.loop-place.invariant.cleared)
    c.loop-place.invariant.cleared)
    (λ x y (lists, before). clear_is c.args.shelf names c.loop-place.place x y
    (omega (arith, c.len-place-end.ensures, length-map c.in_ok-names.names.items (string_bytes {Z = Global}))) lists before)
