use Rattle.std.proofs.Common.{[], ◌∷◌, ◌++◌, ◌∙◌, length, length-append, ap, arith}
use Rattle.packed_entries.specs.Listed.{Listed}
use Rattle.journal_book.proofs.LeftLemmas.{modes_left, layers_left, names_left, lines_left}
use Rattle.journal_book.proofs.journal.Journal.push_reserved.Goals as goal

pub invariant_of-self : goal.invariant_of-self
invariant_of-self c =
    let j = c.self.inside in
    let left = c.self.invariant.0 in
    let es = j.entries.entries in
    let e = c.args.entry in
    let put = c.push_plain.ensures.pushed c.if-push_plain.true in
    let pushed = put.entries in
    let spare = put.spare in (
      record {
        modes = modes_left j.opening.value.modes j.modes _ es _ e left.modes c.follow_modes.ensures pushed;
        layers = layers_left j.opening.value.layers j.layers _ es _ e left.layers c.layers_after-self-inside.ensures.layers pushed;
        names = names_left j.opening.value.names _ _ es _ e left.names c.follow_names.ensures.names pushed;
        lines = lines_left j.lines.items _ es _ e left.lines c.follow_faults.ensures.counts pushed;
      },
      record {
        names = omega (arith, spare);
        lines = omega (arith, spare);
        layers = omega (arith, ap length pushed, length-append es (e ∷ []));
      },
    )

pub invariant_of-self-2 : goal.invariant_of-self-2
invariant_of-self-2 c =
    let j = c.self.inside in
    let left = c.self.invariant.0 in
    let es = j.entries.entries in
    let e = c.args.entry in
    let same = c.push_plain.ensures.same c.if-push_plain.false in
    let pushed = c.push.ensures.entries ∙ ap (λ (l : Listed). l.entries ++ e ∷ []) same in
    let spare = ap (λ (l : Listed). l.spare) same in (
      record {
        modes = modes_left j.opening.value.modes j.modes _ es _ e left.modes c.follow_modes.ensures pushed;
        layers = layers_left j.opening.value.layers j.layers _ es _ e left.layers c.layers_after-self-inside.ensures.layers pushed;
        names = names_left j.opening.value.names _ _ es _ e left.names c.follow_names.ensures.names pushed;
        lines = lines_left j.lines.items _ es _ e left.lines c.follow_faults.ensures.counts pushed;
      },
      record {
        names = omega (arith, spare);
        lines = omega (arith, spare);
        layers = omega (arith, ap length pushed, length-append es (e ∷ []));
      },
    )
