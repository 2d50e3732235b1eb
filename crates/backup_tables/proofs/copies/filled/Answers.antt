use Rattle.std.proofs.Common.{◌≡◌, length, ap, ◌∙◌, rules}
use Rattle.vol_units.specs.Bytes.{zeros}
use Rattle.backup_tables.proofs.ChangedLemmas.{zeros_length, else_zeros, weaker}
use Rattle.backup_tables.proofs.copies.filled.Goals as goal

pub changed-requires-clause-old : goal.changed-requires-clause-old
changed-requires-clause-old c =
    let blank : c.deref.result.now ≡ zeros (length c.args.disk.now) = search rules in
    ap length blank ∙ zeros_length (length c.args.disk.now) ∙ c.requires

pub returns-clause-zeros : goal.returns-clause-zeros
returns-clause-zeros c =
    let blank : c.deref.result.now ≡ zeros (length c.args.disk.now) = search rules in
    weaker _ _ c.changed.result
    (λ pages same. else_zeros c.args.disk.now c.deref.result.now pages.items c.args.count blank c.requires same)
    c.changed.ensures.same
