use Rattle.std.proofs.Common.{◌∙◌, ap}
use Rattle.backup_config.specs.Kinds.{are_within}
use Rattle.serde_json.specs.View.{view}
use Rattle.backup_config.proofs.MemberLemmas.{not_within}
use Rattle.backup_config.proofs.backup_cfg.members_in.Goals as goal

pub returns-then-not-are_within : goal.returns-then-not-are_within
returns-then-not-are_within c m has =
    let out = c.if-not-are_within.ensures ∙ ap (are_within c.in_ok-size.size) c.deref-2.ensures.value in
    not_within c.args.volume.now c.args.backup.now c.args.disk (view c.args.cfg.now) _ _ c.in_ok-blocks.ensures
    c.in_ok-size.ensures out m has
