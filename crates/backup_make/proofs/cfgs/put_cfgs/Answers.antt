use Rattle.std.proofs.Common.{◌≡◌, rules}
use Rattle.backup_units.specs.Names.{cfg_name, volume_name}
use Rattle.backup_make.proofs.MadeLemmas.{both_ok, has_cfgs}
use Rattle.backup_make.proofs.cfgs.put_cfgs.Goals as goal

pub returns-clause-ok : goal.returns-clause-ok
returns-clause-ok g c tells =
    let cfg = c.args.cfg.now in
    let first : c.deref.result.now ≡ volume_name cfg.volume = search rules in
    let last : c.deref-3.result.now ≡ cfg_name cfg.volume cfg.name = search rules in
    both_ok c.put_both.result
    (has_cfgs (g.T.Target.holds c.put_both.new.target) cfg c.args.size c.in_ok-volume_cfg.volume_cfg c.deref.result.now
    c.deref-2.result.now c.in_ok-volume_text.volume_text.items c.deref-3.result.now c.deref-4.result.now
    c.in_ok-text.text.items first c.deref-2.ensures.value last c.deref-4.ensures.value c.in_ok-volume_cfg.ensures
    c.in_ok-volume_text.ensures.text c.in_ok-volume_text.ensures.reads_back c.in_ok-text.ensures.text
    (λ told. c.in_ok-text.ensures.reads_back told (c.in_ok-text.ensures.short c.requires.short)))
    (c.put_both.ensures.first tells) (c.put_both.ensures.last tells)
