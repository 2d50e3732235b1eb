use Rattle.std.proofs.Common.{◌≡◌, ◌≤◌, List, ℕ, inl, length, sym, subst, rules}
use Rattle.std.specs.Prelude.{string_bytes}
use Rattle.backup_config.specs.Lists.{Listing}
use Rattle.backup_make.proofs.MadeLemmas.{is_made, is_made_disk, adds_keep, adds_since, cfg_stays, keeps_then, only_backup}
use Rattle.backup_make.proofs.MadeLemmas.{name_short, seen_then}
use Rattle.backup_make.proofs.BackupLemmas.{backup_of}
use Rattle.backup_make.proofs.backup.make.Goals as goal

pub put_cfgs-requires : goal.put_cfgs-requires
put_cfgs-requires g c =
    let named : string_bytes c.in_ok-named.named ≡ c.args.snapshot.now = search rules in
    record {
      short = subst (λ (l : Listing). length l.snapshot ≤ 64) (sym c.new.ensures)
          (subst (λ (s : List ℕ). length s ≤ 64) (sym named) (name_short c.args.snapshot.now c.text_of.ensures.name));
    }

pub returns-in_err-blocks-clause-keeps : goal.returns-in_err-blocks-clause-keeps
returns-in_err-blocks-clause-keeps g c tells =
    let volume = c.args.volume.now in
    adds_keep volume c.args.backup.now _ _
    (adds_since volume _ (g.T.Target.holds c.has_cfg.new.target) _ c.has_cfg.ensures.same (c.gather_over.ensures.adds tells))

pub returns-in_err-blocks-clause-seen : goal.returns-in_err-blocks-clause-seen
returns-in_err-blocks-clause-seen g c tells =
    let volume = c.args.volume.now in
    inl (cfg_stays volume c.args.backup.now _ _
    (adds_since volume _ (g.T.Target.holds c.has_cfg.new.target) _ c.has_cfg.ensures.same (c.gather_over.ensures.adds tells)))

pub returns-in_err-named-clause-keeps : goal.returns-in_err-named-clause-keeps
returns-in_err-named-clause-keeps g c tells =
    let volume = c.args.volume.now in
    adds_keep volume c.args.backup.now _ _
    (adds_since volume _ (g.T.Target.holds c.has_cfg.new.target) _ c.has_cfg.ensures.same (c.gather_over.ensures.adds tells))

pub returns-in_err-same_time-clause-keeps : goal.returns-in_err-same_time-clause-keeps
returns-in_err-same_time-clause-keeps g c tells =
    let volume = c.args.volume.now in
    adds_keep volume c.args.backup.now _ _
    (adds_since volume _ (g.T.Target.holds c.has_cfg.new.target) _ c.has_cfg.ensures.same (c.gather_over.ensures.adds tells))

pub returns-in_err-put_cfgs-clause-keeps : goal.returns-in_err-put_cfgs-clause-keeps
returns-in_err-put_cfgs-clause-keeps g c tells =
    let volume = c.args.volume.now in
    keeps_then volume c.args.backup.now _ (g.T.Target.holds c.gather_over.new.target) _
    (adds_since volume _ (g.T.Target.holds c.has_cfg.new.target) _ c.has_cfg.ensures.same (c.gather_over.ensures.adds tells))
    c.put_cfgs.ensures.others

pub returns-clause-made : goal.returns-clause-made
returns-clause-made g c =
    let named : string_bytes c.in_ok-named.named ≡ c.args.snapshot.now = search rules in
    is_made g.T.Target.tells (g.T.Target.holds c.gather_over.new.target) (g.T.Target.holds c.put_cfgs.new.target)
    c.args.volume.now c.args.backup.now _ c.args.snapshot.now c.new.result (string_bytes c.in_ok-named.named)
    c.in_ok-blocks.blocks.items c.new.ensures named c.in_ok-blocks.ensures.backup c.put_cfgs.ensures.others

pub returns-clause-disk : goal.returns-clause-disk
returns-clause-disk g c tells =
    is_made_disk g.T.Target.tells (g.T.Target.holds c.put_cfgs.new.target) c.args.volume.now _ c.args.snapshot.now c.new.result
    tells (returns-clause-made g c)

pub returns-clause-keeps : goal.returns-clause-keeps
returns-clause-keeps g c tells =
    let volume = c.args.volume.now in
    keeps_then volume c.args.backup.now _ (g.T.Target.holds c.gather_over.new.target) _
    (adds_since volume _ (g.T.Target.holds c.has_cfg.new.target) _ c.has_cfg.ensures.same (c.gather_over.ensures.adds tells))
    c.put_cfgs.ensures.others

pub returns-in_err-put_cfgs-clause-others : goal.returns-in_err-put_cfgs-clause-others
returns-in_err-put_cfgs-clause-others g c tells =
    let volume = c.args.volume.now in
    only_backup volume c.args.backup.now _ (g.T.Target.holds c.gather_over.new.target) _
    (adds_since volume _ (g.T.Target.holds c.has_cfg.new.target) _ c.has_cfg.ensures.same (c.gather_over.ensures.adds tells))
    c.put_cfgs.ensures.others

pub returns-in_err-put_cfgs-clause-seen : goal.returns-in_err-put_cfgs-clause-seen
returns-in_err-put_cfgs-clause-seen g c tells =
    seen_then g.T.Target.tells c.args.volume.now c.args.backup.now _ c.in_ok-blocks.blocks.items
    (g.T.Target.holds c.args.target.now) (g.T.Target.holds c.gather_over.new.target) _ tells c.in_ok-blocks.ensures.backup
    c.put_cfgs.ensures.others

pub returns-clause-others : goal.returns-clause-others
returns-clause-others g c tells =
    let volume = c.args.volume.now in
    only_backup volume c.args.backup.now _ (g.T.Target.holds c.gather_over.new.target) _
    (adds_since volume _ (g.T.Target.holds c.has_cfg.new.target) _ c.has_cfg.ensures.same (c.gather_over.ensures.adds tells))
    c.put_cfgs.ensures.others

pub returns-clause-seen : goal.returns-clause-seen
returns-clause-seen g c tells =
    seen_then g.T.Target.tells c.args.volume.now c.args.backup.now _ c.in_ok-blocks.blocks.items
    (g.T.Target.holds c.args.target.now) (g.T.Target.holds c.gather_over.new.target) _ tells c.in_ok-blocks.ensures.backup
    c.put_cfgs.ensures.others

pub returns-clause-cfgs : goal.returns-clause-cfgs
returns-clause-cfgs g c tells = search rules

pub returns-clause-has : goal.returns-clause-has
returns-clause-has g c tells =
    backup_of (g.T.Target.holds c.put_cfgs.new.target) c.args.volume.now c.args.backup.now c.args.now.now _ c.new.result c.args.size
    (returns-clause-disk g c tells) (returns-clause-cfgs g c tells)
