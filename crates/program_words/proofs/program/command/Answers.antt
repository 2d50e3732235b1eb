use Rattle.std.proofs.Common.{◌≡◌, ◌∙◌, rules, false, ap, ap₂}
use Rattle.std.proofs.lemmas.Result.{IfOk-weaker}
use Rattle.clap.specs.Words.{AddsSubcommand, App, app_of, with_subcommand}
use Rattle.clap.specs.declared.builder.command.Command.{Command}
use Rattle.clap.specs.declared.builder.Command.TheViews.{out-Command as fields_of}
use Rattle.program_words.specs.Program.{bare_program}
use Rattle.program_words.proofs.program.command.Goals as goal

-- a command that `clap` is told of, with one subcommand more
one_more : (old sub new : Command) (a s : App) → app_of old ≡ a → app_of sub ≡ s → (fields_of sub).has_globals ≡ false
    → AddsSubcommand old sub new → app_of new ≡ with_subcommand a s.top
one_more old sub new a s above below local adds = adds.shape local ∙ ap₂ with_subcommand above (ap (λ (x : App). x.top) below)

-- src/program.rt:10:1
pub returns : goal.returns
returns c =
    let bare : app_of c.subcommand_required.result ≡ bare_program = search rules in
    let run = c.in_ok-run_command.ensures in
    let restore = c.in_ok-restore_command.ensures in
    let backups = c.in_ok-backups_command.ensures in
    let replica = c.in_ok-replica_command.ensures in
    let generate = c.in_ok-generate_command.ensures in
    let one = one_more _ _ _ _ _ bare run.shape run.local c.in_ok-subcommand.ensures in
    let two = one_more _ _ _ _ _ one restore.shape restore.local c.in_ok-subcommand-2.ensures in
    let three = one_more _ _ _ _ _ two backups.shape backups.local c.in_ok-subcommand-3.ensures in
    let four = one_more _ _ _ _ _ three replica.shape replica.local c.in_ok-subcommand-4.ensures in
    let serve = c.in_ok-serve_command.ensures in
    let five = one_more _ _ _ _ _ four generate.shape generate.local c.in_ok-subcommand-5.ensures in
    IfOk-weaker c.subcommand-6.result _ _ (λ new adds. one_more _ _ _ _ _ five serve.shape serve.local adds) c.subcommand-6.ensures
