use Rattle.std.proofs.Common.{◌≡◌, ◌∙◌, ◌||◌, rules, false, codes, ap₂}
use Rattle.std.proofs.lemmas.Result.{IfOk-weaker}
use Rattle.clap.specs.Words.{AddsArg, App, Rule, app_of, new_app, rule_of, with_rule}
use Rattle.clap.specs.declared.builder.arg.Arg.{Arg}
use Rattle.clap.specs.declared.builder.command.Command.{Command}
use Rattle.clap.specs.declared.builder.Command.TheViews.{out-Command as fields_of}
use Rattle.program_words.specs.Program.{positional}
use Rattle.program_words.proofs.program.serve_command.Goals as goal

-- a command with one argument more
one_more : (a : Arg) (old new : Command) (x : App) (r : Rule) → app_of old ≡ x → rule_of a ≡ r → a.global ≡ false → AddsArg old a new
    → app_of new ≡ with_rule x r
one_more a old new x r above is plain adds = adds.shape plain ∙ ap₂ with_rule above is

-- an argument more that is none of the program's
local_too : (a : Arg) (old new : Command) → (fields_of old).has_globals ≡ false → a.global ≡ false → AddsArg old a new
    → (fields_of new).has_globals ≡ false
local_too a old new below plain adds = adds.globals ∙ ap₂ (λ x y. x || y) below plain

pub returns-clause-shape : goal.returns-clause-shape
returns-clause-shape c =
    let bare : app_of c.new-5.result ≡ new_app (codes "serve") = search rules in
    let address : rule_of c.required-address.result ≡ positional (codes "address") = search rules in
    let size : rule_of c.required-size.result ≡ positional (codes "size") = search rules in
    let replicas : rule_of c.required-replicas.result ≡ positional (codes "replicas") = search rules in
    let sessions : rule_of c.required-sessions.result ≡ positional (codes "sessions") = search rules in
    let one = one_more c.required-address.result _ _ _ _ bare address (search rules) c.in_ok-arg.ensures in
    let two = one_more c.required-size.result _ _ _ _ one size (search rules) c.in_ok-arg-2.ensures in
    let three = one_more c.required-replicas.result _ _ _ _ two replicas (search rules) c.in_ok-arg-3.ensures in
    IfOk-weaker c.arg-4.result _ _ (λ new adds. one_more c.required-sessions.result _ _ _ _ three sessions (search rules) adds)
    c.arg-4.ensures

pub returns-clause-local : goal.returns-clause-local
returns-clause-local c =
    let one = local_too c.required-address.result _ _ c.new-5.ensures.local (search rules) c.in_ok-arg.ensures in
    let two = local_too c.required-size.result _ _ one (search rules) c.in_ok-arg-2.ensures in
    let three = local_too c.required-replicas.result _ _ two (search rules) c.in_ok-arg-3.ensures in
    IfOk-weaker c.arg-4.result _ _ (λ new adds. local_too c.required-sessions.result _ _ three (search rules) adds) c.arg-4.ensures
