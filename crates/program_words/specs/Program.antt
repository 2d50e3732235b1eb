-- The program as `clap` (clap 4) is told of it. A word more is a subcommand more.
use Rattle.std.specs.Prelude.{true, [], ◌∷◌, Some, codes, fold}
use Rattle.clap.specs.Words.{App, Rule, Text, new_app, new_rule, with_rule, with_subcommand}
use Rattle.clap.specs.Simple.{on_top}

-- a positional argument that has to be there, a text
abbrev pub positional : Text → Rule
positional id = record (new_rule id) { required = true }

-- `run`, with an option `--workers` that takes a text
abbrev pub run_app : App
run_app = with_rule (new_app (codes "run")) (record (new_rule (codes "workers")) { long = Some (codes "workers") })

-- `restore BACKUP VOLUME`
abbrev pub restore_app : App
restore_app = with_rule (with_rule (new_app (codes "restore")) (positional (codes "backup"))) (positional (codes "volume"))

-- `backups VOLUME`
abbrev pub backups_app : App
backups_app = with_rule (new_app (codes "backups")) (positional (codes "volume"))

-- `replica SIZE`
abbrev pub replica_app : App
replica_app = with_rule (new_app (codes "replica")) (positional (codes "size"))

-- `gen NUMBER STREAMS CALLS`
abbrev pub generate_app : App
generate_app = with_rule (with_rule (with_rule (new_app (codes "gen")) (positional (codes "number"))) (positional (codes "streams")))
    (positional (codes "calls"))

-- `serve ADDRESS SIZE REPLICAS SESSIONS`
abbrev pub serve_app : App
serve_app = with_rule (with_rule (with_rule (with_rule (new_app (codes "serve")) (positional (codes "address")))
    (positional (codes "size"))) (positional (codes "replicas"))) (positional (codes "sessions"))

-- no subcommand yet: the words do not begin with the program's name, and one of its subcommands is named
abbrev pub bare_program : App
bare_program = on_top (λ s. record s { no_binary_name = true; subcommand_required = true }) (new_app (codes "longhorn"))

-- the program, with its six subcommands
abbrev pub program : App
program = fold (λ a sub. with_subcommand a sub.top) bare_program
    (run_app ∷ restore_app ∷ backups_app ∷ replica_app ∷ generate_app ∷ serve_app ∷ [])
