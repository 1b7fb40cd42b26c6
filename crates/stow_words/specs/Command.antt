-- The command line that `clap` is asked to read.
use Rattle.std.specs.Prelude.{true, Some, codes}
use Rattle.clap.specs.Words.{App, Rule, Text, new_app, new_rule, with_rule, with_subcommand}

-- a positional argument that is needed, and an option with one value
abbrev pub needed : Text → Rule
needed id = record (new_rule id) { required = true }

abbrev pub optional : Text → Rule
optional id = record (new_rule id) { long = Some id }

abbrev pub plan_app : App
plan_app = with_rule (with_rule (with_rule (with_rule (with_rule (with_rule (new_app (codes "plan")) (needed (codes "profile"))) (needed (codes "bookings"))) (needed (codes "name"))) (optional (codes "arrival"))) (optional (codes "workers"))) (optional (codes "budget"))

abbrev pub check_app : App
check_app = with_rule (with_rule (with_rule (with_rule (new_app (codes "check")) (needed (codes "profile"))) (needed (codes "bookings"))) (needed (codes "name"))) (optional (codes "arrival"))

abbrev pub show_app : App
show_app = with_rule (new_app (codes "show")) (needed (codes "file"))

abbrev pub make_app : App
make_app = with_rule (with_rule (new_app (codes "make")) (needed (codes "number"))) (needed (codes "name"))

abbrev pub cranes_app : App
cranes_app = with_rule (with_rule (with_rule (with_rule (with_rule (with_rule (new_app (codes "cranes")) (needed (codes "profile"))) (needed (codes "bookings"))) (needed (codes "name"))) (needed (codes "call"))) (needed (codes "count"))) (optional (codes "arrival"))

-- a command of which one of its subcommands has to be named, and that has no subcommand `help`
abbrev pub needs_subcommand : App → App
needs_subcommand a = record a { top = record a.top { subcommand_required = true; disable_help_subcommand = true } }

abbrev pub stow_app : App
stow_app = with_subcommand (with_subcommand (with_subcommand (with_subcommand (with_subcommand (needs_subcommand (new_app (codes "stow"))) plan_app.top) check_app.top) show_app.top) make_app.top) cranes_app.top
