-- What the words of a command line order, by what `clap` reads in them.
use Rattle.std.specs.Prelude.{◌≡◌, ◌≢◌, ◌≤◌, ℕ, ◌⊎◌, cond, List, [], ◌∷◌, Option, Some, None, codes, unwrap_or, Result, Ok, Err}
use Rattle.std.specs.Str.{bytes_eq}
use Rattle.clap.specs.Words.{Text, Row, Kinds, first_of, subcommand_of, fault_of}
use Rattle.stow_words.specs.declared.order.Order.{Order}
use Rattle.stow_words.specs.declared.order.Order.TheVariants.{Plan, Check, Show, Make, Cranes}
use Rattle.stow_words.specs.declared.order.WordsNo.{WordsNo}
use Rattle.stow_words.specs.declared.order.WordsNo.TheVariants.{NotTaken, Workers, Budget, Number, Call, Count, NoMemory}
use Rattle.stow_words.specs.declared.commands.Verb.{Verb}
use Rattle.stow_words.specs.declared.commands.Verb.TheVariants as verb
use Rattle.stow_words.specs.Command.{stow_app}
use Rattle.stow_words.specs.Numbers.{number_in}

-- the value of a positional argument
abbrev pub positional : Text → List Row → Text
positional id rows = unwrap_or (first_of id rows) []

-- the number after an option, or the one that stands for none
abbrev pub number_or : ℕ → ℕ → ℕ → Option Text → Option ℕ
number_or default least most None = Some default
number_or default least most (Some text) = number_in least most text

-- 1 to 16 workers, and 1 where none are named
abbrev pub workers_in : List Row → Option ℕ
workers_in rows = number_or 1 1 16 (first_of (codes "workers") rows)

-- a budget of 1 to 100,000 nodes, and of 1,000 where none is named
abbrev pub budget_in : List Row → Option ℕ
budget_in rows = number_or 1000 1 100000 (first_of (codes "budget") rows)

-- the number at a positional argument, where it is one of those from `least` to `most`
abbrev pub number_at : Text → ℕ → ℕ → List Row → Option ℕ
number_at id least most rows = number_in least most (positional id rows)

-- the numbers of a plan, of a made ship and of crane lists are in their ranges
abbrev pub IsInRange : Order → Type 0
IsInRange (Plan profile bookings base arrival workers budget) = (1 ≤ workers) × (workers ≤ 16) × (1 ≤ budget) × (budget ≤ 100000)
IsInRange (Check profile bookings base arrival) = Unit {0}
IsInRange (Show file) = Unit {0}
IsInRange (Make number base) = number ≤ 2147483647
IsInRange (Cranes profile bookings base arrival call count) = (1 ≤ call) × (call ≤ 11) × (1 ≤ count) × (count ≤ 8)

-- the order of a plan, where both numbers are in their ranges
abbrev pub planned : Text → Text → Text → Option Text → Option ℕ → Option ℕ → Result Order WordsNo
planned profile bookings base arrival None budget = Err Workers
planned profile bookings base arrival (Some workers) None = Err Budget
planned profile bookings base arrival (Some workers) (Some budget) = Ok (Plan profile bookings base arrival workers budget)

abbrev pub plan_order : List Row → Result Order WordsNo
plan_order rows = planned (positional (codes "profile") rows) (positional (codes "bookings") rows) (positional (codes "name") rows) (first_of (codes "arrival") rows) (workers_in rows) (budget_in rows)

abbrev pub check_order : List Row → Result Order WordsNo
check_order rows = Ok (Check (positional (codes "profile") rows) (positional (codes "bookings") rows) (positional (codes "name") rows) (first_of (codes "arrival") rows))

abbrev pub show_order : List Row → Result Order WordsNo
show_order rows = Ok (Show (positional (codes "file") rows))

abbrev pub made : Text → Option ℕ → Result Order WordsNo
made base None = Err Number
made base (Some number) = Ok (Make number base)

abbrev pub make_order : List Row → Result Order WordsNo
make_order rows = made (positional (codes "name") rows) (number_at (codes "number") 0 2147483647 rows)

-- the order of crane lists, for a call from 1 to 11 and 1 to 8 cranes
abbrev pub craned : Text → Text → Text → Option Text → Option ℕ → Option ℕ → Result Order WordsNo
craned profile bookings base arrival None count = Err Call
craned profile bookings base arrival (Some call) None = Err Count
craned profile bookings base arrival (Some call) (Some count) = Ok (Cranes profile bookings base arrival call count)

abbrev pub cranes_order : List Row → Result Order WordsNo
cranes_order rows = craned (positional (codes "profile") rows) (positional (codes "bookings") rows) (positional (codes "name") rows) (first_of (codes "arrival") rows) (number_at (codes "call") 1 11 rows) (number_at (codes "count") 1 8 rows)

-- the subcommand of a name
abbrev pub verb_named : Text → Option Verb
verb_named name = cond (bytes_eq name (codes "plan")) (Some verb.Plan) (cond (bytes_eq name (codes "check")) (Some verb.Check) (cond (bytes_eq name (codes "show")) (Some verb.Show) (cond (bytes_eq name (codes "make")) (Some verb.Make) (cond (bytes_eq name (codes "cranes")) (Some verb.Cranes) None))))

-- the order of a subcommand and its values
abbrev pub order_of : Option Verb → List Row → Result Order WordsNo
order_of None rows = Err NotTaken
order_of (Some verb.Plan) rows = plan_order rows
order_of (Some verb.Check) rows = check_order rows
order_of (Some verb.Show) rows = show_order rows
order_of (Some verb.Make) rows = make_order rows
order_of (Some verb.Cranes) rows = cranes_order rows

abbrev pub entered_order : Option (Text × List Row) → Result Order WordsNo
entered_order None = Err NotTaken
entered_order (Some p) = order_of (verb_named p.0) p.1

abbrev pub unless_faulty : Kinds → Result Order WordsNo → Result Order WordsNo
unless_faulty [] order = order
unless_faulty (kind ∷ kinds) order = Err NotTaken

-- what words order: nothing where `clap` finds a fault in them
abbrev pub ordered : List Text → Result Order WordsNo
ordered words = unless_faulty (fault_of stow_app words) (entered_order (subcommand_of stow_app words))

-- `clap` finds a fault in the words
abbrev pub AreFaulty : List Text → Type 0
AreFaulty words = fault_of stow_app words ≢ []

-- an answer that is as wanted, or want of memory
abbrev pub Gives : Result Order WordsNo → Result Order WordsNo → Type 0
Gives answer wanted = (answer ≡ Err NoMemory) ⊎ (answer ≡ wanted)
