-- The numbers of orders are in their ranges.
use Rattle.std.proofs.Common.{◌≡◌, ◌≤◌, ℕ, Bool, true, false, ◌&&◌, nat_le, List, [], ◌∷◌, Option, Some, None, refl, sym, inl, inr, arith, subst}
use Rattle.std.specs.Prelude.{codes, Result, IfOk, if◌then◌else◌}
use borrow.Author.Tests.{leb-true}
use Rattle.clap.specs.Words.{Text, Row, Kinds, first_of, subcommand_of, fault_of}
use Rattle.stow_words.specs.declared.order.Order.{Order}
use Rattle.stow_words.specs.declared.order.WordsNo.{WordsNo}
use Rattle.stow_words.specs.declared.commands.Verb.{Verb}
use Rattle.stow_words.specs.declared.commands.Verb.TheVariants as verb
use Rattle.stow_words.specs.Command.{stow_app}
use Rattle.stow_data.specs.Digits.{value}
use Rattle.stow_words.specs.Numbers.{is_number, number_in}
use Rattle.stow_words.specs.Orders.{number_or, number_at, workers_in, budget_in, positional, planned, made, craned, verb_named, order_of, entered_order, unless_faulty, ordered, Gives, IsInRange}

-- a number between two others, if there is one
abbrev IsBetween : ℕ → ℕ → Option ℕ → Type 0
IsBetween least most None = Unit {0}
IsBetween least most (Some n) = (least ≤ n) × (n ≤ most)

tested : (a b c : Bool) (least most n : ℕ) → nat_le least n ≡ b → nat_le n most ≡ c → IsBetween least most (if a && (b && c) then Some n else None)
tested false b c least most n h k = tt
tested true false c least most n h k = tt
tested true true false least most n h k = tt
tested true true true least most n h k = (leb-true least n h, leb-true n most k)

number_between : (least most : ℕ) (text : List ℕ) → IsBetween least most (number_in least most text)
number_between least most text = tested (is_number text) (nat_le least (value text)) (nat_le (value text) most) least most (value text) refl refl

or_between : (default least most : ℕ) (o : Option Text) → least ≤ default → default ≤ most → IsBetween least most (number_or default least most o)
or_between default least most None low high = (low, high)
or_between default least most (Some text) low high = number_between least most text

planned_in_range : (profile bookings base : Text) (arrival : Option Text) (workers budget : Option ℕ) → IsBetween 1 16 workers → IsBetween 1 100000 budget → IfOk (planned profile bookings base arrival workers budget) IsInRange
planned_in_range profile bookings base arrival None budget w b = tt
planned_in_range profile bookings base arrival (Some n) None w b = tt
planned_in_range profile bookings base arrival (Some n) (Some k) w b = (w.0, w.1, b.0, b.1)

made_in_range : (base : Text) (o : Option ℕ) → IsBetween 0 2147483647 o → IfOk (made base o) IsInRange
made_in_range base None h = tt
made_in_range base (Some n) h = h.1

craned_in_range : (profile bookings base : Text) (arrival : Option Text) (call count : Option ℕ) → IsBetween 1 11 call → IsBetween 1 8 count → IfOk (craned profile bookings base arrival call count) IsInRange
craned_in_range profile bookings base arrival None count c k = tt
craned_in_range profile bookings base arrival (Some n) None c k = tt
craned_in_range profile bookings base arrival (Some n) (Some m) c k = (c.0, c.1, k.0, k.1)

order_in_range : (v : Option Verb) (rows : List Row) → IfOk (order_of v rows) IsInRange
order_in_range None rows = tt
order_in_range (Some verb.Plan) rows = planned_in_range _ _ _ _ (workers_in rows) (budget_in rows) (or_between 1 1 16 (first_of (codes "workers") rows) (omega arith) (omega arith)) (or_between 1000 1 100000 (first_of (codes "budget") rows) (omega arith) (omega arith))
order_in_range (Some verb.Check) rows = tt
order_in_range (Some verb.Show) rows = tt
order_in_range (Some verb.Make) rows = made_in_range _ (number_at (codes "number") 0 2147483647 rows) (number_between 0 2147483647 (positional (codes "number") rows))
order_in_range (Some verb.Cranes) rows = craned_in_range _ _ _ _ (number_at (codes "call") 1 11 rows) (number_at (codes "count") 1 8 rows) (number_between 1 11 (positional (codes "call") rows)) (number_between 1 8 (positional (codes "count") rows))

entered_in_range : (o : Option (Text × List Row)) → IfOk (entered_order o) IsInRange
entered_in_range None = tt
entered_in_range (Some p) = order_in_range (verb_named p.0) p.1

faultless_in_range : (kinds : Kinds) (r : Result Order WordsNo) → IfOk r IsInRange → IfOk (unless_faulty kinds r) IsInRange
faultless_in_range [] r h = h
faultless_in_range (kind ∷ kinds) r h = tt

pub ordered_in_range : (words : List Text) → IfOk (ordered words) IsInRange
ordered_in_range words = faultless_in_range (fault_of stow_app words) (entered_order (subcommand_of stow_app words)) (entered_in_range (subcommand_of stow_app words))

pub given_in_range : (answer : Result Order WordsNo) (words : List Text) → Gives answer (ordered words) → IfOk answer IsInRange
given_in_range answer words (inl none) = subst (λ (r : Result Order WordsNo). IfOk r IsInRange) (sym none) tt
given_in_range answer words (inr same) = subst (λ (r : Result Order WordsNo). IfOk r IsInRange) (sym same) (ordered_in_range words)
