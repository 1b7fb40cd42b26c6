-- What words of the plain form order: their own texts, and the numbers that they spell.
use Rattle.std.proofs.Common.{inl, inr}
use Rattle.std.specs.Prelude.{Bool, true, false, List, [], ◌∷◌, Option, Some, None, Result, Ok, if◌then◌else◌}
use Rattle.clap.specs.Words.{Text}
use Rattle.stow_words.specs.declared.order.Order.{Order}
use Rattle.stow_words.specs.declared.order.Order.TheVariants.{Check, Show}
use Rattle.stow_words.specs.declared.order.WordsNo.{WordsNo}
use Rattle.stow_words.specs.Numbers.{number_in}
use Rattle.stow_words.specs.Orders.{number_or, planned, made, craned}
use Rattle.stow_words.specs.Plain.{Opt, Arrival, Workers, Budget, IsPlainForm}

abbrev pub is_same : Opt → Opt → Bool
is_same Arrival Arrival = true
is_same Workers Workers = true
is_same Budget Budget = true
is_same _ _ = false

-- the word behind an option
abbrev pub value_of : Opt → List (Opt × Text) → Option Text
value_of o [] = None
value_of o (a ∷ rest) = if is_same o a.0 then Some a.1 else value_of o rest

abbrev pub own_order : (words : List Text) → IsPlainForm words → Result Order WordsNo
own_order words (inl f) = planned f.profile f.bookings f.base (value_of Arrival f.options) (number_or 1 1 16 (value_of Workers f.options)) (number_or 1000 1 100000 (value_of Budget f.options))
own_order words (inr (inl f)) = Ok (Check f.profile f.bookings f.base f.arrival)
own_order words (inr (inr (inl f))) = Ok (Show f.file)
own_order words (inr (inr (inr (inl f)))) = made f.base (number_in 0 2147483647 f.number)
own_order words (inr (inr (inr (inr f)))) = craned f.profile f.bookings f.base f.arrival (number_in 1 11 f.call) (number_in 1 8 f.count)
