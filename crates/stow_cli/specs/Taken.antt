-- Words that end with the status of words.
use Rattle.std.specs.Prelude.{◌≡◌, ◌⊎◌, ℕ, List, Err}
use Rattle.stow_words.specs.declared.order.WordsNo.TheVariants.{NotTaken}
use Rattle.stow_words.specs.Orders.{ordered, AreFaulty}
use Rattle.stow_words.specs.Own.{own_order}
use Rattle.stow_words.specs.Plain.{IsPlainForm}
use Rattle.stow_cli.specs.declared.status.Status.{Status}
use Rattle.stow_cli.specs.declared.status.Status.TheVariants as status

-- words that aren't taken are words in which `clap` finds a fault
abbrev pub HasClapFault : List (List ℕ) → Status → Type 0
HasClapFault words s = s ≡ status.Words → ordered words ≡ Err NotTaken → AreFaulty words

-- words of the plain form order their own texts, or are refused for a number of their own
abbrev pub OrdersOwn : List (List ℕ) → Status → Type 0
OrdersOwn words s = (form : IsPlainForm words) → (s ≡ status.Memory) ⊎ (ordered words ≡ own_order words form)
