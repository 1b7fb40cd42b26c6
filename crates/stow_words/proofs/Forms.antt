-- Words of the plain form are refused for want of memory alone, and order their own texts.
use Rattle.std.proofs.Common.{◌≡◌, ◌≢◌, ◌⊎◌, inl, inr, true, List, Result, Err, ap₂, ◌∙◌, ⊎_elim}
use Rattle.clap.specs.Words.{App, Text, takes, kind_of, subcommand_of}
use Rattle.clap.specs.declared.error.Error.{Error}
use Rattle.clap.specs.declared.error.ErrorKind.TheVariants.{OutOfMemory}
use Rattle.stow_words.specs.declared.order.Order.{Order}
use Rattle.stow_words.specs.declared.order.WordsNo.{WordsNo}
use Rattle.stow_words.specs.declared.order.WordsNo.TheVariants.{NotTaken, NoMemory}
use Rattle.stow_words.specs.Command.{stow_app}
use Rattle.stow_words.specs.Orders.{Gives, entered_order, ordered}
use Rattle.stow_words.specs.Own.{own_order}
use Rattle.stow_words.specs.Plain.{IsPlainForm}
use Rattle.stow_words.proofs.Read.{as_entered}
use Rattle.stow_words.proofs.PlanTaken.{plan_taken, plan_own}
use Rattle.stow_words.proofs.CheckTaken.{check_taken, check_own}
use Rattle.stow_words.proofs.ShowTaken.{show_taken, show_own}
use Rattle.stow_words.proofs.MakeTaken.{make_taken, make_own}
use Rattle.stow_words.proofs.CranesTaken.{cranes_taken, cranes_own}

form_taken : (words : List Text) → IsPlainForm words → takes stow_app words ≡ true
form_taken words (inl f) = plan_taken words f
form_taken words (inr (inl f)) = check_taken words f
form_taken words (inr (inr (inl f))) = show_taken words f
form_taken words (inr (inr (inr (inl f)))) = make_taken words f
form_taken words (inr (inr (inr (inr f)))) = cranes_taken words f

pub not_refused : (words words' : List Text) (app : App) (e : Error) (n : WordsNo) → app ≡ stow_app → words ≡ words' → (takes app words ≡ true → kind_of e ≡ OutOfMemory) → (n ≡ NoMemory) ⊎ ((n ≡ NotTaken) × (kind_of e ≢ OutOfMemory)) → IsPlainForm words' → ◌≢◌ {A = Result Order WordsNo} (Err n) (Err NotTaken)
not_refused words words' app e n same equal passes (inl m) form = λ h. cc
not_refused words words' app e n same equal passes (inr k) form = λ h. k.1 (passes (ap₂ takes same equal ∙ form_taken words' form))

own : (words : List Text) (form : IsPlainForm words) → entered_order (subcommand_of stow_app words) ≡ own_order words form
own words (inl f) = plan_own words f
own words (inr (inl f)) = check_own words f
own words (inr (inr (inl f))) = show_own words f
own words (inr (inr (inr (inl f)))) = make_own words f
own words (inr (inr (inr (inr f)))) = cranes_own words f

pub gives_own : (words : List Text) (form : IsPlainForm words) (r : Result Order WordsNo) → Gives r (ordered words) → r ≢ Err NotTaken → Gives r (own_order words form)
gives_own words form r given other = ⊎_elim (λ (m : r ≡ Err NoMemory). inl m) (λ (e : r ≡ entered_order (subcommand_of stow_app words)). inr (e ∙ own words form)) (as_entered words r given other)
