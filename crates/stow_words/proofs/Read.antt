-- What the answer of `clap` says of the order.
use Rattle.std.proofs.Common.{◌≡◌, ◌≢◌, ◌⊎◌, ℕ, inl, inr, true, false, List, [], ◌∷◌, Option, Some, None, option_map, is_some, codes, Result, Err, ap, ap₂, sym, ◌∙◌, subst, ⊎_elim, refl}
use Rattle.std.proofs.lemmas.Option.{same_Some, none-some}
use Rattle.clap.specs.Words.{App, Text, Row, Kinds, fault_of, kind_of, subcommand_of, HasKind, IsAmong}
use Rattle.clap.specs.declared.error.Error.{Error}
use Rattle.clap.specs.declared.error.ErrorKind.TheVariants.{OutOfMemory}
use Rattle.stow_words.specs.declared.commands.Verb.{Verb}
use Rattle.stow_words.specs.declared.commands.Verb.TheVariants as verb
use Rattle.stow_words.specs.declared.order.Order.{Order}
use Rattle.stow_words.specs.declared.order.WordsNo.{WordsNo}
use Rattle.stow_words.specs.declared.order.WordsNo.TheVariants.{NotTaken, NoMemory}
use Rattle.stow_words.specs.Command.{stow_app}
use Rattle.stow_words.specs.Orders.{verb_named, order_of, entered_order, unless_faulty, ordered, Gives, planned, made, craned, workers_in, budget_in, number_at}
use Rattle.stow_words.proofs.Entered.{verbs}

-- the name and the rows of a subcommand, from each of them
pub both_of : {A B C : Type 0} (f : A → B) (g : A → C) (o : Option A) (n : B) (r : C) → Some n ≡ option_map f o → Some r ≡ option_map (λ (p : B × C). p.1) (option_map {U = B × C} (λ a. (f a, g a)) o) → option_map {U = B × C} (λ a. (f a, g a)) o ≡ Some (n, r)
both_of f g None n r h k = absurd (none-some n (sym h))
both_of f g (Some a) n r h k = ap₂ (λ x y. Some (x, y)) (sym (same_Some _ _ h)) (sym (same_Some _ _ k))

pub is_faulty : (words : List Text) (app : App) (e : Error) → app ≡ stow_app → HasKind (fault_of app words) e → kind_of e ≢ OutOfMemory → fault_of stow_app words ≢ []
is_faulty words app e same kinds other = λ empty. ⊎_elim (λ (m : kind_of e ≡ OutOfMemory). other m) (λ (a : IsAmong (kind_of e) (fault_of app words)). rw (same, empty) at a) kinds

faulty : (ks : Kinds) (rest : Result Order WordsNo) → ks ≢ [] → unless_faulty ks rest ≡ Err NotTaken
faulty [] rest h = absurd (h refl)
faulty (k ∷ ks) rest h = refl

-- words that are not refused for their form give what is entered
pub as_entered : (words : List Text) (r : Result Order WordsNo) → Gives r (ordered words) → r ≢ Err NotTaken → Gives r (entered_order (subcommand_of stow_app words))
as_entered words r (inl m) other = inl m
as_entered words r (inr is) other = go (fault_of stow_app words) is
  where
    go : (ks : Kinds) → r ≡ unless_faulty ks (entered_order (subcommand_of stow_app words)) → Gives r (entered_order (subcommand_of stow_app words))
    go [] e = inr e
    go (k ∷ ks) e = absurd (other e)

pub refused : (ks : Kinds) (rest : Result Order WordsNo) (no : WordsNo) → (no ≡ NoMemory) ⊎ ((no ≡ NotTaken) × (ks ≢ [])) → Gives (Err no) (unless_faulty ks rest)
refused ks rest n (inl m) = inl (ap (λ (w : WordsNo). Err w) m)
refused ks rest n (inr h) = inr (ap (λ (w : WordsNo). Err w) h.0 ∙ sym (faulty ks rest h.1))

pub refused_not_taken : (ks : Kinds) (no : WordsNo) → (no ≡ NoMemory) ⊎ ((no ≡ NotTaken) × (ks ≢ [])) → ◌≡◌ {A = Result Order WordsNo} (Err no) (Err NotTaken) → ks ≢ []
refused_not_taken ks n (inl m) e = absurd cc
refused_not_taken ks n (inr h) e = h.1

pub ordered_is : (ks : Kinds) (s : Option (Text × List Row)) (name : Text) (rows : List Row) (v : Verb) → ks ≡ [] → s ≡ Some (name, rows) → verb_named name ≡ Some v → unless_faulty ks (entered_order s) ≡ order_of (Some v) rows
ordered_is ks s name rows v none entered named = ap (λ (k : Kinds). unless_faulty k (entered_order s)) none ∙ ap entered_order entered ∙ ap (λ (w : Option Verb). order_of w rows) named

planned_taken : (profile bookings base : Text) (arrival : Option Text) (w b : Option ℕ) → planned profile bookings base arrival w b ≢ Err NotTaken
planned_taken profile bookings base arrival None b = λ e. cc
planned_taken profile bookings base arrival (Some w) None = λ e. cc
planned_taken profile bookings base arrival (Some w) (Some b) = λ e. cc

made_taken : (base : Text) (n : Option ℕ) → made base n ≢ Err NotTaken
made_taken base None = λ e. cc
made_taken base (Some n) = λ e. cc

craned_taken : (profile bookings base : Text) (arrival : Option Text) (c k : Option ℕ) → craned profile bookings base arrival c k ≢ Err NotTaken
craned_taken profile bookings base arrival None k = λ e. cc
craned_taken profile bookings base arrival (Some c) None = λ e. cc
craned_taken profile bookings base arrival (Some c) (Some k) = λ e. cc

taken : (v : Verb) (rows : List Row) → order_of (Some v) rows ≢ Err NotTaken
taken verb.Plan rows = planned_taken _ _ _ _ (workers_in rows) (budget_in rows)
taken verb.Check rows = λ e. cc
taken verb.Show rows = λ e. cc
taken verb.Make rows = made_taken _ (number_at (codes "number") 0 2147483647 rows)
taken verb.Cranes rows = craned_taken _ _ _ _ (number_at (codes "call") 1 11 rows) (number_at (codes "count") 1 8 rows)

pub never_not_taken : (v : Verb) (rows : List Row) (r : Result Order WordsNo) → Gives r (order_of (Some v) rows) → r ≢ Err NotTaken
never_not_taken v rows r (inl m) = λ e. cc
never_not_taken v rows r (inr s) = λ e. taken v rows (sym s ∙ e)

pub has_verb : (words : List Text) (app : App) (name : Text) (rows : List Row) → app ≡ stow_app → subcommand_of app words ≡ Some (name, rows) → verb_named name ≢ None
has_verb words app name rows same entered = λ none. let some : is_some (verb_named name) ≡ true = verbs words name (ap (option_map (λ p. p.0)) (ap (λ (a : App). subcommand_of a words) (sym same) ∙ entered)) in let bad : false ≡ true = rw none at some in cc

pub taken_order : (words words' : List Text) (app : App) (name : Text) (rows : List Row) (v : Verb) (r : Result Order WordsNo) → app ≡ stow_app → words ≡ words' → fault_of app words ≡ [] → subcommand_of app words ≡ Some (name, rows) → verb_named name ≡ Some v → Gives r (order_of (Some v) rows) → Gives r (ordered words')
taken_order words words' app name rows v r same equal none entered named g = subst (λ (w : Result Order WordsNo). Gives r w)
    (sym (ordered_is (fault_of stow_app words') (subcommand_of stow_app words') name rows v (ap₂ fault_of (sym same) (sym equal) ∙ none) (ap₂ subcommand_of (sym same) (sym equal) ∙ entered) named)) g
