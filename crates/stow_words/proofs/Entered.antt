-- The subcommand that is entered is one of the command's.
use Rattle.std.proofs.Common.{◌≡◌, Bool, true, false, cond, List, [], ◌∷◌, Option, Some, None, refl, option_map, is_some, subst}
use Rattle.std.specs.Prelude.{find}
use Rattle.std.proofs.lemmas.Option.{none-some, same_Some}
use Rattle.clap.specs.Words.{Text, Shape, built, subcommand_of}
use Rattle.clap.specs.Simple.{entered, label_of, rows_at, names_of, argument_words}
use Rattle.clap.specs.Walk.{answers_to, stop_after}
use Rattle.clap.proofs.OnLiterals.{clap_on_literals}
use Rattle.stow_words.specs.Command.{stow_app}
use Rattle.stow_words.specs.Orders.{verb_named}

abbrev Each : (Shape → Type 0) → List Shape → Type 0
Each P [] = Unit {0}
Each P (x ∷ xs) = P x × Each P xs

-- what is found in a list has what each element has
found_has : (P : Shape → Type 0) (test : Shape → Bool) (xs : List Shape) (s : Shape) → Each P xs → find test xs ≡ Some s → P s
found_has P test [] s h e = absurd (none-some s e)
found_has P test (x ∷ xs) s h e = go (test x) (λ f. found_has P test xs s h.1 f) e
  where
    go : (t : Bool) → (find test xs ≡ Some s → P s) → cond t (Some x) (find test xs) ≡ Some s → P s
    go true rest f = subst P (same_Some _ s f) h.0
    go false rest f = rest f

name_of_entered : (o : Option Shape) (words : List Text) (name : Text) → option_map (λ p. p.0) (option_map (λ s. rows_at s words) o) ≡ Some name → (s : Shape) × (o ≡ Some s) × (s.name ≡ name)
name_of_entered None words name h = absurd (none-some name h)
name_of_entered (Some s) words name h = (s, refl, same_Some _ name h)

abbrev IsNamed : Shape → Type 0
IsNamed s = is_some (verb_named s.name) ≡ true

all_named : Each IsNamed (built stow_app).subs
unfolding clap_on_literals
all_named = (refl, (refl, (refl, (refl, (refl, tt)))))

entered_named : (stop : Option (Text × List Text)) (name : Text) → option_map (λ p. p.0) (entered (built stow_app) stop) ≡ Some name → is_some (verb_named name) ≡ true
entered_named None name h = absurd (none-some name h)
entered_named (Some p) name h =
    let r = name_of_entered (find (λ s. answers_to p.0 (label_of s)) (built stow_app).subs) p.1 name h in
    let n : is_some (verb_named r.0.name) ≡ true = found_has IsNamed (λ s. answers_to p.0 (label_of s)) (built stow_app).subs r.0 all_named r.1 in
    subst (λ (t : Text). is_some (verb_named t) ≡ true) r.2 n

pub verbs : (words : List Text) (name : Text) → option_map (λ p. p.0) (subcommand_of stow_app words) ≡ Some name → is_some (verb_named name) ≡ true
verbs words name h = entered_named (stop_after (built stow_app).top.rules (names_of (built stow_app)) (argument_words stow_app words)) name h
