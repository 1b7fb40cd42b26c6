-- Words of the plain form of `show` are taken, and order their own texts.
use Rattle.std.proofs.Common.{◌≡◌, ℕ, true, false, List, [], ◌∷◌, codes, refl, eqb, unwrap_or, ◌∙◌, ap}
use Rattle.std.specs.Prelude.{find}
use Rattle.std.specs.List.{fold}
use Rattle.clap.specs.Words.{Text, Shape, takes, built, subcommand_of}
use Rattle.clap.specs.Simple.{label_of, entered}
use Rattle.clap.specs.Takes.{walk_passes, turn_passes, level_passes}
use Rattle.clap.specs.Walk.{Walk, walked, walk, nothing_held, idle, answers_to, to_positional, arg_by_index, finished}
use Rattle.clap.proofs.OnLiterals.{clap_on_literals}
use Rattle.std.specs.Prelude.{Ok}
use Rattle.stow_words.specs.declared.order.Order.TheVariants as order
use Rattle.stow_words.specs.Command.{stow_app, show_app}
use Rattle.stow_words.specs.Orders.{entered_order, show_order}
use Rattle.stow_words.specs.Plain.{IsPlainShow}
use Rattle.stow_words.proofs.Walks.{halted, halted_walk, halted_passes, top, names, start, more, none, split_plain}

abbrev leaf : Shape
leaf = unwrap_or (find (λ s. answers_to (codes "show") (label_of s)) (built stow_app).subs) show_app.top

first : walked top.rules names start (codes "show") ≡ halted nothing_held idle 1 false (codes "show") []
unfolding clap_on_literals
first = refl

top_walk : (rest : List Text) → walk top.rules names nothing_held (codes "show" ∷ rest) ≡ halted nothing_held idle 1 false (codes "show") rest
top_walk rest = ap (λ (w : Walk). fold (walked top.rules names) w rest) first ∙ halted_walk top.rules names nothing_held idle 1 false (codes "show") [] rest

top_passes : (rest : List Text) → walk_passes top names start (codes "show" ∷ rest) ≡ true
unfolding clap_on_literals
top_passes rest = halted_passes top names nothing_held idle 1 false (codes "show") [] rest

takes_by_rest : (name : Text) (rest : List Text) → level_passes leaf [] nothing_held rest false ≡ true → takes stow_app (name ∷ codes "show" ∷ rest) ≡ true
takes_by_rest name rest h = rw (top_walk rest, top_passes rest, h) refl

abbrev at_one : Text → Walk
at_one p = to_positional leaf.rules (arg_by_index leaf.rules 1) p start nothing_held

step_one : (x : ℕ) (xs : Text) → eqb x 45 ≡ false → walked leaf.rules [] start (x ∷ xs) ≡ at_one (x ∷ xs)
unfolding clap_on_literals
step_one x xs e = simp e

pass_one : (x : ℕ) (xs : Text) → eqb x 45 ≡ false → turn_passes leaf [] start (x ∷ xs) ≡ true
unfolding clap_on_literals
pass_one x xs e = simp e

one_word : (x : ℕ) (xs : Text) → eqb x 45 ≡ false → level_passes leaf [] nothing_held ((x ∷ xs) ∷ []) false ≡ true
one_word x xs e =
    let w : walk leaf.rules [] nothing_held ((x ∷ xs) ∷ []) ≡ at_one (x ∷ xs) = step_one x xs e in
    let p : walk_passes leaf [] start ((x ∷ xs) ∷ []) ≡ true = more leaf [] start (at_one (x ∷ xs)) (x ∷ xs) _ (pass_one x xs e) (step_one x xs e) (none leaf [] _) in
    rw (w, p) refl

pub show_taken : (words : List Text) → IsPlainShow words → takes stow_app words ≡ true
show_taken words f =
    let s = split_plain f.file f.file_plain in
    rw (f.words_are, s.2) (takes_by_rest f.name _ (one_word s.0 s.1 s.3))

-- ---- the values

entered_by_rest : (name : Text) (rest : List Text) (w : Walk) → walk leaf.rules [] nothing_held rest ≡ w → entered_order (subcommand_of stow_app (name ∷ codes "show" ∷ rest)) ≡ show_order (finished leaf.rules w.held)
entered_by_rest name rest w e = ap (λ (t : Walk). entered_order (entered (built stow_app) t.stopped)) (top_walk rest) ∙ ap (λ (u : Walk). show_order (finished leaf.rules u.held)) e

pub show_own : (words : List Text) (f : IsPlainShow words) → entered_order (subcommand_of stow_app words) ≡ Ok (order.Show f.file)
show_own words f =
    let s = split_plain f.file f.file_plain in
    rw (f.words_are, s.2) (entered_by_rest f.name ((s.0 ∷ s.1) ∷ []) (at_one (s.0 ∷ s.1)) (step_one s.0 s.1 s.3))
