-- Words of the plain form of `make` are taken, and order their own texts.
use Rattle.std.proofs.Common.{◌≡◌, ℕ, true, false, List, [], ◌∷◌, codes, refl, eqb, unwrap_or, ◌∙◌, ap}
use Rattle.std.specs.Prelude.{find}
use Rattle.std.specs.List.{fold}
use Rattle.clap.specs.Words.{Text, Shape, takes, built, subcommand_of}
use Rattle.clap.specs.Simple.{label_of, entered}
use Rattle.clap.specs.Takes.{walk_passes, turn_passes, level_passes}
use Rattle.clap.specs.Walk.{Walk, walked, walk, nothing_held, idle, answers_to, to_positional, arg_by_index, finished}
use Rattle.clap.proofs.OnLiterals.{clap_on_literals}
use Rattle.stow_words.specs.Command.{stow_app, make_app}
use Rattle.stow_words.specs.Orders.{entered_order, make_order, made}
use Rattle.stow_words.specs.Numbers.{number_in}
use Rattle.stow_words.specs.Plain.{IsPlainMake}
use Rattle.stow_words.proofs.Walks.{halted, halted_walk, halted_passes, top, names, start, more, none, split_plain}

abbrev leaf : Shape
leaf = unwrap_or (find (λ s. answers_to (codes "make") (label_of s)) (built stow_app).subs) make_app.top

first : walked top.rules names start (codes "make") ≡ halted nothing_held idle 1 false (codes "make") []
unfolding clap_on_literals
first = refl

top_walk : (rest : List Text) → walk top.rules names nothing_held (codes "make" ∷ rest) ≡ halted nothing_held idle 1 false (codes "make") rest
top_walk rest = ap (λ (w : Walk). fold (walked top.rules names) w rest) first ∙ halted_walk top.rules names nothing_held idle 1 false (codes "make") [] rest

top_passes : (rest : List Text) → walk_passes top names start (codes "make" ∷ rest) ≡ true
unfolding clap_on_literals
top_passes rest = halted_passes top names nothing_held idle 1 false (codes "make") [] rest

takes_by_rest : (name : Text) (rest : List Text) → level_passes leaf [] nothing_held rest false ≡ true → takes stow_app (name ∷ codes "make" ∷ rest) ≡ true
takes_by_rest name rest h = rw (top_walk rest, top_passes rest, h) refl

abbrev at_one : Text → Walk
at_one p = to_positional leaf.rules (arg_by_index leaf.rules 1) p start nothing_held

abbrev at_two : Text → Text → Walk
at_two p b = to_positional leaf.rules (arg_by_index leaf.rules 2) b (at_one p) (at_one p).held

step_one : (x : ℕ) (xs : Text) → eqb x 45 ≡ false → walked leaf.rules [] start (x ∷ xs) ≡ at_one (x ∷ xs)
unfolding clap_on_literals
step_one x xs e = simp e

pass_one : (x : ℕ) (xs : Text) → eqb x 45 ≡ false → turn_passes leaf [] start (x ∷ xs) ≡ true
unfolding clap_on_literals
pass_one x xs e = simp e

step_two : (p : Text) (y : ℕ) (ys : Text) → eqb y 45 ≡ false → walked leaf.rules [] (at_one p) (y ∷ ys) ≡ at_two p (y ∷ ys)
unfolding clap_on_literals
step_two p y ys e = simp e

pass_two : (p : Text) (y : ℕ) (ys : Text) → eqb y 45 ≡ false → turn_passes leaf [] (at_one p) (y ∷ ys) ≡ true
unfolding clap_on_literals
pass_two p y ys e = simp e

two_words : (x y : ℕ) (xs ys : Text) → eqb x 45 ≡ false → eqb y 45 ≡ false → level_passes leaf [] nothing_held ((x ∷ xs) ∷ (y ∷ ys) ∷ []) false ≡ true
two_words x y xs ys e f =
    let w : walk leaf.rules [] nothing_held ((x ∷ xs) ∷ (y ∷ ys) ∷ []) ≡ at_two (x ∷ xs) (y ∷ ys) = ap (λ (w : Walk). walked leaf.rules [] w (y ∷ ys)) (step_one x xs e) ∙ step_two (x ∷ xs) y ys f in
    let p : walk_passes leaf [] start ((x ∷ xs) ∷ (y ∷ ys) ∷ []) ≡ true = more leaf [] start (at_one (x ∷ xs)) (x ∷ xs) _ (pass_one x xs e) (step_one x xs e) (more leaf [] (at_one (x ∷ xs)) (at_two (x ∷ xs) (y ∷ ys)) (y ∷ ys) _ (pass_two (x ∷ xs) y ys f) (step_two (x ∷ xs) y ys f) (none leaf [] _)) in
    rw (w, p) refl

pub make_taken : (words : List Text) → IsPlainMake words → takes stow_app words ≡ true
make_taken words f =
    let s = split_plain f.number f.number_plain in
    let t = split_plain f.base f.base_plain in
    rw (f.words_are, s.2, t.2) (takes_by_rest f.name _ (two_words s.0 t.0 s.1 t.1 s.3 t.3))

-- ---- the values

entered_by_rest : (name : Text) (rest : List Text) (w : Walk) → walk leaf.rules [] nothing_held rest ≡ w → entered_order (subcommand_of stow_app (name ∷ codes "make" ∷ rest)) ≡ make_order (finished leaf.rules w.held)
entered_by_rest name rest w e = ap (λ (t : Walk). entered_order (entered (built stow_app) t.stopped)) (top_walk rest) ∙ ap (λ (u : Walk). make_order (finished leaf.rules u.held)) e

pub make_own : (words : List Text) (f : IsPlainMake words) → entered_order (subcommand_of stow_app words) ≡ made f.base (number_in 0 2147483647 f.number)
make_own words f =
    let s = split_plain f.number f.number_plain in
    let t = split_plain f.base f.base_plain in
    let w : walk leaf.rules [] nothing_held ((s.0 ∷ s.1) ∷ (t.0 ∷ t.1) ∷ []) ≡ at_two (s.0 ∷ s.1) (t.0 ∷ t.1) =
    ap (λ (w : Walk). walked leaf.rules [] w (t.0 ∷ t.1)) (step_one s.0 s.1 s.3) ∙ step_two (s.0 ∷ s.1) t.0 t.1 t.3 in
    rw (f.words_are, s.2, t.2) (entered_by_rest f.name ((s.0 ∷ s.1) ∷ (t.0 ∷ t.1) ∷ []) (at_two (s.0 ∷ s.1) (t.0 ∷ t.1)) w)
