-- Words of the plain form of `plan` are taken, and order their own texts.
use Rattle.std.proofs.Common.{◌≡◌, ℕ, Bool, true, false, ◌&&◌, List, [], ◌∷◌, Some, None, codes, refl, eqb, unwrap_or, ◌∙◌, ap}
use Rattle.std.specs.Prelude.{find}
use Rattle.std.specs.List.{fold, list_all}
use Rattle.std.proofs.lemmas.Bool.{both_ways, not-true}
use Rattle.clap.specs.Words.{Text, Shape, takes, built, subcommand_of}
use Rattle.clap.specs.Simple.{label_of, entered}
use Rattle.clap.specs.Takes.{walk_passes, turn_passes, level_passes, settle_passes, default_passes, is_valid}
use Rattle.clap.specs.Walk.{Walk, Held, walked, walk, nothing_held, idle, option, answers_to, to_positional, arg_by_index, settled, finished}
use Rattle.clap.proofs.OnLiterals.{clap_on_literals}
use Rattle.stow_words.specs.Command.{stow_app, plan_app}
use Rattle.stow_words.specs.Orders.{entered_order, plan_order, number_or, planned}
use Rattle.stow_words.specs.Own.{value_of}
use Rattle.stow_words.specs.Plain.{is_plain, Opt, Arrival, Workers, Budget, id_of, AreOnce, ArePlain, words_of, IsPlainPlan}
use Rattle.stow_words.proofs.Walks.{halted, halted_walk, halted_passes, top, names, start, more, none, split_plain}

abbrev leaf : Shape
leaf = unwrap_or (find (λ s. answers_to (codes "plan") (label_of s)) (built stow_app).subs) plan_app.top

first : walked top.rules names start (codes "plan") ≡ halted nothing_held idle 1 false (codes "plan") []
unfolding clap_on_literals
first = refl

top_walk : (rest : List Text) → walk top.rules names nothing_held (codes "plan" ∷ rest) ≡ halted nothing_held idle 1 false (codes "plan") rest
top_walk rest = ap (λ (w : Walk). fold (walked top.rules names) w rest) first ∙ halted_walk top.rules names nothing_held idle 1 false (codes "plan") [] rest

top_passes : (rest : List Text) → walk_passes top names start (codes "plan" ∷ rest) ≡ true
unfolding clap_on_literals
top_passes rest = halted_passes top names nothing_held idle 1 false (codes "plan") [] rest

takes_by_rest : (name : Text) (rest : List Text) → level_passes leaf [] nothing_held rest false ≡ true → takes stow_app (name ∷ codes "plan" ∷ rest) ≡ true
takes_by_rest name rest h = rw (top_walk rest, top_passes rest, h) refl

-- ---- positionals

abbrev at_one : Text → Walk
at_one p = to_positional leaf.rules (arg_by_index leaf.rules 1) p start nothing_held

abbrev at_two : Text → Text → Walk
at_two p b = to_positional leaf.rules (arg_by_index leaf.rules 2) b (at_one p) (at_one p).held

abbrev at_three : Text → Text → Text → Walk
at_three p b n = to_positional leaf.rules (arg_by_index leaf.rules 3) n (at_two p b) (at_two p b).held

step_one : (x : ℕ) (xs : Text) → eqb x 45 ≡ false → walked leaf.rules [] start (x ∷ xs) ≡ at_one (x ∷ xs)
unfolding clap_on_literals
step_one x xs e = simp e

pass_one : (x : ℕ) (xs : Text) → eqb x 45 ≡ false → turn_passes leaf [] start (x ∷ xs) ≡ true
unfolding clap_on_literals
pass_one x xs e = simp e

step_two : (p : Text) (y : ℕ) (ys : Text) → eqb y 45 ≡ false → walked leaf.rules [] (at_one p) (y ∷ ys) ≡ at_two p (y ∷ ys)
unfolding clap_on_literals
step_two p y ys e = simp e

pass_two : (p : Text) (y : ℕ) (ys : Text) → eqb y 45 ≡ false → turn_passes leaf [] (at_one p) (y ∷ ys) ≡ true
unfolding clap_on_literals
pass_two p y ys e = simp e

step_three : (p b : Text) (y : ℕ) (ys : Text) → eqb y 45 ≡ false → walked leaf.rules [] (at_two p b) (y ∷ ys) ≡ at_three p b (y ∷ ys)
unfolding clap_on_literals
step_three p b y ys e = simp e

pass_three : (p b : Text) (y : ℕ) (ys : Text) → eqb y 45 ≡ false → turn_passes leaf [] (at_two p b) (y ∷ ys) ≡ true
unfolding clap_on_literals
pass_three p b y ys e = simp e

-- ---- options, from any values held

abbrev idle_at : Held → Walk
idle_at h = record { held = h; waiting = idle; position = 4; is_trailing = false; stopped = None }

abbrev opened : Opt → Held → Held
opened o h = record (settled leaf.rules h) { pending = Some (id_of o, []) }

abbrev filled : Opt → Text → Held → Held
filled o v h = record (settled leaf.rules h) { pending = Some (id_of o, v ∷ []) }

abbrev waits_at : Opt → Held → Walk
waits_at o h = record { held = opened o h; waiting = option (id_of o); position = 4; is_trailing = false; stopped = None }

open_step : (o : Opt) (h : Held) → walked leaf.rules [] (idle_at h) (45 ∷ 45 ∷ id_of o) ≡ waits_at o h
unfolding clap_on_literals
open_step Arrival h = refl
open_step Workers h = refl
open_step Budget h = refl

open_pass : (o : Opt) (h : Held) → settle_passes leaf.rules leaf.args_override_self h ≡ true → turn_passes leaf [] (idle_at h) (45 ∷ 45 ∷ id_of o) ≡ true
unfolding clap_on_literals
open_pass Arrival h e = rw e refl
open_pass Workers h e = rw e refl
open_pass Budget h e = rw e refl

fill_step : (o : Opt) (h : Held) (z : ℕ) (zs : Text) → eqb z 45 ≡ false → walked leaf.rules [] (waits_at o h) (z ∷ zs) ≡ idle_at (filled o (z ∷ zs) h)
unfolding clap_on_literals
fill_step Arrival h z zs e = simp e
fill_step Workers h z zs e = simp e
fill_step Budget h z zs e = simp e

fill_pass : (o : Opt) (h : Held) (z : ℕ) (zs : Text) → eqb z 45 ≡ false → turn_passes leaf [] (waits_at o h) (z ∷ zs) ≡ true
unfolding clap_on_literals
fill_pass Arrival h z zs e = simp e
fill_pass Workers h z zs e = simp e
fill_pass Budget h z zs e = simp e

fill_step_at : (o : Opt) (h : Held) (v : Text) → is_plain v ≡ true → walked leaf.rules [] (waits_at o h) v ≡ idle_at (filled o v h)
fill_step_at o h [] e = absurd (both_ways false refl e)
fill_step_at o h (z ∷ zs) e = fill_step o h z zs (not-true _ e)

fill_pass_at : (o : Opt) (h : Held) (v : Text) → is_plain v ≡ true → turn_passes leaf [] (waits_at o h) v ≡ true
fill_pass_at o h [] e = absurd (both_ways false refl e)
fill_pass_at o h (z ∷ zs) e = fill_pass o h z zs (not-true _ e)

-- the values held after the options, and that each settles
abbrev after_all : List (Opt × Text) → Held → Held
after_all [] h = h
after_all (u ∷ us) h = after_all us (filled u.0 u.1 h)

abbrev AllSettle : List (Opt × Text) → Held → Type 0
AllSettle [] h = Unit {0}
AllSettle (u ∷ us) h = (settle_passes leaf.rules leaf.args_override_self h ≡ true) × AllSettle us (filled u.0 u.1 h)

options_pass : (us : List (Opt × Text)) (h : Held) → ArePlain us → AllSettle us h → walk_passes leaf [] (idle_at h) (words_of us) ≡ true
options_pass [] h p s = none leaf [] (idle_at h)
options_pass (u ∷ us) h p s = more leaf [] (idle_at h) (waits_at u.0 h) (45 ∷ 45 ∷ id_of u.0) _ (open_pass u.0 h s.0) (open_step u.0 h)
    (more leaf [] (waits_at u.0 h) (idle_at (filled u.0 u.1 h)) u.1 _ (fill_pass_at u.0 h u.1 p.0) (fill_step_at u.0 h u.1 p.0) (options_pass us (filled u.0 u.1 h) p.1 s.1))

options_walk : (us : List (Opt × Text)) (h : Held) → ArePlain us → fold (walked leaf.rules []) (idle_at h) (words_of us) ≡ idle_at (after_all us h)
options_walk [] h p = refl
options_walk (u ∷ us) h p =
    ap (λ (w : Walk). fold (walked leaf.rules []) (walked leaf.rules [] w u.1) (words_of us)) (open_step u.0 h)
    ∙ ap (λ (w : Walk). fold (walked leaf.rules []) w (words_of us)) (fill_step_at u.0 h u.1 p.0)
    ∙ options_walk us (filled u.0 u.1 h) p.1

-- what the end of a level asks of the values held
abbrev end_passes : Held → Bool
end_passes h = settle_passes leaf.rules leaf.args_override_self h && (list_all default_passes leaf.rules && is_valid leaf (finished leaf.rules h) false)

level_of : (words : List Text) (h : Held) → walk leaf.rules [] nothing_held words ≡ idle_at h → walk_passes leaf [] start words ≡ true → end_passes h ≡ true → level_passes leaf [] nothing_held words false ≡ true
level_of words h w p e = rw (p, w) e

-- ---- each list of options

all_settle : (p b n : Text) (us : List (Opt × Text)) → AreOnce us → AllSettle us (at_three p b n).held × (end_passes (after_all us (at_three p b n).held) ≡ true)
all_settle p b n [] o = (tt, refl)
all_settle p b n ((Arrival, v) ∷ []) o = ((refl, tt), refl)
all_settle p b n ((Workers, v) ∷ []) o = ((refl, tt), refl)
all_settle p b n ((Budget, v) ∷ []) o = ((refl, tt), refl)
all_settle p b n ((Arrival, v) ∷ (Arrival, u) ∷ []) o = absurd (o refl)
all_settle p b n ((Arrival, v) ∷ (Workers, u) ∷ []) o = ((refl, (refl, tt)), refl)
all_settle p b n ((Arrival, v) ∷ (Budget, u) ∷ []) o = ((refl, (refl, tt)), refl)
all_settle p b n ((Workers, v) ∷ (Arrival, u) ∷ []) o = ((refl, (refl, tt)), refl)
all_settle p b n ((Workers, v) ∷ (Workers, u) ∷ []) o = absurd (o refl)
all_settle p b n ((Workers, v) ∷ (Budget, u) ∷ []) o = ((refl, (refl, tt)), refl)
all_settle p b n ((Budget, v) ∷ (Arrival, u) ∷ []) o = ((refl, (refl, tt)), refl)
all_settle p b n ((Budget, v) ∷ (Workers, u) ∷ []) o = ((refl, (refl, tt)), refl)
all_settle p b n ((Budget, v) ∷ (Budget, u) ∷ []) o = absurd (o refl)
all_settle p b n ((Arrival, v) ∷ (Arrival, u) ∷ (Arrival, t) ∷ []) o = absurd (o.0 refl)
all_settle p b n ((Arrival, v) ∷ (Arrival, u) ∷ (Workers, t) ∷ []) o = absurd (o.0 refl)
all_settle p b n ((Arrival, v) ∷ (Arrival, u) ∷ (Budget, t) ∷ []) o = absurd (o.0 refl)
all_settle p b n ((Arrival, v) ∷ (Workers, u) ∷ (Arrival, t) ∷ []) o = absurd (o.1 refl)
all_settle p b n ((Arrival, v) ∷ (Workers, u) ∷ (Workers, t) ∷ []) o = absurd (o.2 refl)
all_settle p b n ((Arrival, v) ∷ (Workers, u) ∷ (Budget, t) ∷ []) o = ((refl, (refl, (refl, tt))), refl)
all_settle p b n ((Arrival, v) ∷ (Budget, u) ∷ (Arrival, t) ∷ []) o = absurd (o.1 refl)
all_settle p b n ((Arrival, v) ∷ (Budget, u) ∷ (Workers, t) ∷ []) o = ((refl, (refl, (refl, tt))), refl)
all_settle p b n ((Arrival, v) ∷ (Budget, u) ∷ (Budget, t) ∷ []) o = absurd (o.2 refl)
all_settle p b n ((Workers, v) ∷ (Arrival, u) ∷ (Arrival, t) ∷ []) o = absurd (o.2 refl)
all_settle p b n ((Workers, v) ∷ (Arrival, u) ∷ (Workers, t) ∷ []) o = absurd (o.1 refl)
all_settle p b n ((Workers, v) ∷ (Arrival, u) ∷ (Budget, t) ∷ []) o = ((refl, (refl, (refl, tt))), refl)
all_settle p b n ((Workers, v) ∷ (Workers, u) ∷ (Arrival, t) ∷ []) o = absurd (o.0 refl)
all_settle p b n ((Workers, v) ∷ (Workers, u) ∷ (Workers, t) ∷ []) o = absurd (o.0 refl)
all_settle p b n ((Workers, v) ∷ (Workers, u) ∷ (Budget, t) ∷ []) o = absurd (o.0 refl)
all_settle p b n ((Workers, v) ∷ (Budget, u) ∷ (Arrival, t) ∷ []) o = ((refl, (refl, (refl, tt))), refl)
all_settle p b n ((Workers, v) ∷ (Budget, u) ∷ (Workers, t) ∷ []) o = absurd (o.1 refl)
all_settle p b n ((Workers, v) ∷ (Budget, u) ∷ (Budget, t) ∷ []) o = absurd (o.2 refl)
all_settle p b n ((Budget, v) ∷ (Arrival, u) ∷ (Arrival, t) ∷ []) o = absurd (o.2 refl)
all_settle p b n ((Budget, v) ∷ (Arrival, u) ∷ (Workers, t) ∷ []) o = ((refl, (refl, (refl, tt))), refl)
all_settle p b n ((Budget, v) ∷ (Arrival, u) ∷ (Budget, t) ∷ []) o = absurd (o.1 refl)
all_settle p b n ((Budget, v) ∷ (Workers, u) ∷ (Arrival, t) ∷ []) o = ((refl, (refl, (refl, tt))), refl)
all_settle p b n ((Budget, v) ∷ (Workers, u) ∷ (Workers, t) ∷ []) o = absurd (o.2 refl)
all_settle p b n ((Budget, v) ∷ (Workers, u) ∷ (Budget, t) ∷ []) o = absurd (o.1 refl)
all_settle p b n ((Budget, v) ∷ (Budget, u) ∷ (Arrival, t) ∷ []) o = absurd (o.0 refl)
all_settle p b n ((Budget, v) ∷ (Budget, u) ∷ (Workers, t) ∷ []) o = absurd (o.0 refl)
all_settle p b n ((Budget, v) ∷ (Budget, u) ∷ (Budget, t) ∷ []) o = absurd (o.0 refl)
all_settle p b n (a ∷ c ∷ d ∷ e ∷ rest) o = absurd o

options_all : (x y z : ℕ) (xs ys zs : Text) (us : List (Opt × Text)) → eqb x 45 ≡ false → eqb y 45 ≡ false → eqb z 45 ≡ false → ArePlain us → walk leaf.rules [] nothing_held ((x ∷ xs) ∷ (y ∷ ys) ∷ (z ∷ zs) ∷ words_of us) ≡ idle_at (after_all us (at_three (x ∷ xs) (y ∷ ys) (z ∷ zs)).held)
options_all x y z xs ys zs us e f g plain =
    ap (λ (w : Walk). fold (walked leaf.rules []) (walked leaf.rules [] (walked leaf.rules [] w (y ∷ ys)) (z ∷ zs)) (words_of us)) (step_one x xs e)
    ∙ ap (λ (w : Walk). fold (walked leaf.rules []) (walked leaf.rules [] w (z ∷ zs)) (words_of us)) (step_two (x ∷ xs) y ys f)
    ∙ ap (λ (w : Walk). fold (walked leaf.rules []) w (words_of us)) (step_three (x ∷ xs) (y ∷ ys) z zs g)
    ∙ options_walk us (at_three (x ∷ xs) (y ∷ ys) (z ∷ zs)).held plain

by_options : (x y z : ℕ) (xs ys zs : Text) (us : List (Opt × Text)) → eqb x 45 ≡ false → eqb y 45 ≡ false → eqb z 45 ≡ false → AreOnce us → ArePlain us → level_passes leaf [] nothing_held ((x ∷ xs) ∷ (y ∷ ys) ∷ (z ∷ zs) ∷ words_of us) false ≡ true
by_options x y z xs ys zs us e f g once plain =
    let h : Held = (at_three (x ∷ xs) (y ∷ ys) (z ∷ zs)).held in
    let s = all_settle (x ∷ xs) (y ∷ ys) (z ∷ zs) us once in
    let w = options_all x y z xs ys zs us e f g plain in
    let p : walk_passes leaf [] start ((x ∷ xs) ∷ (y ∷ ys) ∷ (z ∷ zs) ∷ words_of us) ≡ true =
    more leaf [] start (at_one (x ∷ xs)) (x ∷ xs) _ (pass_one x xs e) (step_one x xs e)
    (more leaf [] (at_one (x ∷ xs)) (at_two (x ∷ xs) (y ∷ ys)) (y ∷ ys) _ (pass_two (x ∷ xs) y ys f) (step_two (x ∷ xs) y ys f)
    (more leaf [] (at_two (x ∷ xs) (y ∷ ys)) (at_three (x ∷ xs) (y ∷ ys) (z ∷ zs)) (z ∷ zs) _ (pass_three (x ∷ xs) (y ∷ ys) z zs g) (step_three (x ∷ xs) (y ∷ ys) z zs g) (options_pass us h plain s.0))) in
    level_of ((x ∷ xs) ∷ (y ∷ ys) ∷ (z ∷ zs) ∷ words_of us) (after_all us h) w p s.1

pub plan_taken : (words : List Text) → IsPlainPlan words → takes stow_app words ≡ true
plan_taken words f =
    let sp = split_plain f.profile f.profile_plain in
    let sb = split_plain f.bookings f.bookings_plain in
    let sn = split_plain f.base f.base_plain in
    rw (f.words_are, sp.2, sb.2, sn.2) (takes_by_rest f.name _ (by_options sp.0 sb.0 sn.0 sp.1 sb.1 sn.1 f.options sp.3 sb.3 sn.3 f.once f.plain))

-- ---- the values

entered_by_rest : (name : Text) (rest : List Text) (w : Walk) → walk leaf.rules [] nothing_held rest ≡ w → entered_order (subcommand_of stow_app (name ∷ codes "plan" ∷ rest)) ≡ plan_order (finished leaf.rules w.held)
entered_by_rest name rest w e = ap (λ (t : Walk). entered_order (entered (built stow_app) t.stopped)) (top_walk rest) ∙ ap (λ (u : Walk). plan_order (finished leaf.rules u.held)) e

own_values : (p b n : Text) (us : List (Opt × Text)) → AreOnce us
    → plan_order (finished leaf.rules (after_all us (at_three p b n).held)) ≡ planned p b n (value_of Arrival us) (number_or 1 1 16 (value_of Workers us)) (number_or 1000 1 100000 (value_of Budget us))
own_values p b n [] o = refl
own_values p b n ((Arrival, v) ∷ []) o = refl
own_values p b n ((Workers, v) ∷ []) o = refl
own_values p b n ((Budget, v) ∷ []) o = refl
own_values p b n ((Arrival, v) ∷ (Arrival, u) ∷ []) o = absurd (o refl)
own_values p b n ((Arrival, v) ∷ (Workers, u) ∷ []) o = refl
own_values p b n ((Arrival, v) ∷ (Budget, u) ∷ []) o = refl
own_values p b n ((Workers, v) ∷ (Arrival, u) ∷ []) o = refl
own_values p b n ((Workers, v) ∷ (Workers, u) ∷ []) o = absurd (o refl)
own_values p b n ((Workers, v) ∷ (Budget, u) ∷ []) o = refl
own_values p b n ((Budget, v) ∷ (Arrival, u) ∷ []) o = refl
own_values p b n ((Budget, v) ∷ (Workers, u) ∷ []) o = refl
own_values p b n ((Budget, v) ∷ (Budget, u) ∷ []) o = absurd (o refl)
own_values p b n ((Arrival, v) ∷ (Arrival, u) ∷ (Arrival, t) ∷ []) o = absurd (o.0 refl)
own_values p b n ((Arrival, v) ∷ (Arrival, u) ∷ (Workers, t) ∷ []) o = absurd (o.0 refl)
own_values p b n ((Arrival, v) ∷ (Arrival, u) ∷ (Budget, t) ∷ []) o = absurd (o.0 refl)
own_values p b n ((Arrival, v) ∷ (Workers, u) ∷ (Arrival, t) ∷ []) o = absurd (o.1 refl)
own_values p b n ((Arrival, v) ∷ (Workers, u) ∷ (Workers, t) ∷ []) o = absurd (o.2 refl)
own_values p b n ((Arrival, v) ∷ (Workers, u) ∷ (Budget, t) ∷ []) o = refl
own_values p b n ((Arrival, v) ∷ (Budget, u) ∷ (Arrival, t) ∷ []) o = absurd (o.1 refl)
own_values p b n ((Arrival, v) ∷ (Budget, u) ∷ (Workers, t) ∷ []) o = refl
own_values p b n ((Arrival, v) ∷ (Budget, u) ∷ (Budget, t) ∷ []) o = absurd (o.2 refl)
own_values p b n ((Workers, v) ∷ (Arrival, u) ∷ (Arrival, t) ∷ []) o = absurd (o.2 refl)
own_values p b n ((Workers, v) ∷ (Arrival, u) ∷ (Workers, t) ∷ []) o = absurd (o.1 refl)
own_values p b n ((Workers, v) ∷ (Arrival, u) ∷ (Budget, t) ∷ []) o = refl
own_values p b n ((Workers, v) ∷ (Workers, u) ∷ (Arrival, t) ∷ []) o = absurd (o.0 refl)
own_values p b n ((Workers, v) ∷ (Workers, u) ∷ (Workers, t) ∷ []) o = absurd (o.0 refl)
own_values p b n ((Workers, v) ∷ (Workers, u) ∷ (Budget, t) ∷ []) o = absurd (o.0 refl)
own_values p b n ((Workers, v) ∷ (Budget, u) ∷ (Arrival, t) ∷ []) o = refl
own_values p b n ((Workers, v) ∷ (Budget, u) ∷ (Workers, t) ∷ []) o = absurd (o.1 refl)
own_values p b n ((Workers, v) ∷ (Budget, u) ∷ (Budget, t) ∷ []) o = absurd (o.2 refl)
own_values p b n ((Budget, v) ∷ (Arrival, u) ∷ (Arrival, t) ∷ []) o = absurd (o.2 refl)
own_values p b n ((Budget, v) ∷ (Arrival, u) ∷ (Workers, t) ∷ []) o = refl
own_values p b n ((Budget, v) ∷ (Arrival, u) ∷ (Budget, t) ∷ []) o = absurd (o.1 refl)
own_values p b n ((Budget, v) ∷ (Workers, u) ∷ (Arrival, t) ∷ []) o = refl
own_values p b n ((Budget, v) ∷ (Workers, u) ∷ (Workers, t) ∷ []) o = absurd (o.2 refl)
own_values p b n ((Budget, v) ∷ (Workers, u) ∷ (Budget, t) ∷ []) o = absurd (o.1 refl)
own_values p b n ((Budget, v) ∷ (Budget, u) ∷ (Arrival, t) ∷ []) o = absurd (o.0 refl)
own_values p b n ((Budget, v) ∷ (Budget, u) ∷ (Workers, t) ∷ []) o = absurd (o.0 refl)
own_values p b n ((Budget, v) ∷ (Budget, u) ∷ (Budget, t) ∷ []) o = absurd (o.0 refl)
own_values p b n (a ∷ c ∷ d ∷ e ∷ rest) o = absurd o

pub plan_own : (words : List Text) (f : IsPlainPlan words)
    → entered_order (subcommand_of stow_app words) ≡ planned f.profile f.bookings f.base (value_of Arrival f.options) (number_or 1 1 16 (value_of Workers f.options)) (number_or 1000 1 100000 (value_of Budget f.options))
plan_own words f =
    let sp = split_plain f.profile f.profile_plain in
    let sb = split_plain f.bookings f.bookings_plain in
    let sn = split_plain f.base f.base_plain in
    let w = options_all sp.0 sb.0 sn.0 sp.1 sb.1 sn.1 f.options sp.3 sb.3 sn.3 f.plain in
    rw (f.words_are, sp.2, sb.2, sn.2) (entered_by_rest f.name ((sp.0 ∷ sp.1) ∷ (sb.0 ∷ sb.1) ∷ (sn.0 ∷ sn.1) ∷ words_of f.options) _ w ∙ own_values (sp.0 ∷ sp.1) (sb.0 ∷ sb.1) (sn.0 ∷ sn.1) f.options f.once)
