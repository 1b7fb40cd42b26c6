-- Words of the plain form of `check` are taken, and order their own texts.
use Rattle.std.proofs.Common.{◌≡◌, ℕ, Bool, true, false, ◌&&◌, List, [], ◌∷◌, Option, Some, None, codes, refl, eqb, unwrap_or, ◌∙◌, ap}
use Rattle.std.specs.Prelude.{find}
use Rattle.std.specs.List.{fold, list_all}
use Rattle.std.proofs.lemmas.Bool.{both_ways, not-true}
use Rattle.clap.specs.Words.{Text, Shape, takes, built, subcommand_of}
use Rattle.clap.specs.Simple.{label_of, entered}
use Rattle.clap.specs.Takes.{walk_passes, turn_passes, level_passes, settle_passes, default_passes, is_valid}
use Rattle.clap.specs.Walk.{Walk, Held, walked, walk, nothing_held, idle, option, answers_to, to_positional, arg_by_index, settled, finished}
use Rattle.clap.proofs.OnLiterals.{clap_on_literals}
use Rattle.std.specs.Prelude.{Ok}
use Rattle.stow_words.specs.declared.order.Order.TheVariants as order
use Rattle.stow_words.specs.Command.{stow_app, check_app}
use Rattle.stow_words.specs.Orders.{entered_order, check_order}
use Rattle.stow_words.specs.Plain.{arrival_words, IsPlainOption, IsPlainCheck}
use Rattle.stow_words.proofs.Walks.{halted, halted_walk, halted_passes, top, names, start, more, none, split_plain}

abbrev leaf : Shape
leaf = unwrap_or (find (λ s. answers_to (codes "check") (label_of s)) (built stow_app).subs) check_app.top

first : walked top.rules names start (codes "check") ≡ halted nothing_held idle 1 false (codes "check") []
unfolding clap_on_literals
first = refl

top_walk : (rest : List Text) → walk top.rules names nothing_held (codes "check" ∷ rest) ≡ halted nothing_held idle 1 false (codes "check") rest
top_walk rest = ap (λ (w : Walk). fold (walked top.rules names) w rest) first ∙ halted_walk top.rules names nothing_held idle 1 false (codes "check") [] rest

top_passes : (rest : List Text) → walk_passes top names start (codes "check" ∷ rest) ≡ true
unfolding clap_on_literals
top_passes rest = halted_passes top names nothing_held idle 1 false (codes "check") [] rest

takes_by_rest : (name : Text) (rest : List Text) → level_passes leaf [] nothing_held rest false ≡ true → takes stow_app (name ∷ codes "check" ∷ rest) ≡ true
takes_by_rest name rest h = rw (top_walk rest, top_passes rest, h) refl

abbrev at_one : Text → Walk
at_one p = to_positional leaf.rules (arg_by_index leaf.rules 1) p start nothing_held

abbrev at_two : Text → Text → Walk
at_two p b = to_positional leaf.rules (arg_by_index leaf.rules 2) b (at_one p) (at_one p).held

abbrev at_three : Text → Text → Text → Walk
at_three p b n = to_positional leaf.rules (arg_by_index leaf.rules 3) n (at_two p b) (at_two p b).held

step_one : (x : ℕ) (xs : Text) → eqb x 45 ≡ false → walked leaf.rules [] start (x ∷ xs) ≡ at_one (x ∷ xs)
unfolding clap_on_literals
step_one x xs e = simp e

pass_one : (x : ℕ) (xs : Text) → eqb x 45 ≡ false → turn_passes leaf [] start (x ∷ xs) ≡ true
unfolding clap_on_literals
pass_one x xs e = simp e

step_two : (p : Text) (y : ℕ) (ys : Text) → eqb y 45 ≡ false → walked leaf.rules [] (at_one p) (y ∷ ys) ≡ at_two p (y ∷ ys)
unfolding clap_on_literals
step_two p y ys e = simp e

pass_two : (p : Text) (y : ℕ) (ys : Text) → eqb y 45 ≡ false → turn_passes leaf [] (at_one p) (y ∷ ys) ≡ true
unfolding clap_on_literals
pass_two p y ys e = simp e

step_three : (p b : Text) (y : ℕ) (ys : Text) → eqb y 45 ≡ false → walked leaf.rules [] (at_two p b) (y ∷ ys) ≡ at_three p b (y ∷ ys)
unfolding clap_on_literals
step_three p b y ys e = simp e

pass_three : (p b : Text) (y : ℕ) (ys : Text) → eqb y 45 ≡ false → turn_passes leaf [] (at_two p b) (y ∷ ys) ≡ true
unfolding clap_on_literals
pass_three p b y ys e = simp e

-- ---- the option, from any values held

abbrev idle_at : Held → Walk
idle_at h = record { held = h; waiting = idle; position = 4; is_trailing = false; stopped = None }

abbrev opened : Held → Held
opened h = record (settled leaf.rules h) { pending = Some (codes "arrival", []) }

abbrev filled : Text → Held → Held
filled v h = record (settled leaf.rules h) { pending = Some (codes "arrival", v ∷ []) }

abbrev waits_at : Held → Walk
waits_at h = record { held = opened h; waiting = option (codes "arrival"); position = 4; is_trailing = false; stopped = None }

open_step : (h : Held) → walked leaf.rules [] (idle_at h) (codes "--arrival") ≡ waits_at h
unfolding clap_on_literals
open_step h = refl

open_pass : (h : Held) → settle_passes leaf.rules leaf.args_override_self h ≡ true → turn_passes leaf [] (idle_at h) (codes "--arrival") ≡ true
unfolding clap_on_literals
open_pass h e = rw e refl

fill_step : (h : Held) (z : ℕ) (zs : Text) → eqb z 45 ≡ false → walked leaf.rules [] (waits_at h) (z ∷ zs) ≡ idle_at (filled (z ∷ zs) h)
unfolding clap_on_literals
fill_step h z zs e = simp e

fill_pass : (h : Held) (z : ℕ) (zs : Text) → eqb z 45 ≡ false → turn_passes leaf [] (waits_at h) (z ∷ zs) ≡ true
unfolding clap_on_literals
fill_pass h z zs e = simp e

-- what the end of a level asks of the values held
abbrev end_passes : Held → Bool
end_passes h = settle_passes leaf.rules leaf.args_override_self h && (list_all default_passes leaf.rules && is_valid leaf (finished leaf.rules h) false)

level_of : (words : List Text) (h : Held) → walk leaf.rules [] nothing_held words ≡ idle_at h → walk_passes leaf [] start words ≡ true → end_passes h ≡ true → level_passes leaf [] nothing_held words false ≡ true
level_of words h w p e = rw (p, w) e

ends_without : (p b n : Text) → end_passes (at_three p b n).held ≡ true
ends_without p b n = refl

settles : (p b n : Text) → settle_passes leaf.rules leaf.args_override_self (at_three p b n).held ≡ true
settles p b n = refl

ends_with : (p b n v : Text) → end_passes (filled v (at_three p b n).held) ≡ true
ends_with p b n v = refl

three_walk : (x y z : ℕ) (xs ys zs : Text) (rest : List Text) → eqb x 45 ≡ false → eqb y 45 ≡ false → eqb z 45 ≡ false → walk leaf.rules [] nothing_held ((x ∷ xs) ∷ (y ∷ ys) ∷ (z ∷ zs) ∷ rest) ≡ fold (walked leaf.rules []) (at_three (x ∷ xs) (y ∷ ys) (z ∷ zs)) rest
three_walk x y z xs ys zs rest e f g =
    ap (λ (w : Walk). fold (walked leaf.rules []) (walked leaf.rules [] (walked leaf.rules [] w (y ∷ ys)) (z ∷ zs)) rest) (step_one x xs e)
    ∙ ap (λ (w : Walk). fold (walked leaf.rules []) (walked leaf.rules [] w (z ∷ zs)) rest) (step_two (x ∷ xs) y ys f)
    ∙ ap (λ (w : Walk). fold (walked leaf.rules []) w rest) (step_three (x ∷ xs) (y ∷ ys) z zs g)

three_pass : (x y z : ℕ) (xs ys zs : Text) (rest : List Text) → eqb x 45 ≡ false → eqb y 45 ≡ false → eqb z 45 ≡ false → walk_passes leaf [] (at_three (x ∷ xs) (y ∷ ys) (z ∷ zs)) rest ≡ true → walk_passes leaf [] start ((x ∷ xs) ∷ (y ∷ ys) ∷ (z ∷ zs) ∷ rest) ≡ true
three_pass x y z xs ys zs rest e f g h = more leaf [] start (at_one (x ∷ xs)) (x ∷ xs) _ (pass_one x xs e) (step_one x xs e)
    (more leaf [] (at_one (x ∷ xs)) (at_two (x ∷ xs) (y ∷ ys)) (y ∷ ys) _ (pass_two (x ∷ xs) y ys f) (step_two (x ∷ xs) y ys f)
    (more leaf [] (at_two (x ∷ xs) (y ∷ ys)) (at_three (x ∷ xs) (y ∷ ys) (z ∷ zs)) (z ∷ zs) _ (pass_three (x ∷ xs) (y ∷ ys) z zs g) (step_three (x ∷ xs) (y ∷ ys) z zs g) h))

without : (x y z : ℕ) (xs ys zs : Text) → eqb x 45 ≡ false → eqb y 45 ≡ false → eqb z 45 ≡ false → level_passes leaf [] nothing_held ((x ∷ xs) ∷ (y ∷ ys) ∷ (z ∷ zs) ∷ []) false ≡ true
without x y z xs ys zs e f g =
    level_of ((x ∷ xs) ∷ (y ∷ ys) ∷ (z ∷ zs) ∷ []) (at_three (x ∷ xs) (y ∷ ys) (z ∷ zs)).held (three_walk x y z xs ys zs [] e f g) (three_pass x y z xs ys zs [] e f g (none leaf [] _)) (ends_without (x ∷ xs) (y ∷ ys) (z ∷ zs))

with_arrival : (x y z u : ℕ) (xs ys zs us : Text) → eqb x 45 ≡ false → eqb y 45 ≡ false → eqb z 45 ≡ false → eqb u 45 ≡ false → level_passes leaf [] nothing_held ((x ∷ xs) ∷ (y ∷ ys) ∷ (z ∷ zs) ∷ codes "--arrival" ∷ (u ∷ us) ∷ []) false ≡ true
with_arrival x y z u xs ys zs us e f g k =
    let h : Held = (at_three (x ∷ xs) (y ∷ ys) (z ∷ zs)).held in
    let w : walk leaf.rules [] nothing_held ((x ∷ xs) ∷ (y ∷ ys) ∷ (z ∷ zs) ∷ codes "--arrival" ∷ (u ∷ us) ∷ []) ≡ idle_at (filled (u ∷ us) h) = three_walk x y z xs ys zs (codes "--arrival" ∷ (u ∷ us) ∷ []) e f g
    ∙ ap (λ (w : Walk). walked leaf.rules [] w (u ∷ us)) (open_step h) ∙ fill_step h u us k in
    let p : walk_passes leaf [] start ((x ∷ xs) ∷ (y ∷ ys) ∷ (z ∷ zs) ∷ codes "--arrival" ∷ (u ∷ us) ∷ []) ≡ true = three_pass x y z xs ys zs (codes "--arrival" ∷ (u ∷ us) ∷ []) e f g
    (more leaf [] (idle_at h) (waits_at h) (codes "--arrival") _ (open_pass h (settles (x ∷ xs) (y ∷ ys) (z ∷ zs))) (open_step h)
    (more leaf [] (waits_at h) (idle_at (filled (u ∷ us) h)) (u ∷ us) _ (fill_pass h u us k) (fill_step h u us k) (none leaf [] _))) in
    level_of ((x ∷ xs) ∷ (y ∷ ys) ∷ (z ∷ zs) ∷ codes "--arrival" ∷ (u ∷ us) ∷ []) (filled (u ∷ us) h) w p (ends_with (x ∷ xs) (y ∷ ys) (z ∷ zs) (u ∷ us))

by_arrival : (a : Option Text) → IsPlainOption a → (x y z : ℕ) (xs ys zs : Text) → eqb x 45 ≡ false → eqb y 45 ≡ false → eqb z 45 ≡ false → level_passes leaf [] nothing_held ((x ∷ xs) ∷ (y ∷ ys) ∷ (z ∷ zs) ∷ arrival_words a) false ≡ true
by_arrival None o x y z xs ys zs e f g = without x y z xs ys zs e f g
by_arrival (Some []) o x y z xs ys zs e f g = absurd (both_ways false refl o)
by_arrival (Some (u ∷ us)) o x y z xs ys zs e f g = with_arrival x y z u xs ys zs us e f g (not-true _ o)

pub check_taken : (words : List Text) → IsPlainCheck words → takes stow_app words ≡ true
check_taken words f =
    let sp = split_plain f.profile f.profile_plain in
    let sb = split_plain f.bookings f.bookings_plain in
    let sn = split_plain f.base f.base_plain in
    rw (f.words_are, sp.2, sb.2, sn.2) (takes_by_rest f.name _ (by_arrival f.arrival f.plain sp.0 sb.0 sn.0 sp.1 sb.1 sn.1 sp.3 sb.3 sn.3))

-- ---- the values

entered_by_rest : (name : Text) (rest : List Text) (w : Walk) → walk leaf.rules [] nothing_held rest ≡ w → entered_order (subcommand_of stow_app (name ∷ codes "check" ∷ rest)) ≡ check_order (finished leaf.rules w.held)
entered_by_rest name rest w e = ap (λ (t : Walk). entered_order (entered (built stow_app) t.stopped)) (top_walk rest) ∙ ap (λ (u : Walk). check_order (finished leaf.rules u.held)) e

own_without : (p b n : Text) → check_order (finished leaf.rules (at_three p b n).held) ≡ Ok (order.Check p b n None)
own_without p b n = refl

own_with : (p b n v : Text) → check_order (finished leaf.rules (filled v (at_three p b n).held)) ≡ Ok (order.Check p b n (Some v))
own_with p b n v = refl

own_by : (a : Option Text) → IsPlainOption a → (name : Text) (x y z : ℕ) (xs ys zs : Text) → eqb x 45 ≡ false → eqb y 45 ≡ false → eqb z 45 ≡ false
    → entered_order (subcommand_of stow_app (name ∷ codes "check" ∷ (x ∷ xs) ∷ (y ∷ ys) ∷ (z ∷ zs) ∷ arrival_words a)) ≡ Ok (order.Check (x ∷ xs) (y ∷ ys) (z ∷ zs) a)
own_by None o name x y z xs ys zs e f g =
    entered_by_rest name ((x ∷ xs) ∷ (y ∷ ys) ∷ (z ∷ zs) ∷ []) (at_three (x ∷ xs) (y ∷ ys) (z ∷ zs)) (three_walk x y z xs ys zs [] e f g) ∙ own_without (x ∷ xs) (y ∷ ys) (z ∷ zs)
own_by (Some []) o name x y z xs ys zs e f g = absurd (both_ways false refl o)
own_by (Some (u ∷ us)) o name x y z xs ys zs e f g =
    let h : Held = (at_three (x ∷ xs) (y ∷ ys) (z ∷ zs)).held in
    let w : walk leaf.rules [] nothing_held ((x ∷ xs) ∷ (y ∷ ys) ∷ (z ∷ zs) ∷ codes "--arrival" ∷ (u ∷ us) ∷ []) ≡ idle_at (filled (u ∷ us) h) = three_walk x y z xs ys zs (codes "--arrival" ∷ (u ∷ us) ∷ []) e f g
    ∙ ap (λ (w : Walk). walked leaf.rules [] w (u ∷ us)) (open_step h) ∙ fill_step h u us (not-true _ o) in
    entered_by_rest name ((x ∷ xs) ∷ (y ∷ ys) ∷ (z ∷ zs) ∷ codes "--arrival" ∷ (u ∷ us) ∷ []) (idle_at (filled (u ∷ us) h)) w ∙ own_with (x ∷ xs) (y ∷ ys) (z ∷ zs) (u ∷ us)

pub check_own : (words : List Text) (f : IsPlainCheck words) → entered_order (subcommand_of stow_app words) ≡ Ok (order.Check f.profile f.bookings f.base f.arrival)
check_own words f =
    let sp = split_plain f.profile f.profile_plain in
    let sb = split_plain f.bookings f.bookings_plain in
    let sn = split_plain f.base f.base_plain in
    rw (f.words_are, sp.2, sb.2, sn.2) (own_by f.arrival f.plain f.name sp.0 sb.0 sn.0 sp.1 sb.1 sn.1 sp.3 sb.3 sn.3)
