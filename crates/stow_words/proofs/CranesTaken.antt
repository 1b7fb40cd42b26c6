-- Words of the plain form of `cranes` are taken, and order their own texts.
use Rattle.std.proofs.Common.{◌≡◌, ℕ, Bool, true, false, ◌&&◌, List, [], ◌∷◌, Option, Some, None, codes, refl, eqb, unwrap_or, ◌∙◌, ap}
use Rattle.std.specs.Prelude.{find}
use Rattle.std.specs.List.{fold, list_all}
use Rattle.std.proofs.lemmas.Bool.{both_ways, not-true}
use Rattle.clap.specs.Words.{Text, Shape, takes, built, subcommand_of}
use Rattle.clap.specs.Simple.{label_of, entered}
use Rattle.clap.specs.Takes.{walk_passes, turn_passes, level_passes, settle_passes, default_passes, is_valid}
use Rattle.clap.specs.Walk.{Walk, Held, walked, walk, nothing_held, idle, option, answers_to, to_positional, arg_by_index, settled, finished}
use Rattle.clap.proofs.OnLiterals.{clap_on_literals}
use Rattle.std.specs.Prelude.{Result}
use Rattle.stow_words.specs.Numbers.{number_in}
use Rattle.stow_words.specs.declared.order.Order.{Order}
use Rattle.stow_words.specs.declared.order.WordsNo.{WordsNo}
use Rattle.stow_words.specs.Command.{stow_app, cranes_app}
use Rattle.stow_words.specs.Orders.{entered_order, cranes_order, craned}
use Rattle.stow_words.specs.Plain.{arrival_words, IsPlainOption, IsPlainCranes}
use Rattle.stow_words.proofs.Walks.{halted, halted_walk, halted_passes, top, names, start, more, none, split_plain}

abbrev leaf : Shape
leaf = unwrap_or (find (λ s. answers_to (codes "cranes") (label_of s)) (built stow_app).subs) cranes_app.top

first : walked top.rules names start (codes "cranes") ≡ halted nothing_held idle 1 false (codes "cranes") []
unfolding clap_on_literals
first = refl

top_walk : (rest : List Text) → walk top.rules names nothing_held (codes "cranes" ∷ rest) ≡ halted nothing_held idle 1 false (codes "cranes") rest
top_walk rest = ap (λ (w : Walk). fold (walked top.rules names) w rest) first ∙ halted_walk top.rules names nothing_held idle 1 false (codes "cranes") [] rest

top_passes : (rest : List Text) → walk_passes top names start (codes "cranes" ∷ rest) ≡ true
unfolding clap_on_literals
top_passes rest = halted_passes top names nothing_held idle 1 false (codes "cranes") [] rest

takes_by_rest : (name : Text) (rest : List Text) → level_passes leaf [] nothing_held rest false ≡ true → takes stow_app (name ∷ codes "cranes" ∷ rest) ≡ true
takes_by_rest name rest h = rw (top_walk rest, top_passes rest, h) refl

abbrev at_one : Text → Walk
at_one p = to_positional leaf.rules (arg_by_index leaf.rules 1) p start nothing_held

abbrev at_two : Text → Text → Walk
at_two p b = to_positional leaf.rules (arg_by_index leaf.rules 2) b (at_one p) (at_one p).held

abbrev at_three : Text → Text → Text → Walk
at_three p b n = to_positional leaf.rules (arg_by_index leaf.rules 3) n (at_two p b) (at_two p b).held

abbrev at_four : Text → Text → Text → Text → Walk
at_four p b n c = to_positional leaf.rules (arg_by_index leaf.rules 4) c (at_three p b n) (at_three p b n).held

abbrev at_five : Text → Text → Text → Text → Text → Walk
at_five p b n c k = to_positional leaf.rules (arg_by_index leaf.rules 5) k (at_four p b n c) (at_four p b n c).held

step_one : (y : ℕ) (ys : Text) → eqb y 45 ≡ false → walked leaf.rules [] start (y ∷ ys) ≡ at_one (y ∷ ys)
unfolding clap_on_literals
step_one y ys e = simp e

pass_one : (y : ℕ) (ys : Text) → eqb y 45 ≡ false → turn_passes leaf [] start (y ∷ ys) ≡ true
unfolding clap_on_literals
pass_one y ys e = simp e

step_two : (p : Text) (y : ℕ) (ys : Text) → eqb y 45 ≡ false → walked leaf.rules [] (at_one p) (y ∷ ys) ≡ at_two p (y ∷ ys)
unfolding clap_on_literals
step_two p y ys e = simp e

pass_two : (p : Text) (y : ℕ) (ys : Text) → eqb y 45 ≡ false → turn_passes leaf [] (at_one p) (y ∷ ys) ≡ true
unfolding clap_on_literals
pass_two p y ys e = simp e

step_three : (p b : Text) (y : ℕ) (ys : Text) → eqb y 45 ≡ false → walked leaf.rules [] (at_two p b) (y ∷ ys) ≡ at_three p b (y ∷ ys)
unfolding clap_on_literals
step_three p b y ys e = simp e

pass_three : (p b : Text) (y : ℕ) (ys : Text) → eqb y 45 ≡ false → turn_passes leaf [] (at_two p b) (y ∷ ys) ≡ true
unfolding clap_on_literals
pass_three p b y ys e = simp e

step_four : (p b n : Text) (y : ℕ) (ys : Text) → eqb y 45 ≡ false → walked leaf.rules [] (at_three p b n) (y ∷ ys) ≡ at_four p b n (y ∷ ys)
unfolding clap_on_literals
step_four p b n y ys e = simp e

pass_four : (p b n : Text) (y : ℕ) (ys : Text) → eqb y 45 ≡ false → turn_passes leaf [] (at_three p b n) (y ∷ ys) ≡ true
unfolding clap_on_literals
pass_four p b n y ys e = simp e

step_five : (p b n c : Text) (y : ℕ) (ys : Text) → eqb y 45 ≡ false → walked leaf.rules [] (at_four p b n c) (y ∷ ys) ≡ at_five p b n c (y ∷ ys)
unfolding clap_on_literals
step_five p b n c y ys e = simp e

pass_five : (p b n c : Text) (y : ℕ) (ys : Text) → eqb y 45 ≡ false → turn_passes leaf [] (at_four p b n c) (y ∷ ys) ≡ true
unfolding clap_on_literals
pass_five p b n c y ys e = simp e

-- ---- the option, from any values held

abbrev idle_at : Held → Walk
idle_at h = record { held = h; waiting = idle; position = 6; is_trailing = false; stopped = None }

abbrev opened : Held → Held
opened h = record (settled leaf.rules h) { pending = Some (codes "arrival", []) }

abbrev filled : Text → Held → Held
filled v h = record (settled leaf.rules h) { pending = Some (codes "arrival", v ∷ []) }

abbrev waits_at : Held → Walk
waits_at h = record { held = opened h; waiting = option (codes "arrival"); position = 6; is_trailing = false; stopped = None }

open_step : (h : Held) → walked leaf.rules [] (idle_at h) (codes "--arrival") ≡ waits_at h
unfolding clap_on_literals
open_step h = refl

open_pass : (h : Held) → settle_passes leaf.rules leaf.args_override_self h ≡ true → turn_passes leaf [] (idle_at h) (codes "--arrival") ≡ true
unfolding clap_on_literals
open_pass h e = rw e refl

fill_step : (h : Held) (z : ℕ) (zs : Text) → eqb z 45 ≡ false → walked leaf.rules [] (waits_at h) (z ∷ zs) ≡ idle_at (filled (z ∷ zs) h)
unfolding clap_on_literals
fill_step h z zs e = simp e

fill_pass : (h : Held) (z : ℕ) (zs : Text) → eqb z 45 ≡ false → turn_passes leaf [] (waits_at h) (z ∷ zs) ≡ true
unfolding clap_on_literals
fill_pass h z zs e = simp e

-- what the end of a level asks of the values held
abbrev end_passes : Held → Bool
end_passes h = settle_passes leaf.rules leaf.args_override_self h && (list_all default_passes leaf.rules && is_valid leaf (finished leaf.rules h) false)

level_of : (words : List Text) (h : Held) → walk leaf.rules [] nothing_held words ≡ idle_at h → walk_passes leaf [] start words ≡ true → end_passes h ≡ true → level_passes leaf [] nothing_held words false ≡ true
level_of words h w p e = rw (p, w) e

ends_without : (p b n c k : Text) → end_passes (at_five p b n c k).held ≡ true
ends_without p b n c k = refl

settles : (p b n c k : Text) → settle_passes leaf.rules leaf.args_override_self (at_five p b n c k).held ≡ true
settles p b n c k = refl

ends_with : (p b n c k v : Text) → end_passes (filled v (at_five p b n c k).held) ≡ true
ends_with p b n c k v = refl

five_walk : (x y z s t : ℕ) (xs ys zs ss ts : Text) (rest : List Text) → eqb x 45 ≡ false → eqb y 45 ≡ false → eqb z 45 ≡ false → eqb s 45 ≡ false → eqb t 45 ≡ false → walk leaf.rules [] nothing_held ((x ∷ xs) ∷ (y ∷ ys) ∷ (z ∷ zs) ∷ (s ∷ ss) ∷ (t ∷ ts) ∷ rest) ≡ fold (walked leaf.rules []) (at_five (x ∷ xs) (y ∷ ys) (z ∷ zs) (s ∷ ss) (t ∷ ts)) rest
five_walk x y z s t xs ys zs ss ts rest e f g h k =
    ap (λ (w : Walk). fold (walked leaf.rules []) (walked leaf.rules [] (walked leaf.rules [] (walked leaf.rules [] (walked leaf.rules [] w (y ∷ ys)) (z ∷ zs)) (s ∷ ss)) (t ∷ ts)) rest) (step_one x xs e)
    ∙ ap (λ (w : Walk). fold (walked leaf.rules []) (walked leaf.rules [] (walked leaf.rules [] (walked leaf.rules [] w (z ∷ zs)) (s ∷ ss)) (t ∷ ts)) rest) (step_two (x ∷ xs) y ys f)
    ∙ ap (λ (w : Walk). fold (walked leaf.rules []) (walked leaf.rules [] (walked leaf.rules [] w (s ∷ ss)) (t ∷ ts)) rest) (step_three (x ∷ xs) (y ∷ ys) z zs g)
    ∙ ap (λ (w : Walk). fold (walked leaf.rules []) (walked leaf.rules [] w (t ∷ ts)) rest) (step_four (x ∷ xs) (y ∷ ys) (z ∷ zs) s ss h)
    ∙ ap (λ (w : Walk). fold (walked leaf.rules []) w rest) (step_five (x ∷ xs) (y ∷ ys) (z ∷ zs) (s ∷ ss) t ts k)

five_pass : (x y z s t : ℕ) (xs ys zs ss ts : Text) (rest : List Text) → eqb x 45 ≡ false → eqb y 45 ≡ false → eqb z 45 ≡ false → eqb s 45 ≡ false → eqb t 45 ≡ false → walk_passes leaf [] (at_five (x ∷ xs) (y ∷ ys) (z ∷ zs) (s ∷ ss) (t ∷ ts)) rest ≡ true → walk_passes leaf [] start ((x ∷ xs) ∷ (y ∷ ys) ∷ (z ∷ zs) ∷ (s ∷ ss) ∷ (t ∷ ts) ∷ rest) ≡ true
five_pass x y z s t xs ys zs ss ts rest e f g h k m =
    more leaf [] start (at_one (x ∷ xs)) (x ∷ xs) _ (pass_one x xs e) (step_one x xs e)
    (more leaf [] (at_one (x ∷ xs)) (at_two (x ∷ xs) (y ∷ ys)) (y ∷ ys) _ (pass_two (x ∷ xs) y ys f) (step_two (x ∷ xs) y ys f)
    (more leaf [] (at_two (x ∷ xs) (y ∷ ys)) (at_three (x ∷ xs) (y ∷ ys) (z ∷ zs)) (z ∷ zs) _ (pass_three (x ∷ xs) (y ∷ ys) z zs g) (step_three (x ∷ xs) (y ∷ ys) z zs g)
    (more leaf [] (at_three (x ∷ xs) (y ∷ ys) (z ∷ zs)) (at_four (x ∷ xs) (y ∷ ys) (z ∷ zs) (s ∷ ss)) (s ∷ ss) _ (pass_four (x ∷ xs) (y ∷ ys) (z ∷ zs) s ss h) (step_four (x ∷ xs) (y ∷ ys) (z ∷ zs) s ss h)
    (more leaf [] (at_four (x ∷ xs) (y ∷ ys) (z ∷ zs) (s ∷ ss)) (at_five (x ∷ xs) (y ∷ ys) (z ∷ zs) (s ∷ ss) (t ∷ ts)) (t ∷ ts) _ (pass_five (x ∷ xs) (y ∷ ys) (z ∷ zs) (s ∷ ss) t ts k) (step_five (x ∷ xs) (y ∷ ys) (z ∷ zs) (s ∷ ss) t ts k) m))))

without : (x y z s t : ℕ) (xs ys zs ss ts : Text) → eqb x 45 ≡ false → eqb y 45 ≡ false → eqb z 45 ≡ false → eqb s 45 ≡ false → eqb t 45 ≡ false → level_passes leaf [] nothing_held ((x ∷ xs) ∷ (y ∷ ys) ∷ (z ∷ zs) ∷ (s ∷ ss) ∷ (t ∷ ts) ∷ []) false ≡ true
without x y z s t xs ys zs ss ts e f g h k =
    level_of ((x ∷ xs) ∷ (y ∷ ys) ∷ (z ∷ zs) ∷ (s ∷ ss) ∷ (t ∷ ts) ∷ []) (at_five (x ∷ xs) (y ∷ ys) (z ∷ zs) (s ∷ ss) (t ∷ ts)).held (five_walk x y z s t xs ys zs ss ts [] e f g h k) (five_pass x y z s t xs ys zs ss ts [] e f g h k (none leaf [] _)) (ends_without (x ∷ xs) (y ∷ ys) (z ∷ zs) (s ∷ ss) (t ∷ ts))

arrival_walk : (x y z s t : ℕ) (xs ys zs ss ts : Text) (u : ℕ) (us : Text) → eqb x 45 ≡ false → eqb y 45 ≡ false → eqb z 45 ≡ false → eqb s 45 ≡ false → eqb t 45 ≡ false → eqb u 45 ≡ false → walk leaf.rules [] nothing_held ((x ∷ xs) ∷ (y ∷ ys) ∷ (z ∷ zs) ∷ (s ∷ ss) ∷ (t ∷ ts) ∷ codes "--arrival" ∷ (u ∷ us) ∷ []) ≡ idle_at (filled (u ∷ us) (at_five (x ∷ xs) (y ∷ ys) (z ∷ zs) (s ∷ ss) (t ∷ ts)).held)
arrival_walk x y z s t xs ys zs ss ts u us e f g h k l =
    let d : Held = (at_five (x ∷ xs) (y ∷ ys) (z ∷ zs) (s ∷ ss) (t ∷ ts)).held in
    five_walk x y z s t xs ys zs ss ts (codes "--arrival" ∷ (u ∷ us) ∷ []) e f g h k ∙ ap (λ (w : Walk). walked leaf.rules [] w (u ∷ us)) (open_step d) ∙ fill_step d u us l

with_arrival : (x y z s t : ℕ) (xs ys zs ss ts : Text) (u : ℕ) (us : Text) → eqb x 45 ≡ false → eqb y 45 ≡ false → eqb z 45 ≡ false → eqb s 45 ≡ false → eqb t 45 ≡ false → eqb u 45 ≡ false → level_passes leaf [] nothing_held ((x ∷ xs) ∷ (y ∷ ys) ∷ (z ∷ zs) ∷ (s ∷ ss) ∷ (t ∷ ts) ∷ codes "--arrival" ∷ (u ∷ us) ∷ []) false ≡ true
with_arrival x y z s t xs ys zs ss ts u us e f g h k l =
    let d : Held = (at_five (x ∷ xs) (y ∷ ys) (z ∷ zs) (s ∷ ss) (t ∷ ts)).held in
    let p : walk_passes leaf [] start ((x ∷ xs) ∷ (y ∷ ys) ∷ (z ∷ zs) ∷ (s ∷ ss) ∷ (t ∷ ts) ∷ codes "--arrival" ∷ (u ∷ us) ∷ []) ≡ true = five_pass x y z s t xs ys zs ss ts (codes "--arrival" ∷ (u ∷ us) ∷ []) e f g h k
    (more leaf [] (idle_at d) (waits_at d) (codes "--arrival") _ (open_pass d (settles (x ∷ xs) (y ∷ ys) (z ∷ zs) (s ∷ ss) (t ∷ ts))) (open_step d)
    (more leaf [] (waits_at d) (idle_at (filled (u ∷ us) d)) (u ∷ us) _ (fill_pass d u us l) (fill_step d u us l) (none leaf [] _))) in
    level_of ((x ∷ xs) ∷ (y ∷ ys) ∷ (z ∷ zs) ∷ (s ∷ ss) ∷ (t ∷ ts) ∷ codes "--arrival" ∷ (u ∷ us) ∷ []) (filled (u ∷ us) d) (arrival_walk x y z s t xs ys zs ss ts u us e f g h k l) p (ends_with (x ∷ xs) (y ∷ ys) (z ∷ zs) (s ∷ ss) (t ∷ ts) (u ∷ us))

by_arrival : (a : Option Text) → IsPlainOption a → (x y z s t : ℕ) (xs ys zs ss ts : Text) → eqb x 45 ≡ false → eqb y 45 ≡ false → eqb z 45 ≡ false → eqb s 45 ≡ false → eqb t 45 ≡ false → level_passes leaf [] nothing_held ((x ∷ xs) ∷ (y ∷ ys) ∷ (z ∷ zs) ∷ (s ∷ ss) ∷ (t ∷ ts) ∷ arrival_words a) false ≡ true
by_arrival None o x y z s t xs ys zs ss ts e f g h k = without x y z s t xs ys zs ss ts e f g h k
by_arrival (Some []) o x y z s t xs ys zs ss ts e f g h k = absurd (both_ways false refl o)
by_arrival (Some (u ∷ us)) o x y z s t xs ys zs ss ts e f g h k = with_arrival x y z s t xs ys zs ss ts u us e f g h k (not-true _ o)

pub cranes_taken : (words : List Text) → IsPlainCranes words → takes stow_app words ≡ true
cranes_taken words f =
    let sp = split_plain f.profile f.profile_plain in
    let sb = split_plain f.bookings f.bookings_plain in
    let sn = split_plain f.base f.base_plain in
    let sc = split_plain f.call f.call_plain in
    let sk = split_plain f.count f.count_plain in
    rw (f.words_are, sp.2, sb.2, sn.2, sc.2, sk.2) (takes_by_rest f.name _ (by_arrival f.arrival f.plain sp.0 sb.0 sn.0 sc.0 sk.0 sp.1 sb.1 sn.1 sc.1 sk.1 sp.3 sb.3 sn.3 sc.3 sk.3))

-- ---- the values

entered_by_rest : (name : Text) (rest : List Text) (w : Walk) → walk leaf.rules [] nothing_held rest ≡ w → entered_order (subcommand_of stow_app (name ∷ codes "cranes" ∷ rest)) ≡ cranes_order (finished leaf.rules w.held)
entered_by_rest name rest w e = ap (λ (t : Walk). entered_order (entered (built stow_app) t.stopped)) (top_walk rest) ∙ ap (λ (u : Walk). cranes_order (finished leaf.rules u.held)) e

abbrev own : Text → Text → Text → Text → Text → Option Text → Result Order WordsNo
own p b n c k a = craned p b n a (number_in 1 11 c) (number_in 1 8 k)

own_without : (p b n c k : Text) → cranes_order (finished leaf.rules (at_five p b n c k).held) ≡ own p b n c k None
own_without p b n c k = refl

own_with : (p b n c k v : Text) → cranes_order (finished leaf.rules (filled v (at_five p b n c k).held)) ≡ own p b n c k (Some v)
own_with p b n c k v = refl

own_by : (a : Option Text) → IsPlainOption a → (name : Text) (x y z s t : ℕ) (xs ys zs ss ts : Text) → eqb x 45 ≡ false → eqb y 45 ≡ false → eqb z 45 ≡ false → eqb s 45 ≡ false → eqb t 45 ≡ false
    → entered_order (subcommand_of stow_app (name ∷ codes "cranes" ∷ (x ∷ xs) ∷ (y ∷ ys) ∷ (z ∷ zs) ∷ (s ∷ ss) ∷ (t ∷ ts) ∷ arrival_words a)) ≡ own (x ∷ xs) (y ∷ ys) (z ∷ zs) (s ∷ ss) (t ∷ ts) a
own_by None o name x y z s t xs ys zs ss ts e f g h k =
    entered_by_rest name ((x ∷ xs) ∷ (y ∷ ys) ∷ (z ∷ zs) ∷ (s ∷ ss) ∷ (t ∷ ts) ∷ []) (at_five (x ∷ xs) (y ∷ ys) (z ∷ zs) (s ∷ ss) (t ∷ ts)) (five_walk x y z s t xs ys zs ss ts [] e f g h k) ∙ own_without (x ∷ xs) (y ∷ ys) (z ∷ zs) (s ∷ ss) (t ∷ ts)
own_by (Some []) o name x y z s t xs ys zs ss ts e f g h k = absurd (both_ways false refl o)
own_by (Some (u ∷ us)) o name x y z s t xs ys zs ss ts e f g h k =
    entered_by_rest name ((x ∷ xs) ∷ (y ∷ ys) ∷ (z ∷ zs) ∷ (s ∷ ss) ∷ (t ∷ ts) ∷ codes "--arrival" ∷ (u ∷ us) ∷ []) (idle_at (filled (u ∷ us) (at_five (x ∷ xs) (y ∷ ys) (z ∷ zs) (s ∷ ss) (t ∷ ts)).held)) (arrival_walk x y z s t xs ys zs ss ts u us e f g h k (not-true _ o)) ∙ own_with (x ∷ xs) (y ∷ ys) (z ∷ zs) (s ∷ ss) (t ∷ ts) (u ∷ us)

pub cranes_own : (words : List Text) (f : IsPlainCranes words) → entered_order (subcommand_of stow_app words) ≡ craned f.profile f.bookings f.base f.arrival (number_in 1 11 f.call) (number_in 1 8 f.count)
cranes_own words f =
    let sp = split_plain f.profile f.profile_plain in
    let sb = split_plain f.bookings f.bookings_plain in
    let sn = split_plain f.base f.base_plain in
    let sc = split_plain f.call f.call_plain in
    let sk = split_plain f.count f.count_plain in
    rw (f.words_are, sp.2, sb.2, sn.2, sc.2, sk.2) (own_by f.arrival f.plain f.name sp.0 sb.0 sn.0 sc.0 sk.0 sp.1 sb.1 sn.1 sc.1 sk.1 sp.3 sb.3 sn.3 sc.3 sk.3)
