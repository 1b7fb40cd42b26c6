-- The moves of a call cost exactly what the set does.
use Rattle.std.specs.Prelude.{◌≡◌, ℕ, Bool, true, false, List, [], ◌∷◌, ◌++◌, Option, Some, None, slice_get, slice_set, slice_index_or, ◌&&◌, not, length, ◌<◌, suc, zero, ◌+◌, cond}
use Rattle.std.proofs.Common.{refl, sym, ◌∙◌, ap, arith}
use Rattle.std.proofs.lemmas.Bool.{and_parts, or_from, and_right, not-true}
use Rattle.std.proofs.lemmas.List.{get_or-set_other}
use Rattle.std.proofs.lemmas.Option.{unwrap_or-slice_get}
use Rattle.std.specs.Option.{unwrap_or}
use Rattle.voyage_meaning.specs.declared.moves.Move.{Move}
use Rattle.voyage_meaning.specs.declared.moves.Move.TheVariants.{OffCover, OnCover, Lift, Put}
use Rattle.stow_data.specs.Ship.{Ship, places}
use Rattle.stow_data.specs.Shipment.{Cargo}
use Rattle.stow_data.specs.Plans.{Plan}
use Rattle.voyage_meaning.specs.Moves.{State, after, end_of, lift_cost, cost_of_moves, cost_of_move}
use Rattle.voyage_meaning.specs.Voyage.{start}
use Rattle.plan_lifts.specs.Least.{counted}
use Rattle.plan_lifts.specs.Lifted.{lift_weight, lifts_weight}
use Rattle.plan_lifts.specs.Passes.{covers_down, lifts_down, put_of, puts_from}
use Rattle.plan_lifts.proofs.Upper.{Facts, moves, pass_1, pass_2}

weight_append : (w : Option ℕ → ℕ) (cargo : Cargo) (call : ℕ) (xs ys : List Move) (s : State) → lifts_weight w cargo call s (xs ++ ys) ≡ lifts_weight w cargo call s xs + lifts_weight w cargo call (end_of cargo call s xs) ys
weight_append w cargo call [] ys s = omega arith
weight_append w cargo call (m ∷ xs) ys s = omega (arith, weight_append w cargo call xs ys (after cargo call s m))

covers_once : (w : Option ℕ → ℕ) (cargo : Cargo) (call : ℕ) (make : ℕ → Move) (rest : List Move) (n : ℕ) (b : Bool) (s : State) → (lifts_weight w cargo call s (make n ∷ rest) ≡ lifts_weight w cargo call (after cargo call s (make n)) rest) → ((t : State) → lifts_weight w cargo call t rest ≡ 0) → lifts_weight w cargo call s (cond b (make n ∷ rest) rest) ≡ 0
covers_once w cargo call make rest n true s free again = free ∙ again (after cargo call s (make n))
covers_once w cargo call make rest n false s free again = again s

covers_free : (w : Option ℕ → ℕ) (cargo : Cargo) (call : ℕ) (make : ℕ → Move) (f : ℕ → Bool) (n : ℕ) → ((t : State) (k : ℕ) (ms : List Move) → lifts_weight w cargo call t (make k ∷ ms) ≡ lifts_weight w cargo call (after cargo call t (make k)) ms) → (s : State) → lifts_weight w cargo call s (covers_down make f n) ≡ 0
covers_free w cargo call make f zero free s = refl
covers_free w cargo call make f (suc n) free s = covers_once w cargo call make (covers_down make f n) n (f n) s (free s n (covers_down make f n)) (λ t. covers_free w cargo call make f n free t)

put_free : (w : Option ℕ → ℕ) (cargo : Cargo) (call : ℕ) (p : ℕ) (b : Bool) (o : Option (Option ℕ)) (rest : List Move) → ((t : State) → lifts_weight w cargo call t rest ≡ 0) → (s : State) → lifts_weight w cargo call s (cond b (put_of p o) [] ++ rest) ≡ 0
put_free w cargo call p true (Some (Some c)) rest again s = omega (arith, again (after cargo call s (Put c p)))
put_free w cargo call p true (Some None) rest again s = again s
put_free w cargo call p true None rest again s = again s
put_free w cargo call p false o rest again s = again s

puts_free : (w : Option ℕ → ℕ) (cargo : Cargo) (call : ℕ) (f : ℕ → Bool) (new : Plan) (k p : ℕ) (s : State) → lifts_weight w cargo call s (puts_from f new p k) ≡ 0
puts_free w cargo call f new zero p s = refl
puts_free w cargo call f new (suc k) p s = put_free w cargo call p (f p) (slice_get new p) (puts_from f new (suc p) k) (λ t. puts_free w cargo call f new k (suc p) t) s

-- what the places of the set below n count
abbrev pub sum_down : (Option ℕ → ℕ) → (ℕ → Bool) → ℕ → Plan → ℕ
sum_down w f zero plan = 0
sum_down w f (suc n) plan = cond (f n) (w (slice_index_or plan n None)) 0 + sum_down w f n plan

cond_same : (b : Bool) (x y : ℕ) → (b ≡ true → x ≡ y) → cond b x 0 ≡ cond b y 0
cond_same true x y h = h refl
cond_same false x y h = refl

sum_same : (w : Option ℕ → ℕ) (f : ℕ → Bool) (n : ℕ) (xs ys : Plan) → ((p : ℕ) → p < n → f p ≡ true → slice_index_or xs p None ≡ slice_index_or ys p None) → sum_down w f n xs ≡ sum_down w f n ys
sum_same w f zero xs ys h = refl
sum_same w f (suc n) xs ys h = omega (arith, cond_same (f n) (w (slice_index_or xs n None)) (w (slice_index_or ys n None)) (λ e. ap w (h n (omega arith) e)), sum_same w f n xs ys (λ p l e. h p (omega arith) e))

lift_counts : (w : Option ℕ → ℕ) (cargo : Cargo) (call : ℕ) (b : Bool) (n : ℕ) (rest : List Move) (s : State) (total : Plan → ℕ) → ((t : State) → lifts_weight w cargo call t rest ≡ total t.plan) → total (slice_set s.plan n None) ≡ total s.plan → lifts_weight w cargo call s (cond b (Lift n ∷ rest) rest) ≡ cond b (w (slice_index_or s.plan n None)) 0 + total s.plan
lift_counts w cargo call true n rest s total again same = omega (arith, again (after cargo call s (Lift n)), same)
lift_counts w cargo call false n rest s total again same = omega (arith, again s)

lifts_count : (w : Option ℕ → ℕ) (cargo : Cargo) (call : ℕ) (f : ℕ → Bool) (n : ℕ) (s : State) → lifts_weight w cargo call s (lifts_down f n) ≡ sum_down w f n s.plan
lifts_count w cargo call f zero s = refl
lifts_count w cargo call f (suc n) s = lift_counts w cargo call (f n) n (lifts_down f n) s (λ plan. sum_down w f n plan) (λ t. lifts_count w cargo call f n t)
    (sum_same w f n (slice_set s.plan n None) s.plan (λ p l e. get_or-set_other s.plan n p None None (let ne : p ≡ n → ⊥ = λ at. omega arith in ne)))

split_cond : (a b : Bool) (x : ℕ) → cond (a && b) x 0 + cond (a && not b) x 0 ≡ cond a x 0
split_cond true true x = omega arith
split_cond true false x = omega arith
split_cond false b x = omega arith

sum_split : (w : Option ℕ → ℕ) (f d : ℕ → Bool) (n : ℕ) (plan : Plan) → sum_down w (λ p. f p && d p) n plan + sum_down w (λ p. f p && not (d p)) n plan ≡ sum_down w f n plan
sum_split w f d zero plan = refl
sum_split w f d (suc n) plan = omega (arith, split_cond (f n) (d n) (w (slice_index_or plan n None)), sum_split w f d n plan)

sum_front : (w : Option ℕ → ℕ) (f : ℕ → Bool) (n : ℕ) (o : Option ℕ) (os : Plan) → sum_down w f (suc n) (o ∷ os) ≡ cond (f 0) (w o) 0 + sum_down w (λ p. f (suc p)) n os
sum_front w f zero o os = refl
sum_front w f (suc n) o os = omega (arith, sum_front w f n o os)

pub sum_counted : (w : Option ℕ → ℕ) (f : ℕ → Bool) (plan : Plan) → sum_down w f (length plan) plan ≡ counted w f plan
sum_counted w f [] = refl
sum_counted w f (o ∷ os) = omega (arith, sum_front w f (length os) o os, sum_counted w (λ p. f (suc p)) os)

-- the moves of a call weigh what the set weighs
pub moves_weigh : (w : Option ℕ → ℕ) (ship : Ship) (cargo : Cargo) (call : ℕ) (old new : Plan) (lifted moved deck opened due : ℕ → Bool) (facts : Facts ship cargo call old new lifted moved deck opened due) → lifts_weight w cargo call (start ship cargo call old) (moves ship cargo call old new lifted moved deck opened due facts) ≡ counted w lifted old
moves_weigh w ship cargo call old new lifted moved deck opened due facts =
    let s : State = start ship cargo call old in
    let n : ℕ = length (places ship) in
    let a : List Move = lifts_down (λ p. lifted p && deck p) n in
    let b : List Move = covers_down OffCover opened (length ship.covers) in
    let c : List Move = lifts_down (λ p. lifted p && not (deck p)) n in
    let d : List Move = puts_from (λ p. due p && not (deck p)) new 0 n in
    let e : List Move = covers_down OnCover opened (length ship.covers) in
    let f : List Move = puts_from (λ p. due p && deck p) new 0 n in
    let t : State = end_of cargo call s a in
    let u : State = end_of cargo call t b in
    let v : State = end_of cargo call u c in
    let y : State = end_of cargo call v d in
    let x : State = end_of cargo call y e in
    let first = (pass_1 ship cargo call old new lifted moved deck opened due facts).1 in
    let second = (pass_2 ship cargo call old new lifted moved deck opened due facts t first).1 in
    let reads : sum_down w (λ p. lifted p && not (deck p)) n u.plan ≡ sum_down w (λ p. lifted p && not (deck p)) n old =
    sum_same w (λ p. lifted p && not (deck p)) n u.plan old (λ p l h.
    ap (λ (y : Plan). slice_index_or y p None) second.plan_same ∙ (sym (unwrap_or-slice_get t.plan p None) ∙ (ap (λ (y : Option (Option ℕ)). unwrap_or y None) (first.state.plan.others p (or_from false (lifted p && deck p) refl (and_right (lifted p) (deck p) (not-true (deck p) (and_parts (lifted p) (not (deck p)) h).1)))) ∙ unwrap_or-slice_get old p None))) in
    let whole : sum_down w lifted n old ≡ counted w lifted old = ap (λ (k : ℕ). sum_down w lifted k old) (sym facts.old_formed.each_place) ∙ sum_counted w lifted old in
    omega (
      arith,
      weight_append w cargo call a (b ++ (c ++ (d ++ (e ++ f)))) s,
      weight_append w cargo call b (c ++ (d ++ (e ++ f))) t,
      weight_append w cargo call c (d ++ (e ++ f)) u,
      weight_append w cargo call d (e ++ f) v,
      weight_append w cargo call e f y,
      lifts_count w cargo call (λ p. lifted p && deck p) n s,
      covers_free w cargo call OffCover opened (length ship.covers) (λ z k ms. omega arith) t,
      lifts_count w cargo call (λ p. lifted p && not (deck p)) n u,
      puts_free w cargo call (λ p. due p && not (deck p)) new n 0 v,
      covers_free w cargo call OnCover opened (length ship.covers) (λ z k ms. omega arith) y,
      puts_free w cargo call (λ p. due p && deck p) new n 0 x,
      sum_split w lifted deck n old,
      reads,
      whole,
    )

-- what moves cost is what they weigh where a container weighs what its lift costs
cost_one : (cargo : Cargo) (call : ℕ) (s : State) (m : Move) → cost_of_move cargo call s m ≡ lift_weight (lift_cost cargo call) s m
cost_one cargo call s (Lift p) = refl
cost_one cargo call s (Put c p) = refl
cost_one cargo call s (OffCover k) = refl
cost_one cargo call s (OnCover k) = refl

cost_all : (cargo : Cargo) (call : ℕ) (ms : List Move) (s : State) → cost_of_moves cargo call s ms ≡ lifts_weight (lift_cost cargo call) cargo call s ms
cost_all cargo call [] s = refl
cost_all cargo call (m ∷ ms) s = omega (arith, cost_one cargo call s m, cost_all cargo call ms (after cargo call s m))

-- the moves of a call cost what the set does
pub moves_cost : (ship : Ship) (cargo : Cargo) (call : ℕ) (old new : Plan) (lifted moved deck opened due : ℕ → Bool) (facts : Facts ship cargo call old new lifted moved deck opened due) → cost_of_moves cargo call (start ship cargo call old) (moves ship cargo call old new lifted moved deck opened due facts) ≡ counted (lift_cost cargo call) lifted old
moves_cost ship cargo call old new lifted moved deck opened due facts = cost_all cargo call (moves ship cargo call old new lifted moved deck opened due facts) (start ship cargo call old) ∙ moves_weigh (lift_cost cargo call) ship cargo call old new lifted moved deck opened due facts
