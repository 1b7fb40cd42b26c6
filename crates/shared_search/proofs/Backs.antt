-- Deques as their tokens come back.
use Rattle.std.proofs.Common.{◌≡◌, ◌+◌, ℕ, List, [], ◌∷◌, ◌++◌, length, Option, Some, None, option_to_list, ap, sym, subst, refl, arith}
use Rattle.certificate.specs.declared.nodes.Node.{Node}
use Rattle.shared_search.specs.declared.rule.Hand.{Hand}
use Rattle.search_core.specs.Bags.{weigh, Every}
use Rattle.search_core.proofs.Weights.{every_append}
use Rattle.shared_search.specs.Bags.{hand}
use Rattle.shared_search.specs.Rounds.{deques, own_put, own_took}
use Rattle.shared_search.specs.Bags.{Each}
use Rattle.crossbeam_deque.specs.Handles.{worker_deque, worker_view}
use Rattle.crossbeam_deque.specs.declared.handles.Worker.{Worker}
use Rattle.shared_search.specs.Racks.{stolen_weight}
use Rattle.search_core.proofs.Weights.{weigh_append}
use Rattle.crossbeam_deque.specs.Handles.{Pass}

pub given : (h : Node → ℕ) (o t n : Hand) → n ≡ hand (o.parts + t.parts) (o.put ++ t.put) (o.took ++ t.took) → t.put ≡ [] → (weigh h n.put ≡ weigh h o.put) × (weigh h n.took ≡ weigh h o.took + weigh h t.took)
given h o t n e none = (omega (arith, ap (λ (v : Hand). weigh h v.put) e, weigh_append h o.put t.put, ap (weigh h) none), omega (arith, ap (λ (v : Hand). weigh h v.took) e, weigh_append h o.took t.took))

pub fit_next : {X T : Type 0} (F : X → T → Type 0) (d : X) (ds : List X) (r : Option T) (old new : List T) → old ≡ option_to_list r ++ new → (length old ≡ 0 → r ≡ None → ⊥) → (r ≡ None → length old ≡ 0) → Each F (d ∷ ds) old → Each F ds new
fit_next F d ds None old new e never z f = absurd (never (z refl) refl)
fit_next F d ds (Some t) old new e never z f = (subst (Each F (d ∷ ds)) e f).1

pub stolen_next : {A : Type 0} (h : Node → ℕ) (r : Option (Pass Node Hand A)) (old new : List (Pass Node Hand A)) → old ≡ option_to_list r ++ new → stolen_weight h old ≡ stolen_weight h (option_to_list r) + stolen_weight h new
stolen_next h None old new e = omega (arith, ap (stolen_weight h) e)
stolen_next h (Some t) old new e = omega (arith, ap (stolen_weight h) e)

pub not_empty : {X T : Type 0} (F : X → T → Type 0) (d : X) (ds : List X) (old : List T) → Each F (d ∷ ds) old → length old ≡ 0 → ⊥
not_empty F d ds [] f z = f
not_empty F d ds (t ∷ ts) f z = omega (arith, z)

module _ {A P : Type 0} where
  deques_go : (ws : List (Worker Node A Hand P)) (w : Worker Node A Hand P) → deques (ws ++ w ∷ []) ≡ deques ws ++ worker_deque w ∷ []
  deques_go [] w = refl
  deques_go (z ∷ zs) w = ap (λ l. worker_deque z ∷ l) (deques_go zs w)

  pub deques_snoc : (ws : List (Worker Node A Hand P)) (w : Worker Node A Hand P) (us : List (Worker Node A Hand P)) → us ≡ ws ++ w ∷ [] → deques us ≡ deques ws ++ worker_deque w ∷ []
  deques_snoc ws w us e = subst (λ (zs : List (Worker Node A Hand P)). deques zs ≡ deques ws ++ worker_deque w ∷ []) (sym e) (deques_go ws w)

  put_go : (h : Node → ℕ) (ws : List (Worker Node A Hand P)) (w : Worker Node A Hand P) → own_put h (ws ++ w ∷ []) ≡ own_put h ws + weigh h (worker_view {V = Hand} w).put
  put_go h [] w = omega arith
  put_go h (z ∷ zs) w = omega (arith, put_go h zs w)

  took_go : (h : Node → ℕ) (ws : List (Worker Node A Hand P)) (w : Worker Node A Hand P) → own_took h (ws ++ w ∷ []) ≡ own_took h ws + weigh h (worker_view {V = Hand} w).took
  took_go h [] w = omega arith
  took_go h (z ∷ zs) w = omega (arith, took_go h zs w)

  pub puts_snoc : (h : Node → ℕ) (ws : List (Worker Node A Hand P)) (w : Worker Node A Hand P) (us : List (Worker Node A Hand P)) → us ≡ ws ++ w ∷ [] → (own_put h us ≡ own_put h ws + weigh h (worker_view {V = Hand} w).put) × (own_took h us ≡ own_took h ws + weigh h (worker_view {V = Hand} w).took)
  puts_snoc h ws w us e = (omega (arith, ap (own_put h) e, put_go h ws w), omega (arith, ap (own_took h) e, took_go h ws w))

pub every_snoc : {A : Type 0} (P : A → Type 0) (xs : List A) (x : A) (ys : List A) → ys ≡ xs ++ x ∷ [] → Every P xs → P x → Every P ys
every_snoc P xs x ys e h k = subst (Every P) (sym e) (every_append P xs (x ∷ []) h (k, tt))

pub snoc_shift : {A : Type 0} (xs : List A) (x : A) (ys : List A) → (xs ++ x ∷ []) ++ ys ≡ xs ++ x ∷ ys
snoc_shift [] x ys = refl
snoc_shift {A} (z ∷ zs) x ys = ap (λ (l : List A). z ∷ l) (snoc_shift zs x ys)
