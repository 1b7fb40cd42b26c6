-- What is still to do, as each node is handled or left.
use Rattle.std.proofs.Common.{◌≡◌, ℕ, ◌+◌, ◌<◌, true, List, [], ◌∷◌, ◌++◌, length, Option, Some, None, refl, sym, subst, ap, arith}
use Rattle.std.specs.Prelude.{is_some, IfSome}
use Rattle.zero_one_rows.specs.Variables.{Voyage}
use Rattle.certificate.specs.declared.nodes.Node.{Node}
use Rattle.search_core.specs.Bags.{weigh, Every}
use Rattle.search_core.proofs.Weights.{weigh_append, every_append, every_left, every_right}
use Rattle.shared_search.specs.declared.view.View.{View}
use Rattle.shared_search.specs.Rule.{with_ticket, one_over}
use Rattle.node_solver.specs.Work.{node_of, IsNode}
use Rattle.steal_pool.specs.declared.deeds.Deeds.{Deeds}
use Rattle.steal_pool.specs.declared.deeds.Halves.{Halves}
use Rattle.steal_pool.specs.Deeds.{halves_weight, EachHalf, Flow, on_nodes, no_deeds, IsDone}
use Rattle.parallel_search.specs.Starts.{IsUnused}
use Rattle.parallel_search.specs.Ends.{halves_in, IsRest}
use Rattle.steal_pool.proofs.Handled.{rebalanced, ticket_drawn, node_left, node_left_too, nothing_done}

weigh_halves : (h : Node → ℕ) (o : Option Halves) → weigh h (halves_in o) ≡ halves_weight h o
weigh_halves h None = refl
weigh_halves h (Some b) = omega arith

every_halves : (P : Node → Type 0) (o : Option Halves) → EachHalf P o → Every P (halves_in o)
every_halves P None h = tt
every_halves P (Some b) h = (h.0, (h.1, tt))

pub no_items : {A : Type 0} (xs : List A) → length xs ≡ 0 → xs ≡ []
no_items [] e = refl
no_items (x ∷ xs) e = absurd (omega (arith, e))

-- a ticket that was drawn
pub some_drawn : (o : Option ℕ) (v u : View) (Q : ℕ → Type 0) → is_some o ≡ true → IfSome o (λ t. Q t × (u ≡ with_ticket v t)) → (t : ℕ) × (u ≡ with_ticket v t)
some_drawn (Some t) v u Q is h = (t, h.1)
some_drawn None v u Q is h = absurd (cc)

-- nothing is done of nothing
pub none_done : (m : Voyage) (start : ℕ) (v : View) (d : Deeds) (todo : List Node) → IsUnused start v → d ≡ no_deeds → todo ≡ [] → IsDone m start v 0 d (λ h. weigh (on_nodes m h) todo) (λ h. 0)
none_done m start v d todo w none empty = subst (λ (x : Deeds). IsDone m start v 0 x (λ h. weigh (on_nodes m h) todo) (λ h. 0)) (sym none)
    (nothing_done m start v (λ h. weigh (on_nodes m h) todo) (λ h. 0) w.begun w.offered w.tickets (λ h. omega (arith, ap (weigh (on_nodes m h)) empty)))

-- all is still to do
pub rest_starts : (m : Voyage) (start : ℕ) (v : View) (d : Deeds) (todo : List Node) → IsUnused start v → d ≡ no_deeds → Every (IsNode m) todo → IsRest m start v 0 (λ h. weigh (on_nodes m h) todo) todo d
rest_starts m start v d todo w none nodes = record {
  nodes = nodes;
  done = subst (λ (x : Deeds). IsDone m start v 0 x (λ h. weigh (on_nodes m h) todo) (λ h. weigh (on_nodes m h) todo)) (sym none)
      (nothing_done m start v (λ h. weigh (on_nodes m h) todo) (λ h. weigh (on_nodes m h) todo) w.begun w.offered w.tickets (λ h. refl));
}

-- the same at another name of the solver and of the list
pub rest_at : (m n : Voyage) (start : ℕ) (v : View) (all : Flow) (xs ys : List Node) (d : Deeds) → n ≡ m → xs ≡ ys → IsRest m start v 0 all xs d → IsRest n start v 0 all ys d
rest_at m n start v all xs ys d same is r = subst (λ (x : Voyage). IsRest x start v 0 all ys d) (sym same) (subst (λ (l : List Node). IsRest m start v 0 all l d) is r)

-- one step of a loop whose solver is the program's
pub rest_next : (m n : Voyage) (start : ℕ) (v u : View) (all : Flow) (xs ys zs : List Node) (d e : Deeds) → n ≡ m → xs ≡ ys → (IsRest n start v 0 all ys d → IsRest n start u 0 all zs e) → IsRest m start v 0 all xs d → IsRest m start u 0 all zs e
rest_next m n start v u all xs ys zs d e same is goes r =
    subst (λ (x : Voyage). IsRest x start u 0 all zs e) same (goes (rest_at m n start v all xs ys d same is r))

-- where all is done, nothing is left to do
pub rest_ends : (m : Voyage) (start : ℕ) (v : View) (all : Flow) (todo : List Node) (d : Deeds) → todo ≡ [] → IsRest m start v 0 all todo d → IsDone m start v 0 d all (λ h. 0)
rest_ends m start v all todo d empty r = rebalanced m start v 0 d all (λ h. weigh (on_nodes m h) todo) all (λ h. 0) (λ h. omega (arith, ap (weigh (on_nodes m h)) empty)) r.done

module _ (m : Voyage) (start : ℕ) (v : View) (all : Flow) (d : Deeds) where
  pub rest_begins : (todo : List Node) → Every (IsNode m) todo → IsDone m start v 0 d all (λ h. weigh (on_nodes m h) todo) → IsRest m start v 0 all todo d
  rest_begins todo nodes done = record { nodes = nodes; done = done }

  pub rest_drawn : (todo : List Node) (ticket : ℕ) → IsRest m start v 0 all todo d → IsRest m start (with_ticket v ticket) 1 all todo d
  rest_drawn todo ticket r = record { nodes = r.nodes; done = ticket_drawn m start v ticket d all (λ h. weigh (on_nodes m h) todo) r.done }

  module _ (todo : List Node) (n : Node) where
    -- the last node is the one in hand
    in_hand : (pending : ℕ) → IsRest m start v pending all (todo ++ n ∷ []) d → IsDone m start v pending d all (λ h. weigh (on_nodes m h) todo + h (node_of m n))
    in_hand pending r = rebalanced m start v pending d all (λ h. weigh (on_nodes m h) (todo ++ n ∷ [])) all (λ h. weigh (on_nodes m h) todo + h (node_of m n)) (λ h. omega (arith, weigh_append (on_nodes m h) todo (n ∷ []))) r.done

    pub rest_left : IsRest m start v 0 all (todo ++ n ∷ []) d → IsRest m start (one_over v) 0 all todo (record d { left = d.left ++ n.path ∷ [] })
    rest_left r = record { nodes = every_left (IsNode m) todo (n ∷ []) r.nodes; done = node_left m start v n d all (λ h. weigh (on_nodes m h) todo) (in_hand 0 r) }

    pub rest_left_too : 0 < v.over → IsRest m start v 0 all (todo ++ n ∷ []) d → IsRest m start v 0 all todo (record d { left = d.left ++ n.path ∷ [] })
    rest_left_too over r = record { nodes = every_left (IsNode m) todo (n ∷ []) r.nodes; done = node_left_too m start v n d all (λ h. weigh (on_nodes m h) todo) over (in_hand 0 r) }

    pub rest_node : (pending : ℕ) → IsRest m start v pending all (todo ++ n ∷ []) d → IsNode m n
    rest_node pending r = (every_right (IsNode m) todo (n ∷ []) r.nodes).0

    pub rest_settled : (u : View) (e : Deeds) (halves : Option Halves) (next : List Node) → next ≡ todo ++ halves_in halves → EachHalf (IsNode m) halves
        → ((s : ℕ) (came gone : Flow) → IsDone m s v 1 d came (λ h. gone h + h (node_of m n)) → IsDone m s u 0 e came (λ h. gone h + halves_weight (on_nodes m h) halves))
        → IsRest m start v 1 all (todo ++ n ∷ []) d → IsRest m start u 0 all next e
    rest_settled u e halves next is each goes r = record {
      nodes = subst (Every (IsNode m)) (sym is) (every_append (IsNode m) todo (halves_in halves) (every_left (IsNode m) todo (n ∷ []) r.nodes) (every_halves (IsNode m) halves each));
      done = rebalanced m start u 0 e all (λ h. weigh (on_nodes m h) todo + halves_weight (on_nodes m h) halves) all (λ h. weigh (on_nodes m h) next)
          (λ h. omega (arith, ap (weigh (on_nodes m h)) is, weigh_append (on_nodes m h) todo (halves_in halves), weigh_halves (on_nodes m h) halves))
          (goes start all (λ h. weigh (on_nodes m h) todo) (in_hand 1 r));
    }
