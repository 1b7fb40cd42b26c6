-- What was put is, as a bag, what was taken and what the deque holds.
use Rattle.std.specs.Prelude.{cond, nat_lt, ◌≡◌, ℕ, ◌+◌, ◌≤◌, List, [], ◌∷◌, ◌++◌, length}
use mathlib.Core.Option.{some}
use lib.ListN.{get_elem?}
use Rattle.search_core.specs.Bags.{weigh, Every}
use Rattle.certificate.specs.declared.nodes.Node.{Node}
use Rattle.shared_search.specs.declared.rule.Hand.{Hand}

abbrev pub hand : ℕ → List Node → List Node → Hand
hand parts put took = record { parts = parts; put = put; took = took }

abbrev pub total : (Hand → ℕ) → List Hand → ℕ
total f [] = 0
total f (v ∷ vs) = f v + total f vs

-- a view with no part counts for nothing
abbrev pub counted : (Hand → ℕ) → Hand → ℕ
counted f v = cond (nat_lt 0 v.parts) (f v) 0

abbrev pub Balanced : (Node → Type 0) → List Node → List Hand → Type 0
Balanced meets items views =
    (total (λ v. v.parts) views ≡ 1024)
    × ((h : Node → ℕ) → total (counted (λ v. weigh h v.put)) views ≡ total (counted (λ v. weigh h v.took)) views + weigh h items)
    × Every meets items

abbrev pub Took : (Node → Type 0) → Hand → List Node → Hand → Type 0
Took meets v xs w = (w ≡ hand v.parts v.put (v.took ++ xs)) × Every meets xs

-- at a moment when the pass knew v, the deque held at most so many nodes
abbrev pub Found : (Node → Type 0) → ℕ → Hand → Type 0
Found meets most v = (items : List Node) × (views : List Hand) × (port : ℕ) × (length items ≤ most) × Balanced meets items views × (get_elem? views port ≡ some v)

-- the relation holds of the items of both lists, one by one
abbrev pub Each : {A B : Type 0} → (A → B → Type 0) → List A → List B → Type 0
Each P [] [] = Unit {0}
Each P [] (y ∷ ys) = ⊥
Each P (x ∷ xs) [] = ⊥
Each P (x ∷ xs) (y ∷ ys) = P x y × Each P xs ys
