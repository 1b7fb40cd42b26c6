-- Breadth first is by length of path, then true before false.
use Rattle.std.proofs.Common.{◌≡◌, ℕ, zero, suc, ◌⊎◌, inl, inr, Bool, true, false, List, [], ◌∷◌, ◌++◌, length, refl, subst, append_assoc, length-append, arith}
use Rattle.search_core.specs.Bags.{Every}
use Rattle.search_core.specs.Journals.{Path, Tree, Tip, Fork}
use Rattle.search_core.specs.Machine.{Node, root_node}
use Rattle.search_core.specs.Replays.{Waiting, Item, record_of, size, kids, order, ordered, TrueFirst, Before, Rising, IsParent, IsNumbered}
use Rattle.search_core.proofs.Weights.{every_append, every_more}

true_first_more : (a b : Path) (x y : Bool) → TrueFirst a b → TrueFirst (a ++ x ∷ []) (b ++ y ∷ [])
true_first_more [] b x y h = absurd h
true_first_more (z ∷ a) [] x y h = absurd h
true_first_more (true ∷ a) (false ∷ b) x y h = tt
true_first_more (false ∷ a) (true ∷ b) x y h = absurd h
true_first_more (true ∷ a) (true ∷ b) x y h = true_first_more a b x y h
true_first_more (false ∷ a) (false ∷ b) x y h = true_first_more a b x y h

halves_first : (a : Path) → TrueFirst (a ++ true ∷ []) (a ++ false ∷ [])
halves_first [] = tt
halves_first (true ∷ a) = halves_first a
halves_first (false ∷ a) = halves_first a

longer : (a : Path) (y : Bool) → length (a ++ y ∷ []) ≡ suc (length a)
longer a y = omega (arith, length-append a (y ∷ []))

before_more : (a b : Path) (x y : Bool) → Before a b → Before (a ++ x ∷ []) (b ++ y ∷ [])
before_more a b x y (inl lt) = inl (omega (arith, longer a x, longer b y))
before_more a b x y (inr h) = inr (omega (arith, h.0, longer a x, longer b y), true_first_more a b x y h.1)

before_half : (a b : Path) (y : Bool) → Before a b → Before a (b ++ y ∷ [])
before_half a b y (inl lt) = inl (omega (arith, longer b y))
before_half a b y (inr h) = inl (omega (arith, h.0, longer b y))

before_own : (a : Path) (y : Bool) → Before a (a ++ y ∷ [])
before_own a y = inl (omega (arith, longer a y))

-- a waits in front of b, and b in front of the halves of a
abbrev InFront : Path → Path → Type 0
InFront a b = Before a b × ((y : Bool) → Before b (a ++ y ∷ []))

half_in_front : (w a : Path) (z : Bool) → InFront w a → InFront a (w ++ z ∷ [])
half_in_front w a z h = (h.1 z, λ y. before_more w a z y h.0)

module _ {R : Type 0} where
  abbrev Queue : List (Waiting R) → Type 0
  Queue [] = Unit {0}
  Queue (w ∷ ws) = Every (λ v. InFront w.node.path v.node.path) ws × Queue ws

  queue_kids : (n : ℕ) (node : Node R) (t : Tree R) → Queue (kids n node t)
  queue_kids n node (Tip e) = tt
  queue_kids n node (Fork e a b) =
      let one : Path = node.path ++ true ∷ [] in
      let none : Path = node.path ++ false ∷ [] in
      (((inr (omega (arith, longer node.path true, longer node.path false), halves_first node.path), λ y. inl (omega (arith, longer one y, longer node.path true, longer node.path false))), tt), (tt, tt))

  kids_behind : (n : ℕ) (node : Node R) (t : Tree R) (a : Path) → InFront node.path a → Every (λ v. InFront a v.node.path) (kids n node t)
  kids_behind n node (Tip e) a h = tt
  kids_behind n node (Fork e s t) a h = (half_in_front node.path a true h, (half_in_front node.path a false h, tt))

  queue_next : (n : ℕ) (w : Waiting R) (ws : List (Waiting R)) → Every (λ v. InFront w.node.path v.node.path) ws → Queue ws → Queue (ws ++ kids n w.node w.tree)
  queue_next n w [] front q = queue_kids n w.node w.tree
  queue_next n w (v ∷ ws) front q = (every_append (λ u. InFront v.node.path u.node.path) ws (kids n w.node w.tree) q.0 (kids_behind n w.node w.tree v.node.path front.0), queue_next n w ws front.1 q.1)

  kids_every : (P : Path → Type 0) → ((a : Path) (y : Bool) → P a → P (a ++ y ∷ [])) → (n : ℕ) (node : Node R) (t : Tree R) → P node.path → Every (λ w. P w.node.path) (kids n node t)
  kids_every P more n node (Tip e) h = tt
  kids_every P more n node (Fork e a b) h = (more node.path true h, (more node.path false h, tt))

  -- what holds of those that wait, and of the halves of each of which it holds, holds of all items
  order_every : (P : Path → Type 0) → ((a : Path) (y : Bool) → P a → P (a ++ y ∷ [])) → (f n : ℕ) (ws : List (Waiting R)) → Every (λ w. P w.node.path) ws → Every (λ it. P it.node.path) (order f n ws)
  order_every P more zero n ws h = tt
  order_every P more (suc f) n [] h = tt
  order_every P more (suc f) n (w ∷ ws) h = (h.0, order_every P more f (suc n) (ws ++ kids n w.node w.tree) (every_append (λ v. P v.node.path) ws (kids n w.node w.tree) h.1 (kids_every P more n w.node w.tree h.0)))

  kids_own : (n : ℕ) (node : Node R) (t : Tree R) → Every (λ w. Before node.path w.node.path) (kids n node t)
  kids_own n node (Tip e) = tt
  kids_own n node (Fork e a b) = (before_own node.path true, (before_own node.path false, tt))

  order_rising : (f n : ℕ) (ws : List (Waiting R)) → Queue ws → Rising (order f n ws)
  order_rising zero n ws q = tt
  order_rising (suc f) n [] q = tt
  order_rising (suc f) n (w ∷ ws) q =
      let P : Path → Type 0 = Before w.node.path in (
        order_every P (λ a y h. before_half w.node.path a y h) f (suc n) (ws ++ kids n w.node w.tree)
            (every_append (λ v. P v.node.path) ws (kids n w.node w.tree) (every_more (λ v. InFront w.node.path v.node.path) (λ v. P v.node.path) ws (λ v h. h.0) q.0) (kids_own n w.node w.tree)),
        order_rising f (suc n) (ws ++ kids n w.node w.tree) (queue_next n w ws q.0 q.1),
      )

  -- ## Parents

  parent_append : (its more : List (Item R)) (k : ℕ) (path : Path) → IsParent its k path → IsParent (its ++ more) k path
  parent_append [] more k path h = absurd h
  parent_append (it ∷ its) more zero path h = h
  parent_append (it ∷ its) more (suc k) path h = parent_append its more k path h

  last_parent : (its : List (Item R)) (it : Item R) (n : ℕ) (y : Bool) → length its ≡ n → IsParent (its ++ it ∷ []) n (it.node.path ++ y ∷ [])
  last_parent [] it zero y len = (y, refl)
  last_parent [] it (suc n) y len = absurd (omega (arith, len))
  last_parent (jt ∷ its) it zero y len = absurd (omega (arith, len))
  last_parent (jt ∷ its) it (suc n) y len = last_parent its it n y (omega (arith, len))

  kids_have : (its : List (Item R)) (it : Item R) (n : ℕ) (t : Tree R) → length its ≡ n → Every (λ w. IsParent (its ++ it ∷ []) w.parent w.node.path) (kids n it.node t)
  kids_have its it n (Tip e) len = tt
  kids_have its it n (Fork e a b) len = (last_parent its it n true len, (last_parent its it n false len, tt))

  order_parents : (f n : ℕ) (done : List (Item R)) (ws : List (Waiting R)) → length done ≡ n → Every (λ w. IsParent done w.parent w.node.path) ws → Every (λ it. IsParent (done ++ order f n ws) it.parent it.node.path) (order f n ws)
  order_parents zero n done ws len h = tt
  order_parents (suc f) n done [] len h = tt
  order_parents (suc f) n done (w ∷ ws) len h =
      let it : Item R = record { parent = w.parent; node = w.node; entry = record_of w.tree } in
      let more : List (Item R) = order f (suc n) (ws ++ kids n w.node w.tree) in
      let waiting : Every (λ v. IsParent (done ++ it ∷ []) v.parent v.node.path) (ws ++ kids n w.node w.tree) = every_append (λ v. IsParent (done ++ it ∷ []) v.parent v.node.path) ws (kids n w.node w.tree)
      (every_more (λ v. IsParent done v.parent v.node.path) (λ v. IsParent (done ++ it ∷ []) v.parent v.node.path) ws (λ v k. parent_append done (it ∷ []) v.parent v.node.path k) h.1) (kids_have done it n w.tree len) in (
        parent_append done (it ∷ more) w.parent w.node.path h.0,
        subst (λ (l : List (Item R)). Every (λ j. IsParent l j.parent j.node.path) more) (append_assoc done (it ∷ []) more)
            (order_parents f (suc n) (done ++ it ∷ []) (ws ++ kids n w.node w.tree) (omega (arith, len, length-append done (it ∷ []))) waiting),
      )

  root_parents : (f : ℕ) (t : Tree R) → Every (λ it. (it.node.path ≡ []) ⊎ IsParent (order f 0 (record { parent = 0; node = root_node; tree = t } ∷ [])) it.parent it.node.path) (order f 0 (record { parent = 0; node = root_node; tree = t } ∷ []))
  root_parents zero t = tt
  root_parents (suc f) t =
      let it : Item R = record { parent = 0; node = root_node; entry = record_of t } in
      let more : List (Item R) = order f 1 (kids 0 root_node t) in
      (inl refl, every_more (λ j. IsParent (it ∷ more) j.parent j.node.path) (λ j. (j.node.path ≡ []) ⊎ IsParent (it ∷ more) j.parent j.node.path) more (λ j k. inr k) (order_parents f 1 (it ∷ []) (kids 0 root_node t) refl (kids_have [] it 0 t refl)))

  pub ordered_numbered : (t : Tree R) → IsNumbered (ordered t)
  ordered_numbered t = record { rising = order_rising (size t) 0 (record { parent = 0; node = root_node; tree = t } ∷ []) (tt, tt); parents = root_parents (size t) t }
