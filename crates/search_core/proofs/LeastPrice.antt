-- The value in the end is the least of the start and the full leaves' prices.
use Rattle.std.proofs.Common.{◌≡◌, ℕ, ◌+◌, ◌<◌, ◌≤◌, ◌⊎◌, inl, inr, Bool, true, false, cond, nat_le, List, [], ◌∷◌, Option, Some, None, pos, ◌≤ℤ◌, refl, sym, subst, ap, arith}
use borrow.Author.Differences.{ints}
use Rattle.std.proofs.lemmas.Bool.Decides.{nat_tests}
use Rattle.proof_trees.specs.Program.{Program, cost_of}
use Rattle.proof_trees.specs.Boxes.{Box, at, Allows}
use Rattle.proof_trees.specs.Multipliers.{Multipliers}
use Rattle.proof_trees.specs.Trees.{End, Leaf, Left, Branch, Entry, Pending, root}
use Rattle.proof_trees.proofs.Duality.{closed_box}
use Rattle.search_core.specs.Bags.{weigh, Every, In}
use Rattle.search_core.specs.Journals.{Placed, trail, box_after, multipliers_after, after, Anything, EndAllowed}
use Rattle.search_core.specs.Machine.{placed, begins, bit_of, bits, price, is_full, lesser}
use Rattle.search_core.specs.Replays.{Item, offer_of, offered, box_in, IsFullLeaf}
use Rattle.search_core.proofs.Rule.{OffersSolve, lesser_left, lesser_right}
use Rattle.search_core.proofs.Trails.{begins_sound, named_after}
use Rattle.search_core.proofs.TakingEvents.{ItemOk}

lesser_least : (a b u : ℕ) → u ≤ a → u ≤ b → u ≤ lesser a b
lesser_least a b u h k = grind (arith, nat_tests)

offer_low : (full : Bool) (word cost u : ℕ) (end : End) → u ≤ word → (end ≡ Leaf → full ≡ true → u ≤ cost) → u ≤ offer_of full word cost end
offer_low true word cost u Leaf h k = lesser_least word cost u h (k refl refl)
offer_low false word cost u Leaf h k = h
offer_low full word cost u Left h k = h
offer_low full word cost u (Branch v) h k = h

offer_falls : (full : Bool) (word cost : ℕ) (end : End) → offer_of full word cost end ≤ word
offer_falls true word cost Leaf = lesser_left word cost
offer_falls false word cost Leaf = omega arith
offer_falls full word cost Left = omega arith
offer_falls full word cost (Branch v) = omega arith

-- one where a full leaf's price is at most u
abbrev bid : Bool → Bool → End → ℕ
bid full le Leaf = cond full (cond le 1 0) 0
bid full le Left = 0
bid full le (Branch v) = 0

le_true : (a b : ℕ) → nat_le a b ≡ true → a ≤ b
le_true a b e = grind (arith, nat_tests)

true_le : (a b : ℕ) → a ≡ b → nat_le a b ≡ true
true_le a b e = grind (arith, nat_tests)

bid_le : (full le : Bool) (word cost u rest : ℕ) (end : End) → nat_le cost u ≡ le → 0 < bid full le end + rest → (offer_of full word cost end ≤ u) ⊎ (0 < rest)
bid_le true true word cost u rest Leaf is h = let at : cost ≤ u = le_true cost u is in inl (omega (arith, lesser_right word cost))
bid_le true false word cost u rest Leaf is h = inr (omega arith)
bid_le false le word cost u rest Leaf is h = inr (omega arith)
bid_le full le word cost u rest Left is h = inr (omega arith)
bid_le full le word cost u rest (Branch v) is h = inr (omega arith)

in_weighs : {A : Type 0} (h : A → ℕ) (a : A) (xs : List A) → In a xs → h a ≤ weigh h xs
in_weighs h a [] i = absurd i
in_weighs {A} h a (x ∷ xs) (inl is) = subst (λ (b : A). h b ≤ h x + weigh h xs) (sym is) (omega arith)
in_weighs h a (x ∷ xs) (inr i) = omega (arith, in_weighs h a xs i)

allows_bit : (o : Option Bool) → Allows o (bit_of o)
allows_bit None = tt
allows_bit (Some y) = refl

module _ {R : Type 0} (same : R → R → Bool) (p : Program R) (base : List R) (bound : ℕ) where
  -- ## A full box that closes costs at least the bound

  full_costs : OffersSolve same p base → (it : Item R) (o : Option (Multipliers R)) → multipliers_after same p (begins same p it.node) it.entry ≡ o → ItemOk same p base bound it → it.entry.end ≡ Leaf
      → is_full p base (box_after same p (begins same p it.node) it.entry) ≡ true → EndAllowed same p Anything bound (box_after same p (begins same p it.node) it.entry) o Leaf
      → bound ≤ price p (box_after same p (begins same p it.node) it.entry)
  full_costs solves it None is ok leaf full h = absurd h
  full_costs solves it (Some ms) is ok leaf full h =
      let b : Box = box_after same p (begins same p it.node) it.entry in
      let s = solves b full in
      let least : pos bound ≤ℤ cost_of p (bits p b) = closed_box p (bits p b) s.0 b ms bound (named_after same p base (begins same p it.node) it.entry ms (begins_sound same p base it.node ok.0) ok.1.0 is) (λ v lt. allows_bit (at b v)) h in
      omega (arith, ints, s.1)

  offered_low : OffersSolve same p base → (word : ℕ) (its : List (Item R)) → bound ≤ word → Every (ItemOk same p base bound) its → bound ≤ offered same p base word its
  offered_low solves word [] le ok = le
  offered_low solves word (it ∷ its) le ok =
      let q : Pending R = begins same p it.node in
      let b : Box = box_after same p q it.entry in
      offered_low solves (offer_of (is_full p base b) word (price p b) it.entry.end) its
      (offer_low (is_full p base b) word (price p b) bound it.entry.end le (λ leaf full. full_costs solves it (multipliers_after same p q it.entry) refl ok.0 leaf full (subst (EndAllowed same p Anything bound b (multipliers_after same p q it.entry)) leaf ok.0.1.1))) ok.1

  offered_falls : (word : ℕ) (its : List (Item R)) → offered same p base word its ≤ word
  offered_falls word [] = omega arith
  offered_falls word (it ∷ its) =
      let b : Box = box_after same p (begins same p it.node) it.entry in
      omega (arith, offered_falls (offer_of (is_full p base b) word (price p b) it.entry.end) its, offer_falls (is_full p base b) word (price p b) it.entry.end)

  -- ## One that offers at most u

  abbrev pub bids : List (Placed R) → ℕ → Placed R → ℕ
  bids nodes u n = bid (is_full p base (box_in same p nodes n)) (nat_le (price p (box_in same p nodes n)) u) n.entry.end

  same_bid : (nodes : List (Placed R)) (u : ℕ) (it : Item R) → it.node.trail ≡ trail nodes it.node.path
      → bids nodes u (placed it.node it.entry) ≡ bid (is_full p base (box_after same p (begins same p it.node) it.entry)) (nat_le (price p (box_after same p (begins same p it.node) it.entry)) u) it.entry.end
  same_bid nodes u it is =
      ap (λ (l : List (Entry R)). bid (is_full p base (box_after same p (after same p (root p) it.node.path l) it.entry)) (nat_le (price p (box_after same p (after same p (root p) it.node.path l) it.entry)) u) it.entry.end) (sym is)

  offered_high : (nodes : List (Placed R)) (u word : ℕ) (its : List (Item R)) → Every (λ it. it.node.trail ≡ trail nodes it.node.path) its
      → 0 < weigh (λ it. bids nodes u (placed it.node it.entry)) its → offered same p base word its ≤ u
  offered_high nodes u word [] on some = absurd (omega arith)
  offered_high nodes u word (it ∷ its) on some =
      let b : Box = box_after same p (begins same p it.node) it.entry in
      let next : ℕ = offer_of (is_full p base b) word (price p b) it.entry.end in
      elim (bid_le (is_full p base b) (nat_le (price p b) u) word (price p b) u (weigh (λ i. bids nodes u (placed i.node i.entry)) its) it.entry.end refl (omega (arith, some, same_bid nodes u it on.0))) [
        | inl le ↦ omega (arith, le, offered_falls next its)
        | inr rest ↦ offered_high nodes u next its on.1 rest
      ]

  full_bid : (full : Bool) (cost u : ℕ) (end : End) → end ≡ Leaf → full ≡ true → cost ≡ u → bid full (nat_le cost u) end ≡ 1
  full_bid full cost u end is f e = rw (is, f, true_le cost u e) refl

  pub offered_is : OffersSolve same p base → (nodes entries : List (Placed R)) (start : ℕ) (its : List (Item R)) → Every (ItemOk same p base bound) its → Every (λ it. it.node.trail ≡ trail nodes it.node.path) its
      → ((h : Placed R → ℕ) → weigh h entries ≤ weigh (λ it. h (placed it.node it.entry)) its) → bound ≤ start
      → (bound ≡ start) ⊎ ((n : Placed R) × In n entries × IsFullLeaf same p base nodes n × (price p (box_in same p nodes n) ≡ bound)) → offered same p base start its ≡ bound
  offered_is solves nodes entries start its ok on weight most (inl first) = omega (arith, first, offered_low solves start its most ok, offered_falls start its)
  offered_is solves nodes entries start its ok on weight most (inr (n, here, leaf, cost)) =
      let one : bids nodes bound n ≡ 1 = full_bid (is_full p base (box_in same p nodes n)) (price p (box_in same p nodes n)) bound n.entry.end leaf.0 leaf.1 cost in
      let high : offered same p base start its ≤ bound = offered_high nodes bound start its on (omega (arith, one, in_weighs (bids nodes bound) n entries here, weight (bids nodes bound))) in
      omega (arith, high, offered_low solves start its most ok)
