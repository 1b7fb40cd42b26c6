-- Each step of a pass keeps the rule of the deque.
use Rattle.std.proofs.Common.{◌≡◌, ℕ, zero, suc, ◌+◌, ◌-◌, ◌<◌, ◌≤◌, List, [], ◌∷◌, ◌++◌, length, set, refl, ap, sym, arith}
use Rattle.std.proofs.lemmas.Bool.Decides.{nat_tests}
use mathlib.Core.Option.{some, some-ne-none}
use lib.ListN.{get_elem?}
use Rattle.crossbeam_deque.specs.Tasks.{Pushes, Takes, Pops, Forks, Merges, Learns}
use Rattle.std.proofs.Common.{Option, Some, None, IfSome, IfNone}
use Rattle.certificate.specs.declared.nodes.Node.{Node}
use Rattle.shared_search.specs.declared.rule.Hand.{Hand}
use Rattle.search_core.specs.Bags.{weigh}
use Rattle.search_core.proofs.Weights.{weigh_append, every_append, every_left, every_right}
use Rattle.shared_search.specs.Bags.{hand, total, counted, Balanced, Took, Found}

empty_weighs : (h : Node → ℕ) (xs : List Node) → length xs ≤ 0 → weigh h xs ≡ 0
empty_weighs h [] e = refl
empty_weighs h (x ∷ xs) e = absurd (omega arith)

pub counts : (xs : List Node) → weigh (λ _. 1) xs ≡ length xs
counts [] = refl
counts (x ∷ xs) = omega (arith, counts xs)

-- two looks of a pass with every part, with as many nodes taken between them as the first look found
pub took_all : (put took took' rest items items' : List Node) → ((h : Node → ℕ) → weigh h put ≡ weigh h took + weigh h items) → length items ≡ length rest
    → ((h : Node → ℕ) → weigh h took' ≡ weigh h took + weigh h rest) → ((h : Node → ℕ) → weigh h put ≡ weigh h took' + weigh h items') → (h : Node → ℕ) → weigh h put ≡ weigh h took + weigh h rest
took_all put took took' rest items items' before len more after h =
    let none : weigh h items' ≡ 0 = empty_weighs h items' (omega (arith, before (λ _. 1), after (λ _. 1), more (λ _. 1), counts items, counts rest, counts items')) in
    omega (arith, more h, after h)

total_set : (f : Hand → ℕ) (views : List Hand) (port : ℕ) (v w : Hand) → get_elem? views port ≡ some v → total f (set views port w) + f v ≡ total f views + f w
total_set f [] port v w e = absurd (some-ne-none v (sym e))
total_set f (x ∷ l) zero v w e = let same : x ≡ v = cc in rw same (omega arith)
total_set f (x ∷ l) (suc i) v w e = omega (arith, total_set f l i v w e)

total_snoc : (f : Hand → ℕ) (views : List Hand) (w : Hand) → total f (views ++ w ∷ []) ≡ total f views + f w
total_snoc f [] w = omega arith
total_snoc f (x ∷ l) w = omega (arith, total_snoc f l w)

counts_all : (f : Hand → ℕ) (v : Hand) → 0 < v.parts → counted f v ≡ f v
counts_all f v some_part = grind (arith, nat_tests)

counts_none : (f : Hand → ℕ) (v : Hand) → v.parts ≡ 0 → counted f v ≡ 0
counts_none f v none = grind (arith, nat_tests)

-- the counted total after a step of a pass that has a part before and after
counted_set : (f : Hand → ℕ) (views : List Hand) (port : ℕ) (v w : Hand) → get_elem? views port ≡ some v → 0 < v.parts → 0 < w.parts → total (counted f) (set views port w) + f v ≡ total (counted f) views + f w
counted_set f views port v w e p q = omega (arith, total_set (counted f) views port v w e, counts_all f v p, counts_all f w q)

part_of : (views : List Hand) (port : ℕ) (v : Hand) → get_elem? views port ≡ some v → v.parts ≤ total (λ u. u.parts) views
part_of [] port v e = absurd (some-ne-none v (sym e))
part_of (x ∷ l) zero v e = let same : x ≡ v = cc in let p : x.parts ≡ v.parts = ap (λ (y : Hand). y.parts) same in omega arith
part_of (x ∷ l) (suc i) v e = omega (arith, part_of l i v e)

none_left : (f : Hand → ℕ) (views : List Hand) → total (λ u. u.parts) views ≡ 0 → ((j : ℕ) (u : Hand) → get_elem? views j ≡ some u → u.parts ≡ 0 → f u ≡ 0) → total f views ≡ 0
none_left f [] s z = refl
none_left f (x ∷ l) s z = omega (arith, z 0 x refl (omega arith), none_left f l (omega arith) (λ j u e. z (suc j) u e))

module _ (meets : Node → Type 0) where
  pub begins : Balanced meets [] (hand 1024 [] [] ∷ [])
  begins = (omega arith, (λ h. omega arith), tt)

  pub puts : (port : ℕ) (v : Hand) (x : Node) → 0 < v.parts → meets x → Pushes (Balanced meets) port v (x ∷ []) (λ w. w ≡ hand v.parts (v.put ++ x ∷ []) v.took)
  puts port v x some_part good items views b at =
      let w : Hand = hand v.parts (v.put ++ x ∷ []) v.took in (
        w,
        (
          (let s = total_set (λ u. u.parts) views port v w at in omega (arith, b.0)),
          (λ h. omega (arith, counted_set (λ u. weigh h u.put) views port v w at some_part some_part, counted_set (λ u. weigh h u.took) views port v w at some_part some_part, b.1 h, weigh_append h v.put (x ∷ []), weigh_append h items (x ∷ []))),
          every_append meets items (x ∷ []) b.2 (good, tt),
        ),
        refl,
      )

  pub takes : (port : ℕ) (v : Hand) → 0 < v.parts → Takes (Balanced meets) port v 1 (Took meets v)
  takes port v some_part xs items views _ _ b at =
      let w : Hand = hand v.parts v.put (v.took ++ xs) in (
        w,
        (
          (let s = total_set (λ u. u.parts) views port v w at in omega (arith, b.0)),
          (λ h. omega (arith, counted_set (λ u. weigh h u.put) views port v w at some_part some_part, counted_set (λ u. weigh h u.took) views port v w at some_part some_part, b.1 h, weigh_append h v.took xs, weigh_append h xs items)),
          every_right meets xs items b.2,
        ),
        (refl, every_left meets xs items b.2),
      )

  pub pops : (port : ℕ) (v : Hand) → 0 < v.parts → Pops (Balanced meets) port v (Took meets v)
  pops port v some_part x items views b at =
      let w : Hand = hand v.parts v.put (v.took ++ x ∷ []) in (
        w,
        (
          (let s = total_set (λ u. u.parts) views port v w at in omega (arith, b.0)),
          (λ h. omega (arith, counted_set (λ u. weigh h u.put) views port v w at some_part some_part, counted_set (λ u. weigh h u.took) views port v w at some_part some_part, b.1 h, weigh_append h v.took (x ∷ []), weigh_append h items (x ∷ []))),
          every_left meets items (x ∷ []) b.2,
        ),
        (refl, every_right meets items (x ∷ []) b.2),
      )

  pub forks : (port : ℕ) (v : Hand) → 1 < v.parts → Forks (Balanced meets) port v (hand (v.parts - 1) v.put v.took) (hand 1 [] [])
  forks port v many items views b at =
      let l : Hand = hand (v.parts - 1) v.put v.took in
      let r : Hand = hand 1 [] [] in
      let vs : List Hand = set views port l in (
        (let s = total_set (λ u. u.parts) views port v l at in omega (arith, total_snoc (λ u. u.parts) vs r, b.0)),
        (λ h. omega (arith, counted_set (λ u. weigh h u.put) views port v l at (omega arith) (omega arith), counted_set (λ u. weigh h u.took) views port v l at (omega arith) (omega arith), total_snoc (counted (λ u. weigh h u.put)) vs r, total_snoc (counted (λ u. weigh h u.took)) vs r, b.1 h)),
        b.2,
      )

  -- a copy of what the pass knows, which counts for nothing
  pub notes : (port : ℕ) (v : Hand) → Forks (Balanced meets) port v v (hand 0 v.put v.took)
  notes port v items views b at =
      let r : Hand = hand 0 v.put v.took in
      let vs : List Hand = set views port v in (
        (let s = total_set (λ u. u.parts) views port v v at in omega (arith, total_snoc (λ u. u.parts) vs r, b.0)),
        (λ h. omega (arith, total_set (counted (λ u. weigh h u.put)) views port v v at, total_set (counted (λ u. weigh h u.took)) views port v v at, total_snoc (counted (λ u. weigh h u.put)) vs r, total_snoc (counted (λ u. weigh h u.took)) vs r, b.1 h)),
        b.2,
      )

  pub merges : (port : ℕ) (v : Hand) (other : ℕ) (u : Hand) → 0 < v.parts → 0 < u.parts → Merges (Balanced meets) port v other u (hand (v.parts + u.parts) (v.put ++ u.put) (v.took ++ u.took)) (hand 0 [] [])
  merges port v other u some_part some_more items views b at two at' =
      let both : Hand = hand (v.parts + u.parts) (v.put ++ u.put) (v.took ++ u.took) in
      let none : Hand = hand 0 [] [] in
      let vs : List Hand = set views port both in (
        (let s = total_set (λ y. y.parts) views port v both at in omega (arith, total_set (λ y. y.parts) vs other u none at', b.0)),
        (λ h. omega (
          arith,
          counted_set (λ y. weigh h y.put) views port v both at some_part (omega arith),
          counted_set (λ y. weigh h y.took) views port v both at some_part (omega arith),
          total_set (counted (λ y. weigh h y.put)) vs other u none at',
          total_set (counted (λ y. weigh h y.took)) vs other u none at',
          counts_all (λ y. weigh h y.put) u some_more,
          counts_all (λ y. weigh h y.took) u some_more,
          b.1 h,
          weigh_append h v.put u.put,
          weigh_append h v.took u.took,
        )),
        b.2,
      )

  -- the pass with every part knows the whole
  parts_only : (f : Hand → ℕ) (views : List Hand) (port : ℕ) (v : Hand) → get_elem? views port ≡ some v → total (λ u. u.parts) views ≡ v.parts
      → ((j : ℕ) (u : Hand) → get_elem? views j ≡ some u → u.parts ≡ 0 → f u ≡ 0) → total f views ≡ f v
  parts_only f [] port v e s z = absurd (some-ne-none v (sym e))
  parts_only f (x ∷ l) zero v e s z = let same : x ≡ v = cc in
      let rest : total f l ≡ 0 = none_left f l (let p : x.parts ≡ v.parts = ap (λ (y : Hand). y.parts) same in omega arith) (λ j u e'. z (suc j) u e') in
      rw same (omega arith)
  parts_only f (x ∷ l) (suc i) v e s z =
      let low = part_of l i v e in
      let first : f x ≡ 0 = z 0 x refl (omega arith) in
      omega (arith, parts_only f l i v e (omega arith) (λ j u e'. z (suc j) u e'))

  pub learns : (port : ℕ) (v : Hand) → v.parts ≡ 1024 → Learns (Balanced meets) port v (λ items. (h : Node → ℕ) → weigh h v.put ≡ weigh h v.took + weigh h items)
  learns port v all items views b at h =
      let put = parts_only (counted (λ u. weigh h u.put)) views port v at (omega (arith, b.0)) (λ j u e none. counts_none (λ u. weigh h u.put) u none) in
      let took = parts_only (counted (λ u. weigh h u.took)) views port v at (omega (arith, b.0)) (λ j u e none. counts_none (λ u. weigh h u.took) u none) in
      omega (arith, b.1 h, counts_all (λ u. weigh h u.put) v (omega arith), counts_all (λ u. weigh h u.took) v (omega arith))

  -- a deque that its whole pass found empty: what was taken is what was put
  pub found_all : (v : Hand) → v.parts ≡ 1024 → Found meets 0 v → (put took rest : List Node) → v.put ≡ put → ((h : Node → ℕ) → weigh h v.took ≡ weigh h took + weigh h rest) → (h : Node → ℕ) → weigh h put ≡ weigh h took + weigh h rest
  found_all v all f put took rest same more h =
      let l = learns f.2 v all f.0 f.1 f.4 f.5 h in
      let e : weigh h f.0 ≡ 0 = empty_weighs h f.0 f.3 in
      omega (arith, ap (weigh h) same, more h)

pub took_more : (v v' : Hand) (x : Node) (start rest rest' : List Node) → v' ≡ hand v.parts v.put (v.took ++ x ∷ []) → rest' ≡ rest ++ x ∷ [] → ((h : Node → ℕ) → weigh h v.took ≡ weigh h start + weigh h rest) → (h : Node → ℕ) → weigh h v'.took ≡ weigh h start + weigh h rest'
took_more v v' x start rest rest' e k more h = omega (arith, more h, ap (λ (w : Hand). weigh h w.took) e, ap (weigh h) k, weigh_append h v.took (x ∷ []), weigh_append h rest (x ∷ []))

-- a take that answers x weighs h x more
pub took_by : (meets : Node → Type 0) (r : Option Node) (v v' : Hand) (more : (Node → ℕ) → ℕ) → IfSome r (λ x. (v' ≡ hand v.parts v.put (v.took ++ x ∷ [])) × meets x)
    → IfSome r (λ x. meets x × ((h : Node → ℕ) → weigh h v'.took + more h ≡ weigh h v.took + more h + h x))
took_by meets None v v' more h = h
took_by meets (Some x) v v' more h = (h.1, λ f. omega (arith, ap (λ (w : Hand). weigh f w.took) h.0, weigh_append f v.took (x ∷ [])))

-- a take that answers none weighs no more
pub took_none : (F : Type 0) (r : Option Node) (v v' : Hand) (more : (Node → ℕ) → ℕ) → IfNone r ((v' ≡ v) × F)
    → IfNone r (((h : Node → ℕ) → weigh h v'.took + more h ≡ weigh h v.took + more h) × F)
took_none F None v v' more h = ((λ f. omega (arith, ap (λ (w : Hand). weigh f w.took) h.0)), h.1)
took_none F (Some x) v v' more h = h
