-- Whole journals are one tree.
use Rattle.std.proofs.Common.{◌≡◌, ℕ, zero, suc, ◌+◌, ◌<◌, ◌≤◌, Bool, true, false, List, [], ◌∷◌, ◌++◌, length, map, refl, subst, ap, ◌∙◌, arith}
use Rattle.proof_trees.specs.Trees.{Entry}
use Rattle.search_core.specs.Bags.{weigh, Every}
use Rattle.search_core.specs.Journals.{Path, Placed, branches, nothing_done, left_at, all_nodes, halves, Whole, Tree, Tip, Fork, root_of, roots, in_half, half, Gathers, under, located}
use Rattle.search_core.proofs.Weights.{weigh_append, weigh_map}

-- a weight of the paths in one half
abbrev beyond : Bool → (Path → ℕ) → Path → ℕ
beyond y h [] = 0
beyond true h (true ∷ path) = h path
beyond true h (false ∷ path) = 0
beyond false h (true ∷ path) = 0
beyond false h (false ∷ path) = h path

abbrev at_start : Path → ℕ
at_start [] = 1
at_start (y ∷ path) = 0

never_start : (path : Path) (y : Bool) → at_start (path ++ y ∷ []) ≡ 0
never_start [] y = refl
never_start (z ∷ path) y = refl

no_length : {A : Type 0} (xs : List A) → length xs ≡ 0 → xs ≡ []
no_length [] e = refl
no_length (x ∷ xs) e = absurd (omega arith)

one_length : {A : Type 0} (xs : List A) → length xs ≡ 1 → (a : A) × (xs ≡ a ∷ [])
one_length [] e = absurd (omega arith)
one_length (x ∷ []) e = (x, refl)
one_length (x ∷ y ∷ xs) e = absurd (omega arith)

left_halves : (R : Type 0) (h : Path → ℕ) (left : List Path) → weigh (halves {R = R} h) (map left_at left) ≡ 0
left_halves R h [] = refl
left_halves R h (x ∷ left) = omega (arith, left_halves R h left)

module _ {R : Type 0} where
  abbrev only_branched : Bool → Entry R → List (Entry R) → List (Entry R)
  only_branched true e es = e ∷ es
  only_branched false e es = es

  abbrev branched : List (Entry R) → List (Entry R)
  branched [] = []
  branched (e ∷ es) = only_branched (branches e.end) e (branched es)

  abbrev Grown : List (Entry R) → List (Placed R) → Type 0
  Grown starts ns = (h : Path → ℕ) → weigh (λ n. h n.path) ns ≡ weigh (λ _. h []) starts + weigh (halves h) ns

  one_beyond : (y : Bool) (h : Path → ℕ) (path : Path) (e : Entry R) (ns : List (Placed R))
      → weigh (λ n. h n.path) (in_half y path e ns) ≡ beyond y h path + weigh (λ n. h n.path) ns
  one_beyond y h [] e ns = omega arith
  one_beyond true h (true ∷ path) e ns = refl
  one_beyond true h (false ∷ path) e ns = omega arith
  one_beyond false h (true ∷ path) e ns = omega arith
  one_beyond false h (false ∷ path) e ns = refl

  weigh_half : (y : Bool) (h : Path → ℕ) (ns : List (Placed R)) → weigh (λ n. h n.path) (half y ns) ≡ weigh (λ n. beyond y h n.path) ns
  weigh_half y h [] = refl
  weigh_half y h (n ∷ ns) = omega (arith, one_beyond y h n.path n.entry (half y ns), weigh_half y h ns)

  one_halves : (y c : Bool) (h : Path → ℕ) (path : Path) (e : Entry R) (rs : List (Entry R)) (ns : List (Placed R)) → branches e.end ≡ c
      → halves (beyond y h) (record { path = path; entry = e }) + (weigh (λ _. h []) (branched rs) + weigh (halves h) ns)
      ≡ weigh (λ _. h []) (branched (root_of path e rs)) + weigh (halves h) (in_half y path e ns)
  one_halves true true h [] e rs ns is = rw is (omega arith)
  one_halves true false h [] e rs ns is = rw is (omega arith)
  one_halves false true h [] e rs ns is = rw is (omega arith)
  one_halves false false h [] e rs ns is = rw is (omega arith)
  one_halves true c h (true ∷ path) e rs ns is = omega arith
  one_halves false c h (false ∷ path) e rs ns is = omega arith
  one_halves true true h (false ∷ path) e rs ns is = rw is (omega arith)
  one_halves true false h (false ∷ path) e rs ns is = rw is (omega arith)
  one_halves false true h (true ∷ path) e rs ns is = rw is (omega arith)
  one_halves false false h (true ∷ path) e rs ns is = rw is (omega arith)

  weigh_halves : (y : Bool) (h : Path → ℕ) (ns : List (Placed R)) → weigh (halves (beyond y h)) ns ≡ weigh (λ _. h []) (branched (roots ns)) + weigh (halves h) (half y ns)
  weigh_halves y h [] = refl
  weigh_halves y h (n ∷ ns) = omega (arith, one_halves y (branches n.entry.end) h n.path n.entry (roots ns) (half y ns) refl, weigh_halves y h ns)

  none_beyond : (starts : List (Entry R)) → weigh (λ _. 0) starts ≡ 0
  none_beyond [] = refl
  none_beyond (e ∷ es) = omega (arith, none_beyond es)

  grown_half : (y : Bool) (starts : List (Entry R)) (ns : List (Placed R)) → Grown starts ns → Grown (branched (roots ns)) (half y ns)
  grown_half y starts ns g h = omega (arith, g (beyond y h), weigh_half y h ns, weigh_halves y h ns, none_beyond starts)

  -- as many roots as starts
  one_root : (path : Path) (e : Entry R) (es : List (Entry R)) → length (root_of path e es) ≡ at_start path + length es
  one_root [] e es = omega arith
  one_root (y ∷ path) e es = omega arith

  weigh_roots : (ns : List (Placed R)) → weigh (λ n. at_start n.path) ns ≡ length (roots ns)
  weigh_roots [] = refl
  weigh_roots (n ∷ ns) = omega (arith, one_root n.path n.entry (roots ns), weigh_roots ns)

  no_half : (c : Bool) (n : Placed R) → branches n.entry.end ≡ c → halves at_start n ≡ 0
  no_half true n is = rw is (omega (arith, never_start n.path true, never_start n.path false))
  no_half false n is = rw is refl

  no_halves : (ns : List (Placed R)) → weigh (halves at_start) ns ≡ 0
  no_halves [] = refl
  no_halves (n ∷ ns) = omega (arith, no_half (branches n.entry.end) n refl, no_halves ns)

  ones : (es : List (Entry R)) → weigh (λ _. 1) es ≡ length es
  ones [] = refl
  ones (e ∷ es) = omega (arith, ones es)

  as_many : (starts : List (Entry R)) (ns : List (Placed R)) → Grown starts ns → length (roots ns) ≡ length starts
  as_many starts ns g = omega (arith, g at_start, weigh_roots ns, no_halves ns, ones starts)

  -- ## Short paths

  abbrev Short : ℕ → List (Placed R) → Type 0
  Short f ns = Every (λ n. length n.path < f) ns

  short_in : (y : Bool) (f : ℕ) (path : Path) (e : Entry R) (ns : List (Placed R)) → length path < suc f → Short f ns → Short f (in_half y path e ns)
  short_in y f [] e ns lt h = h
  short_in true f (true ∷ path) e ns lt h = (omega arith, h)
  short_in true f (false ∷ path) e ns lt h = h
  short_in false f (true ∷ path) e ns lt h = h
  short_in false f (false ∷ path) e ns lt h = (omega arith, h)

  short_half : (y : Bool) (f : ℕ) (ns : List (Placed R)) → Short (suc f) ns → Short f (half y ns)
  short_half y f [] h = tt
  short_half y f (n ∷ ns) h = short_in y f n.path n.entry (half y ns) h.0 (short_half y f ns h.1)

  none_short : (ns : List (Placed R)) → Short 0 ns → ns ≡ []
  none_short [] h = refl
  none_short (n ∷ ns) h = let bad : length n.path < 0 = h.0 in absurd (omega arith)

  short_enough : (ns : List (Placed R)) (f : ℕ) → weigh (λ n. suc (length n.path)) ns ≤ f → Short f ns
  short_enough [] f le = tt
  short_enough (n ∷ ns) f le = (omega arith, short_enough ns f (omega arith))

  -- ## No start, no node

  no_root_in : (path : Path) (e : Entry R) (es : List (Entry R)) (t f ns : List (Placed R)) → root_of path e es ≡ [] → in_half true path e t ≡ [] → in_half false path e f ≡ [] → ns ≡ []
  no_root_in [] e es t f ns a b c = cc
  no_root_in (true ∷ path) e es t f ns a b c = cc
  no_root_in (false ∷ path) e es t f ns a b c = cc

  nowhere : (ns : List (Placed R)) → roots ns ≡ [] → half true ns ≡ [] → half false ns ≡ [] → ns ≡ []
  nowhere [] a b c = refl
  nowhere (n ∷ ns) a b c = no_root_in n.path n.entry (roots ns) (half true ns) (half false ns) (n ∷ ns) a b c

  empty : (f : ℕ) (ns : List (Placed R)) → Short f ns → Grown [] ns → ns ≡ []
  empty zero ns short g = none_short ns short
  empty (suc f) ns short g =
      let none : roots ns ≡ [] = no_length (roots ns) (as_many [] ns g) in
      let some : (y : Bool) → half y ns ≡ [] = λ y. empty f (half y ns) (short_half y f ns short) (subst (λ (rs : List (Entry R)). Grown (branched rs) (half y ns)) none (grown_half y [] ns g)) in
      nowhere ns none (some true) (some false)

  -- ## One start, one tree

  branched_one : (c : Bool) (e : Entry R) → branches e.end ≡ c → branched (e ∷ []) ≡ only_branched c e []
  branched_one c e is = rw is refl

  grow_on : (c : Bool) (f : ℕ) (starts : List (Entry R)) (ns : List (Placed R)) (e : Entry R) → ((ms : List (Placed R)) → Short f ms → Grown (e ∷ []) ms → (t : Tree R) × Gathers ms t)
      → Short (suc f) ns → Grown starts ns → roots ns ≡ e ∷ [] → branches e.end ≡ c → (t : Tree R) × Gathers ns t
  grow_on true f starts ns e go short g one is =
      let ready : (y : Bool) → Grown (e ∷ []) (half y ns) = λ y. subst (λ (rs : List (Entry R)). Grown rs (half y ns)) (ap branched one ∙ branched_one true e is) (grown_half y starts ns g) in
      let a = go (half true ns) (short_half true f ns short) (ready true) in
      let b = go (half false ns) (short_half false f ns short) (ready false) in
      (Fork e a.0 b.0, (one, is, a.1, b.1))
  grow_on false f starts ns e go short g one is =
      let none : (y : Bool) → half y ns ≡ [] = λ y. empty f (half y ns) (short_half y f ns short) (subst (λ (rs : List (Entry R)). Grown rs (half y ns)) (ap branched one ∙ branched_one false e is) (grown_half y starts ns g)) in
      (Tip e, (one, is, none true, none false))

  grow : (f : ℕ) (starts : List (Entry R)) (ns : List (Placed R)) → length starts ≡ 1 → Short f ns → Grown starts ns → (t : Tree R) × Gathers ns t
  grow zero starts ns len short g =
      let none : ns ≡ [] = none_short ns short in
      let at : weigh (λ n. 1) ns ≡ weigh (λ _. 1) starts + weigh (halves (λ _. 1)) ns = g (λ _. 1) in
      absurd (omega (arith, ones starts, ap (weigh (λ (n : Placed R). 1)) none))
  grow (suc f) starts ns len short g =
      let one = one_length (roots ns) (as_many starts ns g ∙ len) in
      grow_on (branches one.0.end) f starts ns one.0 (λ ms s k. grow f (one.0 ∷ []) ms refl s k) short g one.1 refl

  -- ## Whole journals

  pub whole_gathers : (entries : List (Placed R)) (left : List Path) → Whole entries left → (t : Tree R) × Gathers (all_nodes entries left) t
  whole_gathers entries left whole =
      let ns : List (Placed R) = all_nodes entries left in
      grow (weigh (λ n. suc (length n.path)) ns) (nothing_done ∷ []) ns refl (short_enough ns _ (omega arith))
      (λ h. omega (arith, whole.bag h, weigh_append (λ (n : Placed R). h n.path) entries (map left_at left), weigh_append (halves h) entries (map left_at left), left_halves R h left, weigh_map left_at (λ (n : Placed R). h n.path) left))

  -- ## The tree's records at their paths

  one_place : (h : Placed R → ℕ) (path : Path) (e : Entry R) (rs : List (Entry R)) (t f : List (Placed R))
      → weigh (λ r. h (record { path = []; entry = r })) (root_of path e rs) + weigh (λ n. h (under true n)) (in_half true path e t) + weigh (λ n. h (under false n)) (in_half false path e f)
      ≡ h (record { path = path; entry = e }) + (weigh (λ r. h (record { path = []; entry = r })) rs + weigh (λ n. h (under true n)) t + weigh (λ n. h (under false n)) f)
  one_place h [] e rs t f = omega arith
  one_place h (true ∷ path) e rs t f = omega arith
  one_place h (false ∷ path) e rs t f = omega arith

  weigh_parts : (h : Placed R → ℕ) (ns : List (Placed R)) → weigh h ns ≡ weigh (λ r. h (record { path = []; entry = r })) (roots ns) + weigh (λ n. h (under true n)) (half true ns) + weigh (λ n. h (under false n)) (half false ns)
  weigh_parts h [] = refl
  weigh_parts h (n ∷ ns) = omega (arith, one_place h n.path n.entry (roots ns) (half true ns) (half false ns), weigh_parts h ns)

  pub located_as : (t : Tree R) (ns : List (Placed R)) (h : Placed R → ℕ) → Gathers ns t → weigh h (located t) ≡ weigh h ns
  located_as (Tip e) ns h g =
      let at_root : Entry R → ℕ = λ r. h (record { path = []; entry = r }) in
      omega (arith, weigh_parts h ns, ap (weigh at_root) g.0, ap (weigh (λ (n : Placed R). h (under true n))) g.2, ap (weigh (λ (n : Placed R). h (under false n))) g.3)
  located_as (Fork e a b) ns h g =
      let at_root : Entry R → ℕ = λ r. h (record { path = []; entry = r }) in
      let ha : Placed R → ℕ = λ n. h (under true n) in
      let hb : Placed R → ℕ = λ n. h (under false n) in
      omega (
        arith,
        weigh_parts h ns,
        ap (weigh at_root) g.0,
        located_as a (half true ns) ha g.2,
        located_as b (half false ns) hb g.3,
        weigh_append h (map (under true) (located a)) (map (under false) (located b)),
        weigh_map (under true) h (located a),
        weigh_map (under false) h (located b),
      )

  -- ## Only one tree has the nodes' records at their paths

  tip_and_fork : (e f : Entry R) (rs : List (Entry R)) → rs ≡ e ∷ [] → branches e.end ≡ false → rs ≡ f ∷ [] → branches f.end ≡ true → ⊥
  tip_and_fork e f rs a b c d = let is : e ≡ f = cc in let t : branches e.end ≡ true = ap (λ (g : Entry R). branches g.end) is ∙ d in absurd (cc)

  pub one_tree : (ns : List (Placed R)) (t s : Tree R) → Gathers ns t → Gathers ns s → t ≡ s
  one_tree ns (Tip e) (Tip f) g h = let a : roots ns ≡ e ∷ [] = g.0 in let b : roots ns ≡ f ∷ [] = h.0 in cc
  one_tree ns (Tip e) (Fork f a b) g h = absurd (tip_and_fork e f (roots ns) g.0 g.1 h.0 h.1)
  one_tree ns (Fork e a b) (Tip f) g h = absurd (tip_and_fork f e (roots ns) h.0 h.1 g.0 g.1)
  one_tree ns (Fork e a b) (Fork f c d) g h =
      let x : roots ns ≡ e ∷ [] = g.0 in
      let y : roots ns ≡ f ∷ [] = h.0 in
      let first : a ≡ c = one_tree (half true ns) a c g.2 h.2 in
      let second : b ≡ d = one_tree (half false ns) b d g.3 h.3 in
      cc
