-- Boxes and multipliers along a trail.
use Rattle.std.proofs.Common.{◌≡◌, ℕ, zero, suc, ◌<◌, ◌≤◌, Bool, List, [], ◌∷◌, ◌++◌, length, replicate, Option, Some, None, pos, ◌<ℤ◌, ◌≤ℤ◌, refl, sym, subst, ◌∙◌, arith}
use borrow.Author.Differences.{ints}
use Rattle.std.proofs.lemmas.List.{length-set, length-replicate}
use Rattle.proof_trees.specs.Program.{Program, cost_of, Solution}
use Rattle.proof_trees.specs.Boxes.{Box, at, Allows, free_box, Inside}
use Rattle.proof_trees.specs.Multipliers.{Multipliers, Closes, Named}
use Rattle.proof_trees.specs.Trees.{End, Leaf, Left, Branch, Entry, Pending, begun, root}
use Rattle.proof_trees.proofs.Duality.{closed_box, inside_fixed, inside_tightened, length_tightened}
use Rattle.proof_trees.proofs.Soundness.{NamedIfSome, named_all, named_begun}
use Rattle.search_core.specs.Journals.{Path, divided, known, box_after, multipliers_after, child, after, NamesRows}
use Rattle.search_core.specs.Machine.{Node, begins, IsEntry, Divides, IsTrail}

module _ {R : Type 0} (same : R → R → Bool) (p : Program R) (base : List R) where
  abbrev pub IsSound : Pending R → Type 0
  IsSound q = (length q.box ≡ p.vars) × Named p q.multipliers

  root_sound : IsSound (root p)
  root_sound = (length-replicate p.vars None, λ k d lt. absurd (omega arith))

  named_known : (o : Option (Multipliers R)) (ms : Multipliers R) → o ≡ Some ms → NamedIfSome same p o → Named p ms
  named_known o ms is h = subst (NamedIfSome same p) is h

  pub named_after : (q : Pending R) (e : Entry R) (ms : Multipliers R) → IsSound q → NamesRows same p e → multipliers_after same p q e ≡ Some ms → Named p ms
  named_after q e ms sound rows is = named_known (multipliers_after same p q e) ms is (named_all same p (Some (begun e.from_zero q.multipliers)) e.raises rows.1 (named_begun same p e.from_zero q.multipliers sound.1))

  length_divided : (b : Box) (e : End) (y : Bool) → length b ≡ p.vars → length (divided b e y) ≡ p.vars
  length_divided b Leaf y len = len
  length_divided b Left y len = len
  length_divided b (Branch v) y len = length-set b v (Some y) ∙ len

  child_sound : (q : Pending R) (e : Entry R) (y : Bool) → IsSound q → IsEntry same p q e → IsSound (child same p q e y)
  child_sound q e y sound entry = (
    length_divided (box_after same p q e) e.end y (length_tightened p q.box e.steps sound.0),
    subst (λ (o : Option (Multipliers R)). Named p (known o)) (sym entry.1.1) (named_after q e entry.1.0 sound entry.0 entry.1.1),
  )

  after_sound : (q : Pending R) (path : Path) (trail : List (Entry R)) → IsSound q → IsTrail same p q path trail → IsSound (after same p q path trail)
  after_sound q [] [] sound h = sound
  after_sound q [] (e ∷ es) sound h = sound
  after_sound q (y ∷ path) [] sound h = sound
  after_sound q (y ∷ path) (e ∷ es) sound h = after_sound (child same p q e y) path es (child_sound q e y sound h.0) h.2

  pub begins_sound : (n : Node R) → IsTrail same p (root p) n.path n.trail → IsSound (begins same p n)
  begins_sound n h = after_sound (root p) n.path n.trail root_sound h

  pub after_more : (q : Pending R) (path : Path) (trail : List (Entry R)) (e : Entry R) (y : Bool) → IsTrail same p q path trail
      → after same p q (path ++ y ∷ []) (trail ++ e ∷ []) ≡ child same p (after same p q path trail) e y
  after_more q [] [] e y h = refl
  after_more q [] (f ∷ es) e y h = absurd h
  after_more q (z ∷ path) [] e y h = absurd h
  after_more q (z ∷ path) (f ∷ es) e y h = after_more (child same p q f z) path es e y h.2

  pub trail_more : (q : Pending R) (path : Path) (trail : List (Entry R)) (e : Entry R) (y : Bool) → IsTrail same p q path trail
      → IsEntry same p (after same p q path trail) e → Divides p (box_after same p (after same p q path trail) e) e.end → IsTrail same p q (path ++ y ∷ []) (trail ++ e ∷ [])
  trail_more q [] [] e y h entry free = (entry, free, tt)
  trail_more q [] (f ∷ es) e y h entry free = absurd h
  trail_more q (z ∷ path) [] e y h entry free = absurd h
  trail_more q (z ∷ path) (f ∷ es) e y h entry free = (h.0, h.1, trail_more (child same p q f z) path es e y h.2 entry free)

  -- ## Solutions

  module _ (x : ℕ → Bool) (sol : Solution p x) where
    pub none_cheaper : (q : Pending R) (e : Entry R) (ms : Multipliers R) (word seen : ℕ) → IsSound q → NamesRows same p e → multipliers_after same p q e ≡ Some ms
        → Closes p (box_after same p q e) ms seen → word ≤ seen → cost_of p x <ℤ pos word → Inside p q.box x → ⊥
    none_cheaper q e ms word seen sound rows is closes le cheap inside =
        let least : pos seen ≤ℤ cost_of p x = closed_box p x sol (box_after same p q e) ms seen (named_after q e ms sound rows is) (inside_tightened p x sol q.box e.steps sound.0 rows.0 inside).0 closes in
        omega (arith, ints)

    in_half : (b : Box) (o : Option (Multipliers R)) (e : End) → length b ≡ p.vars → Divides p b e → Inside p b x → (y : Bool) × Inside p (divided b e y) x
    in_half b o Leaf len h inside = absurd h
    in_half b o Left len h inside = absurd h
    in_half b o (Branch v) len h inside = let lt : v < length b = omega arith in (x v, inside_fixed p x sol b v (x v) lt inside refl)

    pub in_child : (q : Pending R) (e : Entry R) → IsSound q → IsEntry same p q e → Divides p (box_after same p q e) e.end → Inside p q.box x → (y : Bool) × Inside p (child same p q e y).box x
    in_child q e sound entry free inside =
        let t = inside_tightened p x sol q.box e.steps sound.0 entry.0.0 inside in
        in_half (box_after same p q e) (multipliers_after same p q e) e.end t.1 free t.0

allows_free : (n v : ℕ) (y : Bool) → Allows (at (replicate n None) v) y
allows_free zero v y = tt
allows_free (suc n) zero y = tt
allows_free (suc n) (suc v) y = allows_free n v y

pub inside_free : {R : Type 0} (p : Program R) (x : ℕ → Bool) → Inside p (free_box p) x
inside_free p x v lt = allows_free p.vars v (x v)
