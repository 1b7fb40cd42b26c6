-- A walk to a node: its trail cut at a depth, and the frames of a kept box as its first records.
use Rattle.std.proofs.Common.{◌≡◌, ℕ, zero, suc, ◌+◌, ◌<◌, ◌≤◌, Bool, true, false, All, List, [], ◌∷◌, ◌++◌, length, take, drop, map, get_or, refl, sym, subst, ◌∙◌, ap, arith, length-append}
use Rattle.std.proofs.lemmas.List.{length-take-le, length-map, take_more, map-append, take-take, take_all, get_or-take}
use Rattle.std.proofs.Math.Seq.{take-append_seam, get_or-append_seam}
use Rattle.zero_one_rows.specs.declared.program.Row.{Row}
use Rattle.zero_one_rows.specs.Variables.{Voyage}
use Rattle.zero_one_rows.specs.Rows.{whole}
use Rattle.proof_trees.specs.Boxes.{Box, free_box, tightened}
use Rattle.proof_trees.specs.Trees.{Pending, root}
use Rattle.certificate.specs.declared.tree.Record.{Record}
use Rattle.certificate.specs.Entries.{same_row, entry_of, end_of, number_of}
use Rattle.search_core.specs.Journals.{Path, box_after, child, after}
use Rattle.search_core.specs.Machine.{IsEntry, Divides, IsTrail}
use Rattle.node_work.specs.declared.positions.Frame.{Frame}
use Rattle.node_work.specs.Positions.{entry_in, value_in, box_along}
use Rattle.node_work.proofs.Trails.{entries, turns}
use Rattle.node_work.proofs.Stacks.{along_is}

module _ (m : Voyage) where
  -- as many branches as records
  pub same_length : (q : Pending Row) (path : Path) (rs : List Record) → IsTrail same_row (whole m) q path (entries m rs) → length rs ≡ length path
  same_length q [] [] h = refl
  same_length q [] (r ∷ rs) h = absurd h
  same_length q (y ∷ path) [] h = absurd h
  same_length q (y ∷ path) (r ∷ rs) h = let e : length rs ≡ length path = same_length (child same_row (whole m) q (entry_of m r) y) path rs h.2 in omega arith

  -- the rest of a trail is one from where its first part leads
  pub rest_of : (k : ℕ) (q : Pending Row) (path : Path) (rs : List Record) → IsTrail same_row (whole m) q path (entries m rs) → k ≤ length rs
      → IsTrail same_row (whole m) (after same_row (whole m) q (take k path) (entries m (take k rs))) (drop k path) (entries m (drop k rs))
  rest_of zero q path rs h le = h
  rest_of (suc k) q [] [] h le = h
  rest_of (suc k) q [] (r ∷ rs) h le = absurd h
  rest_of (suc k) q (y ∷ path) [] h le = absurd h
  rest_of (suc k) q (y ∷ path) (r ∷ rs) h le = rest_of k (child same_row (whole m) q (entry_of m r) y) path rs h.2 (omega arith)

  -- ## The frames are the node's first records

  -- where the first k records of the path lead
  abbrev pub after_first : Path → List Record → ℕ → Pending Row
  after_first path trail k = after same_row (whole m) (root (whole m)) (take k path) (entries m (take k trail))

  pub box_here : (path : Path) (trail : List Record) (frames : List Frame) (k : ℕ) → map entry_in frames ≡ take k trail → map value_in frames ≡ take k path → box_along m (free_box (whole m)) frames ≡ (after_first path trail k).box
  box_here path trail frames k same values =
      along_is m (root (whole m)) frames
      ∙ ap (λ (ps : Path). (after same_row (whole m) (root (whole m)) ps (entries m (map entry_in frames))).box) values
      ∙ ap (λ (rs : List Record). (after same_row (whole m) (root (whole m)) (take k path) (entries m rs)).box) same

  module _ (path : Path) (trail : List Record) (k : ℕ) (r : Record) (h : IsTrail same_row (whole m) (root (whole m)) path (entries m trail)) (lt : k < length trail) (is : r ≡ get_or trail k r) where
    facts : IsEntry same_row (whole m) (after_first path trail k) (entry_of m r) × Divides (whole m) (box_after same_row (whole m) (after_first path trail k) (entry_of m r)) (entry_of m r).end
    facts = let t = turns m (after_first path trail k) path trail k r lt is false (rest_of k (root (whole m)) path trail h (omega arith)) in (t.0, t.1)

    pub rows_here : All (λ s. (whole m).has s ≡ true) r.steps
    rows_here = facts.0.0.0

    pub divides_here : (b : Box) → b ≡ (after_first path trail k).box → Divides (whole m) (tightened (whole m) b r.steps) (end_of (number_of m) r.end)
    divides_here b at = subst (λ (d : Box). Divides (whole m) (tightened (whole m) d r.steps) (end_of (number_of m) r.end)) (sym at) facts.1

  pub at_end : (path : Path) (trail : List Record) (k : ℕ) → IsTrail same_row (whole m) (root (whole m)) path (entries m trail) → length trail ≤ k → after_first path trail k ≡ after same_row (whole m) (root (whole m)) path (entries m trail)
  at_end path trail k h le =
      let n : length trail ≡ length path = same_length (root (whole m)) path trail h in
      ap (λ (ps : Path). after same_row (whole m) (root (whole m)) ps (entries m (take k trail))) (take_all k path (omega arith))
      ∙ ap (λ (rs : List Record). after same_row (whole m) (root (whole m)) path (entries m rs)) (take_all k trail le)

-- one more frame is one more record, or one more value
pub joined_map : {B : Type 0} (f : Frame → B) (gs fs : List Frame) (g : Frame) (ys : List B) (k : ℕ) (d : B) → gs ≡ fs ++ g ∷ [] → map f fs ≡ take k ys → k < length ys → f g ≡ get_or ys k d → map f gs ≡ take (k + 1) ys
joined_map f gs fs g ys k d is h lt here =
    ap (map f) is ∙ map-append f fs (g ∷ []) ∙ ap (λ xs. xs ++ f g ∷ []) h ∙ ap (λ x. take k ys ++ x ∷ []) here ∙ sym (take_more ys k d lt)

-- ## The deepest frame with another value

front_of : {A B : Type 0} (f : A → B) (fs : List A) (g : A) (xs : List A) (k : ℕ) → take (k + 1) xs ≡ fs ++ g ∷ [] → k < length xs → map f fs ≡ map f (take k xs)
front_of f fs g xs k is lt =
    let n : length (take (k + 1) xs) ≡ k + 1 = length-take-le (k + 1) xs (omega arith) in
    let count : length fs ≡ k = omega (arith, n, ap (λ ys. length ys) is, length-append fs (g ∷ [])) in
    ap (map f) (sym (take-append_seam fs (g ∷ [])) ∙ ap (λ (j : ℕ). take j (fs ++ g ∷ [])) count ∙ ap (take k) (sym is) ∙ take-take k (k + 1) xs (omega arith))

pub turned_values : (frames fs gs : List Frame) (f : Frame) (path : Path) (k : ℕ) (y : Bool) → take (k + 1) frames ≡ fs ++ f ∷ [] → gs ≡ fs ++ record f { value = y } ∷ [] → k < length frames → map value_in (take k frames) ≡ take k path → k < length path → y ≡ get_or path k y
    → map value_in gs ≡ take (k + 1) path
turned_values frames fs gs f path k y is new lt values lt' here = joined_map value_in gs fs (record f { value = y }) path k y new (front_of value_in fs f frames k is lt ∙ values) lt' here

pub turned_entries : (frames fs gs : List Frame) (f : Frame) (y : Bool) → frames ≡ fs ++ f ∷ [] → gs ≡ fs ++ record f { value = y } ∷ [] → map entry_in gs ≡ map entry_in frames
turned_entries frames fs gs f y is new = ap (map entry_in) new ∙ map-append entry_in fs (record f { value = y } ∷ []) ∙ sym (map-append entry_in fs (f ∷ [])) ∙ ap (map entry_in) (sym is)

-- the deepest frame has the record at its place
pub same_last : (frames fs : List Frame) (f : Frame) (trail : List Record) (k : ℕ) (r : Record) → map entry_in (take (k + 1) frames) ≡ take (k + 1) trail → take (k + 1) frames ≡ fs ++ f ∷ [] → k < length frames → k < length trail → r ≡ get_or trail k r → f.entry ≡ r
same_last frames fs f trail k r same is lt lt' here =
    let n : length (take (k + 1) frames) ≡ k + 1 = length-take-le (k + 1) frames (omega arith) in
    let count : length fs ≡ k = omega (arith, n, ap (λ ys. length ys) is, length-append fs (f ∷ [])) in
    let place : length (map entry_in fs) ≡ k = length-map fs entry_in ∙ count in
    let e : map entry_in fs ++ f.entry ∷ [] ≡ take (k + 1) trail = sym (map-append entry_in fs (f ∷ [])) ∙ ap (map entry_in) (sym is) ∙ same in
    sym (get_or-append_seam (map entry_in fs) f.entry [] r) ∙ ap (λ (rs : List Record). get_or rs (length (map entry_in fs)) r) e
    ∙ ap (λ (j : ℕ). get_or (take (k + 1) trail) j r) place ∙ get_or-take (k + 1) trail k r (omega arith) ∙ sym here
