-- Frames of a kept box: what stays of them when variables are fixed and freed, and the box along them.
use Rattle.std.proofs.Common.{◌≡◌, ℕ, zero, suc, ◌+◌, ◌≤◌, All, List, [], ◌∷◌, ◌++◌, length, take, drop, map, refl, sym, ◌∙◌, ap, arith}
use Rattle.std.proofs.lemmas.List.{length-take-le, take-append-drop, drop-append-le}
use Rattle.zero_one_rows.specs.Variables.{Voyage}
use Rattle.zero_one_rows.specs.Rows.{whole}
use Rattle.zero_one_rows.specs.declared.program.Row.{Row}
use Rattle.proof_trees.specs.Boxes.{Box}
use Rattle.proof_trees.specs.Trees.{Pending}
use Rattle.certificate.specs.Entries.{same_row, entry_of}
use Rattle.search_core.specs.Journals.{child, after}
use Rattle.partial_plan.specs.Fixing.{freed, released, Fixes}
use Rattle.partial_plan.proofs.Freeing.{freed_more}
use Rattle.node_work.specs.declared.positions.Frame.{Frame}
use Rattle.node_work.specs.Positions.{entry_in, value_in, half_under, box_along, IsFrame, Stacked}

-- ## Variables that are fixed, and freed again

pub still_left : (known more : Box) (undo longer xs : List ℕ) (mark : ℕ) → longer ≡ undo ++ xs → Fixes known more xs → mark ≤ length undo → released more longer mark ≡ released known undo mark
still_left known more undo longer xs mark is fixes le =
    ap (λ (us : List ℕ). freed more (drop mark us)) is ∙ ap (freed more) (drop-append-le mark undo xs le)
    ∙ freed_more (freed known (drop mark undo)) known more (drop mark undo) xs refl fixes.back

pub left_below : (known : Box) (undo : List ℕ) (mark to : ℕ) → mark ≤ to → to ≤ length undo → released (released known undo to) (take to undo) mark ≡ released known undo mark
left_below known undo mark to low le =
    let short : length (take to undo) ≡ to = length-take-le to undo le in
    let cut : drop mark (take to undo) ++ drop to undo ≡ drop mark undo = sym (drop-append-le mark (take to undo) (drop to undo) (omega arith)) ∙ ap (drop mark) (take-append-drop to undo) in
    sym (ap (freed known) (sym cut) ∙ freed_more (freed (freed known (drop to undo)) (drop mark (take to undo))) (freed known (drop to undo)) known (drop mark (take to undo)) (drop to undo) refl refl)

module _ (m : Voyage) where
  pub stays_stacked : (known more : Box) (undo longer xs : List ℕ) → longer ≡ undo ++ xs → Fixes known more xs → (from : ℕ) (b : Box) (fs : List Frame) → Stacked m known undo from b fs → Stacked m more longer from b fs
  stays_stacked known more undo longer xs is fixes from b [] h = tt
  stays_stacked known more undo longer xs is fixes from b (f ∷ fs) h = (
    record {
      rising = h.0.rising;
      mark = let le : f.mark ≤ length undo = h.0.mark in let n : length longer ≡ length undo + length xs = ap (λ (us : List ℕ). length us) is ∙ length_append undo xs in omega arith;
      left = still_left known more undo longer xs f.mark is fixes h.0.mark ∙ h.0.left;
      divides = h.0.divides;
    },
    stays_stacked known more undo longer xs is fixes f.mark (half_under m b f) fs h.1,
  )
    where
      length_append : (us vs : List ℕ) → length (us ++ vs) ≡ length us + length vs
      length_append [] vs = omega arith
      length_append (u ∷ us) vs = omega (arith, length_append us vs)

  pub below_stacked : (known : Box) (undo : List ℕ) (to : ℕ) → to ≤ length undo → (from : ℕ) (b : Box) (fs : List Frame) → All (λ f. f.mark ≤ to) fs → Stacked m known undo from b fs → Stacked m (released known undo to) (take to undo) from b fs
  below_stacked known undo to le from b [] low h = tt
  below_stacked known undo to le from b (f ∷ fs) low h =
      let here : f.mark ≤ to = low 0 f (omega arith) in
      let short : length (take to undo) ≡ to = length-take-le to undo le in (
        record { rising = h.0.rising; mark = omega arith; left = left_below known undo f.mark to here le ∙ h.0.left; divides = h.0.divides },
        below_stacked known undo to le f.mark (half_under m b f) fs (λ k d lt. low (suc k) d (omega arith)) h.1,
      )

  -- ## The first frames, and one more

  pub first_stacked : (known : Box) (undo : List ℕ) (from : ℕ) (b : Box) (fs gs : List Frame) → Stacked m known undo from b (fs ++ gs) → Stacked m known undo from b fs
  first_stacked known undo from b [] gs h = tt
  first_stacked known undo from b (f ∷ fs) gs h = (h.0, first_stacked known undo f.mark (half_under m b f) fs gs h.1)

  -- the mark of the deepest frame, or the number from which marks rise
  abbrev pub last_mark : ℕ → List Frame → ℕ
  last_mark from [] = from
  last_mark from (f ∷ fs) = last_mark f.mark fs

  pub last_is : (known : Box) (undo : List ℕ) (from : ℕ) (b : Box) (fs : List Frame) (f : Frame) → Stacked m known undo from b (fs ++ f ∷ []) → IsFrame m known undo (last_mark from fs) (box_along m b fs) f
  last_is known undo from b [] f h = h.0
  last_is known undo from b (g ∷ fs) f h = last_is known undo g.mark (half_under m b g) fs f h.1

  pub one_more : (known : Box) (undo : List ℕ) (from : ℕ) (b : Box) (fs : List Frame) (f : Frame) → Stacked m known undo from b fs → IsFrame m known undo (last_mark from fs) (box_along m b fs) f → Stacked m known undo from b (fs ++ f ∷ [])
  one_more known undo from b [] f h k = (k, tt)
  one_more known undo from b (g ∷ fs) f h k = (h.0, one_more known undo g.mark (half_under m b g) fs f h.1 k)

  pub last_high : (known : Box) (undo : List ℕ) (from : ℕ) (b : Box) (fs : List Frame) → Stacked m known undo from b fs → (from ≤ last_mark from fs) × All (λ f. f.mark ≤ last_mark from fs) fs
  last_high known undo from b [] h = (omega arith, λ k d lt. absurd (omega arith))
  last_high known undo from b (f ∷ fs) h =
      let rest = last_high known undo f.mark (half_under m b f) fs h.1 in
      let first : f.mark ≤ last_mark f.mark fs = rest.0 in
      let up : from ≤ f.mark = h.0.rising in
      (omega arith, all first rest.1)
    where
      all : f.mark ≤ last_mark f.mark fs → All (λ g. g.mark ≤ last_mark f.mark fs) fs → All (λ g. g.mark ≤ last_mark f.mark fs) (f ∷ fs)
      all here more zero d lt = here
      all here more (suc k) d lt = more k d (omega arith)

  pub last_low : (known : Box) (undo : List ℕ) (b : Box) (fs : List Frame) → Stacked m known undo 0 b fs → last_mark 0 fs ≤ length undo
  last_low known undo b fs h = ends 0 b fs (omega arith) h
    where
      ends : (from : ℕ) (b : Box) (fs : List Frame) → from ≤ length undo → Stacked m known undo from b fs → last_mark from fs ≤ length undo
      ends from b [] le h = le
      ends from b (f ∷ fs) le h = ends f.mark (half_under m b f) fs h.0.mark h.1

  pub along_more : (b : Box) (fs : List Frame) (f : Frame) → box_along m b (fs ++ f ∷ []) ≡ half_under m (box_along m b fs) f
  along_more b [] f = refl
  along_more b (g ∷ fs) f = along_more (half_under m b g) fs f

  -- ## The frames of a node are its trail

  pub along_is : (q : Pending Row) (fs : List Frame) → box_along m q.box fs ≡ (after same_row (whole m) q (map value_in fs) (map (entry_of m) (map entry_in fs))).box
  along_is q [] = refl
  along_is q (f ∷ fs) = along_is (child same_row (whole m) q (entry_of m f.entry) f.value) fs
