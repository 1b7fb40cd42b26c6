-- A kept box stays one when variables are fixed and freed, and when a record is joined.
use Rattle.std.proofs.Common.{◌≡◌, ℕ, ◌≤◌, Bool, All, List, [], ◌∷◌, ◌++◌, length, take, drop, sym, subst, ◌∙◌, ap, arith, append-nil}
use Rattle.std.proofs.lemmas.List.{length-take-le, drop_all, take-append-drop}
use Rattle.zero_one_rows.specs.Variables.{Voyage}
use Rattle.zero_one_rows.specs.Rows.{whole}
use Rattle.proof_trees.specs.Boxes.{Box, free_box, tightened}
use Rattle.certificate.specs.Entries.{end_of, number_of}
use Rattle.search_core.specs.Journals.{divided}
use Rattle.search_core.specs.Machine.{Divides}
use Rattle.partial_plan.specs.Fixing.{freed, released, Fixes}
use Rattle.partial_plan.proofs.Freeing.{fixes_none}
use Rattle.partial_plan.specs.Kept.{Kept}
use Rattle.node_work.specs.declared.positions.Frame.{Frame}
use Rattle.node_work.specs.declared.positions.TreePosition.{TreePosition}
use Rattle.node_work.specs.Positions.{box_under, box_along, IsFrame, Stacked, IsPosition}
use Rattle.node_work.proofs.Stacks.{still_left, left_below, stays_stacked, below_stacked, first_stacked, last_mark, last_is, last_high, last_low, one_more, along_more}

all_left : (known : Box) (undo : List ℕ) (mark : ℕ) → length undo ≤ mark → released known undo mark ≡ known
all_left known undo mark le = ap (freed known) (drop_all mark undo le)

module _ (m : Voyage) (s t : TreePosition) (position : IsPosition m s) (same : t.kept.voyage ≡ s.kept.voyage) where
  pub position_fixed : (xs : List ℕ) → t.kept.undo ≡ s.kept.undo ++ xs → Fixes s.kept.known t.kept.known xs → t.frames.items ≡ s.frames.items → IsPosition m t
  position_fixed xs undo fixes frames = record {
    voyage = same ∙ position.voyage;
    bottom = still_left s.kept.known t.kept.known s.kept.undo t.kept.undo xs 0 undo fixes (omega arith) ∙ position.bottom;
    stacked = subst (λ (fs : List Frame). Stacked m t.kept.known t.kept.undo 0 (free_box (whole m)) fs) (sym frames) (stays_stacked m s.kept.known t.kept.known s.kept.undo t.kept.undo xs undo fixes 0 (free_box (whole m)) s.frames.items position.stacked);
  }

  pub position_freed : (to : ℕ) → to ≤ length s.kept.undo → All (λ f. f.mark ≤ to) s.frames.items → t.kept.known ≡ released s.kept.known s.kept.undo to → t.kept.undo ≡ take to s.kept.undo → t.frames.items ≡ s.frames.items → IsPosition m t
  position_freed to le low b undo frames =
      record {
        voyage = same ∙ position.voyage;
        bottom = ap (λ (d : Box). released d t.kept.undo 0) b ∙ ap (λ (us : List ℕ). released (released s.kept.known s.kept.undo to) us 0) undo ∙ left_below s.kept.known s.kept.undo 0 to (omega arith) le ∙ position.bottom;
        stacked = subst (λ (d : Box). Stacked m d t.kept.undo 0 (free_box (whole m)) t.frames.items) (sym b) (subst (λ (us : List ℕ). Stacked m (released s.kept.known s.kept.undo to) us 0 (free_box (whole m)) t.frames.items) (sym undo)
            (subst (λ (fs : List Frame). Stacked m (released s.kept.known s.kept.undo to) (take to s.kept.undo) 0 (free_box (whole m)) fs) (sym frames) (below_stacked m s.kept.known s.kept.undo to le 0 (free_box (whole m)) s.frames.items low position.stacked)));
      }

  -- a record is joined, whose steps the box has had, and then variables are fixed
  pub position_joined : (f : Frame) (xs : List ℕ) → t.frames.items ≡ s.frames.items ++ f ∷ [] → s.kept.known ≡ box_under m (box_along m (free_box (whole m)) s.frames.items) f → length s.kept.undo ≡ f.mark
      → last_mark m 0 s.frames.items ≤ f.mark → Divides (whole m) s.kept.known (end_of (number_of m) f.entry.end) → t.kept.undo ≡ s.kept.undo ++ xs → Fixes s.kept.known t.kept.known xs → IsPosition m t
  position_joined f xs frames here mark rising divides undo fixes = record {
    voyage = same ∙ position.voyage;
    bottom = still_left s.kept.known t.kept.known s.kept.undo t.kept.undo xs 0 undo fixes (omega arith) ∙ position.bottom;
    stacked = subst (λ (fs : List Frame). Stacked m t.kept.known t.kept.undo 0 (free_box (whole m)) fs) (sym frames)
        (one_more m t.kept.known t.kept.undo 0 (free_box (whole m)) s.frames.items f (stays_stacked m s.kept.known t.kept.known s.kept.undo t.kept.undo xs undo fixes 0 (free_box (whole m)) s.frames.items position.stacked)
        (record {
          rising = rising;
          mark = longer;
          left = still_left s.kept.known t.kept.known s.kept.undo t.kept.undo xs f.mark undo fixes (omega arith) ∙ all_left s.kept.known s.kept.undo f.mark (omega arith) ∙ here;
          divides = subst (λ (b : Box). Divides (whole m) b (end_of (number_of m) f.entry.end)) here divides;
        }));
  }
    where
      appended : (us vs : List ℕ) → length us ≤ length (us ++ vs)
      appended [] vs = omega arith
      appended (u ∷ us) vs = omega (arith, appended us vs)

      longer : f.mark ≤ length t.kept.undo
      longer = let n : length t.kept.undo ≡ length (s.kept.undo ++ xs) = ap (λ (us : List ℕ). length us) undo in omega (arith, appended s.kept.undo xs)

-- ## The deepest record taken off

module _ (m : Voyage) (s : TreePosition) (fs : List Frame) (f : Frame) (position : IsPosition m s) (is : s.frames.items ≡ fs ++ f ∷ []) where
  whole_stack : Stacked m s.kept.known s.kept.undo 0 (free_box (whole m)) (fs ++ f ∷ [])
  whole_stack = subst (λ (gs : List Frame). Stacked m s.kept.known s.kept.undo 0 (free_box (whole m)) gs) is position.stacked

  pub deepest : IsFrame m s.kept.known s.kept.undo (last_mark m 0 fs) (box_along m (free_box (whole m)) fs) f
  deepest = last_is m s.kept.known s.kept.undo 0 (free_box (whole m)) fs f whole_stack

  pub position_less : (t : TreePosition) → t.kept.voyage ≡ s.kept.voyage → t.kept.known ≡ s.kept.known → t.kept.undo ≡ s.kept.undo → t.frames.items ≡ fs → IsPosition m t
  position_less t same b undo frames = record {
    voyage = same ∙ position.voyage;
    bottom = ap (λ (d : Box). released d t.kept.undo 0) b ∙ ap (λ (us : List ℕ). released s.kept.known us 0) undo ∙ position.bottom;
    stacked = subst (λ (d : Box). Stacked m d t.kept.undo 0 (free_box (whole m)) t.frames.items) (sym b) (subst (λ (us : List ℕ). Stacked m s.kept.known us 0 (free_box (whole m)) t.frames.items) (sym undo)
        (subst (λ (gs : List Frame). Stacked m s.kept.known s.kept.undo 0 (free_box (whole m)) gs) (sym frames) (first_stacked m s.kept.known s.kept.undo 0 (free_box (whole m)) fs (f ∷ []) whole_stack)));
  }

  pub low_marks : All (λ g. g.mark ≤ f.mark) fs
  low_marks =
      let high = last_high m s.kept.known s.kept.undo 0 (free_box (whole m)) fs (first_stacked m s.kept.known s.kept.undo 0 (free_box (whole m)) fs (f ∷ []) whole_stack) in
      let up : last_mark m 0 fs ≤ f.mark = deepest.rising in
      λ k d lt. (let here = high.1 k d lt in omega (arith, here))

  abbrev pub with_value : Bool → Frame
  with_value y = record { entry = f.entry; value = y; mark = f.mark }

  at_mark : (back : TreePosition) → back.kept.known ≡ released s.kept.known s.kept.undo f.mark → back.kept.known ≡ box_under m (box_along m (free_box (whole m)) fs) f
  at_mark back b = b ∙ deepest.left

  -- back at its mark
  pub may_halve : (back : TreePosition) → back.kept.known ≡ released s.kept.known s.kept.undo f.mark → Divides (whole m) back.kept.known (end_of (number_of m) f.entry.end)
  may_halve back b = subst (λ (d : Box). Divides (whole m) d (end_of (number_of m) f.entry.end)) (sym (at_mark back b)) deepest.divides

  -- and on with a value of its branch
  pub turned : (back t : TreePosition) (y : Bool) (xs : List ℕ) → IsPosition m back → t.kept.voyage ≡ back.kept.voyage → back.kept.known ≡ released s.kept.known s.kept.undo f.mark → back.kept.undo ≡ take f.mark s.kept.undo → back.frames.items ≡ fs
      → t.kept.undo ≡ back.kept.undo ++ xs → Fixes back.kept.known t.kept.known xs → t.frames.items ≡ fs ++ record { entry = f.entry; value = y; mark = f.mark } ∷ [] → IsPosition m t
  turned back t y xs back_position same b undo frames undo' fixes frames' =
      let le : f.mark ≤ length s.kept.undo = deepest.mark in
      position_joined m back t back_position same (record { entry = f.entry; value = y; mark = f.mark }) xs (frames' ∙ ap (λ (gs : List Frame). gs ++ record { entry = f.entry; value = y; mark = f.mark } ∷ []) (sym frames))
      (at_mark back b ∙ ap (λ (gs : List Frame). box_under m (box_along m (free_box (whole m)) gs) f) (sym frames))
      (ap (λ (us : List ℕ). length us) undo ∙ length-take-le f.mark s.kept.undo le)
      (subst (λ (gs : List Frame). last_mark m 0 gs ≤ f.mark) (sym frames) deepest.rising) (may_halve back b) undo' fixes

  pub turned_at : (back t : TreePosition) (y : Bool) → back.kept.known ≡ released s.kept.known s.kept.undo f.mark → t.kept.known ≡ divided back.kept.known (end_of (number_of m) f.entry.end) y
      → t.frames.items ≡ fs ++ record { entry = f.entry; value = y; mark = f.mark } ∷ [] → t.kept.known ≡ box_along m (free_box (whole m)) t.frames.items
  turned_at back t y b half frames' =
      half ∙ ap (λ (d : Box). divided d (end_of (number_of m) f.entry.end) y) (at_mark back b)
      ∙ sym (along_more m (free_box (whole m)) fs (record { entry = f.entry; value = y; mark = f.mark })) ∙ ap (box_along m (free_box (whole m))) (sym frames')

-- ## A record done again

module _ (m : Voyage) (s u t : TreePosition) (f : Frame) (position : IsPosition m s) (xs ys : List ℕ) (at : s.kept.known ≡ box_along m (free_box (whole m)) s.frames.items)
    (same : u.kept.voyage ≡ s.kept.voyage) (tight : u.kept.known ≡ tightened (whole m) s.kept.known f.entry.steps) (undo : u.kept.undo ≡ s.kept.undo ++ xs) (fixes : Fixes s.kept.known u.kept.known xs) (frames : u.frames.items ≡ s.frames.items) where
  pub tightened_position : IsPosition m u
  tightened_position = position_fixed m s u position same xs undo fixes frames

  under : u.kept.known ≡ box_under m (box_along m (free_box (whole m)) s.frames.items) f
  under = tight ∙ ap (λ (d : Box). tightened (whole m) d f.entry.steps) at

  pub redone : t.kept.voyage ≡ u.kept.voyage → length u.kept.undo ≡ f.mark → Divides (whole m) u.kept.known (end_of (number_of m) f.entry.end) → t.kept.undo ≡ u.kept.undo ++ ys → Fixes u.kept.known t.kept.known ys → t.frames.items ≡ s.frames.items ++ f ∷ [] → IsPosition m t
  redone same' mark divides undo' fixes' frames' =
      let low : last_mark m 0 u.frames.items ≤ length u.kept.undo = last_low m u.kept.known u.kept.undo (free_box (whole m)) u.frames.items tightened_position.stacked in
      position_joined m u t tightened_position same' f ys (frames' ∙ ap (λ (gs : List Frame). gs ++ f ∷ []) (sym frames)) (under ∙ ap (λ (gs : List Frame). box_under m (box_along m (free_box (whole m)) gs) f) (sym frames))
      mark (omega arith) divides undo' fixes'

  pub redone_at : t.kept.known ≡ divided u.kept.known (end_of (number_of m) f.entry.end) f.value → t.frames.items ≡ s.frames.items ++ f ∷ [] → t.kept.known ≡ box_along m (free_box (whole m)) t.frames.items
  redone_at half frames' =
      half ∙ ap (λ (d : Box). divided d (end_of (number_of m) f.entry.end) f.value) under ∙ sym (along_more m (free_box (whole m)) s.frames.items f) ∙ ap (box_along m (free_box (whole m))) (sym frames')

-- ## The first frames alone

pub position_first : (m : Voyage) (s t : TreePosition) (n : ℕ) → IsPosition m s → t.kept.voyage ≡ s.kept.voyage → t.kept.known ≡ s.kept.known → t.kept.undo ≡ s.kept.undo → t.frames.items ≡ take n s.frames.items → IsPosition m t
position_first m s t n position same b undo frames = record {
  voyage = same ∙ position.voyage;
  bottom = ap (λ (d : Box). released d t.kept.undo 0) b ∙ ap (λ (us : List ℕ). released s.kept.known us 0) undo ∙ position.bottom;
  stacked = subst (λ (d : Box). Stacked m d t.kept.undo 0 (free_box (whole m)) t.frames.items) (sym b) (subst (λ (us : List ℕ). Stacked m s.kept.known us 0 (free_box (whole m)) t.frames.items) (sym undo)
      (subst (λ (gs : List Frame). Stacked m s.kept.known s.kept.undo 0 (free_box (whole m)) gs) (sym frames) (first_stacked m s.kept.known s.kept.undo 0 (free_box (whole m)) (take n s.frames.items) (drop n s.frames.items)
      (subst (λ (gs : List Frame). Stacked m s.kept.known s.kept.undo 0 (free_box (whole m)) gs) (sym (take-append-drop n s.frames.items)) position.stacked))));
}

-- ## A record that divides the box is noted

pub position_noted : (m : Voyage) (s t : TreePosition) (f : Frame) → IsPosition m s → t.kept ≡ s.kept → t.frames.items ≡ s.frames.items ++ f ∷ [] → s.kept.known ≡ box_under m (box_along m (free_box (whole m)) s.frames.items) f
    → length s.kept.undo ≡ f.mark → Divides (whole m) s.kept.known (end_of (number_of m) f.entry.end) → IsPosition m t
position_noted m s t f position same frames here mark divides =
    let low : last_mark m 0 s.frames.items ≤ length s.kept.undo = last_low m s.kept.known s.kept.undo (free_box (whole m)) s.frames.items position.stacked in
    position_joined m s t position (ap (λ (k : Kept). k.voyage) same) f [] frames here mark (omega arith) divides
    (ap (λ (k : Kept). k.undo) same ∙ sym (append-nil s.kept.undo))
    (subst (λ (b : Box). Fixes s.kept.known b []) (sym (ap (λ (k : Kept). k.known) same)) (fixes_none s.kept.known))
