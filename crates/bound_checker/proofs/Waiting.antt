-- Boxes that wait, while others are tightened and their multipliers changed.
use Rattle.std.proofs.Common.{◌≡◌, ℕ, ◌+◌, ◌<◌, ◌≤◌, ◌^◌, Bool, true, false, cond, List, [], ◌∷◌, ◌++◌, Some, None, length, take, drop, arith, refl, sym, ◌∙◌, ap, subst, length-append, append_assoc, append-nil}
use Rattle.std.specs.Prelude.{IfSome}
use Rattle.std.proofs.Math.Seq.{drop-append_seam, take-append_seam}
use Rattle.std.proofs.lemmas.List.{drop-append-le, take-append-le, length-set}
use Rattle.std.proofs.lemmas.List.Elements.{All-append, All-cons, All-nil}
use Rattle.proof_trees.specs.Boxes.{Box, at, fixed}
use Rattle.proof_trees.specs.Multipliers.{Multipliers, amount_of, with_amount}
use Rattle.proof_trees.specs.Trees.{Pending}
use Rattle.partial_plan.specs.Fixing.{freed, released}
use Rattle.partial_plan.proofs.Freeing.{freed_more, freed_length, fixes_one}
use Rattle.zero_one_rows.specs.declared.program.Row.{Row}
use Rattle.zero_one_rows.specs.Variables.{Voyage}
use Rattle.zero_one_rows.specs.Rows.{whole}
use Rattle.certificate.specs.Entries.{same_row}
use Rattle.bound_checker.specs.declared.prices.Change.{Change}
use Rattle.bound_checker.specs.declared.walk.Frame.{Frame}
use Rattle.dual_bound.specs.Costs.{AreSmall}
use Rattle.bound_checker.specs.Sums.{IsAside}
use Rattle.bound_checker.specs.Waits.{back_at, IsSound, Moves, Waits, AllWait}
use Rattle.certificate.proofs.RowsAlike.{same_equal}
use Rattle.bound_checker.proofs.Multiplied.{amount_with}

-- ## Changes

pub back_append : (r : Row) (n : ℕ) (k l : List Change) → back_at r n (k ++ l) ≡ back_at r (back_at r n l) k
back_append r n [] l = refl
back_append r n (c ∷ k) l = ap (λ (x : ℕ). cond (same_row c.row r) c.old x) (back_append r n k l)

pub moves_none : (m : Voyage) (ms : Multipliers Row) (k : List Change) → Moves m ms k ms k
moves_none m ms k = record { more = []; added = sym (append-nil k); back = λ r. refl; sound = All-nil (IsSound m) }

pub moves_more : (m : Voyage) (ms ns os : Multipliers Row) (k l h : List Change) → Moves m ms k ns l → Moves m ns l os h → Moves m ms k os h
moves_more m ms ns os k l h a b = record {
  more = a.more ++ b.more;
  added = b.added ∙ ap (λ (x : List Change). x ++ b.more) a.added ∙ append_assoc k a.more b.more;
  back = λ r. back_append r (amount_of same_row os r) a.more b.more ∙ ap (λ (n : ℕ). back_at r n a.more) (b.back r) ∙ a.back r;
  sound = All-append (IsSound m) a.more b.more a.sound b.sound;
}

back_one : (c : Bool) (n o a : ℕ) → (c ≡ true → o ≡ a) → cond c o (cond c n a) ≡ a
back_one true n o a h = h refl
back_one false n o a h = refl

pub moves_one : (m : Voyage) (ms : Multipliers Row) (k l : List Change) (c : Change) (n : ℕ) → (whole m).has c.row ≡ true → c.old ≤ 2 ^ 40 → c.old ≡ amount_of same_row ms c.row → l ≡ k ++ c ∷ []
    → Moves m ms k (with_amount same_row ms c.row n) l
moves_one m ms k l c n has low is e = record {
  more = c ∷ [];
  added = e;
  back = λ r. ap (λ (x : ℕ). cond (same_row c.row r) c.old x) (amount_with ms c.row r n) ∙ back_one (same_row c.row r) n c.old (amount_of same_row ms r) (λ h. is ∙ ap (λ (q : Row). amount_of same_row ms q) (same_equal c.row r h));
  sound = All-cons (IsSound m) c [] (record { named = has; low = low }) (All-nil (IsSound m));
}

-- multipliers that are alike
pub moves_alike : (m : Voyage) (ms ns os : Multipliers Row) (k l : List Change) → ((r : Row) → amount_of same_row os r ≡ amount_of same_row ns r) → Moves m ms k ns l → Moves m ms k os l
moves_alike m ms ns os k l same h = record {
  more = h.more;
  added = h.added;
  back = λ r. ap (λ (n : ℕ). back_at r n h.more) (same r) ∙ h.back r;
  sound = h.sound;
}

-- ## Boxes that wait

released_more : (b c : Box) (undo undo' xs : List ℕ) (to : ℕ) → undo' ≡ undo ++ xs → freed c xs ≡ b → to ≤ length undo → released c undo' to ≡ released b undo to
released_more b c undo undo' xs to is back le =
    ap (λ (us : List ℕ). freed c (drop to us)) is ∙ ap (λ (us : List ℕ). freed c us) (drop-append-le to undo xs le) ∙ freed_more (released b undo to) b c (drop to undo) xs refl back

length_of : (b c : Box) (xs : List ℕ) → freed c xs ≡ b → length c ≡ length b
length_of b c xs h = sym (freed_length c xs) ∙ ap (λ (x : Box). length x) h

module _ (m : Voyage) (b c : Box) (undo undo' xs : List ℕ) (ms ns : Multipliers Row) (k l : List Change) (is : undo' ≡ undo ++ xs) (back : freed c xs ≡ b) (moves : Moves m ms k ns l) where
  one_waits : (f : Frame) (q : Pending Row) → Waits m b undo ms k f q → Waits m c undo' ns l f q
  one_waits f q h =
      let r : released c undo' f.mark ≡ released b undo f.mark = released_more b c undo undo' xs f.mark is back h.mark in
      let d : drop f.changes l ≡ drop f.changes k ++ moves.more = ap (drop f.changes) moves.added ∙ drop-append-le f.changes k moves.more h.changes in
      let len_u : length undo' ≡ length undo + length xs = ap (λ (us : List ℕ). length us) is ∙ length-append undo xs in
      let len_k : length l ≡ length k + length moves.more = ap (λ (us : List Change). length us) moves.added ∙ length-append k moves.more in
      let len_b : length c ≡ length b = length_of b c xs back in
      let mark : f.mark ≤ length undo = h.mark in
      let changes : f.changes ≤ length k = h.changes in
      let inside : f.var < length b = h.inside in
      record {
        mark = omega arith;
        changes = omega arith;
        inside = omega arith;
        free = ap (λ (x : Box). at x f.var) r ∙ h.free;
        box = h.box ∙ ap (λ (x : Box). fixed x f.var false) (sym r);
        aside = subst (λ (x : Box). IfSome f.aside (IsAside m x q.multipliers)) (sym r) h.aside;
        amounts = λ r. ap (back_at r (amount_of same_row ns r)) d ∙ back_append r (amount_of same_row ns r) (drop f.changes k) moves.more ∙ ap (λ (n : ℕ). back_at r n (drop f.changes k)) (moves.back r) ∙ h.amounts r;
        small = h.small;
      }

  pub still_wait : (fs : List Frame) (qs : List (Pending Row)) → AllWait m b undo ms k fs qs → AllWait m c undo' ns l fs qs
  still_wait [] [] h = tt
  still_wait [] (q ∷ qs) h = h
  still_wait (f ∷ fs) [] h = h
  still_wait (f ∷ fs) (q ∷ qs) h =
      let mark : f.mark ≤ length undo = h.0.mark in
      let changes : f.changes ≤ length k = h.0.changes in
      let r : released c undo' f.mark ≡ released b undo f.mark = released_more b c undo undo' xs f.mark is back mark in
      let t : take f.mark undo' ≡ take f.mark undo = ap (take f.mark) is ∙ take-append-le f.mark undo xs mark in
      let u : take f.changes l ≡ take f.changes k = ap (take f.changes) moves.added ∙ take-append-le f.changes k moves.more changes in (
        one_waits f q h.0,
        subst (λ (x : Box). AllWait m x (take f.mark undo') q.multipliers (take f.changes l) fs qs) (sym r)
            (subst (λ (x : List ℕ). AllWait m (released b undo f.mark) x q.multipliers (take f.changes l) fs qs) (sym t)
            (subst (λ (x : List Change). AllWait m (released b undo f.mark) (take f.mark undo) q.multipliers x fs qs) (sym u) h.1)),
      )

-- a free variable divides the box
module _ (m : Voyage) (b : Box) (undo : List ℕ) (ms : Multipliers Row) (k : List Change) (v : ℕ) (lt : v < length b) (free : at b v ≡ None) where
  abbrev frame : Frame
  frame = record { var = v; mark = length undo; changes = length k; aside = None }

  abbrev other : Pending Row
  other = record { box = fixed b v false; multipliers = ms }

  back_all : released (fixed b v true) (undo ++ v ∷ []) (length undo) ≡ b
  back_all = ap (freed (fixed b v true)) (drop-append_seam undo (v ∷ [])) ∙ (fixes_one b v true lt free).back

  no_more : {X : Type 0} (xs : List X) → drop (length xs) xs ≡ []
  no_more [] = refl
  no_more (x ∷ xs) = no_more xs

  whole_list : {X : Type 0} (xs : List X) → take (length xs) xs ≡ xs
  whole_list [] = refl
  whole_list (x ∷ xs) = ap (λ ys. x ∷ ys) (whole_list xs)

  half_waits : AreSmall m ms → Waits m (fixed b v true) (undo ++ v ∷ []) ms k frame other
  half_waits small =
      let l : length (undo ++ v ∷ []) ≡ length undo + 1 = length-append undo (v ∷ []) in
      let n : length (fixed b v true) ≡ length b = length-set b v (Some true) in
      record {
        mark = omega arith;
        changes = omega arith;
        inside = omega arith;
        free = ap (λ (x : Box). at x v) back_all ∙ free;
        box = ap (λ (x : Box). fixed x v false) (sym back_all);
        amounts = λ r. ap (back_at r (amount_of same_row ms r)) (no_more k);
        aside = tt;
        small = small;
      }

  pub divided : (fs : List Frame) (qs : List (Pending Row)) → AreSmall m ms → AllWait m b undo ms k fs qs → AllWait m (fixed b v true) (undo ++ v ∷ []) ms k (frame ∷ fs) (other ∷ qs)
  divided fs qs small h = (
    half_waits small,
    subst (λ (x : Box). AllWait m x (take (length undo) (undo ++ v ∷ [])) ms (take (length k) k) fs qs) (sym back_all)
        (subst (λ (x : List ℕ). AllWait m b x ms (take (length k) k) fs qs) (sym (take-append_seam undo (v ∷ [])))
        (subst (λ (x : List Change). AllWait m b undo ms x fs qs) (sym (whole_list k)) h)),
  )
