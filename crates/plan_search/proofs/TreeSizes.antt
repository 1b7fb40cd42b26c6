-- How many records a tree has.
use Rattle.std.proofs.Common.{◌≡◌, ℕ, ◌+◌, ◌*◌, ◌≤◌, Bool, true, false, cond, List, [], ◌∷◌, length, refl, arith, suc}
use Rattle.proof_trees.specs.Program.{Program}
use Rattle.proof_trees.specs.Trees.{End, Leaf, Left, Branch, Entry, Pending}
use Rattle.search_core.specs.Bags.{weigh}
use Rattle.search_core.specs.Journals.{branches, is_left, child}
use Rattle.search_core.specs.Along.{HoldAll}

-- 1 for a record that wasn't left open
abbrev pub counts : End → ℕ
counts end = cond (is_left end) 0 1

abbrev one_more : End → ℕ → ℕ
one_more end k = cond (branches end) (suc (suc k)) k

divided_counts : (end : End) (k l h : ℕ) → l ≤ 2 * h + one_more end k → suc l ≤ 2 * (counts end + h) + suc k
divided_counts Leaf k l h le = omega arith
divided_counts Left k l h le = omega arith
divided_counts (Branch v) k l h le = omega arith

waiting_length : {A : Type 0} (end : End) (a b : A) (waiting : List A) → length (cond (branches end) (a ∷ b ∷ waiting) waiting) ≡ one_more end (length waiting)
waiting_length Leaf a b waiting = refl
waiting_length Left a b waiting = refl
waiting_length (Branch v) a b waiting = refl

-- the trees of boxes have at most as many records as there are boxes, and twice as many as weren't left open
pub few_records : {R : Type 0} (same : R → R → Bool) (p : Program R) (P : Bool → Pending R → Entry R → Type 0) (top : Bool) (waiting : List (Pending R)) (es : List (Entry R)) → HoldAll same p P top waiting es
    → length es ≤ 2 * weigh (λ e. counts e.end) es + length waiting
few_records same p P top [] [] h = omega arith
few_records same p P top [] (e ∷ es) h = absurd h
few_records same p P top (q ∷ waiting) [] h = absurd h
few_records same p P top (q ∷ waiting) (e ∷ es) h =
    let rest = few_records same p P false _ es h.1 in
    let boxes = waiting_length e.end (child same p q e true) (child same p q e false) waiting in
    divided_counts e.end (length waiting) (length es) (weigh (λ (r : Entry _). counts r.end) es) (omega (arith, rest, boxes))
