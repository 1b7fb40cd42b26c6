-- Each row of the program stands in its list of rows, so multipliers of different rows are no more than these.
use Rattle.std.proofs.Common.{◌≡◌, ◌+◌, ◌≤◌, true, false, List, [], ◌∷◌, length, arith, sym, ◌∙◌, ap, inl, inr}
use Rattle.stow_data.proofs.Members.{Member}
use Rattle.zero_one_rows.specs.declared.program.Row.{Row}
use Rattle.zero_one_rows.specs.Variables.{Voyage}
use Rattle.zero_one_rows.specs.Counted.{all_rows}
use Rattle.zero_one_rows.proofs.EveryRow.{row_listed}
use Rattle.proof_trees.specs.Multipliers.{Multipliers}
use Rattle.certificate.specs.Entries.{same_row}
use Rattle.dual_bound.specs.Raising.{Lacks, AreMultipliers}
use Rattle.certificate.proofs.RowsAlike.{same_itself}

-- ## Different rows of a list are no more than its rows

without : {X : Type 0} (xs : List X) (x : X) → Member x xs → List X
without [] x h = []
without (y ∷ ys) x (inl e) = ys
without (y ∷ ys) x (inr h) = y ∷ without ys x h

length_without : {X : Type 0} (xs : List X) (x : X) (h : Member x xs) → length (without xs x h) + 1 ≡ length xs
unfolding without
length_without [] x h = absurd h
length_without (y ∷ ys) x (inl e) = omega arith
length_without (y ∷ ys) x (inr h) = omega (arith, length_without ys x h)

member_without : {X : Type 0} (xs : List X) (x y : X) (h : Member x xs) → (y ≡ x → ⊥) → Member y xs → Member y (without xs x h)
unfolding without
member_without [] x y h ne k = k
member_without (z ∷ zs) x y (inl e) ne (inl f) = absurd (ne (f ∙ sym e))
member_without (z ∷ zs) x y (inl e) ne (inr k) = k
member_without (z ∷ zs) x y (inr h) ne (inl f) = inl f
member_without (z ∷ zs) x y (inr h) ne (inr k) = inr (member_without zs x y h ne k)

abbrev AllIn : Multipliers Row → List Row → Type 0
AllIn [] rows = Unit {0}
AllIn (x ∷ ms) rows = Member x.0 rows × AllIn ms rows

others_in : (m : Voyage) (ms : Multipliers Row) (rows : List Row) (r : Row) (h : Member r rows) → Lacks ms r → AllIn ms rows → AllIn ms (without rows r h)
others_in m [] rows r h lacks all = tt
others_in m (x ∷ ms) rows r h lacks all =
    (member_without rows r x.0 h (λ e. let a : same_row x.0 r ≡ true = ap (λ (y : Row). same_row x.0 y) (sym e) ∙ same_itself x.0 in let b : same_row x.0 r ≡ false = lacks.0 in let bad : ⊥ = cc in bad) all.0, others_in m ms rows r h lacks.1 all.1)

no_more : (m : Voyage) (ms : Multipliers Row) (rows : List Row) → AreMultipliers m ms → AllIn ms rows → length ms ≤ length rows
no_more m [] rows are all = omega arith
no_more m (x ∷ ms) rows are all = omega (arith, length_without rows x.0 all.0, no_more m ms (without rows x.0 all.0) are.3 (others_in m ms rows x.0 all.0 are.2 all.1))

all_in : (m : Voyage) (ms : Multipliers Row) → AreMultipliers m ms → AllIn ms (all_rows m)
all_in m [] are = tt
all_in m (x ∷ ms) are = (row_listed m x.0 are.0, all_in m ms are.3)

pub few_multipliers : (m : Voyage) (ms : Multipliers Row) → AreMultipliers m ms → length ms ≤ length (all_rows m)
few_multipliers m ms are = no_more m ms (all_rows m) are (all_in m ms are)
