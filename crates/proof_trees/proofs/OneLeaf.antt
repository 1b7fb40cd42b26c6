-- The leaf of the program of one variable proves the bound 1, and its row fixes the variable at 1. For tests.
use Rattle.std.proofs.Common.{◌≡◌, ℕ, Bool, true, [], ◌∷◌, pos, arith, refl, subst}
use Rattle.std.specs.Prelude.{ℤ, ◌==◌}
use Rattle.std.proofs.lemmas.List.Elements.{All-nil, All-cons}
use Rattle.proof_trees.specs.Trees.{Proves}
use Rattle.proof_trees.specs.Boxes.{at, free_box, Allows, Inside, AreRows}
use Rattle.proof_trees.specs.OneVariable.{one_variable, leaf}

abbrev Has : ℕ → Type 0
Has r = one_variable.has r ≡ true

abbrev HasRaised : ℕ × ℤ → Type 0
HasRaised r = one_variable.has r.0 ≡ true

pub row_is : AreRows one_variable (0 ∷ [])
row_is = All-cons Has 0 [] refl (All-nil Has)

pub leaf_proves : Proves (λ (a b : ℕ). a == b) one_variable leaf 1
leaf_proves = (All-nil Has, All-cons HasRaised (0, pos 16) [] refl (All-nil HasRaised), (omega arith, tt))

pub free_inside : (x : ℕ → Bool) → Inside one_variable (free_box one_variable) x
free_inside x v lt =
    let e : 0 ≡ v = omega arith in
    subst (λ (u : ℕ). Allows (at (free_box one_variable) u) (x u)) e tt
