-- Changes of multipliers, one after the other.
use Rattle.std.proofs.Common.{◌≡◌, ℕ, ◌+◌, ◌<◌, List, length, drop, map, get_or, Option, Some, None, ℤ, refl, sym, ◌∙◌, ap}
use Rattle.zero_one_rows.specs.declared.program.Row.{Row}
use Rattle.zero_one_rows.specs.declared.program.Raise.{Raise}
use Rattle.proof_trees.specs.Multipliers.{Multipliers, raised, raised_all}
use Rattle.certificate.specs.Entries.{same_row, raise_of}
use Rattle.node_work.proofs.Folds.{rest_cons}

first_some : (o : Option (Multipliers Row)) (rs : List (Row × ℤ)) (ns : Multipliers Row) → raised_all same_row o rs ≡ Some ns → (us : Multipliers Row) × (o ≡ Some us)
first_some None rs ns e = absurd (let bad : ⊥ = cc in bad)
first_some (Some us) rs ns e = (us, refl)

module _ (ms : Multipliers Row) (raises : List Raise) (k : ℕ) (r : Raise) (lt : k < length raises) (is : r ≡ get_or raises k r) where
  first_is : raised_all same_row (Some ms) (map raise_of (drop k raises)) ≡ raised_all same_row (raised same_row ms r.row r.amount) (map raise_of (drop (k + 1) raises))
  first_is = ap (λ (rs : List Raise). raised_all same_row (Some ms) (map raise_of rs)) (rest_cons raises k r lt is)

  pub can_change : (ns : Multipliers Row) → raised_all same_row (Some ms) (map raise_of (drop k raises)) ≡ Some ns → (us : Multipliers Row) × (raised same_row ms r.row r.amount ≡ Some us)
  can_change ns e = first_some (raised same_row ms r.row r.amount) (map raise_of (drop (k + 1) raises)) ns (sym first_is ∙ e)

  pub changes : (us : Multipliers Row) → raised same_row ms r.row r.amount ≡ Some us
      → raised_all same_row (Some us) (map raise_of (drop (k + 1) raises)) ≡ raised_all same_row (Some ms) (map raise_of (drop k raises))
  changes us e = ap (λ (o : Option (Multipliers Row)). raised_all same_row o (map raise_of (drop (k + 1) raises))) (sym e) ∙ sym first_is
