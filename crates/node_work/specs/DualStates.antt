-- Multipliers that are kept from node to node, with the raises that lead to them. No public clause cites this module.
use Rattle.std.specs.Prelude.{◌≡◌, true, false, All, IfSome, List, [], ◌∷◌, Some, length, map}
use Rattle.zero_one_rows.specs.declared.program.Row.{Row}
use Rattle.zero_one_rows.specs.Variables.{Voyage, variables}
use Rattle.zero_one_rows.specs.Rows.{whole}
use Rattle.proof_trees.specs.Multipliers.{Multipliers, raised_all}
use Rattle.certificate.specs.declared.tree.Record.{Record}
use Rattle.certificate.specs.Entries.{same_row, raise_of}
use Rattle.node_work.specs.declared.dual_state.DualState.{DualState}
use Rattle.node_work.specs.declared.stages.Stage.{Stage}

-- these stages have the raises of these records, none of which begins from none
abbrev pub Matches : List Stage → List Record → Type 0
Matches [] [] = Unit {0}
Matches [] (r ∷ trail) = ⊥
Matches (s ∷ stages) [] = ⊥
Matches (s ∷ stages) (r ∷ trail) = (r.from_zero ≡ false) × (s.raises ≡ r.raises) × Matches stages trail

module _ (m : Voyage) where
  -- the raises are of rows of the program
  abbrev pub AreNamed : List Record → Type 0
  AreNamed [] = Unit {0}
  AreNamed (r ∷ trail) = All (λ x. (whole m).has x.row ≡ true) r.raises × AreNamed trail

  -- from the first multipliers, the raises of these stages, which are of rows of the program, lead to the second
  abbrev pub Staged : Multipliers Row → List Stage → Multipliers Row → Type 0
  Staged ms [] us = us ≡ ms
  Staged ms (s ∷ stages) us = (length ms ≡ s.before) × All (λ x. (whole m).has x.row ≡ true) s.raises × ((ns : Multipliers Row) × (raised_all same_row (Some ms) (map raise_of s.raises) ≡ Some ns) × Staged ns stages us)

  -- the gauge is of the program, and the stages lead from no multipliers to its own
  pub record IsDualState (s : DualState) : Type 0 where
    pub voyage : s.gauge.voyage ≡ m
    pub whole : length s.gauge.box ≡ length (variables m)
    pub staged : IfSome s.stages (λ v. Staged [] v.items s.gauge.multipliers)
