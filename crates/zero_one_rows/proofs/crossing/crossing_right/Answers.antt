use Rattle.std.proofs.Common.{◌∙◌, ℕ, List, ap, map, w64, FitsSigned, rules}
use Rattle.std.proofs.lemmas.Int.{to_z-of_z}
use Rattle.stow_data.specs.declared.geometry.Length.{Length}
use Rattle.stow_data.specs.Ship.{Ship}
use Rattle.zero_one_rows.specs.Chains.{pairs_of}
use Rattle.zero_one_rows.specs.RightSide.{right_side}
use Rattle.zero_one_rows.specs.Crossing.{load_of, columns, tallest}
use Rattle.zero_one_rows.proofs.crossing.crossing_right.Goals as goal

pub returns-clause-value : goal.returns-clause-value
returns-clause-value g c =
    let fits : FitsSigned w64 c.chain_rhs.result = search rules in
    let side : List ℕ → ℕ → ℕ → _ = λ ts n h. right_side ts n h c.args.price in
    to_z-of_z w64 c.chain_rhs.result fits ∙ c.chain_rhs.ensures.value
    ∙ ap (λ (ts : List ℕ). side ts c.columns.result c.tallest.result) (c.as_slice.ensures.value ∙ c.loads-loads.ensures.value)
    ∙ ap (λ (n : ℕ). side (map (λ p. load_of g.m c.length_named-long.result p.0 p.1) (pairs_of c.args.chain.now)) n c.tallest.result) c.columns.ensures.value
    ∙ ap (λ (h : ℕ). side (map (λ p. load_of g.m c.length_named-long.result p.0 p.1) (pairs_of c.args.chain.now)) (columns c.args.ship.now c.length_named-long.result) h) c.tallest.ensures.value
    ∙ ap (λ (s : Ship). side (map (λ p. load_of g.m c.length_named-long.result p.0 p.1) (pairs_of c.args.chain.now)) (columns s c.length_named-long.result) (tallest s c.length_named-long.result)) c.requires.0
    ∙ ap (λ (l : Length). side (map (λ p. load_of g.m l p.0 p.1) (pairs_of c.args.chain.now)) (columns g.m.ship l) (tallest g.m.ship l)) c.length_named-long.ensures
