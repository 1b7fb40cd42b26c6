use Rattle.std.proofs.Common.{◌≡◌, ◌<◌, ◌∙◌, ◌++◌, ℕ, List, true, ap, sym, subst, refl, length}
use Rattle.std.specs.Prelude.{filter, All}
use Rattle.std.proofs.lemmas.List.Elements.{filter-append}
use Rattle.zero_one_rows.specs.Variables.{Voyage, variables}
use Rattle.zero_one_model.specs.Built.{voyage_of}
use Rattle.zero_one_rows.specs.Rows.{whole}
use Rattle.zero_one_model.specs.Indexed.{IsCandidates, second_of, stands}
use Rattle.zero_one_model.proofs.Selected.{chosen_parts, left_inside, right_inside, selected_each, selected_once}
use Rattle.zero_one_model.proofs.model.Model.vars_by_keys.Goals as goal

pub select-requires-clause-inside : goal.select-requires-clause-inside
select-requires-clause-inside c =
    let v : Voyage = voyage_of c.self.inside in
    let has : (whole v).has c.args.r.now ≡ true = subst (λ (w : Voyage). (whole w).has c.args.r.now ≡ true) (sym c.self.view_is) c.requires.row in
    let both : IsCandidates v c.args.r.now (c.first.result.now ++ second_of c.self.inside.ship.now c.self.inside.index c.args.r.now) = chosen_parts v c.obeys_rules.ensures c.self.invariant.arrival c.self.inside.index c.self.invariant.index c.args.r.now c.requires.keyed has c.first.result.now (second_of c.self.inside.ship.now c.self.inside.index c.args.r.now) c.first.ensures refl in
    subst (λ (w : Voyage). All (λ (z : ℕ). z < length (variables w)) c.first.result.now) c.self.view_is (left_inside v c.args.r.now c.first.result.now (second_of c.self.inside.ship.now c.self.inside.index c.args.r.now) both)

pub select-requires-2-clause-inside : goal.select-requires-2-clause-inside
select-requires-2-clause-inside c =
    let v : Voyage = voyage_of c.self.inside in
    let has : (whole v).has c.args.r.now ≡ true = subst (λ (w : Voyage). (whole w).has c.args.r.now ≡ true) (sym c.self.view_is) c.requires.row in
    let both : IsCandidates v c.args.r.now (c.first.result.now ++ c.second.result.now) = chosen_parts v c.obeys_rules.ensures c.self.invariant.arrival c.self.inside.index c.self.invariant.index c.args.r.now c.requires.keyed has c.first.result.now c.second.result.now c.first.ensures c.second.ensures in
    subst (λ (w : Voyage). All (λ (z : ℕ). z < length (variables w)) c.second.result.now) c.self.view_is (right_inside v c.args.r.now c.first.result.now c.second.result.now both)

pub returns-clause-each : goal.returns-clause-each
returns-clause-each c =
    let v : Voyage = voyage_of c.self.inside in
    let has : (whole v).has c.args.r.now ≡ true = subst (λ (w : Voyage). (whole w).has c.args.r.now ≡ true) (sym c.self.view_is) c.requires.row in
    let both : IsCandidates v c.args.r.now (c.first.result.now ++ c.second.result.now) = chosen_parts v c.obeys_rules.ensures c.self.invariant.arrival c.self.inside.index c.self.invariant.index c.args.r.now c.requires.keyed has c.first.result.now c.second.result.now c.first.ensures c.second.ensures in
    let made : c.select-2.new.list ≡ filter (stands c.args.self.now c.args.r.now) (c.first.result.now ++ c.second.result.now) =
    c.in_ok-select-2.ensures ∙ ap (λ (xs : List ℕ). xs ++ filter (stands c.args.self.now c.args.r.now) c.second.result.now) (c.in_ok-select.ensures ∙ ap (λ (xs : List ℕ). xs ++ filter (stands c.args.self.now c.args.r.now) c.first.result.now) c.new-list.ensures) ∙ sym (filter-append (stands c.args.self.now c.args.r.now) c.first.result.now c.second.result.now) in
    let here : IsCandidates c.args.self.now c.args.r.now (c.first.result.now ++ c.second.result.now) = subst (λ (w : Voyage). IsCandidates w c.args.r.now (c.first.result.now ++ c.second.result.now)) c.self.view_is both in
    selected_each c.args.self.now c.args.r.now c.first.result.now c.second.result.now here c.requires.row c.select-2.new.list made

pub returns-clause-once : goal.returns-clause-once
returns-clause-once c =
    let v : Voyage = voyage_of c.self.inside in
    let has : (whole v).has c.args.r.now ≡ true = subst (λ (w : Voyage). (whole w).has c.args.r.now ≡ true) (sym c.self.view_is) c.requires.row in
    let both : IsCandidates v c.args.r.now (c.first.result.now ++ c.second.result.now) = chosen_parts v c.obeys_rules.ensures c.self.invariant.arrival c.self.inside.index c.self.invariant.index c.args.r.now c.requires.keyed has c.first.result.now c.second.result.now c.first.ensures c.second.ensures in
    let made : c.select-2.new.list ≡ filter (stands c.args.self.now c.args.r.now) (c.first.result.now ++ c.second.result.now) =
    c.in_ok-select-2.ensures ∙ ap (λ (xs : List ℕ). xs ++ filter (stands c.args.self.now c.args.r.now) c.second.result.now) (c.in_ok-select.ensures ∙ ap (λ (xs : List ℕ). xs ++ filter (stands c.args.self.now c.args.r.now) c.first.result.now) c.new-list.ensures) ∙ sym (filter-append (stands c.args.self.now c.args.r.now) c.first.result.now c.second.result.now) in
    let here : IsCandidates c.args.self.now c.args.r.now (c.first.result.now ++ c.second.result.now) = subst (λ (w : Voyage). IsCandidates w c.args.r.now (c.first.result.now ++ c.second.result.now)) c.self.view_is both in
    selected_once c.args.self.now c.args.r.now c.first.result.now c.second.result.now here c.select-2.new.list made
