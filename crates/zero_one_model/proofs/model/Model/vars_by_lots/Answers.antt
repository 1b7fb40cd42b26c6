use Rattle.std.proofs.Common.{◌≡◌, ◌∙◌, ◌++◌, ℕ, List, [], ap, sym}
use Rattle.std.specs.Prelude.{filter}
use Rattle.std.proofs.lemmas.List.{append-nil}
use Rattle.zero_one_model.specs.Indexed.{stands}
use Rattle.zero_one_model.proofs.LotVariables.{all_lots, all_lots_candidates}
use Rattle.zero_one_model.proofs.Selected.{selected_each, selected_once}
use Rattle.zero_one_model.proofs.model.Model.vars_by_lots.Goals as goal

pub returns-clause-each : goal.returns-clause-each
returns-clause-each c =
    let all : List ℕ = all_lots c.args.self.now in
    let made : c.select_lots.new.list ≡ filter (stands c.args.self.now c.args.r.now) (all ++ []) = c.in_ok-select_lots.ensures ∙ ap (λ (xs : List ℕ). xs ++ filter (stands c.args.self.now c.args.r.now) all) c.new-list.ensures ∙ ap (filter (stands c.args.self.now c.args.r.now)) (sym (append-nil all)) in
    selected_each c.args.self.now c.args.r.now all [] (all_lots_candidates c.args.self.now c.args.r.now) c.requires.row c.select_lots.new.list made

pub returns-clause-once : goal.returns-clause-once
returns-clause-once c =
    let all : List ℕ = all_lots c.args.self.now in
    let made : c.select_lots.new.list ≡ filter (stands c.args.self.now c.args.r.now) (all ++ []) = c.in_ok-select_lots.ensures ∙ ap (λ (xs : List ℕ). xs ++ filter (stands c.args.self.now c.args.r.now) all) c.new-list.ensures ∙ ap (filter (stands c.args.self.now c.args.r.now)) (sym (append-nil all)) in
    selected_once c.args.self.now c.args.r.now all [] (all_lots_candidates c.args.self.now c.args.r.now) c.select_lots.new.list made
