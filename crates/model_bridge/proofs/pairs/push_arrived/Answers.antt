use Rattle.std.proofs.Common.{◌≡◌, ◌∙◌, ◌∷◌, ◌++◌, ℕ, List, [], Option, Some, None, ap, sym, arith, length}
use Rattle.std.specs.Prelude.{slice_get}
use Rattle.std.proofs.lemmas.List.{append-nil}
use Rattle.stow_data.specs.Shipment.{Cargo}
use Rattle.zero_one_rows.specs.declared.program.Var.{Var}
use Rattle.zero_one_rows.proofs.VariableList.{var_listed}
use Rattle.zero_one_rows.specs.Variables.{var}
use Rattle.model_bridge.specs.Pairs.{pair_at_arrival}
use Rattle.model_bridge.proofs.Lists.{pair_is, pushed}
use Rattle.model_bridge.proofs.pairs.push_arrived.Goals as goal

pub at-requires : goal.at-requires
at-requires c =
    let named = (var_listed c.args.model.now c.args.v c.requires.var).1 in
    let same = ap (λ (x : Var). x.place) (c.x.view_is ∙ c.var-x.ensures) in
    let long = ap length c.arrival.ensures in
    omega (arith, named.place, same, long, c.requires.arrival)

pub returns-in-Some : goal.returns-in-Some
returns-in-Some c =
    let e = ap (λ (x : Var). x.put) (c.x.view_is ∙ c.var-x.ensures) in
    let p = ap (λ (x : Var). x.place) (c.x.view_is ∙ c.var-x.ensures) in
    let at : slice_get c.args.model.now.cargo.arrival (var c.args.model.now c.args.v).place ≡ Some (Some c.in-Some.container) =
    ap (λ (g : Cargo). slice_get g.arrival (var c.args.model.now c.args.v).place) c.requires.cargo
    ∙ ap (λ (xs : List (Option ℕ)). slice_get xs (var c.args.model.now c.args.v).place) (sym c.arrival.ensures)
    ∙ ap (λ (n : ℕ). slice_get c.arrival.result.now n) (sym p)
    ∙ c.at.ensures ∙ ap (λ (o : Option ℕ). Some o) c.in-Some.is in
    pushed c.push.result c.args.held.now c.push.new.self ((c.args.v, c.in-Some.container) ∷ []) (pair_at_arrival c.args.model.now c.args.v) c.push.ensures
    (sym (pair_is c.args.model.now c.args.v (omega (arith, e, c.if-x-ne0.false)) (Some c.in-Some.container) at))

pub returns-in-None : goal.returns-in-None
returns-in-None c =
    let e = ap (λ (x : Var). x.put) (c.x.view_is ∙ c.var-x.ensures) in
    let p = ap (λ (x : Var). x.place) (c.x.view_is ∙ c.var-x.ensures) in
    let at : slice_get c.args.model.now.cargo.arrival (var c.args.model.now c.args.v).place ≡ Some None =
    ap (λ (g : Cargo). slice_get g.arrival (var c.args.model.now c.args.v).place) c.requires.cargo
    ∙ ap (λ (xs : List (Option ℕ)). slice_get xs (var c.args.model.now c.args.v).place) (sym c.arrival.ensures)
    ∙ ap (λ (n : ℕ). slice_get c.arrival.result.now n) (sym p)
    ∙ c.at.ensures ∙ ap (λ (o : Option ℕ). Some o) c.in-None.is in
    sym (ap (λ (xs : List (ℕ × ℕ)). c.args.held.now ++ xs) (pair_is c.args.model.now c.args.v (omega (arith, e, c.if-x-ne0.false)) None at) ∙ append-nil c.args.held.now)
