use Rattle.std.proofs.Common.{◌≡◌, ◌≤◌, ◌<◌, ◌+◌, ◌++◌, ◌∷◌, [], subst, sym, arith, refl}
use Rattle.std.specs.Prelude.{filter}
use Rattle.std.proofs.lemmas.Bool.{ltb-true}
use Rattle.stow_data.specs.Shipment.{IsCargo}
use Rattle.zero_one_rows.specs.declared.program.Row.{Row}
use Rattle.zero_one_rows.specs.declared.program.Var.{Var}
use Rattle.zero_one_rows.specs.Variables.{Voyage, var}
use Rattle.zero_one_rows.proofs.VariableList.{var_listed}
use Rattle.zero_one_model.specs.Runs.{at_call, meets}
use Rattle.zero_one_model.proofs.Sized.{first_true}
use Rattle.zero_one_model.proofs.Gathered.{more_calls}
use Rattle.zero_one_model.proofs.model.Model.keep_run.Goals as goal

pub calls_of_run-first-requires : goal.calls_of_run-first-requires
calls_of_run-first-requires c =
    let lawful : IsCargo c.args.self.now.cargo = subst (λ (m : Voyage). IsCargo m.cargo) c.self.view_is c.obeys_rules.ensures in
    let listed = var_listed c.args.self.now c.args.x c.requires in
    let x : Var = var c.args.self.now c.args.x in
    let put : x.put < x.lifted = ltb-true x.put x.lifted (first_true _ _ listed.0) in
    let late : x.lifted ≤ 12 = omega (arith, listed.1.lifted, lawful.calls_to) in
    (refl, (subst (λ (y : Var). y.put < y.lifted) (sym c.var.ensures) put, subst (λ (y : Var). y.lifted ≤ 12) (sym c.var.ensures) late))

pub loop-k-preserved : goal.loop-k-preserved
loop-k-preserved c =
    let row : c.at_call.result ≡ at_call c.args.r.now (c.calls_of_run-first.result.0 + c.loop-k.k) = c.at_call.ensures in
    more_calls (meets c.args.self.now c.args.x) (at_call c.args.r.now) c.calls_of_run-first.result.0 c.loop-k.k c.args.list.now c.loop-k.list c.keep.new.list c.loop-k.invariant
    (subst (λ (r : Row). c.keep.new.list ≡ c.loop-k.list ++ filter (meets c.args.self.now c.args.x) (r ∷ [])) row c.in_ok-keep.ensures)
