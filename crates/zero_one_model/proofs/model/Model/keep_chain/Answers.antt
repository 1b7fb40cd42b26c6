use Rattle.std.proofs.Common.{◌≡◌, ◌<◌, ◌∙◌, ◌++◌, List, false, ap, subst, sym, refl, length}
use Rattle.std.proofs.lemmas.List.{append-nil}
use Rattle.zero_one_rows.specs.declared.program.Row.{Row}
use Rattle.zero_one_rows.specs.declared.program.Var.{Var}
use Rattle.zero_one_rows.specs.Variables.{var, all_kinds}
use Rattle.zero_one_rows.specs.Crossing.{crosses}
use Rattle.zero_one_rows.proofs.VariableList.{var_listed}
use Rattle.zero_one_model.proofs.Gathered.{no_crossing}
use Rattle.zero_one_model.proofs.model.Model.keep_chain.Goals as goal

pub crosses_at-requires : goal.crosses_at-requires
crosses_at-requires c = (refl, subst (λ (x : Var). x.kind < length (all_kinds c.args.self.now)) (sym c.var.ensures) (var_listed c.args.self.now c.args.x c.requires).1.kind)

pub returns-then-not-crosses_at : goal.returns-then-not-crosses_at
returns-then-not-crosses_at c =
    let none : crosses c.args.self.now c.args.foot c.args.chain.now (var c.args.self.now c.args.x) ≡ false = ap (λ (x : Var). crosses c.args.self.now c.args.foot c.args.chain.now x) (sym c.var.ensures) ∙ sym c.crosses_at.ensures ∙ c.if-not-crosses_at.true in
    sym (ap (λ (rs : List Row). c.args.list.now ++ rs) (no_crossing c.args.self.now c.args.x c.args.foot c.args.chain.now none) ∙ append-nil c.args.list.now)
