use Rattle.std.proofs.Common.{◌≡◌, ◌<◌, ◌∙◌, ◌++◌, ◌&&◌, List, false, ap, subst, sym, refl, length}
use Rattle.std.proofs.lemmas.List.{append-nil}
use Rattle.stow_data.specs.Ship.{same_length}
use Rattle.zero_one_rows.specs.declared.program.Row.{Row}
use Rattle.zero_one_rows.specs.declared.program.Var.{Var}
use Rattle.zero_one_rows.specs.Variables.{var, kind, calls, all_kinds, is_rehandled}
use Rattle.zero_one_rows.specs.Crossing.{length_of}
use Rattle.zero_one_rows.proofs.VariableList.{var_listed}
use Rattle.zero_one_rows.specs.Counted.{all_chains}
use Rattle.zero_one_model.proofs.Gathered.{no_crossings}
use Rattle.zero_one_model.proofs.model.Model.keep_chains.Goals as goal

pub may_cross_at-requires : goal.may_cross_at-requires
may_cross_at-requires c = (refl, subst (λ (x : Var). x.kind < length (all_kinds c.args.self.now)) (sym c.var.ensures) (var_listed c.args.self.now c.args.x c.requires).1.kind)

pub returns-then-not-may_cross_at : goal.returns-then-not-may_cross_at
returns-then-not-may_cross_at c =
    let none : (same_length (length_of c.args.foot) (kind c.args.self.now (var c.args.self.now c.args.x).kind).long && is_rehandled c.args.self.now (var c.args.self.now c.args.x)) ≡ false
    = ap (λ (x : Var). same_length (length_of c.args.foot) (kind c.args.self.now x.kind).long && is_rehandled c.args.self.now x) (sym c.var.ensures) ∙ sym c.may_cross_at.ensures ∙ c.if-not-may_cross_at.true in
    sym (ap (λ (rs : List Row). c.args.list.now ++ rs) (no_crossings c.args.self.now c.args.x c.args.foot (all_chains (calls c.args.self.now)) none) ∙ append-nil c.args.list.now)
