use Rattle.std.proofs.Common.{◌≡◌, subst}
use Rattle.zero_one_rows.specs.Variables.{Voyage}
use Rattle.bound_checker.specs.Named.{IsNamed}
use Rattle.bound_checker.proofs.Named.{each_is}
use Rattle.bound_checker.proofs.named_rows.NamedRows.at.Goals as goal

pub returns-then-place-len-clause-listed : goal.returns-then-place-len-clause-listed
returns-then-place-len-clause-listed c =
    let m : Voyage = c.self.inside.model.now in
    let v : m ≡ c.args.self.now = c.self.view_is in
    c.listed.ensures.listed c.args.self.now (subst (λ (w : Voyage). IsNamed w c.at.result.now) v (each_is (IsNamed m) c.self.inside.rows _ c.at.result.now c.self.invariant c.at.ensures))
