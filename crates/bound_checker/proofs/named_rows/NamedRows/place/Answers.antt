use Rattle.std.proofs.Common.{rules, ◌≡◌, [], ◌∷◌, ◌++◌}
use Rattle.bound_checker.specs.Named.{IsNamed}
use Rattle.bound_checker.proofs.Named.{one_more}
use Rattle.bound_checker.proofs.named_rows.NamedRows.place.Goals as goal

pub invariant_of-self-in-Ok : goal.invariant_of-self-in-Ok
invariant_of-self-in-Ok c =
    let e : c.push.new.self ≡ c.self.inside.rows ++ c.in_ok-named.named ∷ [] = search rules in
    one_more (IsNamed c.self.inside.model.now) c.self.inside.rows c.push.new.self c.in_ok-named.named c.self.invariant c.in_ok-named.ensures e
