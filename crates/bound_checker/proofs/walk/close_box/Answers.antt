use Rattle.std.proofs.Common.{rules, arith, SFits, ◌≤ℤ◌}
use Rattle.std.specs.Int.{w128}
use Rattle.std.proofs.lemmas.Int.{to_z-of_z}
use borrow.Author.Differences.{ints}
use Rattle.bound_checker.specs.Faults.{needed}
use Rattle.bound_checker.proofs.Bounding.{closes_up_to}
use Rattle.bound_checker.proofs.walk.close_box.Goals as goal

pub returns : goal.returns
returns c = λ m b ms carries.
    let f : SFits w128 c.value-value.result = search rules in
    let from : needed c.args.bounds.low ≤ℤ c.value-value.result = omega (arith, ints, c.needed_value-needed.ensures, c.if-value-needed.false) in
    closes_up_to m c.args.node b ms c.value-value.result (c.value-value.ensures m b ms carries) c.args.bounds.low c.args.bounds.high c.closing_bound.result c.requires from
    c.closing_bound.ensures.low (simp to_z-of_z at c.closing_bound.ensures.closes) (simp to_z-of_z at c.closing_bound.ensures.greatest)
