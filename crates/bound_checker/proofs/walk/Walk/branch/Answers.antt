use Rattle.std.proofs.Common.{rules, ◌≡◌, false, None, Some}
use Rattle.std.specs.Prelude.{slice_get}
use Rattle.std.specs.Option.{is_none}
use Rattle.std.proofs.lemmas.Option.{get_or_from_slice_get}
use Rattle.certificate.specs.Entries.{number_of}
use Rattle.bound_checker.proofs.Numbered.{number_none, number_is}
use Rattle.bound_checker.proofs.Walks.{outside, not_free, branched}
use Rattle.bound_checker.proofs.walk.Walk.branch.Goals as goal

pub divide-requires-clause-priced : goal.divide-requires-clause-priced
divide-requires-clause-priced c = record { same = c.requires.stands.2.priced; carries = (c.requires.stands.0.multipliers, c.requires.stands.2.carries) }

pub returns-in_default : goal.returns-in_default
returns-in_default c = λ q qs stands. outside c.args.model.now c.args.bounds c.args.node q qs (number_of c.args.model.now c.args.var.now) c.args.self.now (number_none c.args.model.now c.args.var.now c.in_default.ensures)

pub returns-then-is_some : goal.returns-then-is_some
returns-then-is_some c = λ q qs stands.
    let some : is_none c.at.result ≡ false = search rules in
    not_free c.args.model.now c.args.bounds c.args.node q qs (number_of c.args.model.now c.args.var.now) c.in-Some.x c.args.self.now.b c.at.result c.args.self.now
    (number_is c.args.model.now c.args.var.now c.in-Some.x c.in-Some.ensures.0 c.in-Some.ensures.1) c.in-Some.ensures.0 stands.box (get_or_from_slice_get c.args.self.now.b c.in-Some.x c.at.result None c.at.ensures) some

pub returns : goal.returns
returns c = λ q qs stands.
    let none : slice_get c.args.self.now.b c.in-Some.x ≡ Some None = search rules in
    branched c.args.model.now c.args.bounds c.args.node c.args.self.now c.divide.new.self q qs (number_of c.args.model.now c.args.var.now) c.in-Some.x stands
    (number_is c.args.model.now c.args.var.now c.in-Some.x c.in-Some.ensures.0 c.in-Some.ensures.1) c.in-Some.ensures.0 (get_or_from_slice_get c.args.self.now.b c.in-Some.x None None none) c.in_ok-divide.ensures c.requires.order
