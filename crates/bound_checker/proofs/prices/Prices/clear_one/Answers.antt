use Rattle.std.proofs.Common.{rules, arith, SFits, w64, ◌≡◌, ◌∙◌, refl, sym, [], ◌∷◌, ◌++◌}
use Rattle.std.proofs.lemmas.Int.{to_z-of_z}
use Rattle.zero_one_rows.specs.Variables.{Voyage}
use Rattle.proof_trees.specs.Boxes.{Box}
use Rattle.proof_trees.specs.Multipliers.{with_amount}
use Rattle.bound_checker.specs.declared.sums.Sums.{Sums}
use Rattle.bound_checker.specs.declared.prices.Change.{Change}
use Rattle.certificate.specs.Entries.{same_row}
use Rattle.bound_checker.proofs.Raising.{out_low, out_named, out_none, out_sum, out_some}
use Rattle.bound_checker.proofs.Waiting.{moves_one, moves_more}
use Rattle.bound_checker.proofs.prices.Prices.clear_one.Goals as goal

pub turned-requires : goal.turned-requires
turned-requires c =
    let s : Sums = c.args.self.now.sums in
    let t : Sums = record { amounts = c.take_first.new.self; costs = s.costs; blank = s.blank; rows = s.rows } in
    out_low c.args.model.now c.args.b.now c.requires.carries.0 s t c.in-Some.row c.in-Some.amount c.requires.carries.1 c.in-Some.ensures.was c.in-Some.ensures.rest

pub add_row-requires-clause-row : goal.add_row-requires-clause-row
add_row-requires-clause-row c =
    let s : Sums = c.args.self.now.sums in
    let t : Sums = record { amounts = c.take_first.new.self; costs = s.costs; blank = s.blank; rows = s.rows } in
    out_named c.args.model.now c.args.b.now c.requires.carries.0 s t c.in-Some.row c.in-Some.amount c.requires.carries.1 c.in-Some.ensures.was c.in-Some.ensures.rest c.if-amount-gt0.true

pub add_row-requires-clause-whole : goal.add_row-requires-clause-whole
add_row-requires-clause-whole c = c.requires.carries.1.whole

pub add_row-requires-clause-rows : goal.add_row-requires-clause-rows
add_row-requires-clause-rows c = c.requires.carries.1.rows

pub add_row-requires-clause-priced : goal.add_row-requires-clause-priced
add_row-requires-clause-priced c = (c.requires.carries.0, c.requires.carries.1.priced)

pub returns-in_ok-push-clause-holds : goal.returns-in_ok-push-clause-holds
returns-in_ok-push-clause-holds c = λ first ms k holds.
    let m : Voyage = c.args.model.now in
    let b : Box = c.args.b.now in
    let s : Sums = c.args.self.now.sums in
    let t : Sums = record { amounts = c.take_first.new.self; costs = s.costs; blank = s.blank; rows = s.rows } in
    let f : SFits w64 c.turned.result = search rules in
    let one : Change = record { row = c.in-Some.row; old = c.in-Some.amount } in
    let e : c.push.new.self.items ≡ c.args.self.now.changes.items ++ one ∷ [] = search rules in
    let was = c.in-Some.ensures.was in
    let rest = c.in-Some.ensures.rest in
    let a = c.in_ok-add_row.ensures in
    let priced = simp to_z-of_z at a.priced in (
      with_amount same_row ms c.in-Some.row 0,
      record {
        carries = out_some m b ms s t c.in-Some.row c.in-Some.amount holds.carries was rest c.add_row.new.self a.amounts
            (priced ms 0 holds.carries.priced (out_sum m b ms s t c.in-Some.row c.in-Some.amount holds.carries was rest c.turned.result c.turned.ensures.value) (omega arith)) c.add_row.ensures.blank c.add_row.ensures.rows;
        moves = moves_more m first ms (with_amount same_row ms c.in-Some.row 0) k c.args.self.now.changes.items c.push.new.self.items holds.moves
            (moves_one m ms c.args.self.now.changes.items c.push.new.self.items one 0 (out_named m b ms s t c.in-Some.row c.in-Some.amount holds.carries was rest c.if-amount-gt0.true) (out_low m b ms s t c.in-Some.row c.in-Some.amount holds.carries was rest) (sym was ∙ holds.carries.amounts c.in-Some.row) e);
      },
    )

pub returns-else-amount-gt0-clause-holds : goal.returns-else-amount-gt0-clause-holds
returns-else-amount-gt0-clause-holds c = λ first ms k holds.
    let s : Sums = c.args.self.now.sums in
    let t : Sums = record { amounts = c.take_first.new.self; costs = s.costs; blank = s.blank; rows = s.rows } in
    let none : c.in-Some.amount ≡ 0 = omega (arith, c.if-amount-gt0.false) in
    (ms, record { carries = out_none c.args.model.now c.args.b.now ms s t c.in-Some.row c.in-Some.amount holds.carries c.in-Some.ensures.was c.in-Some.ensures.rest refl refl refl none; moves = holds.moves })
