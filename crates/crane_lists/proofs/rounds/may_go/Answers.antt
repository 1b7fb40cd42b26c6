use Rattle.std.proofs.Common.{◌∙◌, false}
use Rattle.std.proofs.lemmas.Option.{get_or_from_slice_get}
use Rattle.crane_lists.proofs.Steps.{board_set, go_answer}
use Rattle.crane_lists.proofs.rounds.may_go.Goals as goal

pub first_holding-first-requires-clause-settled : goal.first_holding-first-requires-clause-settled
first_holding-first-requires-clause-settled c = λ i lt. c.requires.board.settled c.args.j c.at-2.result.now i c.at-2.ensures lt

pub returns-clause-answer : goal.returns-clause-answer
returns-clause-answer c = go_answer c.args.ship.now c.args.tasks.now c.args.board.now.done c.args.j c.first_holding-first.result c.requires.inside (get_or_from_slice_get c.args.board.now.done c.args.j c.at.result.now false c.at.ensures ∙ c.if-at.false) c.first_holding-first.ensures.inside c.first_holding-first.ensures.settled c.first_holding-first.ensures.holds

pub returns-clause-board : goal.returns-clause-board
returns-clause-board c = board_set c.args.ship.now c.args.tasks.now c.args.board.now.done c.args.board.now.clear_to c.set.new.self c.args.j c.first_holding-first.result c.requires.board c.first_holding-first.ensures.inside c.first_holding-first.ensures.settled c.set.ensures
