use Rattle.std.proofs.Common.{◌≡◌, true, ◌++◌, ◌∷◌, [], ap, sym, subst, ◌∙◌, rules}
use Rattle.std.specs.Prelude.{is_some}
use Rattle.shared_search.specs.declared.view.View.{View}
use Rattle.shared_search.specs.Rule.{one_over}
use Rattle.shared_search.specs.Tokens.{SeatToken}
use Rattle.steal_pool.specs.declared.deeds.Deeds.{Deeds}
use Rattle.parallel_search.specs.Ends.{IsRest}
use Rattle.parallel_search.proofs.Rests.{some_drawn, rest_drawn, rest_left, rest_left_too}
use Rattle.parallel_search.proofs.Under.{under_left}
use Rattle.parallel_search.proofs.finishing.Rest.step.Goals.{then-live+else-is_some, else-live}
use Rattle.parallel_search.proofs.finishing.Rest.step.Goals as goal

pub returns-then-is_some-clause-rest : goal.returns-then-is_some-clause-rest
returns-then-is_some-clause-rest g c all rest =
    let is : is_some c.draw.result ≡ true = search rules in
    let t = some_drawn c.draw.result c.args.seat.now.view c.draw.new.seat.view _ is c.draw.ensures.some in
    c.in_ok-settle.ensures.rest all (subst (λ (v : View). IsRest c.args.solver.now c.args.board.now.start v 1 all (c.args.self.now.todo.items ++ c.args.node ∷ []) c.args.self.now.deeds) (sym t.1)
    (rest_drawn c.args.solver.now c.args.board.now.start c.args.seat.now.view all c.args.self.now.deeds (c.args.self.now.todo.items ++ c.args.node ∷ []) t.0 rest))

pub returns-clause-rest : goal.returns-clause-rest
returns-clause-rest g c all rest =
    let d = c.args.self.now.deeds in
    let left : c.push.new.self ≡ d.left ++ c.args.node.path ∷ [] = search rules in
    subst (λ (e : Deeds). IsRest c.args.solver.now c.args.board.now.start c.if-live.seat.view 0 all c.args.self.now.todo.items e) (sym (ap (λ l. record d { left = l }) left))
    (elim c.if-live.branch [
      | then-live+else-is_some w ↦
          let view : w.draw.new.seat.view ≡ one_over c.args.seat.now.view = search rules in
          subst (λ (v : View). IsRest c.args.solver.now c.args.board.now.start v 0 all c.args.self.now.todo.items (record d { left = d.left ++ c.args.node.path ∷ [] })) (sym (ap (λ (s : SeatToken). s.view) w.seat-is ∙ view))
          (rest_left c.args.solver.now c.args.board.now.start c.args.seat.now.view all d c.args.self.now.todo.items c.args.node rest)
      | else-live w ↦
          subst (λ (v : View). IsRest c.args.solver.now c.args.board.now.start v 0 all c.args.self.now.todo.items (record d { left = d.left ++ c.args.node.path ∷ [] })) (sym (ap (λ (s : SeatToken). s.view) w.seat-is))
          (rest_left_too c.args.solver.now c.args.board.now.start c.args.seat.now.view all d c.args.self.now.todo.items c.args.node (c.requires.live.1 w.if-live.false) rest)
    ])

pub returns-clause-under : goal.returns-clause-under
returns-clause-under g c first u = under_left first c.args.self.now.todo.items c.args.node c.args.self.now.deeds.journal u
