use Rattle.std.proofs.Common.{◌≡◌, ap, sym, ◌∙◌}
use Rattle.shared_search.specs.Tokens.{SeatToken}
use Rattle.shared_search.proofs.Seats.{closes_once, closes_from, closes_count, closes_within, closes_over}
use Rattle.shared_search.proofs.board.Board.close.Goals as goal

all_in : (a b : SeatToken) → a ≡ b → b.view.made ≡ b.view.taken → a.view.made ≡ a.view.taken
all_in a b e all = ap (λ (t : SeatToken). t.view.made) e ∙ all ∙ sym (ap (λ (t : SeatToken). t.view.taken) e)

pub returns-clause-from : goal.returns-clause-from
returns-clause-from c =
    let f = c.close_with-closed.ensures.values.2 in
    let all = all_in _ _ c.owner.view_is c.requires.all_joined in
    rw (← c.owner.view_is, ← c.self.view_is) (closes_from _ f.0 _ _ _ c.word-best.result f.1.0 f.1.1 c.owner.invariant.1 all f.2 c.word-best.ensures).1

pub returns-clause-once : goal.returns-clause-once
returns-clause-once c x =
    let f = c.close_with-closed.ensures.values.2 in
    let all = all_in _ _ c.owner.view_is c.requires.all_joined in
    rw (← c.owner.view_is, c.min.ensures) (closes_once _ f.0 _ _ _ c.word-tickets.result c.word-budget.result f.1.0 f.1.1 c.owner.invariant.1 all f.2 c.word-tickets.ensures c.word-budget.ensures x)

pub returns-clause-count : goal.returns-clause-count
returns-clause-count c =
    let f = c.close_with-closed.ensures.values.2 in
    let all = all_in _ _ c.owner.view_is c.requires.all_joined in
    rw (← c.owner.view_is, c.min.ensures) (closes_count _ f.0 _ _ _ c.word-tickets.result c.word-budget.result f.1.0 f.1.1 c.owner.invariant.1 all f.2 c.word-tickets.ensures c.word-budget.ensures)

pub returns-clause-within : goal.returns-clause-within
returns-clause-within c =
    let f = c.close_with-closed.ensures.values.2 in
    rw (← c.self.view_is, c.min.ensures) (closes_within _ f.0 _ c.word-tickets.result c.word-budget.result f.1.0 f.2 c.word-budget.ensures)

pub returns-clause-over : goal.returns-clause-over
returns-clause-over c more =
    let f = c.close_with-closed.ensures.values.2 in
    let all = all_in _ _ c.owner.view_is c.requires.all_joined in
    let over = ap (λ (t : SeatToken). t.view.over) c.owner.view_is in
    rw (← c.self.view_is, c.min.ensures) (closes_over _ f.0 _ _ _ c.word-tickets.result c.word-budget.result f.1.0 f.1.1 c.owner.invariant.1 all f.2 c.word-tickets.ensures c.word-budget.ensures (rw over more))
