use Rattle.std.proofs.Common.{◌≡◌, ◌↔◌, ◌⊎◌, ◌∙◌, ◌++◌, ◌∷◌, [], List, Bool, ap, subst, true, length, ℕ}
use Rattle.crane_lists.specs.Rounds.{In}
use Rattle.crane_lists.specs.Sharing.{IsBoard, is_set}
use Rattle.crane_lists.proofs.Further.{further}
use Rattle.crane_lists.proofs.sharing.add_round.Goals as goal

pub returns : goal.returns
returns c = further c.args.ship.now c.args.tasks.now c.args.cranes c.args.order.now c.in_ok-round.round c.args.board.now _ (record {
  some_crane = c.requires.some_crane;
  all = c.requires.all;
  so_far = c.requires.so_far;
  making = c.in_ok-round.ensures.makes;
  marks = λ i. subst (λ (d : List Bool). (is_set c.mark.new.done i ≡ true) ↔ ((is_set d i ≡ true) ⊎ In i c.in_ok-round.round)) c.next_round.ensures.done (subst (λ (r : List ℕ). (is_set c.mark.new.done i ≡ true) ↔ ((is_set c.next_round.new.board.done i ≡ true) ⊎ In i r)) c.as_slice.ensures (c.mark.ensures.marks i));
  same_length = c.mark.ensures.same_length ∙ ap length c.next_round.ensures.done;
  rounds = c.in_ok-push.ensures ∙ ap (λ (rs : List (List ℕ)). rs ++ c.in_ok-round.round ∷ []) c.next_round.ensures.rounds;
  board = subst (λ (d : List Bool). IsBoard c.args.ship.now c.args.tasks.now d c.next_round.new.board.clear_to) c.next_round.ensures.done c.next_round.ensures.board;
}) c.requires.left
