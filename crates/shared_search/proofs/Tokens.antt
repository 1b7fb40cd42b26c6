-- A seat that belongs to a board stands at its table.
use Rattle.std.proofs.Common.{◌≡◌, sym, ap, ◌∙◌}
use Rattle.shared_search.specs.Tokens.{BoardToken, SeatToken}

pub same_table : (a b : SeatToken) (x y : BoardToken) → a ≡ b → x ≡ y → b.board ≡ y.id → a.board ≡ x.id
same_table a b x y seat board e = ap (λ (t : SeatToken). t.board) seat ∙ e ∙ sym (ap (λ (t : BoardToken). t.id) board)
