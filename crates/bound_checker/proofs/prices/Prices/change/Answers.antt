use Rattle.std.proofs.Common.{rules, ◌≡◌, ◌≤◌, ◌^◌, ◌∙◌, sym, subst, ℕ, [], ◌∷◌, ◌++◌}
use Rattle.proof_trees.specs.Multipliers.{with_amount}
use Rattle.bound_checker.specs.declared.prices.Change.{Change}
use Rattle.certificate.specs.Entries.{same_row}
use Rattle.bound_checker.proofs.Raising.{amounts_low}
use Rattle.bound_checker.proofs.Waiting.{moves_one, moves_more}
use Rattle.bound_checker.proofs.prices.Prices.change.Goals as goal

pub returns : goal.returns
returns c = λ first ms k holds.
    let one : Change = record { row = c.args.row.now; old = c.at-old.result } in
    let low : c.at-old.result ≤ 2 ^ 40 = subst (λ (n : ℕ). n ≤ 2 ^ 40) (sym c.at-old.ensures) (amounts_low c.args.model.now c.args.b.now ms c.args.self.now.sums holds.carries c.args.row.now) in
    let e : c.push.new.self.items ≡ c.args.self.now.changes.items ++ one ∷ [] = search rules in
    record {
      carries = c.in_ok-give.ensures ms holds.carries;
      moves = moves_more c.args.model.now first ms (with_amount same_row ms c.args.row.now c.args.amount) k c.args.self.now.changes.items c.push.new.self.items holds.moves
          (moves_one c.args.model.now ms c.args.self.now.changes.items c.push.new.self.items one c.args.amount c.requires.row low (c.at-old.ensures ∙ holds.carries.amounts c.args.row.now) e);
    }
