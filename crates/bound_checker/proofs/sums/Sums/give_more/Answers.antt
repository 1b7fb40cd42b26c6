use Rattle.std.proofs.Common.{ℕ, ◌+◌, cond, ◌∙◌, ap}
use Rattle.proof_trees.specs.Multipliers.{amount_of}
use Rattle.certificate.specs.Entries.{same_row}
use Rattle.bound_checker.proofs.GivingBack.{given}
use Rattle.bound_checker.proofs.sums.Sums.give_more.Goals as goal

pub returns-clause-more : goal.returns-clause-more
returns-clause-more c = λ r. given c.args.model.now c.args.b.now c.requires.carries.0 c.args.self.now c.give.new.self c.args.row.now (c.at.result + c.args.amount) c.requires.carries.1 (c.in_ok-give.ensures c.requires.carries.0 c.requires.carries.1) r
    ∙ ap (λ (k : ℕ). cond (same_row c.args.row.now r) (k + c.args.amount) (amount_of same_row c.args.self.now.amounts r)) c.at.ensures
