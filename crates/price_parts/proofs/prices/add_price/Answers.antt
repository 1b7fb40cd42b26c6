use Rattle.std.proofs.Common.{rules, SFits, w64, refl}
use Rattle.std.proofs.lemmas.Int.{to_z-of_z}
use Rattle.proof_trees.specs.Multipliers.{raised}
use Rattle.certificate.specs.Entries.{same_row}
use Rattle.price_parts.proofs.Priced.{are_added}
use Rattle.price_parts.proofs.prices.add_price.Goals as goal

pub returns : goal.returns
returns c =
    let s : SFits w64 c.args.amount = search rules in
    are_added c.args.model.now c.args.prices.now c.add.new.self c.args.row.now c.args.amount (raised same_row c.args.prices.now c.args.row.now c.args.amount) refl c.add.result c.requires.row c.requires.prices (simp to_z-of_z at c.add.ensures)
