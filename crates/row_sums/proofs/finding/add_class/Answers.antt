use Rattle.std.proofs.Common.{◌≡◌, ℕ, length, ap, ◌∙◌, subst, arith}
use Rattle.stow_data.specs.Ship.{Ship}
use Rattle.row_sums.specs.declared.sums.Sum.TheVariants.{OccupiedByClass}
use Rattle.row_sums.specs.Numbers.{IsClass}
use Rattle.row_sums.specs.Noted.{Has}
use Rattle.row_sums.proofs.Growing.{on_ok}
use Rattle.row_sums.proofs.Holding.{class_is}
use Rattle.row_sums.proofs.finding.add_class.Goals as goal

pub returns-then-class-separations-clause-has : goal.returns-then-class-separations-clause-has
returns-then-class-separations-clause-has c = λ k is h.
    let same : c.args.class ≡ k = c.requires.class ∙ class_is c.args.sums.now c.args.x.now c.args.call c.args.x.now.place k h ∙ is.is_first in
    let count : c.separations.result ≡ length c.args.sums.now.ship.separations = c.separations.ensures ∙ ap (λ (s : Ship). length s.separations) c.ship.ensures in
    absurd (omega (arith, same, count, is.low, c.if-class-separations.true, c.class.view_is))

pub returns-clause-has : goal.returns-clause-has
returns-clause-has c =
    on_ok c.add.result (Has c.args.sums.now c.args.z c.args.x.now c.add.new.list (OccupiedByClass c.args.call c.args.x.now.place c.args.class)) ((k : ℕ) → IsClass c.args.sums.now k → Has c.args.sums.now c.args.z c.args.x.now c.add.new.list (OccupiedByClass c.args.call c.args.x.now.place k))
    (λ has k is h.
    let same : c.args.class ≡ k = c.requires.class ∙ class_is c.args.sums.now c.args.x.now c.args.call c.args.x.now.place k h ∙ is.is_first in
    subst (λ (n : ℕ). Has c.args.sums.now c.args.z c.args.x.now c.add.new.list (OccupiedByClass c.args.call c.args.x.now.place n)) same has h)
    c.add.ensures.has
