use Rattle.std.proofs.Common.{rules, arith, SFits, ◌≡◌, ◌∙◌, sym, pos, ◌<ℤ◌}
use Rattle.std.specs.Int.{w128}
use Rattle.std.proofs.lemmas.Int.{to_z-of_z}
use Rattle.zero_one_rows.specs.Rows.{whole}
use Rattle.proof_trees.specs.Multipliers.{amount_of, worth}
use Rattle.certificate.specs.Entries.{same_row}
use Rattle.dual_bound.specs.Rising.{raised_by}
use Rattle.dual_bound.proofs.Placing.{amount_there_is}
use Rattle.dual_bound.proofs.Flat.{flat_at_most, rises_by_gain, above}
use Rattle.dual_bound.proofs.costs.Costs.chance.Goals as goal

pub returns-then-amount-ge-MOST-clause-none : goal.returns-then-amount-ge-MOST-clause-none
returns-then-amount-ge-MOST-clause-none c =
    let a : c.amount-amount.result ≡ amount_of same_row c.args.m.now c.args.listed.row.now = c.amount-amount.ensures.value ∙ amount_there_is c.args.m.now c.args.listed.row.now c.place.result (sym c.place.ensures.is) in
    flat_at_most c.args.model.now c.args.b.now c.args.m.now c.args.listed.row.now (omega (arith, c.if-amount-ge-MOST.true))

pub returns-clause-some : goal.returns-clause-some
returns-clause-some c =
    let a : c.amount-amount.result ≡ amount_of same_row c.args.m.now c.args.listed.row.now = c.amount-amount.ensures.value ∙ amount_there_is c.args.m.now c.args.listed.row.now c.place.result (sym c.place.ensures.is) in
    let f : SFits w128 c.gain.result = search rules in
    let up : pos 0 <ℤ c.gain.result = above c.gain.result (simp to_z-of_z at c.if-gain-le0.false) in
    let one : worth (whole c.args.model.now) c.args.b.now c.args.m.now <ℤ worth (whole c.args.model.now) c.args.b.now (raised_by c.args.m.now c.args.listed.row.now 1) = rises_by_gain c.args.model.now c.args.b.now c.args.m.now c.args.listed.row.now 1 c.gain.result (c.gain.ensures c.args.m.now c.requires.priced) up in
    record {
      some = c.choose.ensures.range.0;
      low = omega (arith, a, c.choose.ensures.range.1, c.if-amount-ge-MOST.false);
      one = one;
      much = c.choose.ensures.much c.args.m.now c.requires.priced one;
    }
