use Rattle.std.proofs.Common.{◌≡◌, true, ◌∙◌, sym}
use Rattle.row_sums.specs.Sums.{holds}
use Rattle.row_sums.proofs.Growing.{pushed_if_ok}
use Rattle.row_sums.proofs.finding.add.Goals as goal

pub returns-clause-grows : goal.returns-clause-grows
returns-clause-grows c =
    let held : holds c.args.sums.now c.args.sum c.args.x.now ≡ true = sym c.holds.ensures ∙ c.if-not-holds.false in
    pushed_if_ok c.args.sums.now c.args.z c.args.x.now c.args.sum c.args.list.now c.push.new.self c.number.result c.push.result (c.requires.there held) held c.number.ensures.value c.push.ensures
