use Rattle.std.proofs.Common.{◌≡◌, arith}
use Rattle.zero_one_rows.specs.Rows.{whole}
use Rattle.certificate.specs.Entries.{same_row, number_of}
use Rattle.plan_search.proofs.OneLeaf.{leaf_ok}
use Rattle.plan_search.proofs.Program.{tells_rows}
use Rattle.plan_search.proofs.Searched.{along_tree, searched}
use Rattle.plan_search.proofs.run.search_tree.Goals as goal

pub returns-then-start-eq0 : goal.returns-then-start-eq0
returns-then-start-eq0 g c =
    let none : c.args.start ≡ 0 = omega (arith, c.if-start-eq0.true) in
    leaf_ok c.one_leaf.result c.args.model.now c.args.budget c.args.start none c.requires.nodes c.one_leaf.ensures

pub returns : goal.returns
returns g c =
    let m = c.args.model.now in
    let f = c.in_ok-found.found in
    let tree = c.in_ok-gather.field-0 in
    let found = c.in_ok-found.ensures.found in
    let gathered = c.in_ok-gather.ensures.gathered (number_of m) in
    let law = c.found_journals_prove.ensures in
    searched m c.args.start c.args.budget f tree found c.requires.most_nodes c.rows_are_listed.ensures.base
    (law.settled m c.args.start c.args.budget f tree found gathered)
    (law.proved m c.args.start c.args.budget f tree found gathered)
    (law.worked m c.args.start c.args.budget f tree found gathered)
    (law.handled m c.args.start c.args.budget f tree found gathered)
    (along_tree m c.args.start c.args.budget f tree found gathered (λ t gathers. c.records_are_of_nodes.ensures same_row tells_rows (whole m) found.entries found.nodes t found.searched.nodes gathers))
