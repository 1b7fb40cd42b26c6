use Rattle.std.proofs.Common.{map, refl, sym, subst}
use Rattle.zero_one_rows.specs.Rows.{whole}
use Rattle.certificate.specs.declared.tree.Head.{Head}
use Rattle.certificate.specs.Entries.{same_row, entry_of}
use Rattle.plan_search.specs.Certified.{Certifies}
use Rattle.plan_search.proofs.AtZero.{settled_lesser}
use Rattle.plan_search.proofs.Certifying.{certifies, chosen_low}
use Rattle.plan_search.proofs.planning.plan_voyage.Goals as goal

pub settled_bound-requires-clause-settled : goal.settled_bound-requires-clause-settled
settled_bound-requires-clause-settled g c =
    let m = c.args.model.now in
    let found = c.in_ok-found.found in
    let low = chosen_low m c.in_ok-begun.begun.cost found.best c.in_ok-begun.begun c.in_ok-chosen.chosen found.full refl c.in_ok-found.ensures.best c.in_ok-chosen.ensures in
    settled_lesser same_row (whole m) found.best c.in_ok-chosen.chosen.cost low (map (entry_of m) found.tree) c.in_ok-found.ensures.settled

pub returns-clause-certified : goal.returns-clause-certified
returns-clause-certified g c =
    let m = c.args.model.now in
    let law = c.bounds_are_of_voyages.ensures in
    subst (λ (h : Head). Certifies m c.args.budget h c.in_ok-found.found.tree) (sym c.head_of.ensures)
    (certifies m c.requires.problem c.args.budget c.in_ok-first.first c.in_ok-begun.begun c.in_ok-chosen.chosen c.in_ok-found.found c.in_ok-bound.bound
    c.in_ok-first.ensures c.in_ok-begun.ensures c.in_ok-found.ensures c.in_ok-chosen.ensures c.in_ok-bound.ensures.best c.in_ok-bound.ensures.costs
    (law.proved m c.in_ok-bound.bound c.requires.problem) (law.none m c.requires.problem) c.requires.most_nodes)
