use Rattle.std.proofs.Common.{List, [], ◌∷◌, ◌++◌, ◌∙◌, ap, if◌then◌else◌}
use Rattle.std.specs.Prelude.{is_ok}
use Rattle.row_sums.proofs.Cuts.{pushed}
use Rattle.row_sums.proofs.lists.FlatLists.push.Goals as goal

pub invariant_of-self : goal.invariant_of-self
invariant_of-self g c = (pushed (is_ok c.append.result) c.self.inside.ends.items c.append.new.ends.items c.self.inside.items.items c.append.new.items.items c.args.list.now c.append.ensures.items c.append.ensures.ends c.self.invariant).0

pub returns : goal.returns
returns g c = (pushed (is_ok c.append.result) c.self.inside.ends.items c.append.new.ends.items c.self.inside.items.items c.append.new.items.items c.args.list.now c.append.ensures.items c.append.ensures.ends c.self.invariant).1 ∙ ap (λ (ls : List (List g.row.T.Denot)). if is_ok c.append.result then ls ++ c.args.list.now ∷ [] else ls) c.self.view_is
