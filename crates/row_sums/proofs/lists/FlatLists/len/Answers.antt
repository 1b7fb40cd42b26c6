use Rattle.std.proofs.Common.{◌∙◌, ap, sym, length}
use Rattle.row_sums.proofs.Cuts.{cut_length}
use Rattle.row_sums.proofs.lists.FlatLists.len.Goals as goal

pub returns : goal.returns
returns g c = ap length c.as_slice-ends.ensures.value ∙ sym (cut_length 0 c.self.inside.ends.items c.self.inside.items.items) ∙ ap length c.self.view_is
