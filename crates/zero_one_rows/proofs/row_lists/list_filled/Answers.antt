use Rattle.std.proofs.Common.{◌∙◌, ap, None}
use Rattle.std.specs.Prelude.{slice_index_or}
use Rattle.stow_data.specs.Shipment.{Cargo}
use Rattle.zero_one_rows.specs.Rows.{is_filled}
use Rattle.zero_one_rows.specs.Counted.{stands_at}
use Rattle.zero_one_rows.proofs.Paired.{wanted_more}
use Rattle.zero_one_rows.proofs.row_lists.list_filled.Goals as goal

pub loop-p-preserved : goal.loop-p-preserved
loop-p-preserved g c = wanted_more (stands_at g.m) c.loop-p.p c.is_taken.result c.loop-p.list c.push_item.new.list (c.is_taken.ensures ∙ ap (λ (k : Cargo). is_filled (slice_index_or k.arrival c.loop-p.p None)) c.requires.0) c.in_ok-push_item.ensures c.loop-p.invariant
