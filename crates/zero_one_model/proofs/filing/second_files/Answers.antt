use Rattle.zero_one_rows.specs.Counted.{base_in}
use Rattle.zero_one_model.specs.Runs.{second_file}
use Rattle.zero_one_model.proofs.Filed.{filed_more}
use Rattle.zero_one_model.proofs.filing.second_files.Goals as goal

pub loop-k-preserved : goal.loop-k-preserved
loop-k-preserved c = filed_more (second_file c.args.ship.now) (base_in c.args.lists.now) c.loop-k.k c.base_row.result c.loop-k.keys c.push.new.self c.file_by_second.result c.base_row.ensures c.loop-k.invariant c.file_by_second.ensures c.in_ok-push.ensures
