use Rattle.std.proofs.Common.{refl}
use Rattle.stow_cli.proofs.Obeying.{run_of_order, run_of_no, fault_of_order, fault_of_no, own_of_order, own_of_no}
use Rattle.stow_cli.proofs.top.obey.Goals as goal

pub returns-in-Ok-clause-run : goal.returns-in-Ok-clause-run
returns-in-Ok-clause-run g c = run_of_order c.in-Ok.order _ c.follow.result _ _ c.in-Ok.ensures.order c.follow.ensures.follows

pub returns-in-Err-clause-run : goal.returns-in-Err-clause-run
returns-in-Err-clause-run g c = run_of_no c.in-Err.no _ c.refuse.result _ _ c.in-Err.ensures.order c.refuse.ensures.status (refl, c.refuse.ensures.printed)

pub returns-in-Ok-clause-not_taken : goal.returns-in-Ok-clause-not_taken
returns-in-Ok-clause-not_taken g c = fault_of_order c.args.words.now c.in-Ok.order c.follow.result c.in-Ok.ensures.order

pub returns-in-Err-clause-not_taken : goal.returns-in-Err-clause-not_taken
returns-in-Err-clause-not_taken g c = fault_of_no c.args.words.now c.in-Err.no c.refuse.result c.in-Err.ensures.order c.refuse.ensures.status c.in-Err.ensures.not_taken

pub returns-in-Ok-clause-own : goal.returns-in-Ok-clause-own
returns-in-Ok-clause-own g c = own_of_order c.args.words.now c.in-Ok.order c.follow.result c.in-Ok.ensures.order c.in-Ok.ensures.own

pub returns-in-Err-clause-own : goal.returns-in-Err-clause-own
returns-in-Err-clause-own g c = own_of_no c.args.words.now c.in-Err.no c.refuse.result c.in-Err.ensures.order c.refuse.ensures.status c.in-Err.ensures.own
