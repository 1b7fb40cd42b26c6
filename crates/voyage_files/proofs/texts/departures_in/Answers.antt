use Rattle.std.proofs.Common.{arith}
use Rattle.std.proofs.lemmas.Result.{err_from_is_err_and}
use Rattle.arrival_plan.proofs.Weights.{settleable}
use Rattle.voyage_files.proofs.ReadTexts.{all_few, as_many, taken, texts_refused}
use Rattle.voyage_files.proofs.texts.departures_in.Goals as goal

pub returns-in_err-messages : goal.returns-in_err-messages
returns-in_err-messages c =
    let p = err_from_is_err_and c.from_residual.result c.from_residual.ensures.1 in
    rw (p.1, p.2) (texts_refused c.args.ship.now c.args.cargo.now c.args.texts.now c.in_err-messages.field-0.0 c.in_err-messages.ensures)

pub set_of-requires-clause-each_call : goal.set_of-requires-clause-each_call
set_of-requires-clause-each_call c = omega (arith, c.requires.each_call, as_many c.args.texts.now c.in_ok-messages.messages c.in_ok-messages.ensures)

pub set_of-requires-clause-few : goal.set_of-requires-clause-few
set_of-requires-clause-few c = all_few settleable c.args.texts.now c.in_ok-messages.messages c.in_ok-messages.ensures c.requires.short

pub returns : goal.returns
returns c = taken c.args.ship.now c.args.cargo.now c.args.texts.now c.set_of.result c.in_ok-messages.messages c.in_ok-messages.ensures c.set_of.ensures
