use Rattle.partial_plan.proofs.Calming.{freed_noted, freed_steps, kept_noted, kept_or_freed, kept_steps, past_inside}
use Rattle.partial_plan.proofs.tightening.force_by.Goals as goal

pub keep_step-requires-clause-inside : goal.keep_step-requires-clause-inside
keep_step-requires-clause-inside c = past_inside c.args.model.now c.args.b.now c.note_all.new.b c.note_all.new.b c.args.r c.args.undo.now c.note_all.new.undo c.note_all.new.undo c.args.steps.now c.args.steps.now c.len-before.result c.len-before.ensures c.note_all.ensures.noted

pub take_back-requires-clause-inside : goal.take_back-requires-clause-inside
take_back-requires-clause-inside c = past_inside c.args.model.now c.args.b.now c.note_all.new.b c.note_all.new.b c.args.r c.args.undo.now c.note_all.new.undo c.note_all.new.undo c.args.steps.now c.args.steps.now c.len-before.result c.len-before.ensures c.note_all.ensures.noted

pub returns-in-Ok-clause-steps : goal.returns-in-Ok-clause-steps
returns-in-Ok-clause-steps c =
    kept_or_freed c.keep_step.result c.keep_step.ensures.stays c.keep_step.ensures.added c.keep_step.ensures.freed c.keep_step.ensures.none
    (kept_steps c.args.model.now c.args.b.now c.note_all.new.b c.keep_step.new.b c.args.r c.args.undo.now c.note_all.new.undo c.keep_step.new.undo c.args.steps.now c.keep_step.new.steps c.len-before.result c.len-before.ensures c.note_all.ensures.noted c.requires.base c.in-Ok.ensures.tight)
    (freed_steps c.args.model.now c.args.b.now c.note_all.new.b c.keep_step.new.b c.args.r c.args.undo.now c.note_all.new.undo c.keep_step.new.undo c.args.steps.now c.keep_step.new.steps c.len-before.result c.len-before.ensures c.note_all.ensures.noted)

pub returns-in-Ok-clause-noted : goal.returns-in-Ok-clause-noted
returns-in-Ok-clause-noted c =
    kept_or_freed c.keep_step.result c.keep_step.ensures.stays c.keep_step.ensures.added c.keep_step.ensures.freed c.keep_step.ensures.none
    (λ stays added. kept_noted c.args.model.now c.args.b.now c.note_all.new.b c.keep_step.new.b c.args.r c.args.undo.now c.note_all.new.undo c.keep_step.new.undo c.args.steps.now c.keep_step.new.steps c.len-before.result c.len-before.ensures c.note_all.ensures.noted stays)
    (λ freed none. freed_noted c.args.model.now c.args.b.now c.note_all.new.b c.keep_step.new.b c.args.r c.args.undo.now c.note_all.new.undo c.keep_step.new.undo c.args.steps.now c.keep_step.new.steps c.len-before.result c.len-before.ensures c.note_all.ensures.noted freed)

pub returns-in-Err-clause-noted : goal.returns-in-Err-clause-noted
returns-in-Err-clause-noted c = freed_noted c.args.model.now c.args.b.now c.note_all.new.b c.take_back.new.b c.args.r c.args.undo.now c.note_all.new.undo c.take_back.new.undo c.args.steps.now c.args.steps.now c.len-before.result c.len-before.ensures c.note_all.ensures.noted (c.take_back.ensures.freed, c.take_back.ensures.kept)
