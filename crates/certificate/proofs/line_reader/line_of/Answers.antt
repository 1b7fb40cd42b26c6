use Rattle.certificate.proofs.Joined.{short_answer}
use Rattle.certificate.proofs.line_reader.line_of.Goals as goal

pub returns-in_default : goal.returns-in_default
returns-in_default c = short_answer c.args.key c.args.rest.now c.short_line.result c.in_default.not-Step c.in_default.not-Raise c.in_default.not-Branch
    (record { bare = c.short_line.ensures.bare; number = c.short_line.ensures.number; word = c.short_line.ensures.word }) c.short_line.ensures.found
