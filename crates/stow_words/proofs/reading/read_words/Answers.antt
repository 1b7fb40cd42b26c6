use Rattle.stow_words.proofs.Forms.{gives_own}
use Rattle.stow_words.proofs.Ranges.{given_in_range}
use Rattle.stow_words.proofs.reading.read_words.Goals as goal

pub returns-clause-own : goal.returns-clause-own
returns-clause-own c form = gives_own c.args.words.now form c.parse_words.result c.parse_words.ensures.order (c.parse_words.ensures.plain form)

pub returns-clause-ranges : goal.returns-clause-ranges
returns-clause-ranges c = given_in_range c.parse_words.result c.args.words.now c.parse_words.ensures.order
