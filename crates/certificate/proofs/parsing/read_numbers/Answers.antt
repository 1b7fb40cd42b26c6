use Rattle.certificate.specs.declared.words.Key.TheVariants.{Step}
use Rattle.certificate.specs.declared.words.Token.TheVariants.{Word}
use Rattle.certificate.proofs.Parsed.{no_numbers}
use Rattle.certificate.proofs.parsing.read_numbers.Goals as goal

pub returns-in_default : goal.returns-in_default
returns-in_default c = λ ns small same. no_numbers c.args.words.now c.loop-word.word-index (Word Step) c.loop-word-test.true c.in_default.ensures ns small same
