use Rattle.std.proofs.Common.{◌≡◌, ◌<◌, ◌^◌, take, map}
use Rattle.std.specs.Prelude.{All}
use Rattle.certificate.specs.declared.words.Token.TheVariants.{Number}
use Rattle.certificate.proofs.parsing.read_numbers.Given as goal

abbrev pub invariant-loop-word : goal.invariant-loop-word
invariant-loop-word l = record {
  small : All (λ n. n < 2 ^ 32) l.numbers.items;
  words : map Number l.numbers.items ≡ take l.word-index l.words;
}
