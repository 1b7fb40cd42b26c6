use Rattle.std.proofs.Common.{◌<◌, ◌^◌, ◌∷◌, ℕ, List, map, subst, sym, ap, ◌∙◌}
use Rattle.std.specs.Prelude.{All}
use Rattle.certificate.specs.declared.words.Token.{Token}
use Rattle.certificate.specs.declared.words.Token.TheVariants.{Number}
use Rattle.certificate.proofs.Parsed.{row_answer}
use Rattle.certificate.proofs.parsing.read_row.Goals as goal

pub returns : goal.returns
returns c = row_answer c.in-Word.key c.as_slice.result.now c.in-Some.rest.now c.args.words.now c.row_of.result
    (c.in-Some.ensures.cases.0 ∙ ap (λ (t : Token). t ∷ c.in-Some.rest.now) c.in-Word.is)
    (ap (λ (ns : List ℕ). map Number ns) c.as_slice.ensures.value ∙ c.in-Some-read_numbers.ensures.1)
    (subst (λ (ns : List ℕ). All (λ n. n < 2 ^ 32) ns) (sym c.as_slice.ensures.value) c.in-Some-read_numbers.ensures.0)
    (record { two = c.row_of.ensures.two; three = c.row_of.ensures.three; four = c.row_of.ensures.four; many = c.row_of.ensures.many })
    c.row_of.ensures.found
