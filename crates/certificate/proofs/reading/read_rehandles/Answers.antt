use Rattle.std.proofs.Common.{◌≡◌, ℕ, sym, ◌∙◌, drop, subst}
use Rattle.std.specs.Prelude.{Option}
use Rattle.std.proofs.lemmas.Bool.{false≢true}
use Rattle.certificate.specs.declared.lines.Line.TheVariants as line
use Rattle.certificate.specs.Grammar.{IsOutcome}
use Rattle.certificate.proofs.Back.{same_line}
use Rattle.certificate.proofs.Determined.{fits_line}
use Rattle.certificate.proofs.reading.read_rehandles.Goals as goal

pub returns-else-fits-clause-none : goal.returns-else-fits-clause-none
returns-else-fits-clause-none c = λ none r more fit e.
    let a = (same_line c.in-Some.line (line.Rehandles r) (drop c.in-Some.at c.args.bytes.now) more c.in-Some.ensures.line (fits_line c.args.outcome r fit) (sym c.in-Some.ensures.text ∙ e)).first in
    let b = c.in-Rehandles.is in
    let k : r ≡ c.in-Rehandles.rehandles = cc in
    false≢true (c.if-fits.ensures.all (subst (λ (x : Option ℕ). IsOutcome c.args.outcome x) k fit))

pub returns-in_default-line : goal.returns-in_default-line
returns-in_default-line c = record {
  text = tt;
  next = tt;
  fits = tt;
  none = λ none r more fit e. c.in_default-line.not-Rehandles r (same_line c.in-Some.line (line.Rehandles r) (drop c.in-Some.at c.args.bytes.now) more c.in-Some.ensures.line (fits_line c.args.outcome r fit) (sym c.in-Some.ensures.text ∙ e)).first;
}
