use Rattle.std.proofs.Common.{sym, ◌∙◌, drop}
use Rattle.certificate.specs.declared.lines.Line.TheVariants as line
use Rattle.certificate.proofs.Back.{same_line}
use Rattle.certificate.proofs.reading.read_title.Goals as goal

pub returns-in_default-line : goal.returns-in_default-line
returns-in_default-line c = record {
  text = tt;
  next = tt;
  none = λ none more e. c.in_default-line.not-Title (same_line c.in-Some.line line.Title (drop c.in-Some.at c.args.bytes.now) more c.in-Some.ensures.line tt (sym c.in-Some.ensures.text ∙ e)).first;
}
