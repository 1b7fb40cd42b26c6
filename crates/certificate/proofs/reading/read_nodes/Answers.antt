use Rattle.std.proofs.Common.{sym, ◌∙◌, drop}
use Rattle.certificate.specs.declared.lines.Line.TheVariants as line
use Rattle.certificate.proofs.Back.{same_line}
use Rattle.certificate.proofs.reading.read_nodes.Goals as goal

pub returns-in_default-line : goal.returns-in_default-line
returns-in_default-line c = record {
  text = tt;
  next = tt;
  small = tt;
  none = λ none n more low e. c.in_default-line.not-Nodes n (same_line c.in-Some.line (line.Nodes n) (drop c.in-Some.at c.args.bytes.now) more c.in-Some.ensures.line low (sym c.in-Some.ensures.text ∙ e)).first;
}
