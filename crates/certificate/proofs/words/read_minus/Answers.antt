use Rattle.std.proofs.Common.{◌≡◌, drop, sym, ◌∙◌, ap, arith}
use Rattle.std.specs.Fmt.{decimal}
use Rattle.certificate.proofs.Tokens.{same_number}
use Rattle.certificate.proofs.words.read_minus.Goals as goal

pub returns-else-n-gt0 : goal.returns-else-n-gt0
returns-else-n-gt0 c = λ n some small same.
    let e : decimal n ≡ decimal c.in_ok-n.n = ap (drop 1) (same ∙ c.in_ok-sign.ensures.cases.0) ∙ sym c.in_ok-n.ensures.1 in
    let k : n ≡ c.in_ok-n.n = same_number n c.in_ok-n.n small c.in_ok-n.ensures.0 e in
    omega (arith, c.if-n-gt0.false)
