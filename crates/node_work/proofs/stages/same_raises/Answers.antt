use Rattle.std.proofs.Common.{rules, ◌≡◌, ◌∙◌, ap, arith}
use Rattle.std.specs.Bool.{⊤}
use Rattle.std.proofs.lemmas.Iterator.{cases_from_all, YieldsList-from_slice, YieldsList-from_zip}
use Rattle.certificate.proofs.SameLists.{same_from_zip}
use Rattle.node_work.proofs.stages.same_raises.Goals as goal

pub returns-then-a-b : goal.returns-then-a-b
returns-then-a-b c = same_from_zip c.args.a.now c.args.b.now c.all.result _ (omega (arith, c.if-a-b.true))
    (cases_from_all c.all.new.self _ _ (λ p. p.0 ≡ p.1) (λ p. ⊤) c.all.ensures.ran (YieldsList-from_zip (YieldsList-from_slice _ (ap (λ i. i.rest.now) c.zip.ensures.first ∙ c.iter.ensures.rest)) (YieldsList-from_slice _ (search rules))) (λ x q k. search rules) (λ x q k. tt))
