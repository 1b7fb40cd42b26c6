use Rattle.std.proofs.Common.{◌≡◌, ◌++◌, ◌∷◌, [], sym, ◌∙◌, ap, arith}
use Rattle.std.proofs.lemmas.Grind.{common_steps}
use Rattle.bookings.specs.BookedCargo.{container_of}
use Rattle.bookings.proofs.CargoLaws.{one_more}
use Rattle.bookings.proofs.cargo.containers_of.Goals as goal

pub loop-index-preserved : goal.loop-index-preserved
loop-index-preserved c =
    let made : c.container_of.result ≡ container_of (c.loop-index.index, c.index-bookings-index.result) = grind (arith, common_steps) in
    c.in_ok-push.ensures ∙ ap (λ cs. cs ++ c.container_of.result ∷ []) c.loop-index.invariant ∙ rw made (sym (one_more c.args.bookings.now c.loop-index.index c.index-bookings-index.result (omega arith) c.index-bookings-index.is))
