use Rattle.std.proofs.Common.{◌≡◌, ◌∙◌, ap, arith, Bool, cond, None}
use Rattle.std.specs.Prelude.{slice_index_or}
use Rattle.stow_data.specs.Shipment.{Cargo}
use Rattle.zero_one_rows.specs.Rows.{is_filled}
use Rattle.zero_one_rows.specs.Counted.{stands_at}
use Rattle.zero_one_rows.proofs.Counting.{count_more}
use Rattle.zero_one_rows.proofs.counts.count_filled.Goals as goal

pub loop-p-preserved : goal.loop-p-preserved
loop-p-preserved g c =
    let one : c.as_one-count.result ≡ cond (stands_at g.m c.loop-p.p) 1 0 = c.as_one-count.ensures.value ∙ ap (λ (b : Bool). cond b 1 0) (c.is_taken.ensures ∙ ap (λ (k : Cargo). is_filled (slice_index_or k.arrival c.loop-p.p None)) c.requires.0) in
    let more = count_more (stands_at g.m) c.loop-p.p in
    record { number = omega (arith, c.loop-p.invariant.number, one, more); low = omega (arith, c.loop-p.invariant.low, c.as_one-count.ensures.low) }
