use Rattle.std.proofs.Common.{◌≡◌, ◌/◌, ◌+◌, ◌-◌, ◌^◌, ℕ, arith, ap, ◌∙◌}
use Rattle.arrayvec.specs.ArrayVec.{ArrayVec}
use Rattle.zero_one_rows.proofs.Places.{row_take, row_skip, row_done, half_step}
use Rattle.zero_one_rows.proofs.all_chains.numbers_at.Goals as goal
use Rattle.zero_one_rows.proofs.all_chains.numbers_at.Goals.{then-rest-half, else-rest-half+then-rest-gt0, else-rest-half+else-rest-gt0}

pub loop-number-preserved : goal.loop-number-preserved
loop-number-preserved c =
    let inv = c.loop-number.invariant in
    let half : c.loop-number.half / 2 ≡ 2 ^ (c.args.count - (c.loop-number.number + 1)) = half_step c.loop-number.number c.args.count c.loop-number.half c.loop-number-test.true inv.half in
    elim c.if-rest-half.branch [
      | then-rest-half w ↦ record {
        value = rw (w.numbers-is, w.rest-is, half) (row_skip c.loop-number.numbers.items _ c.loop-number.number c.args.count c.loop-number.rest c.loop-number-test.true inv.value (omega (arith, w.if-rest-half.true, half)));
        low = rw w.numbers-is (omega arith);
        half = half;
      }
      | else-rest-half+then-rest-gt0 w ↦
          let e = ap (λ (v : ArrayVec ℕ). v.items) w.numbers-is in
          record {
            value = rw w.rest-is (row_take c.loop-number.numbers.items c.if-rest-half.numbers.items _ c.loop-number.number c.args.count c.loop-number.rest c.loop-number-test.true inv.value w.if-rest-gt0.true (omega (arith, w.if-rest-half.false, half)) (e ∙ w.push.ensures.items));
            low = rw w.numbers-is (omega (arith, w.push.ensures.len));
            half = half;
          }
      | else-rest-half+else-rest-gt0 w ↦ record {
        value = rw (w.numbers-is, w.rest-is) (row_done c.loop-number.numbers.items _ c.loop-number.number c.args.count c.loop-number.rest c.loop-number-test.true inv.value (omega (arith, w.if-rest-gt0.false)));
        low = rw w.numbers-is (omega arith);
        half = half;
      }
    ]
