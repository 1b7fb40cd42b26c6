use Rattle.std.proofs.Common.{◌<◌, get_or, sym, ◌∙◌, arith}
use Rattle.edifact_segments.specs.Scanning.{is_ordinary}
use Rattle.edifact_segments.proofs.RunLemmas.{range-all-more}
use Rattle.edifact_segments.proofs.reading.run_end.Goals as goal

pub loop-at-preserved : goal.loop-at-preserved
loop-at-preserved c =
    let i = c.loop-at.invariant in
    let byte = get_or c.args.bytes.now c.loop-at.at 0 in
    let is_byte : byte < 256 = omega (arith, c.type_inv.bytes c.loop-at.at) in
    record {
      least = omega (arith, i.least);
      within = omega (arith, c.loop-at-test.true);
      run = range-all-more (is_ordinary c.args.scanner.now.service) c.args.bytes.now c.args.from c.loop-at.at i.least c.loop-at-test.true i.run (sym (c.requires.table byte is_byte) ∙ c.if-scanner-bytes.true);
    }
