use Rattle.std.proofs.Common.{refl, drop}
use Rattle.std.proofs.lemmas.Result.{err_from_is_err_and}
use Rattle.edifact_segments.specs.Scanning.{Complete}
use Rattle.edifact_segments.proofs.GrammarLemmas.{tells-front, finds-err, no_tag, has_tag}
use Rattle.edifact_segments.proofs.reading.next_segment.Goals as goal

pub returns-in_err-next : goal.returns-in_err-next
returns-in_err-next c =
    let p = err_from_is_err_and c.from_residual.result c.from_residual.ensures.1 in
    rw (p.1, p.2) (finds-err c.args.scanner.now.service c.args.bytes.now c.args.from c.args.number c.read_segment.new.draft _ c.in_err-next.ensures)

pub returns-in-None : goal.returns-in-None
returns-in-None c =
    let r = c.in_ok-next.ensures in
    let t = tells-front c.args.scanner.now.service (drop c.args.from c.args.bytes.now) (Complete r.0 (drop c.in_ok-next.next c.args.bytes.now)) r.1 in
    (r.0, drop c.in_ok-next.next c.args.bytes.now, t.1, t.0, no_tag c.read_segment.new.draft _ r.2.0 r.2.1 r.2.2 c.in-None.is, refl)

pub returns-in-Some : goal.returns-in-Some
returns-in-Some c =
    let r = c.in_ok-next.ensures in
    let t = tells-front c.args.scanner.now.service (drop c.args.from c.args.bytes.now) (Complete r.0 (drop c.in_ok-next.next c.args.bytes.now)) r.1 in
    let h = has_tag c.read_segment.new.draft _ r.2.0 c.in-Some.tag r.2.1 r.2.2 c.in-Some.is in
    (r.0, t.1, t.0, (h.0, h.1, h.2, h.3), r.3, r.4)
