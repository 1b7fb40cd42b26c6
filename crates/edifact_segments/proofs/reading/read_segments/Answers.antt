use Rattle.std.proofs.Common.{◌+◌, length, refl, ap, drop, inr, ◌∙◌}
use Rattle.std.proofs.lemmas.Result.{err_from_is_err_and}
use Rattle.edifact_segments.proofs.GrammarLemmas.{begin, settle, few-none, headed-none, fault_of, no_header, trailing, is_interchange, begun-more, headed-more, few-more, first-of}
use Rattle.edifact_segments.specs.Elements.{segment}
use Rattle.edifact_segments.proofs.reading.read_segments.Goals as goal

pub loop-at-init : goal.loop-at-init
loop-at-init c =
    let text = drop c.args.start c.args.bytes.now in
    let rest = drop c.skip_gap-at.result c.args.bytes.now in
    record {
      within = c.skip_gap-at.ensures.within;
      few = few-none c.args.segments.now c.skip_gap-at.result c.requires.empty;
      headed = headed-none c.args.segments.now c.requires.empty;
      settled = settle text rest c.skip_gap-at.ensures.skipped;
      begun = begin c.args.scanner.now.service text rest c.args.segments.now c.requires.empty c.skip_gap-at.ensures.skipped;
    }

pub returns-in_err-tag-clause-fault : goal.returns-in_err-tag-clause-fault
returns-in_err-tag-clause-fault c =
    let i = c.loop-at.invariant in
    let p = err_from_is_err_and c.from_residual.result c.from_residual.ensures.1 in
    rw (p.1, p.2) (fault_of c.args.bytes.now c.args.scanner.now.service c.args.start c.loop-at.at c.loop-at.segments i.begun.0 c.requires.starts i.begun.1 i.begun.2 i.headed i.settled c.loop-at-test.true (c.len.result + 1) c.in_err-tag.field-0.0 c.in_err-tag.ensures (ap (λ n. n + 1) c.len.ensures))

pub returns-then-not-is_headed-clause-fault : goal.returns-then-not-is_headed-clause-fault
returns-then-not-is_headed-clause-fault c =
    let i = c.loop-at.invariant in
    let no = c.if-not-is_headed.ensures.no refl in
    inr (no_header c.args.bytes.now c.args.scanner.now.service c.args.start c.loop-at.at c.loop-at.segments i.begun.0 c.requires.starts i.begun.1 i.begun.2 i.headed i.settled c.loop-at-test.true (c.len.result + 1) (segment c.in_ok-tag.tag c.next_segment.new.draft.elements) c.in_ok-tag.next c.in_ok-tag.ensures (first-of c.loop-at.segments c.len.result c.len.ensures no.0) no.1)

pub returns-then-at-bytes-clause-fault : goal.returns-then-at-bytes-clause-fault
returns-then-at-bytes-clause-fault c =
    let i = c.loop-at.invariant in
    inr (trailing c.args.bytes.now c.args.scanner.now.service c.args.start c.loop-at.at c.loop-at.segments i.begun.0 c.requires.starts i.begun.1 i.begun.2 i.headed i.settled c.loop-at-test.true (c.len.result + 1) (segment c.in_ok-tag.tag c.next_segment.new.draft.elements) c.in_ok-tag.next c.in_ok-tag.ensures (λ e. c.if-not-is_headed.ensures.yes refl (ap (λ n. n + 1) (c.len.ensures ∙ ap length e))) c.skip_gap-at-in-loop-at.result c.skip_gap-at-in-loop-at.ensures.skipped (c.if-is_trailer.ensures.yes refl) c.if-at-bytes.true)

pub returns-then-is_trailer-clause-read : goal.returns-then-is_trailer-clause-read
returns-then-is_trailer-clause-read c =
    let i = c.loop-at.invariant in
    is_interchange c.args.bytes.now c.args.scanner.now.service c.args.start c.loop-at.at c.loop-at.segments i.begun.0 c.requires.starts i.begun.1 i.begun.2 i.headed i.settled c.loop-at-test.true (c.len.result + 1) (segment c.in_ok-tag.tag c.next_segment.new.draft.elements) c.in_ok-tag.next c.in_ok-tag.ensures (λ e. c.if-not-is_headed.ensures.yes refl (ap (λ n. n + 1) (c.len.ensures ∙ ap length e))) c.skip_gap-at-in-loop-at.result c.skip_gap-at-in-loop-at.ensures.skipped _ c.in_ok-push.ensures (c.if-is_trailer.ensures.yes refl) c.if-at-bytes.false

pub loop-at-preserved : goal.loop-at-preserved
loop-at-preserved c =
    let i = c.loop-at.invariant in
    record {
      within = c.skip_gap-at-in-loop-at.ensures.within;
      few = few-more c.args.bytes.now c.args.scanner.now.service c.args.start c.loop-at.at c.loop-at.segments i.begun.0 c.requires.starts i.begun.1 i.begun.2 i.headed i.settled c.loop-at-test.true (c.len.result + 1) (segment c.in_ok-tag.tag c.next_segment.new.draft.elements) c.in_ok-tag.next c.in_ok-tag.ensures (λ e. c.if-not-is_headed.ensures.yes refl (ap (λ n. n + 1) (c.len.ensures ∙ ap length e))) c.skip_gap-at-in-loop-at.result c.skip_gap-at-in-loop-at.ensures.skipped c.push.new.self c.in_ok-push.ensures i.few c.skip_gap-at-in-loop-at.ensures.least;
      headed = headed-more c.args.bytes.now c.args.scanner.now.service c.args.start c.loop-at.at c.loop-at.segments i.begun.0 c.requires.starts i.begun.1 i.begun.2 i.headed i.settled c.loop-at-test.true (c.len.result + 1) (segment c.in_ok-tag.tag c.next_segment.new.draft.elements) c.in_ok-tag.next c.in_ok-tag.ensures (λ e. c.if-not-is_headed.ensures.yes refl (ap (λ n. n + 1) (c.len.ensures ∙ ap length e))) c.skip_gap-at-in-loop-at.result c.skip_gap-at-in-loop-at.ensures.skipped c.push.new.self c.in_ok-push.ensures;
      settled = settle (drop c.in_ok-tag.next c.args.bytes.now) (drop c.skip_gap-at-in-loop-at.result c.args.bytes.now) c.skip_gap-at-in-loop-at.ensures.skipped;
      begun = begun-more c.args.bytes.now c.args.scanner.now.service c.args.start c.loop-at.at c.loop-at.segments i.begun.0 c.requires.starts i.begun.1 i.begun.2 i.headed i.settled c.loop-at-test.true (c.len.result + 1) (segment c.in_ok-tag.tag c.next_segment.new.draft.elements) c.in_ok-tag.next c.in_ok-tag.ensures (λ e. c.if-not-is_headed.ensures.yes refl (ap (λ n. n + 1) (c.len.ensures ∙ ap length e))) c.skip_gap-at-in-loop-at.result c.skip_gap-at-in-loop-at.ensures.skipped c.push.new.self c.in_ok-push.ensures (c.if-is_trailer.ensures.no refl);
    }
