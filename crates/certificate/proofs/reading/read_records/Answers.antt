use Rattle.std.proofs.Common.{◌≡◌, ◌+◌, ◌++◌, ◌∷◌, [], List, drop, length, length-drop, length-append, Some, refl, subst, sym, ap, ◌∙◌, arith}
use Rattle.std.specs.Prelude.{Option, All, flat_map}
use Rattle.std.proofs.lemmas.Result.{err_from_is_err_and}
use Rattle.std.proofs.lemmas.List.Elements.{All-append}
use Rattle.certificate.specs.declared.tree.Record.{Record}
use Rattle.certificate.specs.declared.lines.Line.{Line}
use Rattle.certificate.specs.declared.lines.Line.TheVariants as line
use Rattle.certificate.specs.Text.{whole, text_of, record_lines}
use Rattle.certificate.specs.Grammar.{IsRecord}
use Rattle.certificate.specs.Reading.{IsLine, Place, run, Fails}
use Rattle.certificate.specs.Reading.Place.{Between, InSteps}
use Rattle.certificate.proofs.Lists.{one_all}
use Rattle.certificate.proofs.Records.{halts_none, halts_wrong, ends_or_bad, text_more, something_left}
use Rattle.certificate.proofs.Trees.{run-append, run_records, records_open, records_are_lines, record_read, more_records, fails_within, halts_done, if_err, wrong_between}
use Rattle.certificate.proofs.reading.read_records.Goals as goal

pub returns-in_default-clause-fault : goal.returns-in_default-clause-fault
returns-in_default-clause-fault c = ends_or_bad c.args.bytes.now (drop c.args.from c.args.bytes.now) c.loop-line.at c.loop-line.lines 5 Between (flat_map record_lines c.loop-line.tree) c.fault_at.result
    (halts_none (drop c.args.from c.args.bytes.now) Between (flat_map record_lines c.loop-line.tree) Between (records_are_lines c.loop-line.tree c.loop-line.invariant.are_records) (run_records c.loop-line.tree) (drop c.loop-line.at c.args.bytes.now) c.loop-line.invariant.text (c.in_default.ensures.none refl))
    (records_open c.loop-line.tree) c.loop-line.invariant.within c.loop-line.invariant.count c.fault_at.ensures.end c.fault_at.ensures.bad

pub returns-in_err-item-in-Node-clause-fault : goal.returns-in_err-item-in-Node-clause-fault
returns-in_err-item-in-Node-clause-fault c =
    let a = c.in_err-item-in-Node.ensures.fault in
    let r = err_from_is_err_and c.from_residual.result c.from_residual.ensures.1 in
    let f = fails_within (drop c.args.from c.args.bytes.now) (drop c.in-Some.next c.args.bytes.now) Between InSteps 5 (c.loop-line.lines + 1) (flat_map record_lines c.loop-line.tree ++ line.Node c.in-Node.from_zero ∷ [])
    (text_more (drop c.args.from c.args.bytes.now) (drop c.loop-line.at c.args.bytes.now) (drop c.in-Some.next c.args.bytes.now) (flat_map record_lines c.loop-line.tree) (line.Node c.in-Node.from_zero) c.loop-line.invariant.text (c.in-Some.ensures.text ∙ ap (λ (x : Line). whole x ++ drop c.in-Some.next c.args.bytes.now) c.in-Node.is))
    (All-append IsLine (flat_map record_lines c.loop-line.tree) (line.Node c.in-Node.from_zero ∷ []) (records_are_lines c.loop-line.tree c.loop-line.invariant.are_records) (one_all IsLine (line.Node c.in-Node.from_zero) tt))
    (run-append (Some Between) (flat_map record_lines c.loop-line.tree) (line.Node c.in-Node.from_zero ∷ []) ∙ ap (λ (p : Option Place). run p (line.Node c.in-Node.from_zero ∷ [])) (run_records c.loop-line.tree))
    (omega (arith, c.loop-line.invariant.count, length-append (flat_map record_lines c.loop-line.tree) (line.Node c.in-Node.from_zero ∷ []))) in
    if_err c.from_residual.result (Fails (drop c.args.from c.args.bytes.now) Between 5) r.0 c.in_err-item-in-Node.field-0.0 r.1 r.2 (f c.in_err-item-in-Node.field-0.0 a)

pub loop-line-preserved : goal.loop-line-preserved
loop-line-preserved c = record {
  after = omega (arith, c.in_ok-item-in-Node.ensures.next, c.in-Some.ensures.next, c.loop-line.invariant.after);
  within = c.in_ok-item-in-Node.ensures.next.1;
  low = c.in_ok-item-in-Node.ensures.count.1;
  count = let e : length (flat_map record_lines c.push.new.self) ≡ length (flat_map record_lines c.loop-line.tree ++ record_lines c.in_ok-item-in-Node.item) =
      ap (λ (t : List Record). length (flat_map record_lines t)) c.in_ok-push-in-Node.ensures ∙ ap length (more_records c.loop-line.tree c.in_ok-item-in-Node.item) in
      omega (arith, e, c.in_ok-item-in-Node.ensures.count.0, c.loop-line.invariant.count, length-append (flat_map record_lines c.loop-line.tree) (record_lines c.in_ok-item-in-Node.item));
  text = record_read (drop c.args.from c.args.bytes.now) (drop c.loop-line.at c.args.bytes.now) (drop c.in-Some.next c.args.bytes.now) (drop c.in_ok-item-in-Node.behind c.args.bytes.now) c.loop-line.tree c.in_ok-item-in-Node.item c.in-Node.from_zero c.loop-line.invariant.text (c.in-Some.ensures.text ∙ ap (λ (x : Line). whole x ++ drop c.in-Some.next c.args.bytes.now) c.in-Node.is) c.in_ok-item-in-Node.ensures.zero c.in_ok-item-in-Node.ensures.text
      ∙ ap (λ (t : List Record). text_of (flat_map record_lines t) ++ drop c.in_ok-item-in-Node.behind c.args.bytes.now) (sym c.in_ok-push-in-Node.ensures);
  are_records = subst (All IsRecord) (sym c.in_ok-push-in-Node.ensures) (All-append IsRecord c.loop-line.tree (c.in_ok-item-in-Node.item ∷ []) c.loop-line.invariant.are_records (one_all IsRecord c.in_ok-item-in-Node.item c.in_ok-item-in-Node.ensures.record_is));
}

pub returns-in-Close-2-clause-fault : goal.returns-in-Close-2-clause-fault
returns-in-Close-2-clause-fault c = (
  flat_map record_lines c.loop-line.tree ++ line.Close ∷ [],
  (drop c.in-Some.next c.args.bytes.now),
  halts_done (drop c.args.from c.args.bytes.now) (drop c.loop-line.at c.args.bytes.now) (drop c.in-Some.next c.args.bytes.now) c.loop-line.tree c.loop-line.invariant.are_records c.loop-line.invariant.text (c.in-Some.ensures.text ∙ ap (λ (x : Line). whole x ++ drop c.in-Some.next c.args.bytes.now) c.in-Close.is),
  (λ e. omega (arith, ap length e, length-drop c.in-Some.next c.args.bytes.now, c.in-Some.ensures.next, c.if-next-bytes.false)),
  omega (arith, c.loop-line.invariant.count, length-append (flat_map record_lines c.loop-line.tree) (line.Close ∷ [])),
)

pub returns-in_default-line : goal.returns-in_default-line
returns-in_default-line c = record {
  records = tt;
  text = tt;
  fault = (
    (flat_map record_lines c.loop-line.tree),
    (drop c.loop-line.at c.args.bytes.now),
    halts_wrong (drop c.args.from c.args.bytes.now) Between (flat_map record_lines c.loop-line.tree) Between (records_are_lines c.loop-line.tree c.loop-line.invariant.are_records) (run_records c.loop-line.tree) (drop c.loop-line.at c.args.bytes.now) (drop c.in-Some.next c.args.bytes.now) c.in-Some.line c.loop-line.invariant.text c.in-Some.ensures.line c.in-Some.ensures.text
        (wrong_between c.in-Some.line c.in_default-line.not-Node c.in_default-line.not-Close),
    something_left (drop c.loop-line.at c.args.bytes.now) (drop c.in-Some.next c.args.bytes.now) c.in-Some.line (omega (arith, c.in-Some.ensures.next, length-drop c.loop-line.at c.args.bytes.now, length-drop c.in-Some.next c.args.bytes.now)),
    omega (arith, c.loop-line.invariant.count),
  );
}
