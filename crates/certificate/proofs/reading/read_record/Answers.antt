use Rattle.std.proofs.Common.{◌≡◌, ◌++◌, ◌∷◌, [], List, drop, length, length-drop, length-append, refl, subst, sym, ap, ◌∙◌, arith}
use Rattle.std.specs.Prelude.{All}
use Rattle.std.proofs.lemmas.Bool.{false≢true}
use Rattle.std.proofs.lemmas.List.Elements.{All-append}
use Rattle.zero_one_rows.specs.declared.program.Row.{Row}
use Rattle.zero_one_rows.specs.declared.program.Raise.{Raise}
use Rattle.certificate.specs.declared.lines.Line.{Line}
use Rattle.certificate.specs.declared.lines.Line.TheVariants as line
use Rattle.certificate.specs.Text.{whole, text_of}
use Rattle.certificate.specs.Grammar.{IsRow, IsRaise}
use Rattle.certificate.specs.Reading.{IsLine, body_so_far}
use Rattle.certificate.proofs.Lists.{one_all}
use Rattle.certificate.specs.Reading.Place.{InSteps}
use Rattle.certificate.proofs.Records.{body_halts, body_open, body_wrong, ends_or_bad, body_step, body_change, text_more, late_step, wrong_there, something_left}
use Rattle.certificate.proofs.reading.read_record.Goals as goal
use Rattle.certificate.proofs.reading.read_record.Goals.{in_default-line-via-in-Step+else-is_empty, in_default-line-via-in_default-line}

pub returns-in_default-clause-fault : goal.returns-in_default-clause-fault
returns-in_default-clause-fault c = ends_or_bad c.args.bytes.now (drop c.args.from c.args.bytes.now) c.loop-line.at c.loop-line.lines c.args.before InSteps (body_so_far c.loop-line.steps c.loop-line.raises) c.fault_at.result
    (body_halts (drop c.args.from c.args.bytes.now) (drop c.loop-line.at c.args.bytes.now) c.loop-line.steps c.loop-line.raises c.loop-line.invariant.text c.loop-line.invariant.are_rows c.loop-line.invariant.are_raises (c.in_default.ensures.none refl))
    (body_open c.loop-line.steps c.loop-line.raises) c.loop-line.invariant.within c.loop-line.invariant.count c.fault_at.ensures.end c.fault_at.ensures.bad

pub loop-line-preserved-then-is_empty : goal.loop-line-preserved-then-is_empty
loop-line-preserved-then-is_empty c =
    let p : c.push.new.self ≡ c.loop-line.steps ++ c.in-Step.row ∷ [] = c.in_ok-push-in-Step.ensures ∙ ap (λ (x : Row). c.loop-line.steps ++ x ∷ []) c.in_ok-of-in-Step.ensures in
    let b : (body_so_far c.push.new.self c.loop-line.raises) ≡ (body_so_far c.loop-line.steps c.loop-line.raises) ++ line.Step c.in-Step.row ∷ [] = ap (λ (x : List Row). body_so_far x c.loop-line.raises) p ∙ body_step c.loop-line.steps c.loop-line.raises c.in-Step.row (ap length (c.if-is_empty.ensures.0 refl)) in
    let il : IsRow c.in-Step.row = subst IsLine c.in-Step.is c.in-Some.ensures.line in
    let front : drop c.loop-line.at c.args.bytes.now ≡ whole (line.Step c.in-Step.row) ++ drop c.in-Some.next c.args.bytes.now = c.in-Some.ensures.text ∙ ap (λ (x : Line). whole x ++ drop c.in-Some.next c.args.bytes.now) c.in-Step.is in
    record {
      after = omega (arith, c.in-Some.ensures.next, c.loop-line.invariant.after);
      within = omega (arith, c.in-Some.ensures.next);
      low = omega (arith, c.in-Some.ensures.next, c.loop-line.invariant.low);
      count = omega (arith, c.loop-line.invariant.count, ap length b, length-append (body_so_far c.loop-line.steps c.loop-line.raises) (line.Step c.in-Step.row ∷ []));
      text = text_more (drop c.args.from c.args.bytes.now) (drop c.loop-line.at c.args.bytes.now) (drop c.in-Some.next c.args.bytes.now) (body_so_far c.loop-line.steps c.loop-line.raises) (line.Step c.in-Step.row) c.loop-line.invariant.text front
          ∙ ap (λ (x : List Line). text_of x ++ drop c.in-Some.next c.args.bytes.now) (sym b);
      are_rows = subst (All IsRow) (sym p) (All-append IsRow c.loop-line.steps (c.in-Step.row ∷ []) c.loop-line.invariant.are_rows (one_all IsRow c.in-Step.row il));
      are_raises = c.loop-line.invariant.are_raises;
    }

pub loop-line-preserved : goal.loop-line-preserved
loop-line-preserved c =
    let p : c.push-in-Change.new.self ≡ c.loop-line.raises ++ c.in-Change.raise ∷ [] = c.in_ok-push-in-Change.ensures ∙ ap (λ (x : Raise). c.loop-line.raises ++ x ∷ []) c.in_ok-of-in-Change.ensures in
    let b : (body_so_far c.loop-line.steps c.push-in-Change.new.self) ≡ (body_so_far c.loop-line.steps c.loop-line.raises) ++ line.Change c.in-Change.raise ∷ [] = ap (λ (x : List Raise). body_so_far c.loop-line.steps x) p ∙ body_change c.loop-line.steps c.loop-line.raises c.in-Change.raise in
    let il : IsRaise c.in-Change.raise = subst IsLine c.in-Change.is c.in-Some.ensures.line in
    let front : drop c.loop-line.at c.args.bytes.now ≡ whole (line.Change c.in-Change.raise) ++ drop c.in-Some.next c.args.bytes.now = c.in-Some.ensures.text ∙ ap (λ (x : Line). whole x ++ drop c.in-Some.next c.args.bytes.now) c.in-Change.is in
    record {
      after = omega (arith, c.in-Some.ensures.next, c.loop-line.invariant.after);
      within = omega (arith, c.in-Some.ensures.next);
      low = omega (arith, c.in-Some.ensures.next, c.loop-line.invariant.low);
      count = omega (arith, c.loop-line.invariant.count, ap length b, length-append (body_so_far c.loop-line.steps c.loop-line.raises) (line.Change c.in-Change.raise ∷ []));
      text = text_more (drop c.args.from c.args.bytes.now) (drop c.loop-line.at c.args.bytes.now) (drop c.in-Some.next c.args.bytes.now) (body_so_far c.loop-line.steps c.loop-line.raises) (line.Change c.in-Change.raise) c.loop-line.invariant.text front
          ∙ ap (λ (x : List Line). text_of x ++ drop c.in-Some.next c.args.bytes.now) (sym b);
      are_rows = c.loop-line.invariant.are_rows;
      are_raises = subst (All IsRaise) (sym p) (All-append IsRaise c.loop-line.raises (c.in-Change.raise ∷ []) c.loop-line.invariant.are_raises (one_all IsRaise c.in-Change.raise il));
    }

pub returns-in_default-line-clause-fault : goal.returns-in_default-line-clause-fault
returns-in_default-line-clause-fault c = (
  body_so_far c.loop-line.steps c.loop-line.raises,
  drop c.loop-line.at c.args.bytes.now,
  body_wrong (drop c.args.from c.args.bytes.now) (drop c.loop-line.at c.args.bytes.now) (drop c.in-Some.next c.args.bytes.now) c.loop-line.steps c.loop-line.raises c.in-Some.line c.loop-line.invariant.text c.loop-line.invariant.are_rows c.loop-line.invariant.are_raises c.in-Some.ensures.line c.in-Some.ensures.text
      (elim c.in_default-line.branch [
        | in_default-line-via-in-Step+else-is_empty w ↦ late_step c.loop-line.raises c.in-Some.line w.in-Step.row w.in-Step.is (λ e. false≢true (w.if-is_empty.ensures.1 e))
        | in_default-line-via-in_default-line w ↦ wrong_there c.loop-line.raises c.in-Some.line w.in_default-line.not-Step w.in_default-line.not-Change w.in_default-line.not-Ends
      ]),
  something_left (drop c.loop-line.at c.args.bytes.now) (drop c.in-Some.next c.args.bytes.now) c.in-Some.line (omega (arith, c.in-Some.ensures.next, length-drop c.loop-line.at c.args.bytes.now, length-drop c.in-Some.next c.args.bytes.now)),
  omega (arith, c.loop-line.invariant.count),
)
