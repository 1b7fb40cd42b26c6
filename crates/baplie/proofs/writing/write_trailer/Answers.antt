use Rattle.std.proofs.Common.{◌≡◌, ℕ, ◌+◌, ◌-◌, ◌≤◌, List, [], ◌∷◌, ◌++◌, ap, ◌∙◌, get_or, length, arith, cond, Result, Ok, Err}
use Rattle.std.specs.Prelude.{is_ok, OnOk}
use Rattle.std.proofs.lemmas.List.{take_all}
use Rattle.std.specs.Fmt.{decimal}
use Rattle.edifact_segments.specs.Written.{written}
use Rattle.edifact_segments.specs.declared.segments.Segment.{Segment}
use Rattle.baplie.specs.Segments.{element}
use Rattle.baplie.proofs.Trailers.{written-as_trailer}
use Rattle.baplie.proofs.writing.write_trailer.Goals as goal

on_written : {E : Type 0} (r : Result (Unit {0}) E) (new old t u : List ℕ) → new ≡ cond (is_ok r) (old ++ t) old → t ≡ u → OnOk r (new ≡ old ++ u)
on_written (Ok x) new old t u e f = e ∙ ap (λ y. old ++ y) f
on_written (Err x) new old t u e f = tt

pub returns : goal.returns
returns c =
    let s = c.in_ok-segment.segment in
    let e = get_or c.args.referred.now.elements c.args.n [] in
    let at : c.args.n + 1 - 1 ≡ c.args.n = omega arith in
    let end : length e ≤ c.loop-k.k = omega (arith, c.components-k-end.ensures, c.loop-k-test.false) in
    let whole : s.elements ≡ (decimal c.args.count ∷ []) ∷ e ∷ [] = ap (λ (x : Segment). x.elements) c.in_ok-segment.ensures ∙ c.loop-k.invariant ∙ ap (λ x. (decimal c.args.count ∷ []) ∷ x ∷ []) (take_all c.loop-k.k e end) in
    on_written c.write_segment.result c.write_segment.new.out c.args.out.now (written s) _ c.write_segment.ensures
    (written-as_trailer s c.args.tag c.args.count (element c.args.referred.now (c.args.n + 1)) (ap (λ (x : Segment). x.tag) c.in_ok-segment.ensures) (rw at whole))
