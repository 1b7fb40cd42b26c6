use Rattle.std.proofs.Common.{rules, ◌≡◌, ◌∙◌, sym, true, false}
use Rattle.stow_data.proofs.Ranges.{all_from_Range}
use Rattle.baplie.specs.Segments.{element}
use Rattle.baplie.proofs.Elementwise.{answers, told}
use Rattle.baplie.proofs.roles.same_element.Goals as goal

pub returns-then-count-components : goal.returns-then-count-components
returns-then-count-components c =
    let a = element c.args.a.now c.args.n in
    let b = element c.args.b.now c.args.m in
    told a b c.all.result _ c.components-count.ensures (sym c.components-count.ensures ∙ c.if-count-components.true ∙ c.components.ensures)
    (all_from_Range _ _ _ _ (answers a b true) (answers a b false) c.all.ensures.ran (λ x q k. search rules) (λ x q k. search rules))
