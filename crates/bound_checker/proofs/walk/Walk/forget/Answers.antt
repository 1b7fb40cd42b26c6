use Rattle.std.proofs.Common.{◌≡◌, ◌∙◌, ap, sym, refl, List, [], ◌==◌, length}
use Rattle.bound_checker.specs.declared.walk.Frame.{Frame}
use Rattle.bound_checker.proofs.Walks.{empty_of, forgotten}
use Rattle.bound_checker.proofs.walk.Walk.forget.Goals as goal

pub returns-then-is_empty : goal.returns-then-is_empty
returns-then-is_empty c = λ m q qs stands.
    let none : c.args.self.now.frames.items ≡ [] = empty_of c.args.self.now.frames.items (ap (λ (fs : List Frame). length fs == 0) (sym c.as_slice.ensures.value) ∙ sym c.is_empty.ensures ∙ c.if-is_empty.true) in
    forgotten m c.args.self.now c.args.self.now.frames.items q qs _ stands none refl refl refl c.clear.ensures.items refl refl
