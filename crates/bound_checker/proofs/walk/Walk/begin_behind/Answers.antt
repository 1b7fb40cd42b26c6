use Rattle.std.proofs.Common.{rules, ◌≡◌, ◌∙◌, ap, refl, sym, List, Option, ◌++◌, ◌∷◌, []}
use Rattle.bound_checker.specs.declared.walk.Frame.{Frame}
use Rattle.bound_checker.specs.declared.sums.Aside.{Aside}
use Rattle.bound_checker.proofs.Raising.{carries_blank}
use Rattle.bound_checker.proofs.Waiting.{moves_none}
use Rattle.bound_checker.proofs.Walks.{next_of, before_none, aside_there, some_of, anew, stands_changed}
use Rattle.bound_checker.proofs.walk.Walk.begin_behind.Goals as goal

pub take_back-requires-clause-to : goal.take_back-requires-clause-to
take_back-requires-clause-to c =
    let w = c.args.self.now in
    let s = c.requires.stands in
    (next_of c.args.model.now w (w.frames.items ++ c.args.frame ∷ []) w.frames.items c.args.frame refl s.0 s.1 s.2).3.changes

pub returns-in_ok-push-in-Ok : goal.returns-in_ok-push-in-Ok
returns-in_ok-push-in-Ok c = λ q qs stands.
    let m = c.args.model.now in
    let w = c.args.self.now in
    let f = c.args.frame in
    let all : List Frame = w.frames.items ++ f ∷ [] in
    let n = next_of m w all w.frames.items f refl q qs stands in
    let some = some_of f.aside (sym c.is_some.ensures ∙ c.if-is_some.true) in
    let more : c.push.new.self.items ≡ all = search rules in
    anew m w all w.frames.items f refl q qs _ some.0 stands refl refl stands.priced c.in-Ok.ensures.changes
    (more ∙ ap (λ (o : Option Aside). w.frames.items ++ record { var = f.var; mark = f.mark; changes = f.changes; aside = o } ∷ []) some.1) refl
    (c.in-Ok.ensures.carries q.multipliers [] stands.carries (before_none m w all w.frames.items f refl q n.0 some.0 some.1 n.3) tt)
    (λ next waits. aside_there m w all w.frames.items f refl q next some.0 some.1 waits)

pub returns-in_ok-clear-in-Ok-None : goal.returns-in_ok-clear-in-Ok-None
returns-in_ok-clear-in-Ok-None c = λ q qs stands.
    let m = c.args.model.now in
    let w = c.args.self.now in
    let all : List Frame = w.frames.items ++ c.args.frame ∷ [] in
    let more : c.push-in-Ok-None.new.self.items ≡ all = search rules in
    stands_changed m w all q qs _ [] stands refl refl stands.priced more refl
    (c.in_ok-clear-in-Ok-None.ensures q.multipliers q.multipliers w.prices.changes.items (record { carries = carries_blank m w.b q.multipliers w.prices.sums stands.carries c.take.new.self c.take.ensures.blank; moves = moves_none m q.multipliers w.prices.changes.items }))
