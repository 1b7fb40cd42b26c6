use Rattle.std.proofs.Common.{rules, ◌≡◌, ◌<◌, ◌∙◌, ap, refl, sym, subst, ℕ, List, All, Some, ◌++◌, ◌∷◌, [], length, drop}
use Rattle.std.proofs.lemmas.List.Elements.{All-drop}
use Rattle.proof_trees.specs.Boxes.{Box}
use Rattle.partial_plan.specs.Fixing.{freed}
use Rattle.partial_plan.proofs.Freeing.{freed_length}
use Rattle.bound_checker.specs.declared.walk.Frame.{Frame}
use Rattle.bound_checker.specs.declared.sums.Aside.{Aside}
use Rattle.bound_checker.specs.Sums.{Carries, IsAside}
use Rattle.bound_checker.proofs.Walks.{next_of, before_next, anew}
use Rattle.bound_checker.proofs.walk.Walk.put_aside.Goals as goal

pub past-fixed-requires : goal.past-fixed-requires
past-fixed-requires c =
    let w = c.args.self.now in
    let s = c.requires.stands in
    (next_of c.args.model.now w (w.frames.items ++ c.args.frame ∷ []) w.frames.items c.args.frame refl s.0 s.1 s.2).3.mark

pub free_all-requires-clause-carries : goal.free_all-requires-clause-carries
free_all-requires-clause-carries c =
    let s = c.requires.stands in
    (s.0.multipliers, subst (λ (x : Box). Carries c.args.model.now x s.0.multipliers c.args.self.now.prices.sums) (sym s.2.priced) s.2.carries)

pub free_all-requires-clause-inside : goal.free_all-requires-clause-inside
free_all-requires-clause-inside c =
    subst (λ (x : Box). All (λ v. v < length x) c.past-fixed.result.now) (sym c.requires.stands.2.priced)
    (subst (λ (us : List ℕ). All (λ v. v < length c.args.self.now.b) us) (sym c.past-fixed.ensures) (All-drop (λ v. v < length c.args.self.now.b) c.args.frame.mark c.args.self.now.undo c.requires.stands.2.inside))

pub take_back-requires-clause-carries : goal.take_back-requires-clause-carries
take_back-requires-clause-carries c =
    let s = c.requires.stands in
    (s.0.multipliers, c.free_all.ensures.carries s.0.multipliers (subst (λ (x : Box). Carries c.args.model.now x s.0.multipliers c.args.self.now.prices.sums) (sym s.2.priced) s.2.carries))

pub take_back-requires-clause-to : goal.take_back-requires-clause-to
take_back-requires-clause-to c =
    let w = c.args.self.now in
    let s = c.requires.stands in
    (next_of c.args.model.now w (w.frames.items ++ c.args.frame ∷ []) w.frames.items c.args.frame refl s.0 s.1 s.2).3.changes

pub take_back-requires-clause-sound : goal.take_back-requires-clause-sound
take_back-requires-clause-sound c = c.requires.stands.2.sound

pub follow-requires-clause-inside : goal.follow-requires-clause-inside
follow-requires-clause-inside c =
    let len : length c.free_all.new.b ≡ length c.args.self.now.b = ap (λ (x : Box). length x) (c.free_all.ensures.there ∙ ap (λ (x : Box). freed x c.past-fixed.result.now) c.requires.stands.2.priced) ∙ freed_length c.args.self.now.b c.past-fixed.result.now in
    subst (λ (n : ℕ). All (λ v. v < n) c.past-fixed.result.now) (sym len)
    (subst (λ (us : List ℕ). All (λ v. v < length c.args.self.now.b) us) (sym c.past-fixed.ensures) (All-drop (λ v. v < length c.args.self.now.b) c.args.frame.mark c.args.self.now.undo c.requires.stands.2.inside))

pub follow-requires-clause-back : goal.follow-requires-clause-back
follow-requires-clause-back c = sym (c.free_all.ensures.there ∙ ap (λ (x : Box). freed x c.past-fixed.result.now) c.requires.stands.2.priced)

pub follow-requires-clause-carries : goal.follow-requires-clause-carries
follow-requires-clause-carries c =
    let m = c.args.model.now in
    let w = c.args.self.now in
    let f = c.args.frame in
    let s = c.requires.stands in
    let n = next_of m w (w.frames.items ++ f ∷ []) w.frames.items f refl s.0 s.1 s.2 in (
      [],
      c.put_aside-aside.ensures.none m c.free_all.new.b n.0.multipliers
          (c.in-Ok.ensures.carries s.0.multipliers n.0.multipliers (c.free_all.ensures.carries s.0.multipliers (subst (λ (x : Box). Carries m x s.0.multipliers w.prices.sums) (sym s.2.priced) s.2.carries))
          (before_next m w (w.frames.items ++ f ∷ []) w.frames.items f refl s.0 n.0 c.requires.none n.3) n.3.small)
          c.requires.clean,
    )

pub returns-in_ok-push-in-Ok : goal.returns-in_ok-push-in-Ok
returns-in_ok-push-in-Ok c = λ q qs stands.
    let m = c.args.model.now in
    let w = c.args.self.now in
    let f = c.args.frame in
    let all : List Frame = w.frames.items ++ f ∷ [] in
    let n = next_of m w all w.frames.items f refl q qs stands in
    let a : Aside = c.put_aside-aside.result in
    let more : c.push.new.self.items ≡ w.frames.items ++ record { var = f.var; mark = f.mark; changes = f.changes; aside = Some a } ∷ [] = search rules in
    let freed_there : c.free_all.new.b ≡ freed w.b (drop f.mark w.undo) = c.free_all.ensures.there ∙ ap (freed w.priced) c.past-fixed.ensures ∙ ap (λ (x : Box). freed x (drop f.mark w.undo)) stands.priced in
    let there = c.free_all.ensures.carries q.multipliers (subst (λ (x : Box). Carries m x q.multipliers w.prices.sums) (sym stands.priced) stands.carries) in
    anew m w all w.frames.items f refl q qs _ a stands refl refl c.follow.ensures.there c.in-Ok.ensures.changes more refl
    (subst (λ (x : Box). Carries m x [] c.follow.new.sums) c.follow.ensures.there (c.follow.ensures.carries []
    (c.put_aside-aside.ensures.none m c.free_all.new.b n.0.multipliers (c.in-Ok.ensures.carries q.multipliers n.0.multipliers there (before_next m w all w.frames.items f refl q n.0 c.requires.none n.3) n.3.small) c.requires.clean)))
    (λ next waits. subst (λ (x : Box). IsAside m x next.multipliers a) freed_there
    (c.put_aside-aside.ensures.aside m c.free_all.new.b next.multipliers (c.in-Ok.ensures.carries q.multipliers next.multipliers there (before_next m w all w.frames.items f refl q next c.requires.none waits) waits.small)))
