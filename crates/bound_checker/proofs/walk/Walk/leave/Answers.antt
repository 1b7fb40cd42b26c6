use Rattle.std.proofs.Common.{◌≤◌, ℕ, ◌∙◌, ap, sym, subst, false, All, Some, None, Option, Bool, List, ◌++◌, ◌∷◌, [], length, take}
use Rattle.std.specs.Prelude.{IfSome}
use Rattle.std.proofs.lemmas.Option.{slice_get-get_or}
use Rattle.proof_trees.specs.Boxes.{Box, fixed}
use Rattle.bound_checker.specs.Sums.{IsAside}
use Rattle.bound_checker.specs.Waits.{in_hand, Before, IsSound}
use Rattle.bound_checker.proofs.Walks.{next_of, free_there, next_stands, small_in_hand}
use Rattle.bound_checker.proofs.walk.Walk.leave.Goals as goal

pub release-requires-clause-mark : goal.release-requires-clause-mark
release-requires-clause-mark c = let s = c.requires.stands in (next_of c.args.model.now c.args.self.now c.args.self.now.frames.items c.pop.new.self.items c.in-Some.frame c.in-Some.ensures.items s.0 s.1 s.2).3.mark

pub release-requires-clause-inside : goal.release-requires-clause-inside
release-requires-clause-inside c = c.requires.stands.2.inside

pub release-requires-clause-priced : goal.release-requires-clause-priced
release-requires-clause-priced c = record { same = c.requires.stands.2.priced; carries = (c.requires.stands.0.multipliers, c.requires.stands.2.carries) }

pub take_back-requires-clause-carries : goal.take_back-requires-clause-carries
take_back-requires-clause-carries c = (c.requires.stands.0.multipliers, c.release.ensures.carries c.requires.stands.0.multipliers c.requires.stands.2.carries)

pub take_back-requires-clause-to : goal.take_back-requires-clause-to
take_back-requires-clause-to c =
    let s = c.requires.stands in
    subst (λ k. c.in-Some.frame.changes ≤ length k.items) (sym c.release.ensures.changes) (next_of c.args.model.now c.args.self.now c.args.self.now.frames.items c.pop.new.self.items c.in-Some.frame c.in-Some.ensures.items s.0 s.1 s.2).3.changes

pub take_back-requires-clause-sound : goal.take_back-requires-clause-sound
take_back-requires-clause-sound c = subst (λ k. All (IsSound c.args.model.now) k.items) (sym c.release.ensures.changes) c.requires.stands.2.sound

pub halve-requires-clause-free : goal.halve-requires-clause-free
halve-requires-clause-free c =
    let s = c.requires.stands in
    let f = free_there c.args.model.now c.args.self.now c.args.self.now.frames.items c.pop.new.self.items c.in-Some.frame c.in-Some.ensures.items s.0 s.1 c.release.new.self.b s.2 c.release.ensures.box in
    slice_get-get_or c.release.new.self.b c.in-Some.frame.var None f.0 ∙ ap (λ (o : Option Bool). Some o) f.1

pub halve-requires-clause-priced : goal.halve-requires-clause-priced
halve-requires-clause-priced c =
    let m = c.args.model.now in
    let s = c.requires.stands in
    let o = c.in-Some.frame.aside in
    let n = next_of m c.args.self.now c.args.self.now.frames.items c.pop.new.self.items c.in-Some.frame c.in-Some.ensures.items s.0 s.1 s.2 in
    let ns = n.0.multipliers in
    record {
      same = c.release.ensures.priced;
      carries = (
        ns,
        c.in_ok-bring_back-in-Ok.ensures ns
            (c.in-Ok.ensures.carries s.0.multipliers (in_hand o ns) (c.release.ensures.carries s.0.multipliers s.2.carries)
            (subst (λ k. Before (in_hand o ns) c.in-Some.frame.changes k.items s.0.multipliers) (sym c.release.ensures.changes) n.3.amounts) (small_in_hand m o ns n.3.small))
            (subst (λ (x : Box). IfSome o (IsAside m x ns)) (sym c.release.ensures.box) n.3.aside)
            n.3.small,
      );
    }

pub bring_back-requires : goal.bring_back-requires
bring_back-requires c =
    let m = c.args.model.now in
    let s = c.requires.stands in
    let o = c.in-Some.frame.aside in
    let n = next_of m c.args.self.now c.args.self.now.frames.items c.pop.new.self.items c.in-Some.frame c.in-Some.ensures.items s.0 s.1 s.2 in
    let ns = n.0.multipliers in (
      ns,
      c.in-Ok.ensures.carries s.0.multipliers (in_hand o ns) (c.release.ensures.carries s.0.multipliers s.2.carries)
          (subst (λ k. Before (in_hand o ns) c.in-Some.frame.changes k.items s.0.multipliers) (sym c.release.ensures.changes) n.3.amounts) (small_in_hand m o ns n.3.small),
      subst (λ (x : Box). IfSome o (IsAside m x ns)) (sym c.release.ensures.box) n.3.aside,
      n.3.small,
    )

pub returns-in_ok-halve-in-Ok : goal.returns-in_ok-halve-in-Ok
returns-in_ok-halve-in-Ok c = λ q qs stands.
    let m = c.args.model.now in
    let o = c.in-Some.frame.aside in
    let r = c.release.ensures in
    let h = c.in_ok-halve-in-Ok.ensures in
    next_stands m c.args.self.now c.args.self.now.frames.items c.pop.new.self.items c.in-Some.frame c.in-Some.ensures.items q qs c.halve.new.self stands
    (h.box ∙ ap (λ (x : Box). fixed x c.in-Some.frame.var false) r.box)
    (h.fixes ∙ ap (λ (us : List ℕ). us ++ c.in-Some.frame.var ∷ []) r.fixes) h.priced
    (ap (λ k. k.items) h.changes ∙ c.in-Ok.ensures.changes ∙ ap (λ k. take c.in-Some.frame.changes k.items) r.changes)
    (h.waiting ∙ r.waiting) (h.done ∙ r.done)
    (λ ms ns carries before small aside. h.carries ns (c.in_ok-bring_back-in-Ok.ensures ns
    (c.in-Ok.ensures.carries ms (in_hand o ns) (r.carries ms carries)
    (subst (λ k. Before (in_hand o ns) c.in-Some.frame.changes k.items ms) (sym r.changes) before) (small_in_hand m o ns small))
    (subst (λ (x : Box). IfSome o (IsAside m x ns)) (sym r.box) aside) small))
