use Rattle.std.proofs.Common.{rules, ◌≡◌, ℕ, ◌<◌, ◌≤◌, Bool, List, length, get_or, arith, refl, sym, true, false, pos}
use Rattle.std.specs.Prelude.{ℤ}
use Rattle.std.specs.Bool.{MatchBool}
use Rattle.std.specs.List.{AllWithin, HoldsAt}
use Rattle.std.proofs.lemmas.Bool.{both_ways}
use Rattle.std.proofs.lemmas.Int.{to_z-of_z}
use Rattle.std.proofs.lemmas.Iterator.{cases_from_any, YieldsList-from_slice}
use Rattle.std.proofs.lemmas.Option.{slice_get-get_or, get_or_from_slice_get}
use Rattle.proof_trees.specs.Boxes.{Box, at}
use Rattle.row_matrix.specs.declared.entries.Term.{Term}
use Rattle.partial_plan.specs.Forced.{forces}
use Rattle.partial_plan.specs.Looking.{AnyForced}
use Rattle.partial_plan.proofs.looking.forces_any.Goals as goal

-- the item at which a test passed
passed : (b : Box) (slack : ℤ) (ts : List Term) (r : Bool) (No : Type 0) → MatchBool r ((k : ℕ) × (k < length ts) × HoldsAt (λ t. forces slack (at b t.at) t.by ≡ true) ts k) No → r ≡ true → AnyForced b slack ts
passed b slack ts true No h e =
    let none : Term = record { at = 0; by = pos 0 } in
    let t : Term = get_or ts h.0 none in
    (h.0, t, h.1, get_or_from_slice_get ts h.0 t t (slice_get-get_or ts h.0 none h.1), h.2 none)
passed b slack ts false No h e = absurd (both_ways false refl e)

pub returns-clause-some : goal.returns-clause-some
returns-clause-some c = passed c.args.b.now c.args.slack c.args.terms.now c.any.result _
    (cases_from_any _ _ _ (λ t. forces c.args.slack (at c.args.b.now t.at) t.by ≡ true) (λ t. forces c.args.slack (at c.args.b.now t.at) t.by ≡ false) c.any.ensures.ran (YieldsList-from_slice _ c.iter.ensures.rest)
    (λ x q k. let told : true ≡ forces c.args.slack (at c.args.b.now x.now.at) x.now.by = search (rules, to_z-of_z, get_or_from_slice_get) in sym told)
    (λ x q k. let told : false ≡ forces c.args.slack (at c.args.b.now x.now.at) x.now.by = search (rules, to_z-of_z, get_or_from_slice_get) in (search rules, sym told)))
