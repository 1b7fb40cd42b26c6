use Rattle.std.proofs.Common.{rules, ◌≡◌, ◌<◌, ◌≤◌, ℕ, Bool, true, false, All, IsSome, MatchOption, None, Some, arith, length, slice_get, slice_index_or, subst, sym}
use Rattle.std.specs.Prelude.{Option}
use Rattle.std.specs.Option.{is_some}
use Rattle.std.proofs.lemmas.Iterator.{first_from_Range}
use Rattle.std.proofs.lemmas.Option.{slice_get-get_or, get_or_from_slice_get}
use Rattle.zero_one_rows.specs.Variables.{variables}
use Rattle.node_work.proofs.choosing.first_free.Goals as goal

pub returns-in_err-first : goal.returns-in_err-first
returns-in_err-first c =
    let is_set : Bool → ℕ → Type 0 = λ answer k. is_some (slice_index_or c.args.b.now k None) ≡ answer in
    let none : (k : ℕ) → 0 ≤ k → k < c.vars.result → is_set true k
    = first_from_Range _ _ _ None (is_set false) (is_set true) c.in_err-first.ensures.ran (λ x q k. search (rules, get_or_from_slice_get)) (λ x q k. search (rules, get_or_from_slice_get)) in
    subst (λ (r : Option ℕ). MatchOption r (All IsSome c.args.b.now) (λ x. (x < length (variables c.args.model.now)) × (slice_get c.args.b.now x ≡ Some None))) (sym c.from_residual.ensures)
    (λ k d l. subst (λ (o : Option Bool). is_some o ≡ true) (get_or_from_slice_get c.args.b.now k (slice_index_or c.args.b.now k d) None (slice_get-get_or c.args.b.now k d l))
    (none k (omega arith) (omega (arith, l, c.vars.ensures.number, c.requires))))
