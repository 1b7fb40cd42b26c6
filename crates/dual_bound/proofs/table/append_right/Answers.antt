use Rattle.std.proofs.Common.{rules, arith, ◌≡◌, ℕ, ◌+◌, ◌∙◌, List, [], ◌∷◌, ◌++◌, ℤ, pos, Some, length, ap, sym, subst, SFits, w64, to_z, of_z}
use Rattle.std.specs.Prelude.{slice_get}
use Rattle.std.proofs.lemmas.Int.{to_z-of_z}
use Rattle.zero_one_rows.specs.declared.program.Row.{Row}
use Rattle.zero_one_rows.specs.Counted.{all_rows}
use Rattle.dual_bound.specs.Kept.{IsRight, AreRights}
use Rattle.dual_bound.proofs.Keeping.{one_more}
use Rattle.dual_bound.proofs.table.append_right.Goals as goal

pub returns-in_err-push-clause-kept : goal.returns-in_err-push-clause-kept
returns-in_err-push-clause-kept c =
    let e : c.push.new.self ≡ c.args.rights.now = search rules in
    subst (λ (zs : List ℤ). AreRights c.args.model.now zs) (sym e) c.requires.kept

pub returns-clause-kept : goal.returns-clause-kept
returns-clause-kept c =
    let m = c.args.model.now in
    let s : SFits w64 c.rhs-right.result = search rules in
    let side : ℤ = to_z w64 (of_z w64 c.rhs-right.result) in
    let f : c.push.new.self ≡ c.args.rights.now ++ side ∷ [] = search rules in
    let plain : (k : ℕ) → 0 + k ≡ k = λ k. omega arith in
    let to : (k : ℕ) (r : Row) → slice_get (all_rows m) k ≡ Some r → slice_get (all_rows m) (0 + k) ≡ Some r = λ k r at. ap (λ (i : ℕ). slice_get (all_rows m) i) (plain k) ∙ at in
    let from : (k : ℕ) (r : Row) → slice_get (all_rows m) (0 + k) ≡ Some r → slice_get (all_rows m) k ≡ Some r = λ k r at. ap (λ (i : ℕ). slice_get (all_rows m) i) (sym (plain k)) ∙ at in
    let here : slice_get (all_rows m) (length c.args.rights.now) ≡ Some c.row_at-row.result = ap (λ (k : ℕ). slice_get (all_rows m) k) c.requires.rights ∙ c.row_at-row.ensures.place in
    let right : IsRight m c.row_at-row.result c.rhs-right.result = record { row = c.row_at-row.ensures.has; right = c.rhs-right.ensures.value; low = c.rhs-right.ensures.size } in
    let more = one_more m 0 (IsRight m) (pos 0) c.args.rights.now side c.row_at-row.result (λ k r lt at. c.requires.kept k r lt (from k r at)) (to (length c.args.rights.now) c.row_at-row.result here) (simp to_z-of_z right) in
    subst (λ (zs : List ℤ). AreRights m zs) (sym f) (λ k r lt at. more k r lt (to k r at))
