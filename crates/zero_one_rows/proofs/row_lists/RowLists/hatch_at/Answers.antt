use Rattle.std.proofs.Common.{◌≡◌, ◌<◌, ◌∙◌, ◌+◌, ◌*◌, ◌/◌, ◌%◌, ℕ, ap, subst, arith, length, Some}
use Rattle.zero_one_rows.specs.Counted.{hatch_of}
use Rattle.zero_one_rows.proofs.Numbered.{numbered_row, two_calls}
use Rattle.zero_one_rows.proofs.Parts.{hatches_long}
use Rattle.zero_one_rows.proofs.row_lists.RowLists.hatch_at.Goals as goal

pub of_two-w-requires : goal.of_two-w-requires
of_two-w-requires c = let a = hatches_long c.args.self.now c.len.result c.len.ensures in omega (arith, a, c.requires.inside)

pub returns : goal.returns
returns c =
    let n : c.args.self.now.calls * c.len.result ≡ c.args.self.now.calls * length c.args.self.now.hatches = ap (λ (z : ℕ). c.args.self.now.calls * z) c.len.ensures in
    let low : c.of_two-w.result.1 < c.args.self.now.calls * length c.args.self.now.hatches = subst (λ (z : ℕ). c.of_two-w.result.1 < z) n c.of_two-w.ensures.inside in
    two_calls hatch_of c.args.self.now.calls c.args.self.now.hatches (c.args.self.now.calls * c.len.result) c.args.k c.of_two-w.result.0 c.of_two-w.result.1 _ n c.of_two-w.ensures
    (λ w e. numbered_row (hatch_of w) c.args.self.now.hatches c.args.self.now.calls c.of_two-w.result.1 c.in_call-call.result.0 c.in_call-call.result.1 c.at-pair.result.now low (c.in_call-call.ensures.call ∙ ap (λ (z : ℕ). c.of_two-w.result.1 / z + 1) c.len-2.ensures) (c.in_call-call.ensures.place ∙ ap (λ (z : ℕ). c.of_two-w.result.1 % z) c.len-2.ensures) c.at-pair.ensures ∙ ap (λ (q : ℕ). Some (hatch_of q c.in_call-call.result.0 c.at-pair.result.now)) e)
