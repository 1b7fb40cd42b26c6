use Rattle.std.proofs.Common.{◌≡◌, ℕ, ◌<◌, List, [], length, get_or, ◌∙◌, ap, sym, arith}
use Rattle.std.specs.Prelude.{slice_range, slice_index_or}
use Rattle.std.proofs.lemmas.List.{get_or_past}
use Rattle.row_sums.specs.Cut.{begins}
use Rattle.row_sums.proofs.Cuts.{cut_length, cut_at, rises_at}
use Rattle.row_sums.proofs.lists.FlatLists.at.Goals as goal

pub returns-then-index-ends : goal.returns-then-index-ends
returns-then-index-ends g c =
    let len : length c.args.self.now ≡ length c.self.inside.ends.items = ap length (sym c.self.view_is) ∙ cut_length 0 c.self.inside.ends.items c.self.inside.items.items in
    sym (get_or_past c.args.self.now c.args.index [] (omega (arith, len, ap length c.as_slice-ends.ensures.value)))

pub part-requires-clause-rise : goal.part-requires-clause-rise
part-requires-clause-rise g c =
    let l : c.args.index < length c.self.inside.ends.items = omega (arith, ap length c.as_slice-ends.ensures.value) in
    let r = rises_at 0 c.self.inside.ends.items (length c.self.inside.items.items) c.args.index l c.self.invariant in
    omega (arith, r.0, c.begin_of-from.ensures, ap (λ (es : List ℕ). begins 0 es c.args.index) c.as_slice-ends.ensures.value, ap (λ (es : List ℕ). get_or es c.args.index 0) c.as_slice-ends.ensures.value)

pub part-requires-clause-within : goal.part-requires-clause-within
part-requires-clause-within g c =
    let l : c.args.index < length c.self.inside.ends.items = omega (arith, ap length c.as_slice-ends.ensures.value) in
    let r = rises_at 0 c.self.inside.ends.items (length c.self.inside.items.items) c.args.index l c.self.invariant in
    omega (arith, r.1, ap (λ (es : List ℕ). get_or es c.args.index 0) c.as_slice-ends.ensures.value, ap length c.as_slice.ensures.value)

pub returns : goal.returns
returns g c =
    let l : c.args.index < length c.self.inside.ends.items = omega (arith, ap length c.as_slice-ends.ensures.value) in
    c.part.ensures
    ∙ ap (λ (xs : List g.row.T.Denot). slice_range xs c.begin_of-from.result (get_or c.as_slice-ends.result.now c.args.index 0)) c.as_slice.ensures.value
    ∙ ap (λ (f : ℕ). slice_range c.self.inside.items.items f (get_or c.as_slice-ends.result.now c.args.index 0)) c.begin_of-from.ensures
    ∙ ap (λ (es : List ℕ). slice_range c.self.inside.items.items (begins 0 es c.args.index) (get_or es c.args.index 0)) c.as_slice-ends.ensures.value
    ∙ sym (cut_at 0 c.self.inside.ends.items c.self.inside.items.items c.args.index l)
    ∙ ap (λ (ls : List (List g.row.T.Denot)). slice_index_or ls c.args.index []) c.self.view_is
