use Rattle.std.proofs.Common.{◌≡◌, ◌+◌, ◌++◌, ◌<◌, [], ◌∷◌, ℕ, List, Some, Option, arith, length, take, ap, sym, subst, ◌∙◌, set}
use Rattle.std.specs.Prelude.{slice_get}
use Rattle.std.proofs.lemmas.List.{take_more, take_all}
use Rattle.stow_data.proofs.CoverLemmas.{entered, entered_more, entered_length, entered_same, entered_other, contains_member}
use Rattle.stow_data.proofs.CellLemmas.{member_contains}
use Rattle.stow_data.proofs.hatches.enter.Goals as goal

pub set-requires : goal.set-requires
set-requires c = omega (arith, c.stack.view_is, c.stack-item.is, c.requires c.loop-stack.stack-index c.stack-item.result c.loop-stack-test.true, ap length c.loop-stack.invariant, entered_length c.args.table.now c.args.cover (take c.loop-stack.stack-index c.args.stacks.now))

pub loop-stack-preserved : goal.loop-stack-preserved
loop-stack-preserved c =
    let more : take (c.loop-stack.stack-index + 1) c.args.stacks.now ≡ take c.loop-stack.stack-index c.args.stacks.now ++ c.stack-item.result ∷ [] =
    take_more c.args.stacks.now c.loop-stack.stack-index c.stack-item.result c.loop-stack-test.true ∙ ap (λ (z : ℕ). take c.loop-stack.stack-index c.args.stacks.now ++ z ∷ []) (sym c.stack-item.is) in
    c.set.ensures
    ∙ ap (λ (k : ℕ). set c.loop-stack.table k (Some c.args.cover)) c.stack.view_is
    ∙ ap (λ (t : List (Option ℕ)). set t c.stack-item.result (Some c.args.cover)) c.loop-stack.invariant
    ∙ sym (entered_more c.args.table.now c.args.cover (take c.loop-stack.stack-index c.args.stacks.now) c.stack-item.result)
    ∙ ap (entered c.args.table.now c.args.cover) (sym more)

pub returns-clause-same_length : goal.returns-clause-same_length
returns-clause-same_length c = ap length c.loop-stack.invariant ∙ entered_length c.args.table.now c.args.cover (take c.loop-stack.stack-index c.args.stacks.now)

pub returns-clause-these : goal.returns-clause-these
returns-clause-these c = λ s m.
    let all : c.loop-stack.table ≡ entered c.args.table.now c.args.cover c.args.stacks.now = c.loop-stack.invariant ∙ ap (entered c.args.table.now c.args.cover) (take_all c.loop-stack.stack-index c.args.stacks.now c.loop-stack-test.false) in
    let low : s < length c.args.table.now = subst (λ (z : ℕ). z < length c.args.table.now) m.2 (c.requires m.0 s m.1) in
    ap (λ (t : List (Option ℕ)). slice_get t s) all ∙ entered_same c.args.table.now c.args.cover c.args.stacks.now s low (contains_member c.args.stacks.now s m)

pub returns-clause-others : goal.returns-clause-others
returns-clause-others c = λ s out.
    let all : c.loop-stack.table ≡ entered c.args.table.now c.args.cover c.args.stacks.now = c.loop-stack.invariant ∙ ap (entered c.args.table.now c.args.cover) (take_all c.loop-stack.stack-index c.args.stacks.now c.loop-stack-test.false) in
    ap (λ (t : List (Option ℕ)). slice_get t s) all ∙ entered_other c.args.table.now c.args.cover c.args.stacks.now s (λ m. out (member_contains c.args.stacks.now s m))
