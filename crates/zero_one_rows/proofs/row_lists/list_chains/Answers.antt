use Rattle.std.proofs.Common.{◌∙◌, ◌++◌, ◌-◌, ◌+◌, ap, sym, arith, length, List, ℕ, append_assoc}
use Rattle.std.proofs.lemmas.List.{append-nil}
use Rattle.zero_one_rows.proofs.EveryChain.{chains_same, chains_few}
use Rattle.zero_one_rows.proofs.Counting.{next_count, next_low, none_left}
use Rattle.zero_one_rows.proofs.row_lists.list_chains.Goals as goal

pub loop-place-init : goal.loop-place-init
loop-place-init c =
    let same = chains_same c.args.calls c.over-chains.result c.over-chains.ensures in
    let all = ap length same in
    let few = chains_few c.args.calls c.requires in
    record { all = ap (λ (xs : List (List ℕ)). xs ++ c.over-chains.result) c.new-list.ensures ∙ same; rest = omega (arith, all, few) }

pub loop-place-preserved : goal.loop-place-preserved
loop-place-preserved c =
    let next = (next_count c.next.result c.loop-place.chains c.next.new.self c.next.ensures).1 in
    let low = next_low c.next.result c.loop-place.chains c.next.new.self (8192 - (c.loop-place._place + 1)) c.next.ensures (omega (arith, c.loop-place.invariant.rest, c.loop-place-test.true)) in
    record {
      all = ap (λ (xs : List (List ℕ)). xs ++ c.next.new.self) c.in_ok-push_chain.ensures ∙ append_assoc c.loop-place.list _ c.next.new.self ∙ ap (λ (xs : List (List ℕ)). c.loop-place.list ++ xs) (sym next) ∙ c.loop-place.invariant.all;
      rest = low;
    }

pub returns : goal.returns
returns c = sym (append-nil c.loop-place.list) ∙ ap (λ (xs : List (List ℕ)). c.loop-place.list ++ xs) (sym (none_left c.loop-place.chains (omega (arith, c.loop-place.invariant.rest, c.loop-place-test.false)))) ∙ c.loop-place.invariant.all
