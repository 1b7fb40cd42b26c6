use Rattle.std.proofs.Common.{◌≡◌, replicate, map, refl, ◌∙◌, ap, rules}
use Rattle.event_search.specs.declared.amounts.Stamped.{Stamped}
use Rattle.event_search.specs.Rounds.{amount_in}
use Rattle.event_search.proofs.Rounds.{none_set}
use Rattle.event_search.proofs.amounts.Amounts.zero.Goals as goal

pub returns : goal.returns
returns c =
    let unset : Stamped = record { round = 0; amount = 0 } in
    let items : c.in_ok-from_elem.field-0.items ≡ replicate c.args.count unset = search rules in
    ap (map (amount_in 0)) items ∙ none_set c.args.count unset 0 refl
