use Rattle.std.proofs.Common.{◌≡◌, ℕ, List, length, replicate, map, refl, sym, ◌∙◌, ap, rules}
use Rattle.std.proofs.lemmas.List.{length-map}
use Rattle.event_search.specs.declared.amounts.Stamped.{Stamped}
use Rattle.event_search.specs.Rounds.{amount_in}
use Rattle.event_search.proofs.Rounds.{none_set}
use Rattle.event_search.proofs.amounts.Amounts.wipe.Goals as goal

pub returns : goal.returns
returns c =
    let unset : Stamped = record { round = 0; amount = 0 } in
    let items : c.fill.new.self.items ≡ replicate (length c.self.inside.stamped.items) unset = search rules in
    let len : length c.self.inside.stamped.items ≡ length c.args.self.now = sym (length-map c.self.inside.stamped.items (amount_in c.self.inside.round)) ∙ ap (λ (xs : List ℕ). length xs) c.self.view_is in
    ap (map (amount_in 0)) items ∙ none_set (length c.self.inside.stamped.items) unset 0 refl ∙ ap (λ (n : ℕ). replicate n 0) len
