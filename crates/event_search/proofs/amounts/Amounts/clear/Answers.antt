use Rattle.std.proofs.Common.{◌≡◌, ◌+◌, ℕ, List, length, replicate, sym, ◌∙◌, ap, arith}
use Rattle.std.proofs.lemmas.List.{length-map}
use Rattle.event_search.specs.Rounds.{amount_in}
use Rattle.event_search.proofs.Rounds.{all_past}
use Rattle.event_search.proofs.amounts.Amounts.clear.Goals as goal

pub returns-in-Some : goal.returns-in-Some
returns-in-Some c =
    let next : c.in-Some.round ≡ c.self.inside.round + 1 = search arith in
    let len : length c.self.inside.stamped.items ≡ length c.args.self.now = sym (length-map c.self.inside.stamped.items (amount_in c.self.inside.round)) ∙ ap (λ (xs : List ℕ). length xs) c.self.view_is in
    all_past c.self.inside.stamped.items c.in-Some.round (λ k d lt. omega (arith, next, c.self.invariant k d lt)) ∙ ap (λ (n : ℕ). replicate n 0) len
