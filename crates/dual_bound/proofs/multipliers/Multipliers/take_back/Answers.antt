use Rattle.std.proofs.Common.{rules, ◌≡◌, ◌∙◌, sym, ap, length, take, ℕ, ◌-◌}
use Rattle.std.specs.Vec.{vec_len}
use Rattle.dual_bound.proofs.Placing.{back_here, back_popped}
use Rattle.dual_bound.proofs.multipliers.Multipliers.take_back.Goals as goal

pub returns-in-Some : goal.returns-in-Some
returns-in-Some c = λ ms r given is place amount.
    let e : c.self.inside.entries.items ≡ c.args.self.now = search rules in
    back_here ms c.self.inside.entries.items r c.in-Some.k given c.args.amount c.index_mut.result.now (sym place ∙ c.in-Some.is) (e ∙ is) amount c.index_mut.ensures.value

pub returns-in-None : goal.returns-in-None
returns-in-None c = λ ms r given is place amount.
    let e : c.self.inside.entries.items ≡ c.args.self.now = search rules in
    let l : vec_len c.self.inside.entries ≡ length c.self.inside.entries.items = search rules in
    back_popped ms c.self.inside.entries.items r given _ (sym place ∙ c.in-None.is) (e ∙ is) (c.pop.ensures.rest ∙ ap (λ (n : ℕ). take (n - 1) c.self.inside.entries.items) l)
