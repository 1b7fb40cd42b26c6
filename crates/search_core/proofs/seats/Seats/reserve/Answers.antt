use Rattle.std.proofs.Common.{arith, ◌∙◌}
use Rattle.search_core.proofs.seats.Seats.reserve.Goals as goal

pub invariant_of-self-in_err-reserve_all : goal.invariant_of-self-in_err-reserve_all
invariant_of-self-in_err-reserve_all g c = record {
  deques = c.reserve_all.ensures.kept c.self.inside.spare c.self.invariant.deques;
  left_list = grind arith;
  ended_list = grind arith;
  within = c.self.invariant.within;
  past = λ less. c.reserve.ensures.items ∙ c.self.invariant.past less;
}
