-- Amounts that count in one round.
use Rattle.std.specs.Prelude.{ℕ, ◌==◌, cond}
use Rattle.event_search.specs.declared.amounts.Stamped.{Stamped}

-- what was set in this round counts, and what was set in another is 0
abbrev pub amount_in : ℕ → Stamped → ℕ
amount_in round s = cond (s.round == round) s.amount 0
