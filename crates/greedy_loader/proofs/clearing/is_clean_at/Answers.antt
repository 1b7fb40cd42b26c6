use Rattle.greedy_loader.proofs.clearing.is_clean_at.Goals as goal

pub returns-then-is_clean_below : goal.returns-then-is_clean_below
returns-then-is_clean_below c = (λ h. record { below = c.is_clean_below.ensures.0 c.if-is_clean_below.true; under = c.is_clean_under.ensures.0 h }, λ x. c.is_clean_under.ensures.1 x.under)
