-- What a run handles, by how much there is.
use Rattle.std.specs.Prelude.{◌≡◌, ◌+◌, ◌<◌, All, length}
use Rattle.heuristic.specs.declared.trade.Trade.TheInside.{Inside}

-- for each kind whether it is handled; for each call, with the last, which kinds come and go
pub record IsTrade (t : Inside) : Type 0 where
  pub each_kind : length t.is_handled.items ≡ t.sizes.kinds
  pub each_coming : length t.comes.items ≡ t.sizes.calls + 1
  pub each_going : length t.goes.items ≡ t.sizes.calls + 1
  pub kinds_in : All (λ g. g < t.sizes.kinds) t.kinds.items
  pub coming_in : All (λ list. All (λ g. g < t.sizes.kinds) list.items) t.comes.items
