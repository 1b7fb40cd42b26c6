-- What holds of both sides.
use Rattle.std.proofs.Common.{Bool, true, false}

pub by_side : (P : Bool → Type 0) → P false → P true → (side : Bool) → P side
by_side P fore aft false = fore
by_side P fore aft true = aft
