-- The numbers below a number, one after the other.
use Rattle.std.proofs.Common.{◌≡◌, ℕ, ◌+◌, List, ◌++◌, refl, add-one}
use Rattle.bay_views.specs.Upto.{upto}

pub upto_more : {A : Type 0} (f : ℕ → List A) (n : ℕ) → upto f (n + 1) ≡ upto f n ++ f n
upto_more f n = rw add-one refl
