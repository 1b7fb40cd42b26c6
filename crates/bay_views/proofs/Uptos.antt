-- The numbers below a number, one after the other.
use Rattle.std.proofs.Common.{◌≡◌, ℕ, ◌+◌, ◌*◌, Bool, List, [], ◌++◌, refl, add-one}
use Rattle.bay_views.specs.Upto.{upto}
use Rattle.bay_views.specs.Bays.{evens, number_if}

pub upto_more : {A : Type 0} (f : ℕ → List A) (n : ℕ) → upto f (n + 1) ≡ upto f n ++ f n
upto_more f n = rw add-one refl

pub evens_none : (P : ℕ → Bool) → evens P 0 ≡ []
unfolding evens
evens_none P = refl

pub evens_more : (P : ℕ → Bool) (n : ℕ) → evens P (n + 1) ≡ evens P n ++ number_if (P (2 * n)) (2 * n)
unfolding evens
evens_more P n = rw add-one refl

pub ruleset evens_steps = (evens_none, evens_more)
