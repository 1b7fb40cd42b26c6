-- Texts that are written piece after piece.
use Rattle.std.proofs.Common.{◌≡◌, ℕ, List, [], ◌++◌, Result, Ok, Err, ap, ◌∙◌, append_assoc}
use Rattle.std.specs.Prelude.{OnOk}

-- a text, and one piece more
pub joined : (a b c x y : List ℕ) → b ≡ a ++ x → c ≡ b ++ y → c ≡ a ++ (x ++ y)
joined a b c x y h k = k ∙ (ap (λ (z : List ℕ). z ++ y) h ∙ append_assoc a x y)

-- the last piece, which may find no memory
pub ended : {E : Type 0} (r : Result (Unit {0}) E) (a b c x y : List ℕ) → b ≡ a ++ x → OnOk r (c ≡ b ++ y) → OnOk r (c ≡ a ++ (x ++ y))
ended (Ok u) a b c x y h k = joined a b c x y h k
ended (Err e) a b c x y h k = tt

pub from_nothing : (a c x : List ℕ) → a ≡ [] → c ≡ a ++ x → c ≡ x
from_nothing a c x h k = k ∙ ap (λ (z : List ℕ). z ++ x) h
