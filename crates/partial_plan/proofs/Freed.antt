-- What is free where variables were fixed was free before.
use Rattle.std.proofs.Common.{◌≡◌, ℕ, zero, suc, List, [], ◌∷◌, None, set, refl, sym, ◌∙◌, ap}
use Rattle.proof_trees.specs.Boxes.{Box, at}
use Rattle.partial_plan.specs.Fixing.{freed, Fixes}

set_none : (b : Box) (w v : ℕ) → at b v ≡ None → at (set b w None) v ≡ None
set_none [] w v e = refl
set_none (x ∷ b) zero zero e = refl
set_none (x ∷ b) zero (suc v) e = e
set_none (x ∷ b) (suc w) zero e = e
set_none (x ∷ b) (suc w) (suc v) e = set_none b w v e

freed_none : (b : Box) (ws : List ℕ) (v : ℕ) → at b v ≡ None → at (freed b ws) v ≡ None
freed_none b [] v e = e
freed_none b (w ∷ ws) v e = freed_none (set b w None) ws v (set_none b w v e)

pub fixes_fewer : (b c : Box) (ws : List ℕ) → Fixes b c ws → (v : ℕ) → at c v ≡ None → at b v ≡ None
fixes_fewer b c ws h v e = sym (ap (λ (d : Box). at d v) h.back) ∙ freed_none c ws v e
