-- Rows that tighten, one after the other.
use Rattle.std.proofs.Common.{◌≡◌, ◌≢◌, true, List, [], ◌∷◌, ◌++◌, refl, sym, ◌∙◌, ap, subst, append_assoc, append-nil}
use Rattle.std.proofs.lemmas.List.Elements.{All-append, All-cons, All-nil}
use Rattle.proof_trees.specs.Program.{Program}
use Rattle.proof_trees.specs.Boxes.{Box, tight, tightened}
use Rattle.zero_one_rows.specs.declared.program.Row.{Row}
use Rattle.zero_one_rows.specs.Variables.{Voyage}
use Rattle.zero_one_rows.specs.Rows.{base, whole}
use Rattle.zero_one_rows.specs.Tightening.{ForceAll}
use Rattle.partial_plan.specs.Tightening.{Tightens}

pub tightens_none : (m : Voyage) (b : Box) (rows : List Row) → Tightens m b b rows rows
tightens_none m b rows = record { rows = []; added = sym (append-nil rows); base = All-nil (λ r. (base m).has r ≡ true); box = refl; forced = tt }

tightened_append : {R : Type 0} (p : Program R) (b : Box) (rs ss : List R) → tightened p b (rs ++ ss) ≡ tightened p (tightened p b rs) ss
tightened_append p b [] ss = refl
tightened_append p b (r ∷ rs) ss = tightened_append p (tight p b r) rs ss

force_append : {R : Type 0} (p : Program R) (b : Box) (rs ss : List R) → ForceAll p b rs → ForceAll p (tightened p b rs) ss → ForceAll p b (rs ++ ss)
force_append p b [] ss h k = k
force_append p b (r ∷ rs) ss h k = (h.0, force_append p (tight p b r) rs ss h.1 k)

pub tightens_more : (m : Voyage) (b c d : Box) (old mid new : List Row) → Tightens m b c old mid → Tightens m c d mid new → Tightens m b d old new
tightens_more m b c d old mid new h k = record {
  rows = h.rows ++ k.rows;
  added = k.added ∙ ap (λ (x : List Row). x ++ k.rows) h.added ∙ append_assoc old h.rows k.rows;
  base = All-append (λ r. (base m).has r ≡ true) h.rows k.rows h.base k.base;
  box = k.box ∙ ap (λ (x : Box). tightened (whole m) x k.rows) h.box ∙ sym (tightened_append (whole m) b h.rows k.rows);
  forced = force_append (whole m) b h.rows k.rows h.forced (subst (λ (x : Box). ForceAll (whole m) x k.rows) h.box k.forced);
}

pub tightens_one : (m : Voyage) (b c : Box) (old new : List Row) (r : Row) → (base m).has r ≡ true → new ≡ old ++ r ∷ [] → c ≡ tight (whole m) b r → tight (whole m) b r ≢ b → Tightens m b c old new
tightens_one m b c old new r has added is other = record { rows = r ∷ []; added = added; base = All-cons (λ s. (base m).has s ≡ true) r [] has (All-nil (λ s. (base m).has s ≡ true)); box = is; forced = (other, tt) }
