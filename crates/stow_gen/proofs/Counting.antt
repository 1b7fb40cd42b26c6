-- The containers that are still to come.
use Rattle.std.proofs.Common.{◌≡◌, ℕ, suc, ◌+◌, ◌-◌, ◌<◌, ◌≤◌, List, [], ◌++◌, refl, sym, ap, ◌∙◌, arith, append_assoc}
use Rattle.std.proofs.lemmas.List.{append-nil}
use Rattle.stow_gen.specs.declared.draws.Lot.{Lot}
use Rattle.stow_gen.specs.Draws.{after_lot, lot}
use Rattle.stow_gen.specs.Bookings.{container_text, containers_text}

one_off : (left k state : ℕ) → containers_text (suc left) k state ≡ container_text k (lot state) ++ containers_text left (k + 1) (after_lot state)
unfolding containers_text
one_off left k state = refl

pub none_left : (k state : ℕ) → containers_text 0 k state ≡ []
unfolding containers_text
none_left k state = refl

-- one container is written
pub onward : (out more total : List ℕ) (i state next : ℕ) (l : Lot) → i < 120 → more ≡ out ++ container_text (i + 1) l → l ≡ lot state → next ≡ after_lot state → out ++ containers_text (120 - i) (i + 1) state ≡ total → more ++ containers_text (120 - (i + 1)) (i + 1 + 1) next ≡ total
onward out more total i state next l low written drawn state_is so_far =
    let fewer : 120 - i ≡ suc (120 - (i + 1)) = omega arith in
    let rest : List ℕ = containers_text (120 - (i + 1)) (i + 1 + 1) (after_lot state) in
    let one : containers_text (120 - i) (i + 1) state ≡ container_text (i + 1) (lot state) ++ rest = ap (λ (n : ℕ). containers_text n (i + 1) state) fewer ∙ one_off (120 - (i + 1)) (i + 1) state in
    ap (λ (s : ℕ). more ++ containers_text (120 - (i + 1)) (i + 1 + 1) s) state_is
    ∙ (ap (λ (z : List ℕ). z ++ rest) (written ∙ ap (λ (m : Lot). out ++ container_text (i + 1) m) drawn)
    ∙ (append_assoc out (container_text (i + 1) (lot state)) rest ∙ (ap (λ (z : List ℕ). out ++ z) (sym one) ∙ so_far)))

-- all are
pub all_written : (out total : List ℕ) (i k state : ℕ) → 120 ≤ i → out ++ containers_text (120 - i) k state ≡ total → out ≡ total
all_written out total i k state high so_far =
    let none : 120 - i ≡ 0 = omega arith in
    sym (append-nil out) ∙ (ap (λ (z : List ℕ). out ++ z) (sym (ap (λ (n : ℕ). containers_text n k state) none ∙ none_left k state)) ∙ so_far)
