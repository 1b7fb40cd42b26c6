-- The calls of a voyage, one after the other.
use Rattle.std.proofs.Common.{◌≡◌, ℕ, zero, suc, ◌+◌, Bool, List, [], ◌∷◌, Some, length, refl, sym, ap, subst, arith}
use Rattle.std.specs.Prelude.{slice_get, slice_index_or}
use Rattle.std.proofs.lemmas.Option.{none-some, same_Some}
use Rattle.stow_data.specs.Ship.{Ship}
use Rattle.stow_data.specs.Shipment.{Cargo}
use Rattle.stow_data.specs.Plans.{Plan}
use Rattle.voyage_meaning.specs.declared.moves.Move.{Move}
use Rattle.voyage_meaning.specs.Voyage.{IsVoyage, LeadsTo, start}
use Rattle.plan_lifts.specs.Least.{AreLeast, IsLeastClosed}
use Rattle.plan_lifts.specs.Lifted.{AreListed, IsListed, LiftEachExactly, LiftsExactly}

module _ (ship : Ship) (cargo : Cargo) where
  pub as_many : (call : ℕ) (before : Plan) (voyage : List (List Move)) (plans : List Plan) → IsVoyage ship cargo call before voyage plans → length voyage ≡ length plans
  as_many call before [] [] h = refl
  as_many call before [] (p ∷ plans) h = absurd h
  as_many call before (ms ∷ voyage) [] h = absurd h
  as_many call before (ms ∷ voyage) (p ∷ plans) h = ap suc (as_many (suc call) p voyage plans h.1)

  -- the moves of a call lead from the departure before it to its own
  pub led : (call : ℕ) (before : Plan) (voyage : List (List Move)) (plans : List Plan) (k : ℕ) (moves : List Move) → IsVoyage ship cargo call before voyage plans → slice_get voyage k ≡ Some moves
      → LeadsTo ship cargo (call + k) (slice_index_or (before ∷ plans) k []) moves (slice_index_or (before ∷ plans) (suc k) [])
  led call before [] [] k moves h is = absurd (none-some moves is)
  led call before [] (p ∷ plans) k moves h is = absurd h
  led call before (ms ∷ voyage) [] k moves h is = absurd h
  led call before (ms ∷ voyage) (p ∷ plans) zero moves h is =
      let e : call + 0 ≡ call = omega arith in
      subst (λ (n : ℕ). LeadsTo ship cargo n before moves p) (sym e) (subst (λ (m : List Move). LeadsTo ship cargo call before m p) (same_Some ms moves is) h.0)
  led call before (ms ∷ voyage) (p ∷ plans) (suc k) moves h is =
      let e : call + suc k ≡ suc call + k = omega arith in
      subst (λ (n : ℕ). LeadsTo ship cargo n (slice_index_or (p ∷ plans) k []) moves (slice_index_or (p ∷ plans) (suc k) [])) (sym e) (led (suc call) p voyage plans k moves h.1 is)

  -- they lift exactly the list of the least closed set of the call
  pub least_led : (call : ℕ) (before : Plan) (voyage : List (List Move)) (plans : List Plan) (sets : List (ℕ → Bool)) (lists : List (List ℕ)) (k : ℕ) (moves : List Move) → AreLeast ship before plans sets → AreListed before plans sets lists → LiftEachExactly ship cargo call before voyage plans lists
      → slice_get voyage k ≡ Some moves
      → (list : List ℕ) × (set : ℕ → Bool) × IsLeastClosed ship (slice_index_or (before ∷ plans) k []) (slice_index_or (before ∷ plans) (suc k) []) set × IsListed (slice_index_or (before ∷ plans) k []) set list
      × LiftsExactly cargo (call + k) (start ship cargo (call + k) (slice_index_or (before ∷ plans) k [])) moves list
  least_led call before [] plans sets lists k moves least listed exact is = absurd (none-some moves is)
  least_led call before (ms ∷ voyage) [] sets lists k moves least listed exact is = absurd exact
  least_led call before (ms ∷ voyage) (p ∷ plans) [] lists k moves least listed exact is = absurd least
  least_led call before (ms ∷ voyage) (p ∷ plans) (f ∷ sets) [] k moves least listed exact is = absurd exact
  least_led call before (ms ∷ voyage) (p ∷ plans) (f ∷ sets) (l ∷ lists) zero moves least listed exact is =
      let e : call + 0 ≡ call = omega arith in
      (l, f, least.0, listed.0, subst (λ (n : ℕ). LiftsExactly cargo n (start ship cargo n before) moves l) (sym e) (subst (λ (m : List Move). LiftsExactly cargo call (start ship cargo call before) m l) (same_Some ms moves is) exact.0))
  least_led call before (ms ∷ voyage) (p ∷ plans) (f ∷ sets) (l ∷ lists) (suc k) moves least listed exact is =
      let e : call + suc k ≡ suc call + k = omega arith in
      let at = least_led (suc call) p voyage plans sets lists k moves least.1 listed.1 exact.1 is in
      (at.0, at.1, at.2, at.3, subst (λ (n : ℕ). LiftsExactly cargo n (start ship cargo n (slice_index_or (p ∷ plans) k [])) moves at.0) (sym e) at.4)
