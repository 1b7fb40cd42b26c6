-- The first fault of a move, from what was looked at in order.
use Rattle.std.specs.Prelude.{◌≡◌, ℕ, ◌<◌, true, false, Some, None, slice_get}
use Rattle.std.proofs.Common.{arith, sym, ◌∙◌, subst, ⊎_elim}
use Rattle.std.proofs.lemmas.Option.{same_Some}
use Rattle.stow_data.specs.declared.geometry.Place.{Place}
use Rattle.stow_data.specs.declared.cargoes.Container.{Container}
use Rattle.stow_data.specs.Ship.{Ship, places}
use Rattle.stow_data.specs.Shipment.{Cargo}
use Rattle.stowage_rules.specs.Faults.{IsLeast}
use Rattle.voyage_meaning.specs.declared.moves.Move.TheVariants.{OffCover, OnCover, Lift, Put}
use Rattle.voyage_meaning.specs.declared.refusals.MoveFault.{MoveFault}
use Rattle.voyage_meaning.specs.declared.refusals.MoveFault.TheVariants.{NotThere, NotOnQuay, DoesNotFit, CoverOver, CoverMissing, Blocked, Taken, Unsupported, Standing, AlreadySo}
use Rattle.voyage_meaning.specs.Moves.{State}
use Rattle.voyage_meaning.specs.Refusals.{OfPlace, OfContainer, IsMoveFault, IsFirstMoveFault, IsLess, rank}

-- a later kind isn't before; of one kind, the field decides
later : (a b x y : ℕ) → x < a → IsLess (a, b) (x, y) → ⊥
later a b x y l less = ⊎_elim (λ (h : a < x). omega arith) (λ (h : (a ≡ x) × (b < y)). omega (arith, h.0)) less

same_kind : (a b y : ℕ) → IsLess (a, b) (a, y) → b < y
same_kind a b y less = ⊎_elim (λ (h : a < a). absurd (omega arith)) (λ (h : (a ≡ a) × (b < y)). h.1) less

alone : (a : ℕ) → IsLess (a, 0) (a, 0) → ⊥
alone a less = let no : 0 < 0 = same_kind a 0 0 less in omega arith

-- what holds of the place of a number, and of its container
pub placed : (ship : Ship) (p : ℕ) (place : Place) (P : Place → Type 0) → slice_get (places ship) p ≡ Some place → OfPlace ship P p → P place
placed ship p place P is x = subst P (same_Some x.place place (sym x.is_place ∙ is)) x.holds

pub contained : (cargo : Cargo) (c : ℕ) (container : Container) (P : Container → Type 0) → slice_get cargo.containers c ≡ Some container → OfContainer cargo P c → P container
contained cargo c container P is x = subst P (same_Some x.container container (sym x.is_container ∙ is)) x.holds

pub least_placed : (ship : Ship) (p : ℕ) (place : Place) (Q : Place → ℕ → Type 0) (n : ℕ) → slice_get (places ship) p ≡ Some place → IsLeast (Q place) n → IsLeast (λ k. OfPlace ship (λ z. Q z k) p) n
least_placed ship p place Q n is x = record {
  holds = record { place = place; is_place = is; holds = x.holds };
  none_below = λ k l y. x.none_below k l (placed ship p place (λ z. Q z k) is y);
}

pub none_placed : (ship : Ship) (p : ℕ) (place : Place) (Q : Place → ℕ → Type 0) → slice_get (places ship) p ≡ Some place → ((n : ℕ) → Q place n → ⊥) → (n : ℕ) → OfPlace ship (λ z. Q z n) p → ⊥
none_placed ship p place Q is none n x = none n (placed ship p place (λ z. Q z n) is x)

pub least_contained : (cargo : Cargo) (c : ℕ) (container : Container) (Q : Container → ℕ → Type 0) (n : ℕ) → slice_get cargo.containers c ≡ Some container → IsLeast (Q container) n → IsLeast (λ k. OfContainer cargo (λ z. Q z k) c) n
least_contained cargo c container Q n is x = record {
  holds = record { container = container; is_container = is; holds = x.holds };
  none_below = λ k l y. x.none_below k l (contained cargo c container (λ z. Q z k) is y);
}

pub none_contained : (cargo : Cargo) (c : ℕ) (container : Container) (Q : Container → ℕ → Type 0) → slice_get cargo.containers c ≡ Some container → ((n : ℕ) → Q container n → ⊥) → (n : ℕ) → OfContainer cargo (λ z. Q z n) c → ⊥
none_contained cargo c container Q is none n x = none n (contained cargo c container (λ z. Q z n) is x)

module _ (ship : Ship) (cargo : Cargo) (s : State) where
  -- a lift
  pub lift_not_there : (p : ℕ) → slice_get s.plan p ≡ Some None → IsFirstMoveFault ship cargo s (Lift p) NotThere
  lift_not_there p e = record { is_fault = e; none_before = before }
    where
      before : (other : MoveFault) → IsLess (rank other) (rank NotThere) → IsMoveFault ship cargo s (Lift p) other → ⊥
      before NotThere l f = alone 1 l
      before (CoverOver k) l f = later 4 k 1 0 (omega arith) l
      before (Blocked h) l f = later 6 h 1 0 (omega arith) l
      before other l f = absurd f

  pub lift_cover : (p k : ℕ) → (IsMoveFault ship cargo s (Lift p) NotThere → ⊥) → IsLeast (λ n. IsMoveFault ship cargo s (Lift p) (CoverOver n)) k → IsFirstMoveFault ship cargo s (Lift p) (CoverOver k)
  lift_cover p k a x = record { is_fault = x.holds; none_before = before }
    where
      before : (other : MoveFault) → IsLess (rank other) (rank (CoverOver k)) → IsMoveFault ship cargo s (Lift p) other → ⊥
      before NotThere l f = a f
      before (CoverOver n) l f = x.none_below n (same_kind 4 n k l) f
      before (Blocked h) l f = later 6 h 4 k (omega arith) l
      before other l f = absurd f

  pub lift_blocked : (p h : ℕ) → (IsMoveFault ship cargo s (Lift p) NotThere → ⊥) → ((n : ℕ) → IsMoveFault ship cargo s (Lift p) (CoverOver n) → ⊥) → IsLeast (λ n. IsMoveFault ship cargo s (Lift p) (Blocked n)) h → IsFirstMoveFault ship cargo s (Lift p) (Blocked h)
  lift_blocked p h a b x = record { is_fault = x.holds; none_before = before }
    where
      before : (other : MoveFault) → IsLess (rank other) (rank (Blocked h)) → IsMoveFault ship cargo s (Lift p) other → ⊥
      before NotThere l f = a f
      before (CoverOver n) l f = b n f
      before (Blocked n) l f = x.none_below n (same_kind 6 n h l) f
      before other l f = absurd f

  pub lift_none : (p : ℕ) → (IsMoveFault ship cargo s (Lift p) NotThere → ⊥) → ((n : ℕ) → IsMoveFault ship cargo s (Lift p) (CoverOver n) → ⊥) → ((n : ℕ) → IsMoveFault ship cargo s (Lift p) (Blocked n) → ⊥) → (f : MoveFault) → IsMoveFault ship cargo s (Lift p) f → ⊥
  lift_none p a b x NotThere f = a f
  lift_none p a b x (CoverOver n) f = b n f
  lift_none p a b x (Blocked n) f = x n f
  lift_none p a b x other f = absurd f

  -- a put
  pub put_not_on_quay : (c p : ℕ) → slice_get s.quay c ≡ Some false → IsFirstMoveFault ship cargo s (Put c p) NotOnQuay
  put_not_on_quay c p e = record { is_fault = e; none_before = before }
    where
      before : (other : MoveFault) → IsLess (rank other) (rank NotOnQuay) → IsMoveFault ship cargo s (Put c p) other → ⊥
      before NotOnQuay l f = alone 2 l
      before DoesNotFit l f = later 3 0 2 0 (omega arith) l
      before (CoverOver k) l f = later 4 k 2 0 (omega arith) l
      before (CoverMissing k) l f = later 5 k 2 0 (omega arith) l
      before (Taken h) l f = later 7 h 2 0 (omega arith) l
      before (Unsupported h) l f = later 8 h 2 0 (omega arith) l
      before other l f = absurd f

  pub put_not_fit : (c p : ℕ) → (IsMoveFault ship cargo s (Put c p) NotOnQuay → ⊥) → IsMoveFault ship cargo s (Put c p) DoesNotFit → IsFirstMoveFault ship cargo s (Put c p) DoesNotFit
  put_not_fit c p a x = record { is_fault = x; none_before = before }
    where
      before : (other : MoveFault) → IsLess (rank other) (rank DoesNotFit) → IsMoveFault ship cargo s (Put c p) other → ⊥
      before NotOnQuay l f = a f
      before DoesNotFit l f = alone 3 l
      before (CoverOver k) l f = later 4 k 3 0 (omega arith) l
      before (CoverMissing k) l f = later 5 k 3 0 (omega arith) l
      before (Taken h) l f = later 7 h 3 0 (omega arith) l
      before (Unsupported h) l f = later 8 h 3 0 (omega arith) l
      before other l f = absurd f

  pub put_cover : (c p k : ℕ) → (IsMoveFault ship cargo s (Put c p) NotOnQuay → ⊥) → (IsMoveFault ship cargo s (Put c p) DoesNotFit → ⊥) → IsLeast (λ n. IsMoveFault ship cargo s (Put c p) (CoverOver n)) k → IsFirstMoveFault ship cargo s (Put c p) (CoverOver k)
  put_cover c p k a b x = record { is_fault = x.holds; none_before = before }
    where
      before : (other : MoveFault) → IsLess (rank other) (rank (CoverOver k)) → IsMoveFault ship cargo s (Put c p) other → ⊥
      before NotOnQuay l f = a f
      before DoesNotFit l f = b f
      before (CoverOver n) l f = x.none_below n (same_kind 4 n k l) f
      before (CoverMissing n) l f = later 5 n 4 k (omega arith) l
      before (Taken h) l f = later 7 h 4 k (omega arith) l
      before (Unsupported h) l f = later 8 h 4 k (omega arith) l
      before other l f = absurd f

  pub put_missing : (c p k : ℕ) → (IsMoveFault ship cargo s (Put c p) NotOnQuay → ⊥) → (IsMoveFault ship cargo s (Put c p) DoesNotFit → ⊥) → ((n : ℕ) → IsMoveFault ship cargo s (Put c p) (CoverOver n) → ⊥) → IsLeast (λ n. IsMoveFault ship cargo s (Put c p) (CoverMissing n)) k → IsFirstMoveFault ship cargo s (Put c p) (CoverMissing k)
  put_missing c p k a b d x = record { is_fault = x.holds; none_before = before }
    where
      before : (other : MoveFault) → IsLess (rank other) (rank (CoverMissing k)) → IsMoveFault ship cargo s (Put c p) other → ⊥
      before NotOnQuay l f = a f
      before DoesNotFit l f = b f
      before (CoverOver n) l f = d n f
      before (CoverMissing n) l f = x.none_below n (same_kind 5 n k l) f
      before (Taken h) l f = later 7 h 5 k (omega arith) l
      before (Unsupported h) l f = later 8 h 5 k (omega arith) l
      before other l f = absurd f

  pub put_taken : (c p h : ℕ) → (IsMoveFault ship cargo s (Put c p) NotOnQuay → ⊥) → (IsMoveFault ship cargo s (Put c p) DoesNotFit → ⊥) → ((n : ℕ) → IsMoveFault ship cargo s (Put c p) (CoverOver n) → ⊥) → ((n : ℕ) → IsMoveFault ship cargo s (Put c p) (CoverMissing n) → ⊥) → IsLeast (λ n. IsMoveFault ship cargo s (Put c p) (Taken n)) h → IsFirstMoveFault ship cargo s (Put c p) (Taken h)
  put_taken c p h a b d e x = record { is_fault = x.holds; none_before = before }
    where
      before : (other : MoveFault) → IsLess (rank other) (rank (Taken h)) → IsMoveFault ship cargo s (Put c p) other → ⊥
      before NotOnQuay l f = a f
      before DoesNotFit l f = b f
      before (CoverOver n) l f = d n f
      before (CoverMissing n) l f = e n f
      before (Taken n) l f = x.none_below n (same_kind 7 n h l) f
      before (Unsupported n) l f = later 8 n 7 h (omega arith) l
      before other l f = absurd f

  pub put_unsupported : (c p h : ℕ) → (IsMoveFault ship cargo s (Put c p) NotOnQuay → ⊥) → (IsMoveFault ship cargo s (Put c p) DoesNotFit → ⊥) → ((n : ℕ) → IsMoveFault ship cargo s (Put c p) (CoverOver n) → ⊥) → ((n : ℕ) → IsMoveFault ship cargo s (Put c p) (CoverMissing n) → ⊥) → ((n : ℕ) → IsMoveFault ship cargo s (Put c p) (Taken n) → ⊥) → IsLeast (λ n. IsMoveFault ship cargo s (Put c p) (Unsupported n)) h → IsFirstMoveFault ship cargo s (Put c p) (Unsupported h)
  put_unsupported c p h a b d e t x = record { is_fault = x.holds; none_before = before }
    where
      before : (other : MoveFault) → IsLess (rank other) (rank (Unsupported h)) → IsMoveFault ship cargo s (Put c p) other → ⊥
      before NotOnQuay l f = a f
      before DoesNotFit l f = b f
      before (CoverOver n) l f = d n f
      before (CoverMissing n) l f = e n f
      before (Taken n) l f = t n f
      before (Unsupported n) l f = x.none_below n (same_kind 8 n h l) f
      before other l f = absurd f

  pub put_none : (c p : ℕ) → (IsMoveFault ship cargo s (Put c p) NotOnQuay → ⊥) → (IsMoveFault ship cargo s (Put c p) DoesNotFit → ⊥) → ((n : ℕ) → IsMoveFault ship cargo s (Put c p) (CoverOver n) → ⊥) → ((n : ℕ) → IsMoveFault ship cargo s (Put c p) (CoverMissing n) → ⊥) → ((n : ℕ) → IsMoveFault ship cargo s (Put c p) (Taken n) → ⊥) → ((n : ℕ) → IsMoveFault ship cargo s (Put c p) (Unsupported n) → ⊥) → (f : MoveFault) → IsMoveFault ship cargo s (Put c p) f → ⊥
  put_none c p a b d e t x NotOnQuay f = a f
  put_none c p a b d e t x DoesNotFit f = b f
  put_none c p a b d e t x (CoverOver n) f = d n f
  put_none c p a b d e t x (CoverMissing n) f = e n f
  put_none c p a b d e t x (Taken n) f = t n f
  put_none c p a b d e t x (Unsupported n) f = x n f
  put_none c p a b d e t x other f = absurd f

  -- a cover's going off, and on
  pub off_standing : (k h : ℕ) → IsLeast (λ n. IsMoveFault ship cargo s (OffCover k) (Standing n)) h → IsFirstMoveFault ship cargo s (OffCover k) (Standing h)
  off_standing k h x = record { is_fault = x.holds; none_before = before }
    where
      before : (other : MoveFault) → IsLess (rank other) (rank (Standing h)) → IsMoveFault ship cargo s (OffCover k) other → ⊥
      before (Standing n) l f = x.none_below n (same_kind 9 n h l) f
      before (AlreadySo n) l f = later 10 n 9 h (omega arith) l
      before other l f = absurd f

  pub off_already : (k : ℕ) → ((n : ℕ) → IsMoveFault ship cargo s (OffCover k) (Standing n) → ⊥) → IsMoveFault ship cargo s (OffCover k) (AlreadySo k) → IsFirstMoveFault ship cargo s (OffCover k) (AlreadySo k)
  off_already k a x = record { is_fault = x; none_before = before }
    where
      before : (other : MoveFault) → IsLess (rank other) (rank (AlreadySo k)) → IsMoveFault ship cargo s (OffCover k) other → ⊥
      before (Standing n) l f = a n f
      before (AlreadySo n) l f = let less : n < k = same_kind 10 n k l in omega (arith, f.0)
      before other l f = absurd f

  pub off_none : (k : ℕ) → ((n : ℕ) → IsMoveFault ship cargo s (OffCover k) (Standing n) → ⊥) → (slice_get s.off k ≡ Some true → ⊥) → (f : MoveFault) → IsMoveFault ship cargo s (OffCover k) f → ⊥
  off_none k a b (Standing n) f = a n f
  off_none k a b (AlreadySo n) f = b f.1
  off_none k a b other f = absurd f

  pub on_already : (k : ℕ) → IsMoveFault ship cargo s (OnCover k) (AlreadySo k) → IsFirstMoveFault ship cargo s (OnCover k) (AlreadySo k)
  on_already k x = record { is_fault = x; none_before = before }
    where
      before : (other : MoveFault) → IsLess (rank other) (rank (AlreadySo k)) → IsMoveFault ship cargo s (OnCover k) other → ⊥
      before (AlreadySo n) l f = let less : n < k = same_kind 10 n k l in omega (arith, f.0)
      before other l f = absurd f

  pub on_none : (k : ℕ) → (slice_get s.off k ≡ Some false → ⊥) → (f : MoveFault) → IsMoveFault ship cargo s (OnCover k) f → ⊥
  on_none k a (AlreadySo n) f = a f.1
  on_none k a other f = absurd f
