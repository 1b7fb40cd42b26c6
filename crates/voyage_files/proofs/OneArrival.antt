-- A bay plan is settled into one cargo, or is refused for one fault.
use Rattle.std.proofs.Common.{◌≡◌, ◌≢◌, ℕ, ◌+◌, ◌<◌, List, length, refl, sym, ap, subst, ◌∙◌, inl, inr, arith, ⊎_elim}
use Rattle.std.specs.Prelude.{◌⊎◌, Result, Ok, Err}
use Rattle.std.proofs.lemmas.Bool.{cases_order}
use Rattle.stow_data.specs.declared.geometry.Half.{Half}
use Rattle.stow_data.specs.declared.limits.Limit.TheVariants.{Containers}
use Rattle.stow_data.specs.Ship.{Ship}
use Rattle.stow_data.specs.Shipment.{Cargo}
use Rattle.stow_data.specs.Plans.{Plan}
use Rattle.stowage_rules.specs.declared.faults.RuleBroken.{RuleBroken}
use Rattle.stowage_rules.specs.declared.faults.RuleBroken.TheVariants.{Support, TwentyOnForty, NoPlug, StackWeight, Separation}
use Rattle.stowage_rules.specs.Plan.{Fills}
use Rattle.stowage_rules.specs.Departure.{HasArrival, half_of}
use Rattle.stowage_rules.specs.Faults.{IsFault, IsFirstFault}
use Rattle.bookings.specs.declared.shipment.Bookings.{Bookings}
use Rattle.baplie.specs.declared.parts.CellGroup.{CellGroup}
use Rattle.arrival_plan.specs.declared.faults.ArrivalFault.{ArrivalFault}
use Rattle.arrival_plan.specs.declared.faults.ArrivalFault.TheVariants.{NoSuchCell, WrongLength, Twice, NotInRotation, CellTaken, Rule, TooLarge, NoMemory}
use Rattle.arrival_plan.specs.Settled.{AreTooMany, IsAsked, IsBroken, KeepsAsked, Settles, told}

-- ## The first rule that is broken

-- a rule that is kept isn't broken
keeps_none : (ship : Ship) (cargo : Cargo) (plan : Plan) (r : RuleBroken) → IsAsked r → KeepsAsked ship cargo plan → IsFault ship cargo plan r → ⊥
keeps_none ship cargo plan (Support h) asked keeps f =
    let x = f.holds in
    let same : f.half ≡ half_of f.half.stack (x.tier + 1) f.half.aft = ap (λ (t : ℕ). half_of f.half.stack t f.half.aft) x.is_above in
    let below = keeps.supported f.half.stack x.tier f.half.aft x.container (subst (λ (z : Half). Fills ship plan z x.container) same x.fills) in
    x.empty_below below.0 below.1
keeps_none ship cargo plan (TwentyOnForty h) asked keeps f =
    let x = f.holds in
    let same : f.half ≡ half_of f.half.stack (x.tier + 1) f.half.aft = ap (λ (t : ℕ). half_of f.half.stack t f.half.aft) x.is_above in
    x.not_twenty (keeps.twenty f.half.stack x.tier f.half.aft x.container x.below (subst (λ (z : Half). Fills ship plan z x.container) same x.fills) x.fills_below x.twenty)
keeps_none ship cargo plan (NoPlug p) asked keeps f = f.no_plug (keeps.plugged p f.number f.place f.container f.stands f.reefer)
keeps_none ship cargo plan (StackWeight s kg) asked keeps f = asked
keeps_none ship cargo plan (Separation e p q) asked keeps f = asked

legal_none : (ship : Ship) (cargo : Cargo) (r : RuleBroken) → IsAsked r → HasArrival ship cargo → IsFault ship cargo cargo.arrival r → ⊥
legal_none ship cargo r asked legal f = keeps_none ship cargo cargo.arrival r asked (record { supported = legal.supported; twenty = legal.twenty; plugged = legal.plugged }) f

-- of one rule, the lesser half-cell or place is the first
first_number : (make : ℕ → RuleBroken) (a b : ℕ) → (a < b → ⊥) → (b < a → ⊥) → make a ≡ make b
first_number make a b h k = ⊎_elim
    (λ (e : a ≡ b). ap make e)
    (λ (o : (a < b) ⊎ (b < a)). ⊎_elim (λ (l : a < b). absurd (h l)) (λ (l : b < a). absurd (k l)) o)
    (cases_order a b)

module _ (ship : Ship) (cargo : Cargo) (plan : Plan) where
  pub one_rule : (r s : RuleBroken) → IsAsked r → IsAsked s → IsFirstFault ship cargo plan r → IsFirstFault ship cargo plan s → r ≡ s
  one_rule (Support h) (Support k) a b f g = first_number Support h k (λ l. g.none_before (Support h) (inr (refl, inl l)) f.is_fault) (λ l. f.none_before (Support k) (inr (refl, inl l)) g.is_fault)
  one_rule (TwentyOnForty h) (TwentyOnForty k) a b f g = first_number TwentyOnForty h k (λ l. g.none_before (TwentyOnForty h) (inr (refl, inl l)) f.is_fault) (λ l. f.none_before (TwentyOnForty k) (inr (refl, inl l)) g.is_fault)
  one_rule (NoPlug p) (NoPlug q) a b f g = first_number NoPlug p q (λ l. g.none_before (NoPlug p) (inr (refl, inl l)) f.is_fault) (λ l. f.none_before (NoPlug q) (inr (refl, inl l)) g.is_fault)
  one_rule (Support h) (TwentyOnForty k) a b f g = absurd (g.none_before (Support h) (inl (omega arith)) f.is_fault)
  one_rule (Support h) (NoPlug q) a b f g = absurd (g.none_before (Support h) (inl (omega arith)) f.is_fault)
  one_rule (TwentyOnForty h) (NoPlug q) a b f g = absurd (g.none_before (TwentyOnForty h) (inl (omega arith)) f.is_fault)
  one_rule (TwentyOnForty h) (Support k) a b f g = absurd (f.none_before (Support k) (inl (omega arith)) g.is_fault)
  one_rule (NoPlug p) (Support k) a b f g = absurd (f.none_before (Support k) (inl (omega arith)) g.is_fault)
  one_rule (NoPlug p) (TwentyOnForty k) a b f g = absurd (f.none_before (TwentyOnForty k) (inl (omega arith)) g.is_fault)
  one_rule (StackWeight s kg) r a b f g = absurd a
  one_rule (Separation e p q) r a b f g = absurd a
  one_rule r (StackWeight s kg) a b f g = absurd b
  one_rule r (Separation e p q) a b f g = absurd b

-- ## One answer

-- a group's fault, a rule's, or the limit's
data Why (ship : Ship) (bookings : Bookings) (groups : List CellGroup) (f : ArrivalFault) : Type 0 where
  of_group : told ship bookings groups ≡ Err f → Why ship bookings groups f
  of_rule : (r : RuleBroken) → f ≡ Rule r → IsBroken ship bookings groups r → Why ship bookings groups f
  of_limit : (n : ℕ) → f ≡ TooLarge Containers n → AreTooMany ship bookings groups n → Why ship bookings groups f

module _ (ship : Ship) (bookings : Bookings) (groups : List CellGroup) where
  same_ok : (r : Result Cargo ArrivalFault) (c d : Cargo) → r ≡ Ok c → r ≡ Ok d → c ≡ d
  same_ok r c d h k = cc

  same_err : (r : Result Cargo ArrivalFault) (e f : ArrivalFault) → r ≡ Err e → r ≡ Err f → e ≡ f
  same_err r e f h k = cc

  ok_or_err : (r : Result Cargo ArrivalFault) (c : Cargo) (e : ArrivalFault) → r ≡ Ok c → r ≡ Err e → ⊥
  ok_or_err r c e h k = cc

  why : (f : ArrivalFault) → f ≢ NoMemory → Settles ship bookings groups (Err f) → Why ship bookings groups f
  why (NoSuchCell g) named h = of_group h
  why (WrongLength g) named h = of_group h
  why (Twice id) named h = of_group h
  why (NotInRotation g) named h = of_group h
  why (CellTaken g) named h = of_group h
  why (Rule r) named h = of_rule r refl h
  why (TooLarge limit n) named h = of_limit n (ap (λ z. TooLarge z n) h.0) h.1
  why NoMemory named h = absurd (named refl)

  rule_or_limit : (r : RuleBroken) (n : ℕ) → IsBroken ship bookings groups r → AreTooMany ship bookings groups n → ⊥
  rule_or_limit r n h k =
      let e = same_ok (told ship bookings groups) h.cargo k.cargo h.is_told k.is_told in
      legal_none ship h.cargo r h.asked (subst (λ (c : Cargo). HasArrival ship c) (sym e) k.legal) h.first.is_fault

  one_broken : (r s : RuleBroken) → IsBroken ship bookings groups r → IsBroken ship bookings groups s → r ≡ s
  one_broken r s h k =
      let e = same_ok (told ship bookings groups) h.cargo k.cargo h.is_told k.is_told in
      one_rule ship k.cargo k.cargo.arrival r s h.asked k.asked (subst (λ (c : Cargo). IsFirstFault ship c c.arrival r) e h.first) k.first

  one_count : (n m : ℕ) → AreTooMany ship bookings groups n → AreTooMany ship bookings groups m → n ≡ m
  one_count n m h k =
      let e = same_ok (told ship bookings groups) h.cargo k.cargo h.is_told k.is_told in
      h.count ∙ ap (λ (c : Cargo). length c.containers) e ∙ sym k.count

  one_why : (f g : ArrivalFault) → Why ship bookings groups f → Why ship bookings groups g → f ≡ g
  one_why f g (of_group h) (of_group k) = same_err (told ship bookings groups) f g h k
  one_why f g (of_group h) (of_rule s e k) = absurd (ok_or_err (told ship bookings groups) k.cargo f k.is_told h)
  one_why f g (of_group h) (of_limit m e k) = absurd (ok_or_err (told ship bookings groups) k.cargo f k.is_told h)
  one_why f g (of_rule r d h) (of_group k) = absurd (ok_or_err (told ship bookings groups) h.cargo g h.is_told k)
  one_why f g (of_rule r d h) (of_rule s e k) = d ∙ ap (λ (z : RuleBroken). Rule z) (one_broken r s h k) ∙ sym e
  one_why f g (of_rule r d h) (of_limit m e k) = absurd (rule_or_limit r m h k)
  one_why f g (of_limit n d h) (of_group k) = absurd (ok_or_err (told ship bookings groups) h.cargo g h.is_told k)
  one_why f g (of_limit n d h) (of_rule s e k) = absurd (rule_or_limit s n k h)
  one_why f g (of_limit n d h) (of_limit m e k) = d ∙ ap (λ (z : ℕ). TooLarge Containers z) (one_count n m h k) ∙ sym e

  pub one_fault : (f g : ArrivalFault) → f ≢ NoMemory → g ≢ NoMemory → Settles ship bookings groups (Err f) → Settles ship bookings groups (Err g) → f ≡ g
  one_fault f g nf ng h k = one_why f g (why f nf h) (why g ng k)

  pub one_cargo : (c d : Cargo) → Settles ship bookings groups (Ok c) → Settles ship bookings groups (Ok d) → c ≡ d
  one_cargo c d h k = same_ok (told ship bookings groups) c d h.0 k.0

  settled_or : (c : Cargo) (f : ArrivalFault) → Settles ship bookings groups (Ok c) → Why ship bookings groups f → ⊥
  settled_or c f h (of_group k) = ok_or_err (told ship bookings groups) c f h.0 k
  settled_or c f h (of_rule r is k) =
      let e = same_ok (told ship bookings groups) c k.cargo h.0 k.is_told in
      legal_none ship k.cargo r k.asked (subst (λ (z : Cargo). HasArrival ship z) e h.1) k.first.is_fault
  settled_or c f h (of_limit n is k) =
      let e = same_ok (told ship bookings groups) c k.cargo h.0 k.is_told in
      let few = h.2 in
      let same = ap (λ (z : Cargo). length z.containers) e in
      let count = k.count in
      let many = k.many in
      omega (arith, few, same, count, many)

  pub settled_not_refused : (c : Cargo) (f : ArrivalFault) → f ≢ NoMemory → Settles ship bookings groups (Ok c) → Settles ship bookings groups (Err f) → ⊥
  settled_not_refused c f named h k = settled_or c f h (why f named k)
