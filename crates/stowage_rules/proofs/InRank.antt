-- The first fault, from the first fault of each rule; and that a plan without a fault meets the rules.
use Rattle.std.specs.Prelude.{◌≡◌, IsTrue, ℕ, ◌+◌, ◌<◌, ◌⊎◌, true, false, Bool, Some, slice_get}
use Rattle.std.proofs.Common.{refl, sym, ◌∙◌, ap, arith, subst, inl, inr, ⊎_elim}
use Rattle.std.proofs.lemmas.Bool.{both_ways, false_from_ne_true, cases_order}
use Rattle.std.proofs.lemmas.Option.{same_Some}
use Rattle.stow_data.specs.declared.geometry.Half.{Half}
use Rattle.stow_data.specs.declared.geometry.Length.{Length}
use Rattle.stow_data.specs.declared.geometry.Length.TheVariants.{Twenty, Forty}
use Rattle.stow_data.specs.declared.geometry.Place.{Place}
use Rattle.stow_data.specs.declared.geometry.Separation.{Separation as Separated}
use Rattle.stow_data.specs.declared.cargoes.Container.{Container}
use Rattle.stow_data.specs.Ship.{Ship}
use Rattle.stow_data.specs.Shipment.{Cargo}
use Rattle.stow_data.specs.Plans.{Plan}
use Rattle.stowage_rules.specs.declared.faults.RuleBroken.{RuleBroken}
use Rattle.stowage_rules.specs.declared.faults.RuleBroken.TheVariants.{Support, TwentyOnForty, NoPlug, StackWeight, Separation}
use Rattle.stowage_rules.specs.Plan.{Fills, Stands, IsWellFormed}
use Rattle.stow_data.specs.Near.{near}
use Rattle.stowage_rules.specs.Departure.{half_of, IsTwenty, IsSupported, IsTwentyOnTwenty, IsWithinLimits, stack_weight}
use Rattle.stowage_rules.specs.Faults.{IsUnsupported, IsTwentyOnForty as IsOnForty, IsUnplugged, IsOverweight, AreTooNear, IsUnseparated, OfHalf, IsFault, MeetsRules, rank, IsLess, IsFirstFault, IsLeast, IsFirstHeavy, IsFirstUnseparated}
use Rattle.stowage_rules.proofs.Standing.{filled_or_not, half_number}

-- a later rule isn't before
later : (a x b c d y z w : ℕ) → x < a → IsLess (a, b, c, d) (x, y, z, w) → ⊥
later a x b c d y z w l less = ⊎_elim (λ (h : a < x). omega arith) (λ (h : (a ≡ x) × ((b < y) ⊎ ((b ≡ y) × ((c < z) ⊎ ((c ≡ z) × (d < w)))))). omega (arith, h.0)) less

-- of one rule, the fields decide
fields : (a b c d y z w : ℕ) → IsLess (a, b, c, d) (a, y, z, w) → (b < y) ⊎ ((b ≡ y) × ((c < z) ⊎ ((c ≡ z) × (d < w))))
fields a b c d y z w less = ⊎_elim (λ (h : a < a). absurd (omega arith)) (λ (h : (a ≡ a) × ((b < y) ⊎ ((b ≡ y) × ((c < z) ⊎ ((c ≡ z) × (d < w)))))). h.1) less

-- where there is one field
one_field : (a b y : ℕ) → IsLess (a, b, 0, 0) (a, y, 0, 0) → b < y
one_field a b y less = ⊎_elim (λ (h : b < y). h) (λ (h : (b ≡ y) × ((0 < 0) ⊎ ((0 ≡ 0) × (0 < 0)))). ⊎_elim (λ (i : 0 < 0). absurd (omega arith)) (λ (i : (0 ≡ 0) × (0 < 0)). absurd (let no : 0 < 0 = i.1 in omega arith)) h.1) (fields a b 0 0 y 0 0 less)

module _ (ship : Ship) (cargo : Cargo) (plan : Plan) where
  abbrev NoSupport : Type 0
  NoSupport = (h : ℕ) → OfHalf ship (IsUnsupported ship plan) h → ⊥

  abbrev NoTwenty : Type 0
  NoTwenty = (h : ℕ) → OfHalf ship (IsOnForty ship cargo plan) h → ⊥

  abbrev NoReefer : Type 0
  NoReefer = (p : ℕ) → IsUnplugged ship cargo plan p → ⊥

  abbrev NoneHeavy : Type 0
  NoneHeavy = (s kg : ℕ) → IsOverweight ship cargo plan s kg → ⊥

  pub first_support : (h : ℕ) → IsLeast (OfHalf ship (IsUnsupported ship plan)) h → IsFirstFault ship cargo plan (Support h)
  first_support h x = record { is_fault = x.holds; none_before = before }
    where
      before : (other : RuleBroken) → IsLess (rank other) (rank (Support h)) → IsFault ship cargo plan other → ⊥
      before (Support k) l f = x.none_below k (one_field 1 k h l) f
      before (TwentyOnForty k) l f = later 2 1 k 0 0 h 0 0 (omega arith) l
      before (NoPlug p) l f = later 3 1 p 0 0 h 0 0 (omega arith) l
      before (StackWeight s kg) l f = later 4 1 s kg 0 h 0 0 (omega arith) l
      before (Separation e p q) l f = later 5 1 e p q h 0 0 (omega arith) l

  pub first_twenty : (h : ℕ) → NoSupport → IsLeast (OfHalf ship (IsOnForty ship cargo plan)) h → IsFirstFault ship cargo plan (TwentyOnForty h)
  first_twenty h a x = record { is_fault = x.holds; none_before = before }
    where
      before : (other : RuleBroken) → IsLess (rank other) (rank (TwentyOnForty h)) → IsFault ship cargo plan other → ⊥
      before (Support k) l f = a k f
      before (TwentyOnForty k) l f = x.none_below k (one_field 2 k h l) f
      before (NoPlug p) l f = later 3 2 p 0 0 h 0 0 (omega arith) l
      before (StackWeight s kg) l f = later 4 2 s kg 0 h 0 0 (omega arith) l
      before (Separation e p q) l f = later 5 2 e p q h 0 0 (omega arith) l

  pub first_reefer : (n : ℕ) → NoSupport → NoTwenty → IsLeast (IsUnplugged ship cargo plan) n → IsFirstFault ship cargo plan (NoPlug n)
  first_reefer n a b x = record { is_fault = x.holds; none_before = before }
    where
      before : (other : RuleBroken) → IsLess (rank other) (rank (NoPlug n)) → IsFault ship cargo plan other → ⊥
      before (Support k) l f = a k f
      before (TwentyOnForty k) l f = b k f
      before (NoPlug p) l f = x.none_below p (one_field 3 p n l) f
      before (StackWeight s kg) l f = later 4 3 s kg 0 n 0 0 (omega arith) l
      before (Separation e p q) l f = later 5 3 e p q n 0 0 (omega arith) l

  pub first_weight : (n weight : ℕ) → NoSupport → NoTwenty → NoReefer → IsFirstHeavy ship cargo plan (n, weight) → IsFirstFault ship cargo plan (StackWeight n weight)
  first_weight n weight a b c x = record { is_fault = x.heavy; none_before = before }
    where
      same_stack : (s kg : ℕ) → IsOverweight ship cargo plan s kg → s ≡ n → kg < weight → ⊥
      same_stack s kg f e l = let one : IsOverweight ship cargo plan n kg = subst (λ (z : ℕ). IsOverweight ship cargo plan z kg) e f in
          let u = one.weighs in let v = x.heavy.weighs in omega (arith, u, v, l)

      before : (other : RuleBroken) → IsLess (rank other) (rank (StackWeight n weight)) → IsFault ship cargo plan other → ⊥
      before (Support k) l f = a k f
      before (TwentyOnForty k) l f = b k f
      before (NoPlug p) l f = c p f
      before (StackWeight s kg) l f = ⊎_elim
          (λ (h : s < n). x.none_before s kg h f)
          (λ (h : (s ≡ n) × ((kg < weight) ⊎ ((kg ≡ weight) × (0 < 0)))). ⊎_elim (λ (i : kg < weight). same_stack s kg f h.0 i) (λ (i : (kg ≡ weight) × (0 < 0)). let no : 0 < 0 = i.1 in omega arith) h.1)
          (fields 4 s kg 0 n weight 0 l)
      before (Separation e p q) l f = later 5 4 e p q n weight 0 (omega arith) l

  pub first_separation : (e p q : ℕ) → NoSupport → NoTwenty → NoReefer → NoneHeavy → IsFirstUnseparated ship cargo plan (e, p, q) → IsFirstFault ship cargo plan (Separation e p q)
  first_separation e p q a b c d x = record { is_fault = record { rule = x.rule; is_rule = x.is_rule; too_near = x.pair.too_near }; none_before = before }
    where
      near_by_rule : (f r s : ℕ) → IsUnseparated ship cargo plan f r s → f ≡ e → AreTooNear ship cargo plan x.rule r s
      near_by_rule f r s y same = subst (λ (z : Separated). AreTooNear ship cargo plan z r s) (same_Some y.rule x.rule (sym y.is_rule ∙ (ap (slice_get ship.separations) same ∙ x.is_rule))) y.too_near

      before : (other : RuleBroken) → IsLess (rank other) (rank (Separation e p q)) → IsFault ship cargo plan other → ⊥
      before (Support k) l f = a k f
      before (TwentyOnForty k) l f = b k f
      before (NoPlug n) l f = c n f
      before (StackWeight s kg) l f = d s kg f
      before (Separation g r s) l f = ⊎_elim
          (λ (h : g < e). x.kept_before g r s h f)
          (λ (h : (g ≡ e) × ((r < p) ⊎ ((r ≡ p) × (s < q)))).
          let too = near_by_rule g r s f h.0 in ⊎_elim
          (λ (i : r < p). x.pair.least_first r s i too)
          (λ (i : (r ≡ p) × (s < q)). x.pair.least_second s i.1 (subst (λ (z : ℕ). AreTooNear ship cargo plan x.rule z s) i.0 too)) h.1)
          (fields 5 g r s e p q l)

  supported : NoSupport → IsSupported ship plan
  supported none stack tier aft c x = ⊎_elim
      (λ (a : (d : ℕ) × Fills ship plan (half_of stack tier aft) d). a)
      (λ (b : (d : ℕ) → Fills ship plan (half_of stack tier aft) d → ⊥).
      let number = half_number ship x.number x.place (half_of stack (tier + 1) aft) x.is_place x.has_half in
      absurd (none number.0 (record { half = half_of stack (tier + 1) aft; is_half = number.1; holds = record { container = c; fills = x; tier = tier; is_above = refl; empty_below = b } })))
      (filled_or_not ship plan (half_of stack tier aft))

  twenty_cases : (d : ℕ) (container : Container) (long : Length) → slice_get cargo.containers d ≡ Some container → container.long ≡ long → IsTwenty cargo d ⊎ (IsTwenty cargo d → ⊥)
  twenty_cases d container Twenty is e = inl (container, is, e)
  twenty_cases d container Forty is e = inr (λ t. let one : t.0 ≡ container = same_Some (t.0) container (sym t.1 ∙ is) in let no : Twenty ≡ Forty = sym t.2 ∙ (ap (λ (z : Container). z.long) one ∙ e) in cc)

  twenty : IsWellFormed ship cargo plan → NoTwenty → IsTwentyOnTwenty ship cargo plan
  twenty formed none stack tier aft c d x y is =
      let known = formed.known y.number d y.holds in ⊎_elim
      (λ (a : IsTwenty cargo d). a)
      (λ (b : IsTwenty cargo d → ⊥).
      let number = half_number ship x.number x.place (half_of stack (tier + 1) aft) x.is_place x.has_half in
      absurd (none number.0 (record { half = half_of stack (tier + 1) aft; is_half = number.1; holds = record { container = c; fills = x; twenty = is; tier = tier; is_above = refl; below = d; fills_below = y; not_twenty = b } })))
      (twenty_cases d known.0 known.0.long known.1 refl)

  plug_cases : (p c : ℕ) (place : Place) (container : Container) (plug : Bool) → place.plug ≡ plug → NoReefer → Stands ship cargo plan p c place container → IsTrue container.reefer → IsTrue place.plug
  plug_cases p c place container true e none stands reefer = e
  plug_cases p c place container false e none stands reefer = absurd (none p (record { number = c; place = place; container = container; stands = stands; reefer = reefer; no_plug = λ t. both_ways place.plug e t }))

  within : NoneHeavy → IsWithinLimits ship cargo plan
  within none s stack is = ⊎_elim
      (λ (e : stack_weight ship cargo plan s ≡ stack.limit_kg). omega arith)
      (λ (o : (stack_weight ship cargo plan s < stack.limit_kg) ⊎ (stack.limit_kg < stack_weight ship cargo plan s)). ⊎_elim
      (λ (a : stack_weight ship cargo plan s < stack.limit_kg). omega arith)
      (λ (a : stack.limit_kg < stack_weight ship cargo plan s). absurd (none s (stack_weight ship cargo plan s) (record { stack = stack; is_stack = is; weighs = refl; above_limit = a }))) o)
      (cases_order (stack_weight ship cargo plan s) stack.limit_kg)

  -- a plan without a fault meets the rules
  pub meets : IsWellFormed ship cargo plan → NoSupport → NoTwenty → NoReefer → NoneHeavy → ((e p q : ℕ) → IsUnseparated ship cargo plan e p q → ⊥) → MeetsRules ship cargo plan
  meets formed a b c d none = record {
    supported = supported a;
    twenty = twenty formed b;
    plugged = λ p n place container stands reefer. plug_cases p n place container place.plug refl c stands reefer;
    within = within d;
    separated = λ e rule p q n m first second x y is stands_p stands_q class_a class_b. false_from_ne_true (near ship rule.level first second) (λ t. none e p q (record {
      rule = rule;
      is_rule = is;
      too_near = record {
        first = first;
        is_first = stands_p.is_place;
        has_a = record { number = n; holds = stands_p.holds; container = x; is_container = stands_p.is_container; is_class = class_a };
        second = second;
        is_second = stands_q.is_place;
        has_b = record { number = m; holds = stands_q.holds; container = y; is_container = stands_q.is_container; is_class = class_b };
        near = t;
      };
    }));
  }

  -- a plan with one doesn't
  pub breaks : (fault : RuleBroken) → IsFault ship cargo plan fault → MeetsRules ship cargo plan → ⊥
  breaks (Support h) f rules =
      let x = f.holds in
      let same : f.half ≡ half_of f.half.stack (x.tier + 1) f.half.aft = ap (λ (t : ℕ). half_of f.half.stack t f.half.aft) x.is_above in
      let below = rules.supported f.half.stack x.tier f.half.aft x.container (subst (λ (z : Half). Fills ship plan z x.container) same x.fills) in x.empty_below below.0 below.1
  breaks (TwentyOnForty h) f rules =
      let x = f.holds in
      let same : f.half ≡ half_of f.half.stack (x.tier + 1) f.half.aft = ap (λ (t : ℕ). half_of f.half.stack t f.half.aft) x.is_above in
      x.not_twenty (rules.twenty f.half.stack x.tier f.half.aft x.container x.below (subst (λ (z : Half). Fills ship plan z x.container) same x.fills) x.fills_below x.twenty)
  breaks (NoPlug p) f rules = f.no_plug (rules.plugged p f.number f.place f.container f.stands f.reefer)
  breaks (StackWeight s kg) f rules = let limit = rules.within s f.stack f.is_stack in let w = f.weighs in let over = f.above_limit in omega (arith, limit, w, over)
  breaks (Separation e p q) f rules =
      let x = f.too_near in
      both_ways (near ship f.rule.level x.first x.second) (rules.separated e f.rule p q x.has_a.number x.has_b.number x.first x.second x.has_a.container x.has_b.container f.is_rule
      (record { is_place = x.is_first; holds = x.has_a.holds; is_container = x.has_a.is_container }) (record { is_place = x.is_second; holds = x.has_b.holds; is_container = x.has_b.is_container }) x.has_a.is_class x.has_b.is_class) x.near
