-- A plan breaks one rule first.
use Rattle.std.proofs.Common.{◌≡◌, ℕ, ◌<◌, sym, ap, ◌∙◌, ⊎_elim, inl, inr, arith}
use Rattle.std.specs.Prelude.{◌⊎◌}
use Rattle.std.proofs.lemmas.Bool.{cases_order}
use Rattle.stow_data.specs.Ship.{Ship}
use Rattle.stow_data.specs.Shipment.{Cargo}
use Rattle.stow_data.specs.Plans.{Plan}
use Rattle.stowage_rules.specs.declared.faults.RuleBroken.{RuleBroken}
use Rattle.stowage_rules.specs.declared.faults.RuleBroken.TheVariants.{Support, TwentyOnForty, NoPlug, StackWeight, Separation}
use Rattle.stowage_rules.specs.Faults.{IsFirstFault, IsLess, rank}

same_number : (a b : ℕ) → (a < b → ⊥) → (b < a → ⊥) → a ≡ b
same_number a b h k = ⊎_elim
    (λ (e : a ≡ b). e)
    (λ (o : (a < b) ⊎ (b < a)). ⊎_elim (λ (l : a < b). absurd (h l)) (λ (l : b < a). absurd (k l)) o)
    (cases_order a b)

-- neither is before the other
pub record AreLevel (a b c d x y z w : ℕ) : Type 0 where
  pub first : a ≡ x
  pub second : b ≡ y
  pub third : c ≡ z
  pub fourth : d ≡ w

level : (a b c d x y z w : ℕ) → (IsLess (a, b, c, d) (x, y, z, w) → ⊥) → (IsLess (x, y, z, w) (a, b, c, d) → ⊥) → AreLevel a b c d x y z w
level a b c d x y z w h k =
    let first = same_number a x (λ l. h (inl l)) (λ l. k (inl l)) in
    let second = same_number b y (λ l. h (inr (first, inl l))) (λ l. k (inr (sym first, inl l))) in
    let third = same_number c z (λ l. h (inr (first, inr (second, inl l)))) (λ l. k (inr (sym first, inr (sym second, inl l)))) in
    let fourth = same_number d w (λ l. h (inr (first, inr (second, inr (third, l))))) (λ l. k (inr (sym first, inr (sym second, inr (sym third, l))))) in
    record { first = first; second = second; third = third; fourth = fourth }

same_rule : (r s : RuleBroken) → (IsLess (rank r) (rank s) → ⊥) → (IsLess (rank s) (rank r) → ⊥) → r ≡ s
same_rule (Support g) (Support h) f k = ap (λ (n : ℕ). Support n) (level 1 g 0 0 1 h 0 0 f k).second
same_rule (TwentyOnForty g) (TwentyOnForty h) f k = ap (λ (n : ℕ). TwentyOnForty n) (level 2 g 0 0 2 h 0 0 f k).second
same_rule (NoPlug p) (NoPlug q) f k = ap (λ (n : ℕ). NoPlug n) (level 3 p 0 0 3 q 0 0 f k).second
same_rule (StackWeight s n) (StackWeight t o) f k =
    let e = level 4 s n 0 4 t o 0 f k in
    ap (λ (x : ℕ). StackWeight x n) e.second ∙ ap (λ (x : ℕ). StackWeight t x) e.third
same_rule (Separation d p q) (Separation e r s) f k =
    let l = level 5 d p q 5 e r s f k in
    ap (λ (x : ℕ). Separation x p q) l.second ∙ ap (λ (x : ℕ). Separation e x q) l.third ∙ ap (λ (x : ℕ). Separation e r x) l.fourth
same_rule (Support g) (TwentyOnForty h) f k = absurd (f (inl (omega arith)))
same_rule (Support g) (NoPlug q) f k = absurd (f (inl (omega arith)))
same_rule (Support g) (StackWeight t o) f k = absurd (f (inl (omega arith)))
same_rule (Support g) (Separation e r s) f k = absurd (f (inl (omega arith)))
same_rule (TwentyOnForty g) (NoPlug q) f k = absurd (f (inl (omega arith)))
same_rule (TwentyOnForty g) (StackWeight t o) f k = absurd (f (inl (omega arith)))
same_rule (TwentyOnForty g) (Separation e r s) f k = absurd (f (inl (omega arith)))
same_rule (NoPlug p) (StackWeight t o) f k = absurd (f (inl (omega arith)))
same_rule (NoPlug p) (Separation e r s) f k = absurd (f (inl (omega arith)))
same_rule (StackWeight s n) (Separation e r t) f k = absurd (f (inl (omega arith)))
same_rule (TwentyOnForty g) (Support h) f k = absurd (k (inl (omega arith)))
same_rule (NoPlug p) (Support h) f k = absurd (k (inl (omega arith)))
same_rule (NoPlug p) (TwentyOnForty h) f k = absurd (k (inl (omega arith)))
same_rule (StackWeight s n) (Support h) f k = absurd (k (inl (omega arith)))
same_rule (StackWeight s n) (TwentyOnForty h) f k = absurd (k (inl (omega arith)))
same_rule (StackWeight s n) (NoPlug q) f k = absurd (k (inl (omega arith)))
same_rule (Separation d p q) (Support h) f k = absurd (k (inl (omega arith)))
same_rule (Separation d p q) (TwentyOnForty h) f k = absurd (k (inl (omega arith)))
same_rule (Separation d p q) (NoPlug r) f k = absurd (k (inl (omega arith)))
same_rule (Separation d p q) (StackWeight t o) f k = absurd (k (inl (omega arith)))

pub one_rule : (ship : Ship) (cargo : Cargo) (plan : Plan) (r s : RuleBroken) → IsFirstFault ship cargo plan r → IsFirstFault ship cargo plan s → r ≡ s
one_rule ship cargo plan r s h k = same_rule r s (λ l. k.none_before r l h.is_fault) (λ l. h.none_before s l k.is_fault)
