-- Short words for the containers and kinds of a voyage.
use Rattle.std.proofs.Common.{◌≡◌, ℕ, zero, suc, ◌<◌, ◌≤◌, Bool, true, false, ◌&&◌, List, Option, Some, None, length, ℤ, pos, arith, refl, sym, ap, subst, ◌∙◌}
use Rattle.std.specs.Prelude.{◌==◌, ◌||◌, nat_le, nat_eq, slice_get, slice_index_or}
use Rattle.std.specs.Option.{option_eq}
use Rattle.std.specs.Cmp.Lexicographic.{pointwise, same_text}
use Rattle.std.proofs.lemmas.Bool.{and_parts, eqb-true, false≢true, le-leb}
use Rattle.std.proofs.lemmas.Option.{slice_get-get_or, slice_get_within, get_or_from_slice_get}
use borrow.Author.Differences.{ints}
use Rattle.stow_data.specs.declared.geometry.Length.{Length}
use Rattle.stow_data.specs.declared.geometry.Place.{Place}
use Rattle.stow_data.specs.declared.geometry.Half.{Half}
use Rattle.stow_data.specs.declared.geometry.Span.{Span}
use Rattle.stow_data.specs.declared.geometry.Stack.{Stack}
use Rattle.stow_data.specs.declared.cargoes.Container.{Container}
use Rattle.stow_data.specs.declared.kind_list.Kind.{Kind}
use Rattle.stow_data.specs.Ship.{places, halves, HasHalf, same_length}
use Rattle.stow_data.specs.Ship.{fits as fits_at}
use Rattle.stow_data.specs.Plans.{no_container, no_stack}
use Rattle.stow_data.specs.Kinds.{kind_of, kind_number, alike, same_flag, loading}
use Rattle.stow_data.proofs.KindLemmas.{kind_in}
use Rattle.stow_data.proofs.Listed.{place_from}
use Rattle.stow_data.proofs.InOrder.{half_listed}
use Rattle.stow_data.proofs.CellLemmas.{has_side}
use Rattle.proof_trees.specs.Program.{sum_to}
use Rattle.zero_one_rows.specs.declared.program.Var.{Var}
use Rattle.zero_one_rows.specs.Variables.{Voyage, all_kinds, kind, place}
use Rattle.zero_one_rows.specs.Rows.{bit, covers, stack}
use Rattle.crossing_law.proofs.Worlds.{one_if, count_to}
use Rattle.crossing_law.proofs.KindFacts.{kind_alike, kind_first, loads_total, same_length_is}

-- a number below n passes
abbrev pub any_below : ℕ → (ℕ → Bool) → Bool
any_below zero t = false
any_below (suc n) t = t n || any_below n t

abbrev pub fits : Place → Kind → Bool
fits p k = fits_at p k.long k.reefer

module _ (m : Voyage) where
  abbrev pub container : ℕ → Container
  container c = slice_index_or m.cargo.containers c no_container

  -- the number of the container's kind
  abbrev pub kind_at : ℕ → ℕ
  kind_at c = kind_number m.ship.weight_step m.cargo.containers (container c)

  -- what a container shows, with its kind's first call
  abbrev pub shown_kind : ℕ → Kind
  shown_kind c = record (kind_of m.ship.weight_step (container c)) { first = (kind m (kind_at c)).first }

  -- how many containers of kind g load at call i
  abbrev pub loads : ℕ → ℕ → ℤ
  loads i g = sum_to (length m.cargo.containers) (λ c. bit (((container c).load == i) && (kind_at c == g)))

  -- kind g loads at call i or before
  abbrev pub begun : ℕ → ℕ → Bool
  begun g i = nat_le (kind m g).first i

  abbrev pub at_half : Half → Var → Bool
  at_half h x = covers (place m x.place) h

  bit_number : (b : Bool) → bit b ≡ pos (one_if b)
  bit_number true = refl
  bit_number false = refl

  sum_count : (n : ℕ) (p : ℕ → Bool) → sum_to n (λ v. bit (p v)) ≡ pos (count_to n p)
  sum_count zero p = refl
  sum_count (suc n) p = omega (arith, ints, sum_count n p, bit_number (p n))

  pub loads_are : (i g : ℕ) → pos (loading m.ship.weight_step m.cargo.containers i g) ≡ loads i g
  loads_are i g = ap pos (loads_total i g (kind_number m.ship.weight_step m.cargo.containers) m.cargo.containers) ∙ sym (sum_count (length m.cargo.containers) (λ c. ((container c).load == i) && (kind_at c == g)))

  pub box_at : (c : ℕ) → c < length m.cargo.containers → slice_get m.cargo.containers c ≡ Some (container c)
  box_at c l = slice_get-get_or m.cargo.containers c no_container l

  pub kind_known : (c : ℕ) → c < length m.cargo.containers → kind_at c < length (all_kinds m)
  kind_known c l = kind_in m.ship.weight_step m.cargo.containers c (container c) (box_at c l)

  pub begun_from : (c g j : ℕ) → c < length m.cargo.containers → kind_at c ≡ g → (container c).load ≤ j → begun g j ≡ true
  begun_from c g j l alike_is low =
      let first = kind_first m.ship.weight_step m.cargo.containers c (container c) (box_at c l) in
      subst (λ (k : ℕ). nat_le (kind m k).first j ≡ true) alike_is (le-leb (kind m (kind_at c)).first j (omega (arith, first)))

  flag_is : (a b : Bool) → same_flag a b ≡ true → a ≡ b
  flag_is true true h = refl
  flag_is true false h = absurd (false≢true h)
  flag_is false true h = absurd (false≢true h)
  flag_is false false h = refl

  list_is : (xs ys : List ℕ) → pointwise nat_eq xs ys ≡ true → xs ≡ ys
  list_is xs ys h = same_text xs ys (sym h)

  class_is : (a b : Option (List ℕ)) → option_eq (pointwise nat_eq) a b ≡ true → a ≡ b
  class_is None None h = refl
  class_is None (Some y) h = absurd (false≢true h)
  class_is (Some x) None h = absurd (false≢true h)
  class_is (Some x) (Some y) h = ap (λ (z : List ℕ). Some z) (list_is x y h)

  kind_same : (a b : Kind) → alike a b ≡ true → a ≡ record b { first = a.first }
  kind_same a b h =
      let p = and_parts (a.dest == b.dest) _ h in
      let q = and_parts (same_length a.long b.long) _ p.1 in
      let r = and_parts (same_flag a.reefer b.reefer) _ q.1 in
      let s = and_parts (option_eq (pointwise nat_eq) a.class b.class) (a.kg == b.kg) r.1 in
      ap (λ (z : ℕ). record { dest = z; long = a.long; reefer = a.reefer; class = a.class; kg = a.kg; first = a.first }) (eqb-true _ _ p.0)
      ∙ (ap (λ (z : Length). record { dest = b.dest; long = z; reefer = a.reefer; class = a.class; kg = a.kg; first = a.first }) (same_length_is _ _ q.0)
      ∙ (ap (λ (z : Bool). record { dest = b.dest; long = b.long; reefer = z; class = a.class; kg = a.kg; first = a.first }) (flag_is _ _ r.0)
      ∙ (ap (λ (z : Option (List ℕ)). record { dest = b.dest; long = b.long; reefer = b.reefer; class = z; kg = a.kg; first = a.first }) (class_is _ _ s.0)
      ∙ ap (λ (z : ℕ). record { dest = b.dest; long = b.long; reefer = b.reefer; class = b.class; kg = z; first = a.first }) (eqb-true _ _ s.1))))

  pub kind_is : (c : ℕ) → c < length m.cargo.containers → kind m (kind_at c) ≡ shown_kind c
  kind_is c l = kind_same (kind m (kind_at c)) (kind_of m.ship.weight_step (container c)) (kind_alike m.ship.weight_step m.cargo.containers c (container c) (box_at c l))

  -- places, stacks and half-cells belong together
  pub stack_known : (p : ℕ) (place : Place) → slice_get (places m.ship) p ≡ Some place → place.stack < length m.ship.stacks
  stack_known p place h = let r = place_from m.ship p place h in slice_get_within m.ship.stacks place.stack r.stack_at r.is_stack

  pub tier_low : (p : ℕ) (place : Place) → slice_get (places m.ship) p ≡ Some place → place.tier < (stack m place.stack).tiers
  tier_low p place h = let r = place_from m.ship p place h in subst (λ (z : Stack). place.tier < z.tiers) (sym (get_or_from_slice_get m.ship.stacks place.stack r.stack_at no_stack r.is_stack)) r.low

  pub half_known : (p : ℕ) (place : Place) (h : Half) → slice_get (places m.ship) p ≡ Some place → HasHalf place h → (k : ℕ) × (slice_get (halves m.ship) k ≡ Some h)
  half_known p place h at_p has =
      let r = place_from m.ship p place at_p in
      let k = half_listed m.ship place.stack place.tier h.aft r.stack_at r.is_stack r.low (has_side r.stack_at.lengths place.span h.aft r.span has.side) in
      let e : record { stack = place.stack; tier = place.tier; aft = h.aft } ≡ h = ap (λ (z : ℕ). record { stack = z; tier = place.tier; aft = h.aft }) (sym has.same_stack) ∙ ap (λ (z : ℕ). record { stack = h.stack; tier = z; aft = h.aft }) (sym has.same_tier) in
      (k.0, k.1 ∙ ap (λ (z : Half). Some z) e)
