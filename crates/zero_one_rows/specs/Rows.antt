-- The rows of the 0-1 program of a voyage: which there are, their coefficients and right sides.
use Rattle.std.specs.Prelude.{ℕ, zero, suc, ◌+◌, ◌-◌, Bool, true, false, not, List, [], Option, Some, None, cond, ◌==◌, ◌&&◌, slice_index_or, length, nat_lt, nat_le, ℤ, pos, ◌-ℤ◌, nat_eq}
use Rattle.std.specs.List.{list_any}
use Rattle.std.specs.Option.{option_eq}
use Rattle.std.specs.Cmp.Lexicographic.{pointwise}
use Rattle.stow_data.specs.declared.geometry.Length.{Length}
use Rattle.stow_data.specs.declared.geometry.Length.TheVariants.{Twenty, Forty}
use Rattle.stow_data.specs.declared.geometry.Span.{Span}
use Rattle.stow_data.specs.declared.geometry.Span.TheVariants.{Fore, Aft, Both}
use Rattle.stow_data.specs.declared.geometry.Place.{Place}
use Rattle.stow_data.specs.declared.geometry.Half.{Half}
use Rattle.stow_data.specs.declared.geometry.Stack.{Stack}
use Rattle.stow_data.specs.declared.geometry.Cover.{Cover}
use Rattle.stow_data.specs.declared.geometry.Separation.{Separation}
use Rattle.stow_data.specs.Ship.{places, halves}
use Rattle.stow_data.specs.Kinds.{loading}
use Rattle.stow_data.specs.Plans.{no_half, no_stack}
use Rattle.stow_data.specs.Near.{near}
use Rattle.zero_one_rows.specs.declared.program.Var.{Var}
use Rattle.zero_one_rows.specs.declared.program.Row.{Row}
use Rattle.zero_one_rows.specs.declared.program.Row.TheVariants.{Flow, Start, Cell, Support, Twenty as TwentyOn, Block, Hatch, Weight, Apart, Cross}
use Rattle.proof_trees.specs.Program.{Program, where_set, Solution}
use Rattle.zero_one_rows.specs.Variables.{Voyage, calls, all_kinds, kind, place, variables, var, var_cost}
use Rattle.zero_one_rows.specs.Crossing.{crosses, crossing_side, is_crossing}

abbrev pub no_separation : Separation
no_separation = record { a = []; b = []; level = 0 }

-- a span takes this side
abbrev pub takes : Span → Bool → Bool
takes Fore side = not side
takes Aft side = side
takes Both side = true

-- the half-cell is one of the place's
abbrev pub covers : Place → Half → Bool
covers p h = (p.stack == h.stack) && ((p.tier == h.tier) && takes p.span h.aft)

abbrev pub below : Half → Half
below h = record h { tier = h.tier - 1 }

abbrev pub above : Half → Half
above h = record h { tier = h.tier + 1 }

-- 1 where the test holds
abbrev pub bit : Bool → ℤ
bit b = where_set b (pos 1)

abbrev pub less : Bool → ℤ
less b = pos 0 -ℤ bit b

-- the two rows of an equality
abbrev pub turned : ℕ → ℤ → ℤ
turned zero z = z
turned (suc q) z = pos 0 -ℤ z

-- stack s lies under a cover on which stack t stands
abbrev pub cover_joins : List Cover → ℕ → ℕ → Bool
cover_joins cs s t = list_any (λ (c : Cover). list_any (nat_eq s) c.under && list_any (nat_eq t) c.on) cs

abbrev pub is_filled : Option ℕ → Bool
is_filled None = false
is_filled (Some c) = true

abbrev pub is_twenty : Length → Bool
is_twenty Twenty = true
is_twenty Forty = false

-- of the nine families of base rows; the tenth are the crossing rows
abbrev pub is_base : Row → Bool
is_base (Flow q i g) = true
is_base (Start q p) = true
is_base (Cell i h) = true
is_base (Support i h) = true
is_base (TwentyOn i h) = true
is_base (Block j h) = true
is_base (Hatch w j h d) = true
is_base (Weight i k) = true
is_base (Apart i e p q) = true
is_base (Cross l p c) = false

-- there after call i; passing call j; ending at call j
abbrev pub active : ℕ → Var → Bool
active i x = nat_le x.put i && nat_lt i x.lifted

abbrev pub stays : ℕ → Var → Bool
stays j x = nat_lt x.put j && nat_lt j x.lifted

abbrev pub ends : ℕ → Var → Bool
ends j x = nat_lt x.put j && (x.lifted == j)

module _ (m : Voyage) where
  abbrev pub half : ℕ → Half
  half h = slice_index_or (halves m.ship) h no_half

  abbrev pub stack : ℕ → Stack
  stack s = slice_index_or m.ship.stacks s no_stack

  abbrev pub separation : ℕ → Separation
  separation e = slice_index_or m.ship.separations e no_separation

  -- the variables that the sums of a half-cell count
  abbrev pub occ : ℕ → Half → Var → Bool
  occ i h x = covers (place m x.place) h && active i x

  abbrev pub stay : ℕ → Half → Var → Bool
  stay j h x = covers (place m x.place) h && stays j x

  abbrev pub out : ℕ → Half → Var → Bool
  out j h x = covers (place m x.place) h && ends j x

  abbrev pub into : ℕ → Half → Var → Bool
  into j h x = covers (place m x.place) h && (x.put == j)

  -- of 20-foot kinds alone; of one place and the kinds of one class
  abbrev pub occ20 : ℕ → Half → Var → Bool
  occ20 i h x = is_twenty (kind m x.kind).long && occ i h x

  abbrev pub occ_class : ℕ → ℕ → List ℕ → Var → Bool
  occ_class i p c x = (x.place == p) && (option_eq (pointwise nat_eq) (kind m x.kind).class (Some c) && active i x)

  -- lifted, or put, at call j
  abbrev pub moved : ℕ → ℕ → Half → Var → Bool
  moved w j h x = cond (w == 0) (out j h x) (into j h x)

  -- coefficients
  abbrev pub coef : Row → Var → ℤ
  coef (Flow q i g) x = turned q (bit ((x.put == i) && (x.kind == g)) -ℤ bit ((x.lifted == i) && (x.kind == g)))
  coef (Start q p) x = turned q (bit ((x.put == 0) && (x.place == p)))
  coef (Cell i h) x = less (occ i (half h) x)
  coef (Support i h) x = bit (occ i (below (half h)) x) -ℤ bit (occ i (half h) x)
  coef (TwentyOn i h) x = bit (occ20 i (below (half h)) x) -ℤ bit (occ20 i (half h) x)
  coef (Block j h) x = less (out j (half h) x) -ℤ bit (stay j (above (half h)) x)
  coef (Hatch w j h d) x = less (moved w j (half h) x) -ℤ bit (stay j (half d) x)
  coef (Weight i k) x = pos 0 -ℤ where_set (((place m x.place).stack == k) && active i x) (pos (kind m x.kind).kg)
  coef (Apart i e p q) x = less (occ_class i p (separation e).a x) -ℤ bit (occ_class i q (separation e).b x)
  coef (Cross l p c) x = bit (crosses m l c x)

  -- right sides
  abbrev pub rhs : Row → ℤ
  rhs (Flow q i g) = turned q (pos (loading m.ship.weight_step m.cargo.containers i g))
  rhs (Start q p) = turned q (pos 1)
  rhs (Cell i h) = less true
  rhs (Support i h) = pos 0
  rhs (TwentyOn i h) = pos 0
  rhs (Block j h) = less true
  rhs (Hatch w j h d) = less true
  rhs (Weight i k) = pos 0 -ℤ pos (stack k).limit_kg
  rhs (Apart i e p q) = less true
  rhs (Cross l p c) = crossing_side m l p c

  -- calls 1 to N - 1
  abbrev pub is_call : ℕ → Bool
  is_call i = nat_lt 0 i && nat_lt i (calls m)

  abbrev pub is_half : ℕ → Bool
  is_half h = nat_lt h (length (halves m.ship))

  abbrev pub is_place : ℕ → Bool
  is_place p = nat_lt p (length (places m.ship))

  -- the rows that there are
  abbrev pub has : Row → Bool
  has (Flow q i g) = nat_lt q 2 && (is_call i && (nat_lt g (length (all_kinds m)) && (nat_le (kind m g).first i && nat_lt i (kind m g).dest)))
  has (Start q p) = nat_lt q 2 && is_filled (slice_index_or m.cargo.arrival p None)
  has (Cell i h) = is_call i && is_half h
  has (Support i h) = is_call i && (is_half h && nat_lt 0 (half h).tier)
  has (TwentyOn i h) = is_call i && (is_half h && nat_lt 0 (half h).tier)
  has (Block j h) = is_call j && (is_half h && nat_lt ((half h).tier + 1) (stack (half h).stack).tiers)
  has (Hatch w j h d) = nat_lt w 2 && (is_call j && (is_half h && (is_half d && (((half d).tier == 0) && cover_joins m.ship.covers (half h).stack (half d).stack))))
  has (Weight i k) = is_call i && nat_lt k (length m.ship.stacks)
  has (Apart i e p q) = is_call i && (nat_lt e (length m.ship.separations) && (is_place p && (is_place q && near m.ship (separation e).level (place m p) (place m q))))
  has (Cross l p c) = is_crossing m l p c

  -- all rows as one program over the variables' numbers
  abbrev pub whole : Program Row
  whole = record {
    vars = length (variables m);
    cost = λ v. pos (var_cost m (var m v));
    coef = λ r v. coef r (var m v);
    rhs = rhs;
    has = has;
  }

  -- the base rows as one program
  abbrev pub base : Program Row
  base = record whole { has = λ r. is_base r && has r }

  -- a 0-1 assignment that meets every base row
  abbrev pub IsSolution : (ℕ → Bool) → Type 0
  IsSolution x = Solution base x

  -- each such assignment meets the crossing rows too
  abbrev pub CrossingRowsHold : Type 0
  CrossingRowsHold = (x : ℕ → Bool) → IsSolution x → Solution whole x
