-- Crossing rows: what loads for the pairs of a chain, and the columns that can keep it from being lifted on the way.
use Rattle.std.specs.Prelude.{ℕ, ◌==◌, ◌&&◌, ◌||◌, Bool, cond, max, List, map, nat_lt, nat_le, ℤ}
use Rattle.std.specs.List.{count_by, sum_by, fold}
use Rattle.zero_one_rows.specs.Chains.{pairs_of, is_pair, is_chain}
use Rattle.zero_one_rows.specs.RightSide.{right_side}
use Rattle.stow_data.specs.declared.geometry.Length.{Length}
use Rattle.stow_data.specs.declared.geometry.Length.TheVariants.{Twenty, Forty}
use Rattle.stow_data.specs.declared.geometry.Lengths.{Lengths}
use Rattle.stow_data.specs.declared.geometry.Stack.{Stack}
use Rattle.stow_data.specs.declared.cargoes.Container.{Container}
use Rattle.stow_data.specs.Ship.{Ship, spans, length_in, same_length}
use Rattle.zero_one_rows.specs.declared.program.Var.{Var}
use Rattle.zero_one_rows.specs.Variables.{Voyage, calls, kind, is_rehandled}

-- the lengths of rows: 20 and 40 foot
abbrev pub is_length : ℕ → Bool
is_length l = (l == 20) || (l == 40)

abbrev pub length_of : ℕ → Length
length_of l = cond (l == 20) Twenty Forty

-- a stack's columns of this length: where it offers 20-foot places the fore and the aft one, where it offers 40-foot places one
abbrev pub columns_in : Length → Lengths → ℕ
columns_in long lengths = count_by (λ span. same_length long (length_in span)) (spans lengths)

abbrev pub columns : Ship → Length → ℕ
columns ship long = sum_by (λ s. columns_in long s.lengths) ship.stacks

-- the tiers of a stack that has such a column, and the most of all stacks
abbrev pub tiers_for : Length → Stack → ℕ
tiers_for long s = cond (nat_lt 0 (columns_in long s.lengths)) s.tiers 0

abbrev pub tallest : Ship → Length → ℕ
tallest ship long = fold (λ t s. max t (tiers_for long s)) 0 ship.stacks

-- of this length, loaded at a call for a destination
abbrev pub is_of_load : Length → ℕ → ℕ → Container → Bool
is_of_load long load dest c = (c.load == load) && ((c.dest == dest) && same_length long c.long)

module _ (m : Voyage) where
  abbrev pub load_of : Length → ℕ → ℕ → ℕ
  load_of long load dest = count_by (is_of_load long load dest) m.cargo.containers

  -- loaded for one of the pairs, and lifted before its destination
  abbrev pub crosses : ℕ → List ℕ → Var → Bool
  crosses l c x = same_length (length_of l) (kind m x.kind).long && (is_pair c x.put (kind m x.kind).dest && is_rehandled m x)

  -- what loads for the pairs, less what the columns can keep from being lifted early
  abbrev pub crossing_side : ℕ → ℕ → List ℕ → ℤ
  crossing_side l price c = right_side (map (λ p. load_of (length_of l) p.0 p.1) (pairs_of c)) (columns m.ship (length_of l)) (tallest m.ship (length_of l)) price

  -- of a length with a column, at a price from 1 to the tallest one's tiers, for a chain of calls
  abbrev pub is_crossing : ℕ → ℕ → List ℕ → Bool
  is_crossing l price c = is_length l && (nat_lt 0 (columns m.ship (length_of l)) && (nat_lt 0 price && (nat_le price (tallest m.ship (length_of l)) && is_chain (calls m) c)))
