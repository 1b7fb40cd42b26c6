-- Every solution meets every crossing row.
use Rattle.std.proofs.Common.{◌≡◌, ℕ, suc, ◌+◌, ◌-◌, ◌*◌, ◌/◌, ◌<◌, ◌≤◌, Bool, true, false, ◌&&◌, Option, Some, None, length, map, arith, refl, ⊎_elim, sym, subst, ap, ◌∙◌, eqb, List}
use Rattle.std.specs.Prelude.{◌==◌, nat_lt, nat_le, slice_get, slice_index_or}
use Rattle.std.specs.List.{list_any}
use Rattle.std.proofs.lemmas.Bool.{cases_lt, cases_Bool, and_parts, and_from, eq-eqb, eqb-true, lt-ltb, ltb-true, false≢true}
use Rattle.std.proofs.lemmas.Option.{get_or_from_slice_get, slice_get_within, slice_get-get_or, same_Some}
use Rattle.std.proofs.lemmas.List.Folds.{list_any_at}
use borrow.Author.Differences.{ints}
use Rattle.stow_data.specs.declared.geometry.Half.{Half}
use Rattle.stow_data.specs.declared.geometry.Length.{Length}
use Rattle.stow_data.specs.declared.geometry.Place.{Place}
use Rattle.stow_data.specs.declared.geometry.Span.{Span}
use Rattle.stow_data.specs.declared.geometry.Span.TheVariants.{Fore, Aft, Both}
use Rattle.stow_data.specs.declared.geometry.Stack.{Stack}
use Rattle.stow_data.specs.declared.cargoes.Container.{Container}
use Rattle.stow_data.specs.Ship.{length_in, same_length}
use Rattle.stow_data.specs.Kinds.{loading, kind_of, kind_number}
use Rattle.stow_data.specs.Plans.{no_container, no_stack, container_at, held}
use Rattle.stow_data.proofs.Listed.{IsOf, IsHalfOf, place_from}
use Rattle.stow_data.proofs.PlanLookups.{is_place, held_is, place_is}
use Rattle.stow_data.proofs.KindLemmas.{kind_in}
use Rattle.stowage_rules.specs.Plan.{Holds, Fills}
use Rattle.stowage_rules.specs.Departure.{HasArrival, half_of}
use Rattle.zero_one_rows.specs.Chains.{is_chain, pairs_of}
use Rattle.zero_one_rows.specs.Gains.{best_gain}
use Rattle.zero_one_rows.proofs.Signed.{unsigned_side}
use Rattle.proof_trees.specs.Program.{Meets}
use Rattle.zero_one_rows.specs.declared.program.Row.TheVariants as row
use Rattle.zero_one_rows.specs.Variables.{Voyage, calls, all_kinds, kind, place, variables, var}
use Rattle.zero_one_rows.specs.Crossing.{length_of, is_length, columns, tallest, is_of_load, load_of, crosses}
use Rattle.zero_one_rows.specs.Rows.{covers, takes, stack, whole, is_filled, IsSolution, CrossingRowsHold}
use Rattle.crossing_law.proofs.Worlds.{Pair, World, total_to, one_if, count_to, many, occ, stay, out, loaded, lifted_early, IsChainOf, ColumnRows, Columns}
use Rattle.crossing_law.proofs.Counting.{total_le, count_le, count_one, count_some, colours_le, by_colour, swapped, at_most_one, one_if_true, one_if_false, one_if_low}
use Rattle.crossing_law.proofs.Column.{IsIn, one_of, some_of, occ_from, occ_parts}
use Rattle.crossing_law.proofs.Law.{crossing}
use Rattle.crossing_law.proofs.Sides.{world, ones, cell_is, support_is, block_is, flow_is, start_is}
use Rattle.crossing_law.proofs.Slots.{offers, offered_by, offers_side, is_aft, tiers_of, side_of, slot, slot_stack, slot_side, slot_low, slots_are, offered_side, offers_span, column_low}
use Rattle.crossing_law.proofs.ChainPairs.{pair_of, chain_pairs}
use Rattle.crossing_law.proofs.KindFacts.{kind_alike, alike_dest, alike_long, same_length_is, kind_first, loads_total, sum_total, sum_map_total}
use Rattle.crossing_law.proofs.Arrivals.{kind_at, variable_is, has_half_from, covers_from, place_long}

-- the half-cells of a column
abbrev half_in : ℕ → ℕ → Half
half_in c t = record { stack = c / 2; tier = t; aft = is_aft c }

-- of this length and destination
abbrev speaks : Voyage → Length → ℕ → ℕ → Bool
speaks m long g d = same_length long (kind m g).long && ((kind m g).dest == d)

offered_stack : (o : Option Stack) (long : Length) (side : Bool) → offered_by o long side ≡ true → (s : Stack) × (o ≡ Some s)
offered_stack None long side h = absurd (false≢true h)
offered_stack (Some s) long side h = (s, refl)

own_side : (span : Span) → takes span (side_of span) ≡ true
own_side Fore = refl
own_side Aft = refl
own_side Both = refl

-- a half-cell of an offered column is one of the ship's
half_is : (m : Voyage) (long : Length) (c t : ℕ) → offers m.ship.stacks long c ≡ true → t < tiers_of (slice_get m.ship.stacks (c / 2)) → IsHalfOf m.ship (half_in c t)
half_is m long c t off low =
    let s = offered_stack (slice_get m.ship.stacks (c / 2)) long (is_aft c) off in
    record {
      stack_at = s.0;
      is_stack = s.1;
      low = subst (λ (o : Option Stack). t < tiers_of o) s.1 low;
      side = offered_side s.0.lengths long (is_aft c) (subst (λ (o : Option Stack). offered_by o long (is_aft c) ≡ true) s.1 off);
    }

-- lifted before its destination, of a pair
record IsEarly (m : Voyage) (x : ℕ → Bool) (long : Length) (p : Pair) (v : ℕ) : Type 0 where
  pub is_set : x v ≡ true
  pub is_put : (var m v).put ≡ p.load
  pub has_length : same_length long (kind m (var m v).kind).long ≡ true
  pub has_dest : (kind m (var m v).kind).dest ≡ p.dest
  pub is_lifted : (var m v).lifted < p.dest

-- the container, or 0
abbrev number_of : Option ℕ → ℕ
number_of None = 0
number_of (Some c) = c

module _ (m : Voyage) (arr : HasArrival m.ship m.cargo) (x : ℕ → Bool) (sol : IsSolution m x) where
  abbrev w : World Half
  w = world m x

  -- where the arrival is filled, something was put at call 0
  arrived_in : (q c : ℕ) → Holds m.cargo.arrival q c → (u : ℕ) × IsIn (world m x) u × ((var m u).put ≡ 0) × ((var m u).place ≡ q)
  arrived_in q c h =
      let filled : is_filled (held m.cargo.arrival q) ≡ true = ap is_filled (held_is m.cargo.arrival q (Some c) h) in
      let r = some_of (world m x) (λ v. ((var m v).put == 0) && ((var m v).place == q)) (let s = start_is m x sol q filled in omega (arith, s)) in
      let a = and_parts ((var m r.0).put == 0) ((var m r.0).place == q) r.2 in
      (r.0, r.1, eqb-true _ _ a.0, eqb-true _ _ a.1)

  arrival_support : (c t : ℕ) → 0 < many (world m x) (occ (world m x) 0 (half_in c (suc t))) → 0 < many (world m x) (occ (world m x) 0 (half_in c t))
  arrival_support c t some =
      let r = some_of (world m x) (occ (world m x) 0 (half_in c (suc t))) some in
      let is_in = r.1 in
      let q = occ_parts (world m x) 0 (half_in c (suc t)) r.0 r.2 in
      let v = variable_is m r.0 is_in.below in
      let named = v.named in
      let a = v.arrives (omega (arith, q.0)) in
      let e : suc t ≡ t + 1 = omega arith in
      let fills : Fills m.ship m.cargo.arrival (half_of (c / 2) (t + 1) (is_aft c)) a.number = record {
        number = (var m r.0).place;
        place = place m (var m r.0).place;
        is_place = is_place m.ship (var m r.0).place named.place;
        has_half = has_half_from _ _ (subst (λ (n : ℕ). covers (place m (var m r.0).place) (half_in c n) ≡ true) e q.2);
        holds = a.holds;
      } in
      let s = arr.supported (c / 2) t (is_aft c) a.number fills in
      let f = s.1 in
      let u = arrived_in f.number s.0 f.holds in
      let uin = u.1 in
      let later = (variable_is m u.0 uin.below).later in
      let here : covers (place m f.number) (half_in c t) ≡ true = subst (λ (z : Place). covers z (half_in c t) ≡ true) (sym {a = place m f.number} (place_is m.ship f.number f.place f.is_place)) (covers_from f.place _ f.has_half) in
      let one : 1 ≤ many (world m x) (occ (world m x) 0 (half_in c t)) = one_of (world m x) (occ (world m x) 0 (half_in c t)) u.0 u.1 (occ_from (world m x) 0 (half_in c t) u.0 (omega (arith, u.2)) (omega (arith, later)) (subst (λ (z : ℕ). covers (place m z) (half_in c t) ≡ true) (sym u.3) here)) in
      omega arith

  later_support : (c i t : ℕ) → 0 < i → i < calls m → IsHalfOf m.ship (half_in c (suc t)) → many (world m x) (occ (world m x) i (half_in c (suc t))) ≤ many (world m x) (occ (world m x) i (half_in c t))
  later_support c i t p low of =
      let e : suc t - 1 ≡ t = omega arith in
      subst (λ (n : ℕ). many (world m x) (occ (world m x) i (half_in c (suc t))) ≤ many (world m x) (occ (world m x) i (half_in c n))) e
      (support_is m x sol i (half_in c (suc t)) p low of (omega arith))

  column_block : (c j t : ℕ) → 0 < j → j < calls m → IsHalfOf m.ship (half_in c t) → suc t < tiers_of (slice_get m.ship.stacks (c / 2))
      → many (world m x) (out (world m x) j (half_in c t)) + many (world m x) (stay (world m x) j (half_in c (suc t))) ≤ 1
  column_block c j t p low of top =
      let e : t + 1 ≡ suc t = omega arith in
      let same : (stack m (c / 2)).tiers ≡ of.stack_at.tiers = ap (λ (s : Stack). s.tiers) (get_or_from_slice_get m.ship.stacks (c / 2) of.stack_at no_stack of.is_stack) in
      let also : suc t < of.stack_at.tiers = subst (λ (o : Option Stack). suc t < tiers_of o) of.is_stack top in
      subst (λ (n : ℕ). many (world m x) (out (world m x) j (half_in c t)) + many (world m x) (stay (world m x) j (half_in c n)) ≤ 1) e
      (block_is m x sol j (half_in c t) p low of (omega (arith, same, also)))

  column_rows : (long : Length) (c : ℕ) → offers m.ship.stacks long c ≡ true → ColumnRows (world m x) (calls m) (half_in c) (tiers_of (slice_get m.ship.stacks (c / 2)))
  column_rows long c off = record {
    cell = λ i t p low top. cell_is m x sol i (half_in c t) p low (half_is m long c t off top);
    support = λ i t low top has. ⊎_elim
        (λ (p : 0 < i). let s = later_support c i t p low (half_is m long c (suc t) off top) in omega (arith, s))
        (λ (z : i ≤ 0). let e : i ≡ 0 = omega arith in subst (λ (j : ℕ). 0 < many (world m x) (occ (world m x) j (half_in c t))) (sym e) (arrival_support c t (subst (λ (j : ℕ). 0 < many (world m x) (occ (world m x) j (half_in c (suc t)))) e has)))
        (cases_lt 0 i);
    block = λ j t p low top. column_block c j t p low (half_is m long c t off (omega (arith, top))) top;
  }

  -- the column of a place
  abbrev column_at : ℕ → ℕ
  column_at p = slot (place m p).stack (side_of (place m p).span)

  place_of : (v : ℕ) → v < length (variables m) → IsOf m.ship (place m (var m v).place)
  place_of v lt = let n = (variable_is m v lt).named in place_from m.ship (var m v).place (place m (var m v).place) (is_place m.ship (var m v).place n.place)

  offered_at : (long : Length) (v d : ℕ) → v < length (variables m) → speaks m long (var m v).kind d ≡ true → offers m.ship.stacks long (column_at (var m v).place) ≡ true
  offered_at long v d lt h =
      let p = place m (var m v).place in
      let of = place_of v lt in
      let e : long ≡ length_in p.span = same_length_is _ _ (and_parts (same_length long (kind m (var m v).kind).long) ((kind m (var m v).kind).dest == d) h).0 ∙ place_long m arr v lt in
      let s : offers_side of.stack_at.lengths long (side_of p.span) ≡ true = subst (λ (z : Length). offers_side of.stack_at.lengths z (side_of p.span) ≡ true) (sym e) (offers_span of.stack_at.lengths p.span of.span) in
      rw (slot_stack p.stack (side_of p.span), slot_side p.stack (side_of p.span), of.is_stack) s

  tier_at : (v : ℕ) → v < length (variables m) → (place m (var m v).place).tier < tiers_of (slice_get m.ship.stacks (column_at (var m v).place / 2))
  tier_at v lt =
      let p = place m (var m v).place in
      let of = place_of v lt in
      rw (slot_stack p.stack (side_of p.span), of.is_stack) of.low

  stands_at : (p : Place) → covers p (half_in (slot p.stack (side_of p.span)) p.tier) ≡ true
  stands_at p =
      and_from _ _ (eq-eqb _ _ (sym (slot_stack p.stack (side_of p.span))))
      (and_from _ _ (eq-eqb p.tier p.tier refl) (subst (λ (s : Bool). takes p.span s ≡ true) (sym (slot_side p.stack (side_of p.span))) (own_side p.span)))

  columns_of : (long : Length) → Columns (world m x) (calls m) (speaks m long) (2 * length m.ship.stacks) (offers m.ship.stacks long) (tallest m.ship long)
  columns_of long = record {
    half = half_in;
    tall = λ c. tiers_of (slice_get m.ship.stacks (c / 2));
    rows = λ c lt off. column_rows long c off;
    highest = λ c lt off. column_low m.ship long c off;
    column_of = column_at;
    tier_of = λ p. (place m p).tier;
    column = λ v d lt h. let of = place_of v lt in slot_low _ _ (side_of (place m (var m v).place).span) (slice_get_within m.ship.stacks _ of.stack_at of.is_stack);
    offered = offered_at long;
    tier = λ v d lt h. tier_at v lt;
    stands = λ v d lt h. stands_at (place m (var m v).place);
  }

  -- a container that was aboard at arrival has a variable that is 1
  put_for : (c g : ℕ) → c < length m.cargo.containers → 0 < (kind m g).dest → (((slice_index_or m.cargo.containers c no_container).load == 0) && (kind_at m c == g)) ≡ true
      → (u : ℕ) × IsIn (world m x) u × ((((var m u).put == 0) && ((var m u).kind == g)) ≡ true) × (number_of (held m.cargo.arrival (var m u).place) ≡ c)
  put_for c g lc pos1 h =
      let a = and_parts ((slice_index_or m.cargo.containers c no_container).load == 0) (kind_at m c == g) h in
      let load : (container_at m.cargo c).load ≡ 0 = eqb-true _ _ a.0 in
      let of : kind_at m c ≡ g = eqb-true _ _ a.1 in
      let is : slice_get m.cargo.containers c ≡ Some (container_at m.cargo c) = slice_get-get_or m.cargo.containers c no_container lc in
      let dest : (kind m (kind_at m c)).dest ≡ (container_at m.cargo c).dest = alike_dest (kind m (kind_at m c)) (kind_of m.ship.weight_step (container_at m.cargo c)) (kind_alike m.ship.weight_step m.cargo.containers c (container_at m.cargo c) is) in
      let far : 0 < (container_at m.cargo c).dest = subst (λ (n : ℕ). 0 < n) dest (subst (λ (k : ℕ). 0 < (kind m k).dest) (sym of) pos1) in
      let p = (arr.aboard c (container_at m.cargo c) is).1 (record { loaded = (let q : (container_at m.cargo c).load ≤ 0 = omega (arith, load) in q); stays = far }) in
      let u = arrived_in p.0 c p.1 in
      let uin = u.1 in
      let there : held m.cargo.arrival (var m u.0).place ≡ Some c = ap (held m.cargo.arrival) u.3 ∙ held_is m.cargo.arrival p.0 (Some c) p.1 in
      let a2 = (variable_is m u.0 uin.below).arrives u.2 in
      let same : a2.number ≡ c = same_Some _ _ (sym (held_is m.cargo.arrival (var m u.0).place (Some a2.number) a2.holds) ∙ there) in
      let kinds : (var m u.0).kind ≡ g = sym a2.of_kind ∙ ap (kind_at m) same ∙ of in
      (u.0, u.1, and_from _ _ (eq-eqb _ _ u.2) (eq-eqb _ _ kinds), ap number_of there)

  -- before a kind's first call none of it loads
  none_before : (i g : ℕ) → i < (kind m g).first → loading m.ship.weight_step m.cargo.containers i g ≡ 0
  none_before i g f =
      let cs = m.cargo.containers in
      let loads : ℕ → Bool = λ c. ((slice_index_or cs c no_container).load == i) && (kind_at m c == g) in
      ⊎_elim
      (λ (l : 0 < count_to (length cs) loads).
      let r = count_some (length cs) loads l in
      let a = and_parts ((slice_index_or cs r.0 no_container).load == i) (kind_at m r.0 == g) r.2 in
      let low = kind_first m.ship.weight_step cs r.0 (container_at m.cargo r.0) (slice_get-get_or cs r.0 no_container r.1) in
      let load : (container_at m.cargo r.0).load ≡ i = eqb-true _ _ a.0 in
      let late : i < (kind m (kind_at m r.0)).first = subst (λ (k : ℕ). i < (kind m k).first) (sym (eqb-true _ _ a.1)) f in
      absurd (omega (arith, low, load, late)))
      (λ (l : count_to (length cs) loads ≤ 0). omega (arith, l, loads_total i g (kind_number m.ship.weight_step cs) cs))
      (cases_lt 0 (count_to (length cs) loads))

  -- what is put at call 0, of one kind
  arrivals_in : (g : ℕ) → 0 < (kind m g).dest → loading m.ship.weight_step m.cargo.containers 0 g ≤ many (world m x) (λ v. ((var m v).put == 0) && ((var m v).kind == g))
  arrivals_in g pos1 =
      let cs = m.cargo.containers in
      let all : ℕ → Bool = λ v. x v && (((var m v).put == 0) && ((var m v).kind == g)) in
      let from : ℕ → ℕ = λ v. number_of (held m.cargo.arrival (var m v).place) in
      let loads : ℕ → Bool = λ c. ((slice_index_or cs c no_container).load == 0) && (kind_at m c == g) in
      let each : count_to (length cs) loads ≤ total_to (length cs) (λ c. count_to (length (variables m)) (λ v. all v && eqb (from v) c)) = total_le (length cs) _ _ (λ c lc. ⊎_elim
      (λ (h : loads c ≡ true). let r = put_for c g lc pos1 h in let q = r.1 in omega (arith, one_if_low (loads c), count_one (length (variables m)) (λ v. all v && eqb (from v) c) r.0 q.below (and_from (all r.0) _ (and_from (x r.0) _ q.set r.2) (eq-eqb _ _ r.3))))
      (λ (h : loads c ≡ false). omega (arith, one_if_false _ h))
      (cases_Bool (loads c))) in
      omega (arith, loads_total 0 g (kind_number m.ship.weight_step cs) cs, each, colours_le (length (variables m)) (length cs) all from)

  kind_in_call : (i g d : ℕ) → g < length (all_kinds m) → i < d → d ≤ calls m → (kind m g).dest ≡ d → loading m.ship.weight_step m.cargo.containers i g ≤ many (world m x) (λ v. ((var m v).put == i) && ((var m v).kind == g))
  kind_in_call i g d lt low end e = ⊎_elim
      (λ (p : 0 < i). ⊎_elim
      (λ (f : i < (kind m g).first). let z = none_before i g f in omega (arith, z))
      (λ (f : (kind m g).first ≤ i). flow_is m x sol i g p (omega arith) lt f (omega arith))
      (cases_lt i (kind m g).first))
      (λ (z : i ≤ 0). let e0 : i ≡ 0 = omega arith in subst (λ (j : ℕ). loading m.ship.weight_step m.cargo.containers j g ≤ many (world m x) (λ v. ((var m v).put == j) && ((var m v).kind == g))) (sym e0) (arrivals_in g (omega arith)))
      (cases_lt 0 i)

  -- a container of the pair tells its kind's length and destination
  kind_speaks : (long : Length) (p : Pair) (g c : ℕ) → c < length m.cargo.containers → (is_of_load long p.load p.dest (slice_index_or m.cargo.containers c no_container) && eqb (kind_at m c) g) ≡ true → speaks m long g p.dest ≡ true
  kind_speaks long p g c lc h =
      let box : Container = container_at m.cargo c in
      let a = and_parts (is_of_load long p.load p.dest box) (eqb (kind_at m c) g) h in
      let b = and_parts (box.load == p.load) ((box.dest == p.dest) && same_length long box.long) a.0 in
      let d = and_parts (box.dest == p.dest) (same_length long box.long) b.1 in
      let of : kind_at m c ≡ g = eqb-true _ _ a.1 in
      let alike_is = kind_alike m.ship.weight_step m.cargo.containers c box (slice_get-get_or m.cargo.containers c no_container lc) in
      let dest : (kind m (kind_at m c)).dest ≡ box.dest = alike_dest (kind m (kind_at m c)) (kind_of m.ship.weight_step box) alike_is in
      let length_is : (kind m (kind_at m c)).long ≡ box.long = alike_long (kind m (kind_at m c)) (kind_of m.ship.weight_step box) alike_is in
      subst (λ (k : ℕ). speaks m long k p.dest ≡ true) of
      (and_from _ _ (subst (λ (z : Length). same_length long z ≡ true) (sym length_is) d.1) (eq-eqb _ _ (dest ∙ eqb-true _ _ d.0)))

  -- of one kind
  kind_of_pair : (long : Length) (p : Pair) (g : ℕ) → g < length (all_kinds m) → p.load < p.dest → p.dest ≤ calls m
      → count_to (length m.cargo.containers) (λ c. is_of_load long p.load p.dest (slice_index_or m.cargo.containers c no_container) && eqb (kind_at m c) g)
      ≤ count_to (length (variables m)) (λ v. (x v && loaded (world m x) (speaks m long) p v) && eqb (var m v).kind g)
  kind_of_pair long p g lg low end =
      let cs = m.cargo.containers in
      let here : ℕ → Bool = λ c. is_of_load long p.load p.dest (slice_index_or cs c no_container) && eqb (kind_at m c) g in
      ⊎_elim
      (λ (l : 0 < count_to (length cs) here).
      let r = count_some (length cs) here l in
      let h : speaks m long g p.dest ≡ true = kind_speaks long p g r.0 r.1 r.2 in
      let dest : (kind m g).dest ≡ p.dest = eqb-true _ _ (and_parts (same_length long (kind m g).long) ((kind m g).dest == p.dest) h).1 in
      let some : count_to (length cs) here ≤ count_to (length cs) (λ c. ((slice_index_or cs c no_container).load == p.load) && (kind_at m c == g)) = count_le (length cs) _ _ (λ c lc hc.
      let a = and_parts (is_of_load long p.load p.dest (slice_index_or cs c no_container)) (eqb (kind_at m c) g) hc in
      and_from _ _ (and_parts ((slice_index_or cs c no_container).load == p.load) _ a.0).0 a.1) in
      let put : many (world m x) (λ v. ((var m v).put == p.load) && ((var m v).kind == g)) ≤ count_to (length (variables m)) (λ v. (x v && loaded (world m x) (speaks m long) p v) && eqb (var m v).kind g) = count_le (length (variables m)) _ _ (λ v lv hv.
      let s = and_parts (x v) (((var m v).put == p.load) && ((var m v).kind == g)) hv in
      let t = and_parts ((var m v).put == p.load) ((var m v).kind == g) s.1 in
      and_from (x v && loaded (world m x) (speaks m long) p v) _ (and_from (x v) _ s.0 (and_from _ _ t.0 (subst (λ (k : ℕ). speaks m long k p.dest ≡ true) (sym (eqb-true _ _ t.1)) h))) t.1) in
      omega (arith, some, loads_total p.load g (kind_number m.ship.weight_step cs) cs, kind_in_call p.load g p.dest lg low end dest, put))
      (λ (l : count_to (length cs) here ≤ 0). omega (arith, l))
      (cases_lt 0 (count_to (length cs) here))

  -- all that is loaded for a pair
  loads_in_pair : (long : Length) (p : Pair) → p.load < p.dest → p.dest ≤ calls m → load_of m long p.load p.dest ≤ many (world m x) (loaded (world m x) (speaks m long) p)
  loads_in_pair long p low end =
      let cs = m.cargo.containers in
      let n = length (variables m) in
      let k = length (all_kinds m) in
      let all : ℕ → Bool = λ v. x v && loaded (world m x) (speaks m long) p v in
      let wanted : ℕ → Bool = λ c. is_of_load long p.load p.dest (slice_index_or cs c no_container) in
      let parted : count_to (length cs) wanted ≤ total_to k (λ g. count_to (length cs) (λ c. wanted c && eqb (kind_at m c) g)) = by_colour (length cs) k wanted (kind_at m) (λ c lc h. kind_in m.ship.weight_step cs c (container_at m.cargo c) (slice_get-get_or cs c no_container lc)) in
      let each : total_to k (λ g. count_to (length cs) (λ c. wanted c && eqb (kind_at m c) g)) ≤ total_to k (λ g. count_to n (λ v. all v && eqb (var m v).kind g)) = total_le k _ _ (λ g lg. kind_of_pair long p g lg low end) in
      omega (arith, sum_total (λ (c : Container). one_if (is_of_load long p.load p.dest c)) no_container cs, parted, each, colours_le n k all (λ v. (var m v).kind))

  early_parts : (l : ℕ) (c : List ℕ) (v k : ℕ) → (x v && lifted_early (world m x) (speaks m (length_of l)) (pair_of c k) v) ≡ true → IsEarly m x (length_of l) (pair_of c k) v
  early_parts l c v k h =
      let long = length_of l in
      let p = pair_of c k in
      let kd = kind m (var m v).kind in
      let a = and_parts (x v) (lifted_early (world m x) (speaks m long) p v) h in
      let b = and_parts (loaded (world m x) (speaks m long) p v) (nat_lt (var m v).lifted p.dest) a.1 in
      let d = and_parts ((var m v).put == p.load) (speaks m long (var m v).kind p.dest) b.0 in
      let e = and_parts (same_length long kd.long) (kd.dest == p.dest) d.1 in
      record { is_set = a.0; is_put = eqb-true _ _ d.0; has_length = e.0; has_dest = eqb-true _ _ e.1; is_lifted = ltb-true _ _ b.1 }

  -- no variable is lifted early for two pairs
  one_pair : (l : ℕ) (c : List ℕ) → IsChainOf (calls m) (length (pairs_of c)) (pair_of c) → (v : ℕ) → count_to (length (pairs_of c)) (λ k. x v && lifted_early (world m x) (speaks m (length_of l)) (pair_of c k) v) ≤ one_if (x v && crosses m l c (var m v))
  one_pair l c chain v =
      let n = length (pairs_of c) in
      let early : ℕ → Bool = λ k. x v && lifted_early (world m x) (speaks m (length_of l)) (pair_of c k) v in
      let load : (k : ℕ) → early k ≡ true → (var m v).put ≡ (pair_of c k).load = λ k h. (early_parts l c v k h).is_put in
      ⊎_elim
      (λ (some : 0 < count_to n early).
      let r = count_some n early some in
      let q = early_parts l c v r.0 r.2 in
      let at : list_any (λ p. (p.0 == (var m v).put) && (p.1 == (kind m (var m v).kind).dest)) (pairs_of c) ≡ true = list_any_at _ (pairs_of c) r.0 (0, 0) r.1 (and_from _ _ (eq-eqb _ _ (sym q.is_put)) (eq-eqb _ _ (sym q.has_dest))) in
      let yes : (x v && crosses m l c (var m v)) ≡ true = and_from _ _ q.is_set (and_from _ _ q.has_length (and_from _ _ at (lt-ltb _ _ (let f = q.is_lifted in let e = q.has_dest in omega arith)))) in
      omega (arith, one_if_true _ yes, at_most_one n early (λ a b lt lb ha hb. omega (arith, load a ha, load b hb, chain.loads a b lt lb))))
      (λ (none : count_to n early ≤ 0). omega arith)
      (cases_lt 0 (count_to n early))

  all_pairs : (l : ℕ) (c : List ℕ) → IsChainOf (calls m) (length (pairs_of c)) (pair_of c) → total_to (length (pairs_of c)) (λ k. many (world m x) (lifted_early (world m x) (speaks m (length_of l)) (pair_of c k))) ≤ many (world m x) (λ v. crosses m l c (var m v))
  all_pairs l c chain =
      let n = length (pairs_of c) in
      let f : ℕ → ℕ → ℕ = λ v k. one_if (x v && lifted_early (world m x) (speaks m (length_of l)) (pair_of c k) v) in
      omega (arith, swapped (length (variables m)) n f, total_le (length (variables m)) (λ v. total_to n (λ k. f v k)) (λ v. one_if (x v && crosses m l c (var m v))) (λ v lt. one_pair l c chain v))

  -- a crossing row
  pub crossed : (l price : ℕ) (c : List ℕ) → is_chain (calls m) c ≡ true → Meets (whole m) x (row.Cross l price c)
  crossed l price c h =
      let long = length_of l in
      let ps = pairs_of c in
      let n = length ps in
      let cols = columns m.ship long in
      let high = tallest m.ship long in
      let load : ℕ × ℕ → ℕ = λ p. load_of m long p.0 p.1 in
      let chain = chain_pairs (calls m) c h in
      let law = crossing (world m x) (calls m) n (pair_of c) (speaks m long) (2 * length m.ship.stacks) (offers m.ship.stacks long) high chain (columns_of long) price (λ k. load_of m long (pair_of c k).load (pair_of c k).dest)
      (λ k lt. loads_in_pair long (pair_of c k) (chain.between k k lt lt) (chain.within k lt))
      (λ v d lv g. let e : (kind m (var m v).kind).dest ≡ d = eqb-true _ _ (and_parts (same_length long (kind m (var m v).kind).long) ((kind m (var m v).kind).dest == d) g).1 in omega (arith, e, (variable_is m v lv).lifted)) in
      let law2 : total_to n (λ k. load_of m long (pair_of c k).load (pair_of c k).dest) ≤ total_to n (λ k. many (world m x) (lifted_early (world m x) (speaks m long) (pair_of c k))) + (price * cols + total_to n (λ k. best_gain cols high price (load_of m long (pair_of c k).load (pair_of c k).dest))) =
      subst (λ (z : ℕ). total_to n (λ k. load_of m long (pair_of c k).load (pair_of c k).dest) ≤ total_to n (λ k. many (world m x) (lifted_early (world m x) (speaks m long) (pair_of c k))) + (price * z + total_to n (λ k. best_gain z high price (load_of m long (pair_of c k).load (pair_of c k).dest)))) (slots_are m.ship long) law in
      omega (
        arith,
        ints,
        law2,
        all_pairs l c chain,
        unsigned_side (map load ps) cols high price,
        sum_map_total (λ t. t) load (0, 0) ps,
        sum_map_total (best_gain cols high price) load (0, 0) ps,
        ones (length (variables m)) x (λ v. crosses m l c (var m v)),
      )

-- the law
pub every_cross : (m : Voyage) → HasArrival m.ship m.cargo → CrossingRowsHold m
every_cross m arr x sol (row.Flow q i g) h = sol (row.Flow q i g) h
every_cross m arr x sol (row.Start q p) h = sol (row.Start q p) h
every_cross m arr x sol (row.Cell i k) h = sol (row.Cell i k) h
every_cross m arr x sol (row.Support i k) h = sol (row.Support i k) h
every_cross m arr x sol (row.Twenty i k) h = sol (row.Twenty i k) h
every_cross m arr x sol (row.Block j k) h = sol (row.Block j k) h
every_cross m arr x sol (row.Hatch w j k d) h = sol (row.Hatch w j k d) h
every_cross m arr x sol (row.Weight i k) h = sol (row.Weight i k) h
every_cross m arr x sol (row.Apart i e p q) h = sol (row.Apart i e p q) h
every_cross m arr x sol (row.Cross l price c) h =
    let long = length_of l in
    let a = and_parts (is_length l) (nat_lt 0 (columns m.ship long) && (nat_lt 0 price && (nat_le price (tallest m.ship long) && is_chain (calls m) c))) h in
    let b = and_parts (nat_lt 0 (columns m.ship long)) (nat_lt 0 price && (nat_le price (tallest m.ship long) && is_chain (calls m) c)) a.1 in
    let d = and_parts (nat_lt 0 price) (nat_le price (tallest m.ship long) && is_chain (calls m) c) b.1 in
    crossed m arr x sol l price c (and_parts (nat_le price (tallest m.ship long)) (is_chain (calls m) c) d.1).1
