-- The runs in which a variable may stand: every row that it touches is in one of them, and no two share a row.
use Rattle.std.proofs.Common.{◌≡◌, ◌≢◌, ℕ, zero, suc, ◌<◌, ◌≤◌, ◌+◌, ◌-◌, ◌*◌, Bool, true, false, ◌||◌, ◌==◌, List, [], ◌∷◌, ◌++◌, arith, refl, sym, ◌∙◌, ap, subst, length, ◌⊎◌, inl, inr, ⊎_elim, ◌↔◌}
use Rattle.std.specs.Prelude.{map, flat_map, filter, pos, nat_le, nat_lt, slice_index_or, Contains}
use Rattle.std.specs.List.{range_with_len, AllPairs}
use Rattle.std.specs.Ordering.{int_eq}
use Rattle.std.specs.Cmp.{signed_Decides}
use Rattle.std.proofs.lemmas.Bool.{eqb-true, ltb-true, leb-true, ne_eqb, cases_eq, false≢true}
use Rattle.stow_data.specs.declared.geometry.Half.{Half}
use Rattle.stow_data.specs.Profile.{IsShip}
use Rattle.stow_data.proofs.Members.{Member, member_left, member_right, member_split, map_at, map_from, flat_from, range_from}
use Rattle.stow_data.proofs.Distinct.{each_at, each_from}
use Rattle.zero_one_rows.specs.Chains.{IsBefore, is_chain}
use Rattle.zero_one_rows.specs.declared.program.Row.{Row}
use Rattle.zero_one_rows.specs.declared.program.Row.TheVariants.{Flow, Start, Cell, Support, Twenty, Block, Hatch, Weight, Apart, Cross}
use Rattle.zero_one_rows.specs.declared.program.Var.{Var}
use Rattle.zero_one_rows.specs.Variables.{Voyage, calls, place, variables, var}
use Rattle.zero_one_rows.specs.Crossing.{tallest, length_of, columns, is_length}
use Rattle.zero_one_rows.specs.Rows.{half, covers, below, above, coef, has}
use Rattle.zero_one_rows.proofs.VariableList.{var_listed, filter_at, filter_from, member_get}
use Rattle.zero_one_rows.specs.Counted.{base_rows, all_chains}
use Rattle.zero_one_rows.specs.Ordered.{Precedes}
use Rattle.zero_one_rows.proofs.EveryRow.{base_listed, both}
use Rattle.zero_one_rows.proofs.EveryChain.{chain_from, chain_by_test, chains_rise, not_both}
use Rattle.zero_one_rows.proofs.Rising.{Rising, rising_append, rising_flat, rising_map, rising_filter, rising_get, rising_pairs}
use Rattle.zero_one_model.specs.declared.filing.RowFiles.{RowFiles}
use Rattle.zero_one_model.specs.Indexed.{Touches, half_shelf, place_key}
use Rattle.zero_one_model.specs.Runs.{at_call, call_of, lead, is_shelved, leads, first_shelf, second_shelf, no_shelf, first_file, second_file, IsFiled, no_row, base_row, calls_for, run_of, meets, named_runs, chain_runs, runs_for}
use Rattle.zero_one_model.proofs.Sized.{first_true, second_true, place_in}
use Rattle.zero_one_model.proofs.Touched.{group_at, group_from, group_rises, contains_at, contains_from, covers_shelf, flow_near, start_near, cell_near, support_near, twenty_near, block_near, hatch_near, weight_near, apart_near}
use Rattle.zero_one_model.proofs.Selected.{not_true, not_from}
use Rattle.zero_one_model.proofs.Kept.{differ}
use Rattle.zero_one_model.proofs.Filed.{base_rise}
use Rattle.zero_one_model.proofs.Gathered.{kept, five_lists}
use Rattle.zero_one_model.proofs.Within.{Within, flow_within, cell_within, support_within, twenty_within, block_within, hatch_within, weight_within, apart_within}
use Rattle.zero_one_model.proofs.Leading.{again, tag, OtherRun, by_tag, leads_lead, leads_tag, first_leads, second_leads, filed_once, lead_first, lead_second, lead_base, lead_has, run_lead, run_rises}

rising_members : {X : Type 0} (R S : X → X → Type 0) (xs : List X) → Rising R xs → ((y z : X) → Member y xs → Member z xs → R y z → S y z) → Rising S xs
rising_members R S [] h f = tt
rising_members R S (x ∷ xs) h f = (each_from (S x) xs (λ z k. f x z (inl refl) (inr k) (each_at (R x) xs z h.0 k)), rising_members R S xs h.1 (λ y z a b r. f y z (inr a) (inr b) r))

abbrev chain_in : Row → List ℕ
chain_in (Flow q i g) = []
chain_in (Start q p) = []
chain_in (Cell i h) = []
chain_in (Support i h) = []
chain_in (Twenty i h) = []
chain_in (Block j h) = []
chain_in (Hatch w j h d) = []
chain_in (Weight i k) = []
chain_in (Apart i e p q) = []
chain_in (Cross l p c) = c

one_length : (a b : Bool) → (a ≡ false) → (a || b) ≡ true → b ≡ true
one_length true b e h = absurd (false≢true (sym e))
one_length false b e h = h

low_shelf : (s t n : ℕ) → s < n → t < 40 → s * 40 + t < n * 40
low_shelf s t n l k = omega (arith, l, k)

module _ (m : Voyage) (rules : IsShip m.ship) (f : RowFiles) (is : IsFiled m f) (x : ℕ) (low : x < length (variables m)) where
  abbrev pub v : Var
  v = var m x

  abbrev pub s : ℕ
  s = place_key m.ship v.place

  abbrev pub first : List ℕ
  first = slice_index_or f.by_first s []

  abbrev pub second : List ℕ
  second = slice_index_or f.by_second s []

  abbrev pub runs : List Row
  runs = runs_for m v first second

  put_low : v.put < v.lifted
  put_low = ltb-true v.put v.lifted (first_true _ _ (var_listed m x low).0)

  pub s_low : s < no_shelf m.ship
  s_low = let k = place_in m rules v.place (var_listed m x low).1.place in low_shelf (place m v.place).stack (place m v.place).tier (length m.ship.stacks) k.0 k.1

  in_calls : (i : ℕ) → Within v i → Member i (range_with_len v.put (v.lifted - v.put + 1))
  in_calls i w = range_from v.put (v.lifted - v.put + 1) i w.0 (omega (arith, w.0, w.1, put_low))

  -- ## Every row

  lead_number : (r : Row) → is_shelved r ≡ true → has m r ≡ true → (k : ℕ) × (k < length (base_rows m)) × (base_row m k ≡ lead r)
  lead_number r t h = member_get (base_rows m) (lead r) no_row (base_listed m (lead r) (lead_base r t) (lead_has m r t h))

  in_first : (r : Row) → is_shelved r ≡ true → has m r ≡ true → first_shelf m.ship r ≡ s → Member (lead r) (map (base_row m) first)
  in_first r t h e =
      let n = lead_number r t h in
      subst (λ (z : Row). Member z (map (base_row m) first)) n.2 (map_from (base_row m) first n.0
      (group_from (first_file m.ship) (base_rows m) no_row (no_shelf m.ship) s n.0 f.by_first is.by_first s_low n.1 (ap (λ (z : Row). first_file m.ship z) n.2 ∙ lead_first m.ship s r t e)))

  in_second : (r : Row) → is_shelved r ≡ true → has m r ≡ true → (second_shelf m.ship r == first_shelf m.ship r) ≡ false → second_shelf m.ship r ≡ s → Member (lead r) (map (base_row m) second)
  in_second r t h ne e =
      let n = lead_number r t h in
      subst (λ (z : Row). Member z (map (base_row m) second)) n.2 (map_from (base_row m) second n.0
      (group_from (second_file m.ship) (base_rows m) no_row (no_shelf m.ship) s n.0 f.by_second is.by_second s_low n.1 (ap (λ (z : Row). second_file m.ship z) n.2 ∙ lead_second m.ship s r t ne e)))

  abbrev crossing : List Row
  crossing = chain_runs m 20 ++ chain_runs m 40

  from_first : (y : Row) → Member y (map (base_row m) first) → Member y runs
  from_first y h = member_right y (named_runs m v) (map (base_row m) first ++ (map (base_row m) second ++ crossing)) (member_left y (map (base_row m) first) (map (base_row m) second ++ crossing) h)

  from_second : (y : Row) → Member y (map (base_row m) second) → Member y runs
  from_second y h = member_right y (named_runs m v) (map (base_row m) first ++ (map (base_row m) second ++ crossing)) (member_right y (map (base_row m) first) (map (base_row m) second ++ crossing) (member_left y (map (base_row m) second) crossing h))

  from_crossing : (y : Row) → Member y crossing → Member y runs
  from_crossing y h = member_right y (named_runs m v) (map (base_row m) first ++ (map (base_row m) second ++ crossing)) (member_right y (map (base_row m) first) (map (base_row m) second ++ crossing) (member_right y (map (base_row m) second) crossing h))

  from_named : (y : Row) → Member y (named_runs m v) → Member y runs
  from_named y h = member_left y (named_runs m v) (map (base_row m) first ++ (map (base_row m) second ++ crossing)) h

  abbrev IsFound : Row → Type 0
  IsFound r = Member (lead r) runs × Member r (run_of m v (lead r))

  in_run : (r : Row) → Member (call_of r) (calls_for m v (lead r)) → Member r (run_of m v (lead r))
  in_run r h = subst (λ (z : Row). Member z (run_of m v (lead r))) (again r) (map_from (at_call (lead r)) (calls_for m v (lead r)) (call_of r) h)

  shelved : (r : Row) → is_shelved r ≡ true → has m r ≡ true → (first_shelf m.ship r ≡ s) ⊎ (second_shelf m.ship r ≡ s) → Member (call_of r) (calls_for m v (lead r)) → IsFound r
  shelved r t h near c = (
    ⊎_elim (λ (e : first_shelf m.ship r ≡ s). from_first (lead r) (in_first r t h e))
        (λ (e : second_shelf m.ship r ≡ s). ⊎_elim
        (λ (same : second_shelf m.ship r ≡ first_shelf m.ship r). from_first (lead r) (in_first r t h (sym same ∙ e)))
        (λ (ne : second_shelf m.ship r ≡ first_shelf m.ship r → ⊥). from_second (lead r) (in_second r t h (ne_eqb (second_shelf m.ship r) (first_shelf m.ship r) ne) e))
        (cases_eq (second_shelf m.ship r) (first_shelf m.ship r)))
        near,
    in_run r c,
  )

  at_half : (h : Half) → covers (place m v.place) h ≡ true → half_shelf h ≡ s
  at_half h e = let c = covers_shelf (place m v.place) h e in omega (arith, c.0, c.1)

  at_one : (a b : Half) → (covers (place m v.place) a ≡ true) ⊎ (covers (place m v.place) b ≡ true) → (half_shelf a ≡ s) ⊎ (half_shelf b ≡ s)
  at_one a b h = ⊎_elim (λ (k : covers (place m v.place) a ≡ true). inl (at_half a k)) (λ (k : covers (place m v.place) b ≡ true). inr (at_half b k)) h

  at_place : (p q : ℕ) → (v.place ≡ p) ⊎ (v.place ≡ q) → (place_key m.ship p ≡ s) ⊎ (place_key m.ship q ≡ s)
  at_place p q h = ⊎_elim (λ (k : v.place ≡ p). inl (ap (λ (z : ℕ). place_key m.ship z) (sym k))) (λ (k : v.place ≡ q). inr (ap (λ (z : ℕ). place_key m.ship z) (sym k))) h

  flow_named : (q g : ℕ) → q < 2 → v.kind ≡ g → Member (Flow q 1 g) (named_runs m v)
  flow_named zero g l e = inl (ap (λ (z : ℕ). Flow 0 1 z) (sym e))
  flow_named (suc zero) g l e = inr (inl (ap (λ (z : ℕ). Flow 1 1 z) (sym e)))
  flow_named (suc (suc q)) g l e = absurd (omega (arith, l))

  start_named : (q p : ℕ) → q < 2 → v.place ≡ p → Member (Start q p) (named_runs m v)
  start_named zero p l e = inr (inr (inl (ap (λ (z : ℕ). Start 0 z) (sym e))))
  start_named (suc zero) p l e = inr (inr (inr (inl (ap (λ (z : ℕ). Start 1 z) (sym e)))))
  start_named (suc (suc q)) p l e = absurd (omega (arith, l))

  chain_named : (l : ℕ) (c : List ℕ) → is_length l ≡ true → is_chain (calls m) c ≡ true → Member (Cross l 1 c) crossing
  chain_named l c h k =
      let at : Member c (all_chains (calls m)) = chain_from (calls m) c (chain_by_test (calls m) c k) in
      ⊎_elim (λ (e : l ≡ 20). member_left (Cross l 1 c) (chain_runs m 20) (chain_runs m 40) (subst (λ (z : ℕ). Member (Cross z 1 c) (chain_runs m 20)) (sym e) (map_from (λ (z : List ℕ). Cross 20 1 z) (all_chains (calls m)) c at)))
      (λ (ne : l ≡ 20 → ⊥). let e : l ≡ 40 = eqb-true l 40 (one_length (l == 20) (l == 40) (ne_eqb l 20 ne) h) in
      member_right (Cross l 1 c) (chain_runs m 20) (chain_runs m 40) (subst (λ (z : ℕ). Member (Cross z 1 c) (chain_runs m 40)) (sym e) (map_from (λ (z : List ℕ). Cross 40 1 z) (all_chains (calls m)) c at)))
      (cases_eq l 20)

  found : (r : Row) → Touches m r x → IsFound r
  found (Flow q i g) t = (
    from_named (Flow q 1 g) (flow_named q g (ltb-true q 2 (first_true _ _ t.has)) (flow_near m q i g v t.other)),
    in_run (Flow q i g) (in_calls i (flow_within m v put_low q i g t.other)),
  )
  found (Start q p) t = (
    from_named (Start q p) (start_named q p (ltb-true q 2 (first_true _ _ t.has)) (start_near m q p v t.other)),
    in_run (Start q p) (inl refl),
  )
  found (Cell i h) t = shelved (Cell i h) refl t.has (inl (at_half (half m h) (cell_near m i h v t.other))) (in_calls i (cell_within m v put_low i h t.other))
  found (Support i h) t = shelved (Support i h) refl t.has (at_one (half m h) (below (half m h)) (support_near m i h v t.other)) (in_calls i (support_within m v put_low i h t.other))
  found (Twenty i h) t = shelved (Twenty i h) refl t.has (at_one (half m h) (below (half m h)) (twenty_near m i h v t.other)) (in_calls i (twenty_within m v put_low i h t.other))
  found (Block j h) t = shelved (Block j h) refl t.has (at_one (half m h) (above (half m h)) (block_near m j h v t.other)) (in_calls j (block_within m v put_low j h t.other))
  found (Hatch w j h d) t = shelved (Hatch w j h d) refl t.has (at_one (half m h) (half m d) (hatch_near m w j h d v t.other)) (in_calls j (hatch_within m v put_low w j h d t.other))
  found (Weight i k) t = (
    from_named (Weight 1 k) (inr (inr (inr (inr (inl (ap (λ (z : ℕ). Weight 1 z) (sym (weight_near m i k v t.other)))))))),
    in_run (Weight i k) (in_calls i (weight_within m v put_low i k t.other)),
  )
  found (Apart i e p q) t = shelved (Apart i e p q) refl t.has (at_place p q (apart_near m i e p q v t.other)) (in_calls i (apart_within m v put_low i e p q t.other))
  found (Cross l p c) t =
      let a = second_true (is_length l) _ t.has in
      let b = second_true (nat_lt 0 (columns m.ship (length_of l))) _ a in
      let d = second_true (nat_lt 0 p) _ b in
      let lowest : 0 < p = ltb-true 0 p (first_true (nat_lt 0 p) _ b) in
      let most : p ≤ tallest m.ship (length_of l) = leb-true p (tallest m.ship (length_of l)) (first_true (nat_le p (tallest m.ship (length_of l))) _ d) in (
        from_crossing (Cross l 1 c) (chain_named l c (first_true (is_length l) _ t.has) (second_true (nat_le p (tallest m.ship (length_of l))) _ d)),
        in_run (Cross l p c) (range_from 1 (tallest m.ship (length_of l)) p (omega (arith, lowest)) (omega (arith, most))),
      )

  -- ## No row twice

  at_first : (y : Row) → Member y (map (base_row m) first) → (leads y ≡ true) × (first_file m.ship y ≡ s)
  at_first y h =
      let a = map_at (base_row m) first y h in
      let g = group_at (first_file m.ship) (base_rows m) no_row (no_shelf m.ship) s a.0 f.by_first is.by_first s_low a.1 in
      let e : first_file m.ship y ≡ s = ap (λ (z : Row). first_file m.ship z) a.2 ∙ g.1 in
      (first_leads m.ship s s_low y e, e)

  at_second : (y : Row) → Member y (map (base_row m) second) → (leads y ≡ true) × (second_file m.ship y ≡ s)
  at_second y h =
      let a = map_at (base_row m) second y h in
      let g = group_at (second_file m.ship) (base_rows m) no_row (no_shelf m.ship) s a.0 f.by_second is.by_second s_low a.1 in
      let e : second_file m.ship y ≡ s = ap (λ (z : Row). second_file m.ship z) a.2 ∙ g.1 in
      (second_leads m.ship s s_low y e, e)

  numbers_apart : (j k : ℕ) → j < k → k < length (base_rows m) → leads (base_row m j) ≡ true → leads (base_row m k) ≡ true → OtherRun (base_row m j) (base_row m k)
  numbers_apart j k l n a b e = differ (base_row m j) (base_row m k) (rising_get Precedes (base_rows m) j k no_row (base_rise m) l n) (sym (leads_lead (base_row m j) a) ∙ e ∙ leads_lead (base_row m k) b)

  first_up : Rising OtherRun (map (base_row m) first)
  first_up = rising_map OtherRun (λ (j k : ℕ). OtherRun (base_row m j) (base_row m k)) (base_row m) first
      (rising_members (λ (j k : ℕ). j < k) (λ (j k : ℕ). OtherRun (base_row m j) (base_row m k)) first (group_rises (map (first_file m.ship) (base_rows m)) (no_shelf m.ship) s f.by_first is.by_first s_low)
      (λ j k a b l. numbers_apart j k l (group_at (first_file m.ship) (base_rows m) no_row (no_shelf m.ship) s k f.by_first is.by_first s_low b).0 (at_first (base_row m j) (map_from (base_row m) first j a)).0 (at_first (base_row m k) (map_from (base_row m) first k b)).0))
      (λ j k h. h)

  second_up : Rising OtherRun (map (base_row m) second)
  second_up = rising_map OtherRun (λ (j k : ℕ). OtherRun (base_row m j) (base_row m k)) (base_row m) second
      (rising_members (λ (j k : ℕ). j < k) (λ (j k : ℕ). OtherRun (base_row m j) (base_row m k)) second (group_rises (map (second_file m.ship) (base_rows m)) (no_shelf m.ship) s f.by_second is.by_second s_low)
      (λ j k a b l. numbers_apart j k l (group_at (second_file m.ship) (base_rows m) no_row (no_shelf m.ship) s k f.by_second is.by_second s_low b).0 (at_second (base_row m j) (map_from (base_row m) second j a)).0 (at_second (base_row m k) (map_from (base_row m) second k b)).0))
      (λ j k h. h)

  chains_up : (l : ℕ) → Rising OtherRun (chain_runs m l)
  chains_up l = rising_map OtherRun IsBefore (λ (c : List ℕ). Cross l 1 c) (all_chains (calls m)) (chains_rise (calls m))
      (λ c d b e. let same : c ≡ d = ap chain_in e in let k : IsBefore d d = subst (λ (z : List ℕ). IsBefore z d) same b in not_both d d k k)

  chain_tag : (l : ℕ) (y : Row) → Member y (chain_runs m l) → tag y ≡ 6 + l
  chain_tag l y h = let a = map_at (λ (c : List ℕ). Cross l 1 c) (all_chains (calls m)) y h in ap (λ (z : Row). tag z) a.2

  named_up : Rising OtherRun (named_runs m v)
  named_up = (
    (by_tag (Flow 0 1 v.kind) (Flow 1 1 v.kind) (omega arith), (by_tag (Flow 0 1 v.kind) (Start 0 v.place) (omega arith), (by_tag (Flow 0 1 v.kind) (Start 1 v.place) (omega arith), (by_tag (Flow 0 1 v.kind) (Weight 1 (place m v.place).stack) (omega arith), tt)))),
    (
      (by_tag (Flow 1 1 v.kind) (Start 0 v.place) (omega arith), (by_tag (Flow 1 1 v.kind) (Start 1 v.place) (omega arith), (by_tag (Flow 1 1 v.kind) (Weight 1 (place m v.place).stack) (omega arith), tt))),
      (
        (by_tag (Start 0 v.place) (Start 1 v.place) (omega arith), (by_tag (Start 0 v.place) (Weight 1 (place m v.place).stack) (omega arith), tt)),
        (
          (by_tag (Start 1 v.place) (Weight 1 (place m v.place).stack) (omega arith), tt),
          (
            tt,
            tt,
          ),
        ),
      ),
    ),
  )

  named_tag : (y : Row) → Member y (named_runs m v) → tag y ≤ 4
  named_tag y h = each_at (λ (z : Row). tag z ≤ 4) (named_runs m v) y (omega arith, (omega arith, (omega arith, (omega arith, (omega arith, tt))))) h

  crossing_tag : (y : Row) → Member y crossing → 6 ≤ tag y
  crossing_tag y h = ⊎_elim (λ (k : Member y (chain_runs m 20)). let e = chain_tag 20 y k in omega (arith, e)) (λ (k : Member y (chain_runs m 40)). let e = chain_tag 40 y k in omega (arith, e)) (member_split y (chain_runs m 20) (chain_runs m 40) h)

  first_tag : (y : Row) → Member y (map (base_row m) first) → tag y ≡ 5
  first_tag y h = leads_tag y (at_first y h).0

  second_tag : (y : Row) → Member y (map (base_row m) second) → tag y ≡ 5
  second_tag y h = leads_tag y (at_second y h).0

  late_tag : (y : Row) → Member y (map (base_row m) first ++ (map (base_row m) second ++ crossing)) → 5 ≤ tag y
  late_tag y h = ⊎_elim (λ (k : Member y (map (base_row m) first)). let e = first_tag y k in omega (arith, e))
      (λ (n : Member y (map (base_row m) second ++ crossing)). ⊎_elim (λ (k : Member y (map (base_row m) second)). let e = second_tag y k in omega (arith, e)) (λ (k : Member y crossing). let e = crossing_tag y k in omega (arith, e)) (member_split y (map (base_row m) second) crossing n))
      (member_split y (map (base_row m) first) (map (base_row m) second ++ crossing) h)

  first_apart : (y z : Row) → Member y (map (base_row m) first) → Member z (map (base_row m) second ++ crossing) → OtherRun y z
  first_apart y z h k = ⊎_elim
      (λ (n : Member z (map (base_row m) second)). λ (e : lead y ≡ lead z).
      let a = at_first y h in
      let b = at_second z n in
      let same : y ≡ z = sym (leads_lead y a.0) ∙ e ∙ leads_lead z b.0 in
      filed_once m.ship s s_low z (subst (λ (w : Row). first_file m.ship w ≡ s) same a.1) b.1)
      (λ (n : Member z crossing). by_tag y z (let a = first_tag y h in let b = crossing_tag z n in omega (arith, a, b)))
      (member_split z (map (base_row m) second) crossing k)

  runs_up : Rising OtherRun runs
  runs_up = rising_append OtherRun (named_runs m v) (map (base_row m) first ++ (map (base_row m) second ++ crossing)) named_up
      (rising_append OtherRun (map (base_row m) first) (map (base_row m) second ++ crossing) first_up
      (rising_append OtherRun (map (base_row m) second) crossing second_up
      (rising_append OtherRun (chain_runs m 20) (chain_runs m 40) (chains_up 20) (chains_up 40)
      (λ y z h k. by_tag y z (let a = chain_tag 20 y h in let b = chain_tag 40 z k in omega (arith, a, b))))
      (λ y z h k. by_tag y z (let a = second_tag y h in let b = crossing_tag z k in omega (arith, a, b))))
      first_apart)
      (λ y z h k. by_tag y z (let a = named_tag y h in let b = late_tag z k in omega (arith, a, b)))

  rows_up : Rising (λ (y z : Row). y ≢ z) (flat_map (run_of m v) runs)
  rows_up = rising_flat (λ (y z : Row). y ≢ z) OtherRun (run_of m v) runs runs_up
      (λ r t o y z h k e. o (sym (run_lead m v r y h) ∙ ap (λ (w : Row). lead w) e ∙ run_lead m v t z k))
      (run_rises m v)

  pub found_each : (list : List Row) → list ≡ filter (meets m x) (flat_map (run_of m v) runs) → (r : Row) → Contains list r ↔ Touches m r x
  found_each list e r = (
    (λ (h : Contains list r).
        let k = filter_at (meets m x) (flat_map (run_of m v) runs) r (subst (λ (rs : List Row). Member r rs) e (contains_at list r h)) in
        record {
          has = first_true (has m r) _ k.1;
          inside = low;
          other = λ (q : coef m r v ≡ pos 0). not_true (int_eq (coef m r v) (pos 0)) (second_true (has m r) _ k.1) ((signed_Decides (coef m r v) (pos 0)).1 q);
        }),
    (λ (t : Touches m r x).
        let at = found r t in
        contains_from list r (subst (λ (rs : List Row). Member r rs) (sym e)
        (filter_from (meets m x) (flat_map (run_of m v) runs) r (flat_from (run_of m v) runs (lead r) r at.0 at.1)
        (both (has m r) _ t.has (not_from (int_eq (coef m r v) (pos 0)) (λ q. t.other ((signed_Decides (coef m r v) (pos 0)).0 q))))))),
  )

  pub found_once : (list : List Row) → list ≡ filter (meets m x) (flat_map (run_of m v) runs) → AllPairs (λ r t. r ≢ t) list
  found_once list e = subst (λ (rs : List Row). AllPairs (λ r t. r ≢ t) rs) (sym e) (rising_pairs (λ (y z : Row). y ≢ z) _ (rising_filter (λ (y z : Row). y ≢ z) (meets m x) _ rows_up))

  -- the lists that are gathered one by one are those of all runs
  pub all_gathered : (fs ss : List ℕ) (l1 l2 l3 l4 l5 : List Row) → fs ≡ first → ss ≡ second
      → l1 ≡ kept (meets m x) (run_of m v) (named_runs m v)
      → l2 ≡ l1 ++ kept (meets m x) (run_of m v) (map (base_row m) fs)
      → l3 ≡ l2 ++ kept (meets m x) (run_of m v) (map (base_row m) ss)
      → l4 ≡ l3 ++ kept (meets m x) (run_of m v) (chain_runs m 20)
      → l5 ≡ l4 ++ kept (meets m x) (run_of m v) (chain_runs m 40)
      → l5 ≡ filter (meets m x) (flat_map (run_of m v) runs)
  all_gathered fs ss l1 l2 l3 l4 l5 d e h1 h2 h3 h4 h5 =
      five_lists (meets m x) (run_of m v) (named_runs m v) (map (base_row m) first) (map (base_row m) second) (chain_runs m 20) (chain_runs m 40) l1 l2 l3 l4 l5 h1
      (h2 ∙ ap (λ (ks : List ℕ). l1 ++ kept (meets m x) (run_of m v) (map (base_row m) ks)) d)
      (h3 ∙ ap (λ (ks : List ℕ). l2 ++ kept (meets m x) (run_of m v) (map (base_row m) ks)) e) h4 h5
