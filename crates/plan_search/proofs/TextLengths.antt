-- How long the text of a certificate is at most.
use Rattle.std.proofs.Common.{◌≡◌, ℕ, suc, ◌+◌, ◌*◌, ◌^◌, ◌<◌, ◌≤◌, Bool, true, false, cond, List, [], ◌∷◌, ◌++◌, length, map, codes, Option, Some, None, refl, sym, ap, subst, ◌∙◌, arith, ◌==◌, ℤ, pos, negsuc, ◌+ℤ◌, nat_le}
use Rattle.std.specs.Prelude.{All}
use Rattle.std.specs.List.{flat_map}
use Rattle.std.specs.Fmt.{decimal, signed_decimal}
use Rattle.std.proofs.Math.Nat.{mul_assoc, mul-add, add-mul, mul-le-mul_left, mul-le-mul_right}
use Rattle.std.proofs.lemmas.Fmt.{length-decimal-le, length_signed_le}
use Rattle.std.proofs.lemmas.List.{length-append, length-set, length-replicate}
use Rattle.std.proofs.lemmas.List.Concat.{flat_map-cons, flat_map-append}
use Rattle.std.proofs.lemmas.List.Sums.{passes_at_first, sum_by-cons}
use Rattle.std.proofs.lemmas.Bool.{and_parts, eqb-true}
use Rattle.std.proofs.lemmas.Option.{same_Some}
use borrow.Author.Tests.{leb-true}
use borrow.Author.Differences.{ints}
use lib.Signed.{mag}
use Rattle.proof_trees.specs.Boxes.{Box, free_box}
use Rattle.proof_trees.specs.Multipliers.{Multipliers, amount_of, with_amount, changed_to, raised, raised_all}
use Rattle.proof_trees.specs.Trees as trees
use Rattle.proof_trees.specs.Trees.{Entry, Pending, begun, root}
use Rattle.zero_one_rows.specs.declared.program.Var.{Var}
use Rattle.zero_one_rows.specs.declared.program.Row.{Row}
use Rattle.zero_one_rows.specs.declared.program.Raise.{Raise}
use Rattle.zero_one_rows.specs.Variables.{Voyage, variables, var, no_var}
use Rattle.zero_one_rows.specs.Rows.{whole, has}
use Rattle.zero_one_rows.specs.Listed.{IsNamed}
use Rattle.zero_one_rows.proofs.VariableList.{var_listed}
use Rattle.certificate.specs.declared.tree.End as ends
use Rattle.certificate.specs.declared.tree.End.TheVariants.{Leaf, Left, Branch}
use Rattle.certificate.specs.declared.tree.Outcome.{Outcome}
use Rattle.certificate.specs.declared.tree.Outcome.TheVariants.{Optimal, Gap, NoPlan, Undecided}
use Rattle.certificate.specs.declared.tree.Head.{Head}
use Rattle.certificate.specs.declared.tree.Record.{Record}
use Rattle.certificate.specs.declared.lines.Line.{Line}
use Rattle.certificate.specs.declared.lines.Line.TheVariants as line
use Rattle.certificate.specs.Text as text
use Rattle.certificate.specs.Text.{numbers, row_text, line_text, outcome_text, text_of, head_lines, record_lines, cert_text}
use Rattle.certificate.specs.Entries.{same_row, same_var, raise_of, number_of, end_of, entry_of}
use Rattle.partial_plan.specs.Fixing.{free_in}
use Rattle.partial_plan.proofs.Falling.{free_falls, tightened_length}
use Rattle.search_core.specs.Bags.{Every}
use Rattle.search_core.specs.Journals.{branches, known, divided, box_after, multipliers_after, child, Anything, Allowed, EndAllowed, EndSettles, SettleAll, Settled}
use Rattle.search_core.specs.Along.{HoldAll}
use Rattle.node_solver.specs.Work as node
use Rattle.model_bridge.specs.Laws.{IsProblem}
use Rattle.plan_search.specs.Trees.{was_handled, handled, empty_record, LeavesEmpty, IsLean, most_bytes}
use Rattle.plan_search.proofs.TreeSizes.{few_records}
use Rattle.plan_search.proofs.Searched.{handled_counts}
use Rattle.plan_search.proofs.LineLengths.{short_numbers, kinds_low, places_low, row_short}

each_of : {A : Type 0} (P : A → Type 0) (xs : List A) → All P xs → Every P xs
each_of P [] h = tt
each_of P (x ∷ xs) h = (h 0 x (omega arith), each_of P xs (λ k d l. h (suc k) d (omega (arith, l))))

-- ## Multipliers and raises

abbrev Small : Multipliers Row → Type 0
Small ms = Every (λ (e : Row × ℕ). e.1 ≤ 2 ^ 40) ms

amount_low : (ms : Multipliers Row) (r : Row) → Small ms → amount_of same_row ms r ≤ 2 ^ 40
amount_low [] r h = omega arith
amount_low (e ∷ ms) r h = by (same_row e.0 r) (amount_low ms r h.1)
  where
    by : (b : Bool) → amount_of same_row ms r ≤ 2 ^ 40 → cond b e.1 (amount_of same_row ms r) ≤ 2 ^ 40
    by true rest = h.0
    by false rest = rest

with_small : (ms : Multipliers Row) (r : Row) (n : ℕ) → n ≤ 2 ^ 40 → Small ms → Small (with_amount same_row ms r n)
with_small [] r n l h = (l, tt)
with_small (e ∷ ms) r n l h = by (same_row e.0 r) (with_small ms r n l h.1)
  where
    by : (b : Bool) → Small (with_amount same_row ms r n) → Small (cond b ((e.0, n) ∷ ms) (e ∷ with_amount same_row ms r n))
    by true rest = (l, h.1)
    by false rest = (h.0, rest)

change_low : (o : ℕ) (z : ℤ) (n : ℕ) → o ≤ 2 ^ 40 → n ≤ 2 ^ 40 → pos o +ℤ z ≡ pos n → mag z ≤ 2 ^ 40
change_low o (pos k) n ho hn e = omega (arith, ints, ho, hn, e)
change_low o (negsuc k) n ho hn e = omega (arith, ints, ho, hn, e)

none_some : {A : Type 0} (x : A) → None ≡ Some x → ⊥
none_some x e = cc

changed_small : (ms ns : Multipliers Row) (r : Row) (z y : ℤ) → Small ms → pos (amount_of same_row ms r) +ℤ z ≡ y → changed_to same_row ms r y ≡ Some ns → (mag z ≤ 2 ^ 40) × Small ns
changed_small ms ns r z (pos n) h f e = by (nat_le n (2 ^ 40)) refl e
  where
    by : (b : Bool) → nat_le n (2 ^ 40) ≡ b → cond b (Some (with_amount same_row ms r n)) None ≡ Some ns → (mag z ≤ 2 ^ 40) × Small ns
    by true g e = let low = leb-true n (2 ^ 40) g in (change_low (amount_of same_row ms r) z n (amount_low ms r h) low f, subst Small (same_Some _ _ e) (with_small ms r n low h))
    by false g e = absurd (none_some ns e)
changed_small ms ns r z (negsuc n) h f e = absurd (none_some ns e)

raises_small : (ms ns : Multipliers Row) (rs : List (Row × ℤ)) → Small ms → raised_all same_row (Some ms) rs ≡ Some ns → Every (λ (r : Row × ℤ). mag r.1 ≤ 2 ^ 40) rs × Small ns
raises_small ms ns [] h e = (tt, subst Small (same_Some ms ns e) h)
raises_small ms ns (r ∷ rs) h e = by (raised same_row ms r.0 r.1) refl e (λ ks k d. raises_small ks ns rs k d)
  where
    by : (o : Option (Multipliers Row)) → raised same_row ms r.0 r.1 ≡ o → raised_all same_row o rs ≡ Some ns
        → ((ks : Multipliers Row) → Small ks → raised_all same_row (Some ks) rs ≡ Some ns → Every (λ (x : Row × ℤ). mag x.1 ≤ 2 ^ 40) rs × Small ns)
        → ((mag r.1 ≤ 2 ^ 40) × Every (λ (x : Row × ℤ). mag x.1 ≤ 2 ^ 40) rs) × Small ns
    by None f d more = absurd (none_some ns d)
    by (Some ks) f d more =
        let one = changed_small ms ks r.0 r.1 (pos (amount_of same_row ms r.0) +ℤ r.1) h refl f in
        let rest = more ks one.1 d in
        ((one.0, rest.0), rest.1)

begun_small : (b : Bool) (ms : Multipliers Row) → Small ms → Small (begun b ms)
begun_small true ms h = tt
begun_small false ms h = h

-- ## Lines

text_append : (xs ys : List Line) → length (text_of (xs ++ ys)) ≡ length (text_of xs) + length (text_of ys)
text_append xs ys = ap (λ (t : List ℕ). length t) (flat_map-append text.whole xs ys) ∙ length-append (text_of xs) (text_of ys)

text_cons : (l : Line) (ls : List Line) → length (text_of (l ∷ ls)) ≡ length (text.whole l) + length (text_of ls)
text_cons l ls = ap (λ (t : List ℕ). length t) (flat_map-cons text.whole l ls) ∙ length-append (text.whole l) (text_of ls)

with_feed : (l : Line) → length (text.whole l) ≡ length (line_text l) + 1
with_feed l = length-append (line_text l) (10 ∷ [])

signed_short : (z : ℤ) → mag z ≤ 2 ^ 40 → length (signed_decimal z) ≤ 14
signed_short z h = length_signed_le 13 z (omega (arith, h)) (omega (arith, h))

node_line : (b : Bool) → length (text.whole (line.Node b)) ≤ 4
unfolding line_text
node_line true = omega arith
node_line false = omega arith

step_line : (r : Row) → length (row_text r) ≤ 51 → length (text.whole (line.Step r)) ≤ 54
unfolding line_text
step_line r h = let a = with_feed (line.Step r) in let b = length-append (codes "s ") (row_text r) in let c : length (codes "s ") ≡ 2 = refl in omega (arith, a, b, c, h)

change_line : (r : Raise) → length (row_text r.row) ≤ 51 → mag r.amount ≤ 2 ^ 40 → length (text.whole (line.Change r)) ≤ 69
unfolding line_text
change_line r h k =
    let a = with_feed (line.Change r) in
    let b = length-append (codes "r ") (signed_decimal r.amount ++ 32 ∷ row_text r.row) in
    let d = length-append (signed_decimal r.amount) (32 ∷ row_text r.row) in
    let c : length (codes "r ") ≡ 2 = refl in
    omega (arith, a, b, d, c, h, signed_short r.amount k)

module _ (m : Voyage) (rules : IsProblem m) where
  branch_low : (x : Var) → number_of m x < length (variables m) → Every (λ (n : ℕ). n < 2 ^ 32) (x.put ∷ x.kind ∷ x.lifted ∷ x.place ∷ [])
  branch_low x h =
      let v = number_of m x in
      let e = passes_at_first (same_var x) (variables m) no_var h in
      let n : IsNamed m (var m v) = (var_listed m v h).1 in
      let a = and_parts (x.put == (var m v).put) _ e in
      let b = and_parts (x.kind == (var m v).kind) _ a.1 in
      let d = and_parts (x.lifted == (var m v).lifted) (x.place == (var m v).place) b.1 in
      let put = eqb-true x.put (var m v).put a.0 in
      let kind = eqb-true x.kind (var m v).kind b.0 in
      let lifted = eqb-true x.lifted (var m v).lifted d.0 in
      let place = eqb-true x.place (var m v).place d.1 in
      let few = rules.cargo.calls_to in
      (omega (arith, put, n.put, few), (omega (arith, kind, n.kind, kinds_low m rules), (omega (arith, lifted, n.lifted, few), (omega (arith, place, n.place, places_low m rules), tt))))

  end_line : (bound : ℕ) (x : ends.End) (b : Box) (o : Option (Multipliers Row)) → EndAllowed same_row (whole m) Anything bound b o (end_of (number_of m) x) → length (text.whole (line.Ends x)) ≤ 46
  unfolding line_text
  end_line bound Leaf b o h = omega arith
  end_line bound Left b o h = omega arith
  end_line bound (Branch x) b None h = absurd h
  end_line bound (Branch x) b (Some ms) h =
      let ns = x.put ∷ x.kind ∷ x.lifted ∷ x.place ∷ [] in
      let a = with_feed (line.Ends (Branch x)) in
      let d = length-append (codes "b") (numbers ns) in
      let c : length (codes "b") ≡ 1 = refl in
      let n = short_numbers ns (branch_low x h.0) in
      omega (arith, a, d, c, n)

  -- ## Records

  step_lines : (rs : List Row) → Every (λ (r : Row). has m r ≡ true) rs → length (text_of (map line.Step rs)) ≤ length rs * 54
  step_lines [] h = omega arith
  step_lines (r ∷ rs) h =
      let a = text_cons (line.Step r) (map line.Step rs) in
      let b = step_line r (row_short m rules r h.0) in
      let c = step_lines rs h.1 in
      omega (arith, a, b, c)

  change_lines : (rs : List Raise) → Every (λ (x : Row × ℤ). has m x.0 ≡ true) (map raise_of rs) → Every (λ (x : Row × ℤ). mag x.1 ≤ 2 ^ 40) (map raise_of rs) → length (text_of (map line.Change rs)) ≤ length rs * 69
  change_lines [] h k = omega arith
  change_lines (r ∷ rs) h k =
      let a = text_cons (line.Change r) (map line.Change rs) in
      let b = change_line r (row_short m rules r.row h.0) k.0 in
      let c = change_lines rs h.1 k.1 in
      omega (arith, a, b, c)

  known_some : (bound : ℕ) (x : trees.End) (b : Box) (o : Option (Multipliers Row)) → EndAllowed same_row (whole m) Anything bound b o x → (ms : Multipliers Row) × (o ≡ Some ms)
  known_some bound x b None h = absurd h
  known_some bound x b (Some ms) h = (ms, refl)

  -- the text of a record, whose raises lead to multipliers in their range
  record_text : (bound : ℕ) (q : Pending Row) (r : Record) (most : ℕ) → Small q.multipliers → Allowed same_row (whole m) Anything bound q (entry_of m r) → length r.steps ≤ length (variables m) → length r.raises ≤ most
      → length (text_of (record_lines r)) ≤ length (variables m) * 54 + most * 69 + 50
  record_text bound q r most small h steps raises =
      let o = known_some bound (end_of (number_of m) r.end) (box_after same_row (whole m) q (entry_of m r)) (multipliers_after same_row (whole m) q (entry_of m r)) h.1 in
      let amounts = (raises_small (begun r.from_zero q.multipliers) o.0 (map raise_of r.raises) (begun_small r.from_zero q.multipliers small) o.1).0 in
      let a = text_cons (line.Node r.from_zero) (map line.Step r.steps ++ (map line.Change r.raises ++ line.Ends r.end ∷ [])) in
      let b = text_append (map line.Step r.steps) (map line.Change r.raises ++ line.Ends r.end ∷ []) in
      let c = text_append (map line.Change r.raises) (line.Ends r.end ∷ []) in
      let d = text_cons (line.Ends r.end) [] in
      let first = node_line r.from_zero in
      let second = step_lines r.steps (each_of (λ (x : Row). has m x ≡ true) r.steps h.0.0) in
      let third = change_lines r.raises (each_of (λ (x : Row × ℤ). has m x.0 ≡ true) (map raise_of r.raises) h.0.1) amounts in
      let last = end_line bound r.end (box_after same_row (whole m) q (entry_of m r)) (multipliers_after same_row (whole m) q (entry_of m r)) h.1 in
      omega (arith, a, b, c, d, first, second, third, last, steps, raises)

  empty_text : length (text_of (record_lines empty_record)) ≤ 6
  unfolding line_text
  empty_text = omega arith

  -- ## Trees

  -- the box has each variable, and the multipliers are in their range
  abbrev Good : Pending Row → Type 0
  Good q = (length q.box ≡ length (variables m)) × Small q.multipliers

  divided_long : (x : trees.End) (b : Box) (y : Bool) → length b ≡ length (variables m) → length (divided b x y) ≡ length (variables m)
  divided_long trees.Leaf b y h = h
  divided_long trees.Left b y h = h
  divided_long (trees.Branch v) b y h = length-set b v (Some y) ∙ h

  known_small : (o : Option (Multipliers Row)) (ms : Multipliers Row) → o ≡ Some ms → Small ms → Small (known o)
  known_small o ms e h = subst (λ (x : Option (Multipliers Row)). Small (known x)) (sym e) h

  child_good : (bound : ℕ) (q : Pending Row) (e : Entry Row) (y : Bool) → Good q → Allowed same_row (whole m) Anything bound q e → Good (child same_row (whole m) q e y)
  child_good bound q e y good h =
      let o = known_some bound e.end (box_after same_row (whole m) q e) (multipliers_after same_row (whole m) q e) h.1 in
      let small = (raises_small (begun e.from_zero q.multipliers) o.0 e.raises (begun_small e.from_zero q.multipliers good.1) o.1).1 in
      (divided_long e.end (box_after same_row (whole m) q e) y (tightened_length (whole m) q.box e.steps good.0), known_small (multipliers_after same_row (whole m) q e) o.0 o.1 small)

  next_good : (b : Bool) (x y : Pending Row) (waiting : List (Pending Row)) → Good x → Good y → Every Good waiting → Every Good (cond b (x ∷ y ∷ waiting) waiting)
  next_good true x y waiting a c h = (a, (c, h))
  next_good false x y waiting a c h = h

  free_low : (b : Box) → free_in b ≤ length b
  free_low [] = omega arith
  free_low (None ∷ b) = omega (arith, free_low b)
  free_low (Some y ∷ b) = omega (arith, free_low b)

  abbrev cost : ℕ
  cost = length (variables m) * 54 + 4466

  abbrev extra : Bool → ℕ
  extra top = cond top 278208 0

  -- the room of the records: what those that were handled take, and 6 bytes for each
  abbrev room : ℕ → List Record → ℕ
  room c [] = 0
  room c (r ∷ rs) = cond (was_handled r.end) c 0 + (6 + room c rs)

  fits_room : (top : Bool) (r : Record) (x : ends.End) → r.end ≡ x → (r.end ≡ Left → r ≡ empty_record) → length (text_of (record_lines r)) ≤ length (variables m) * 54 + node.most_raises top * 69 + 50
      → length (text_of (record_lines r)) ≤ cond (was_handled x) cost 0 + 6 + extra top
  fits_room true r Leaf e empties h = omega (arith, h)
  fits_room false r Leaf e empties h = omega (arith, h)
  fits_room true r (Branch v) e empties h = omega (arith, h)
  fits_room false r (Branch v) e empties h = omega (arith, h)
  fits_room top r Left e empties h = let same = ap (λ (z : Record). length (text_of (record_lines z))) (empties e) in let few = empty_text in by top (omega (arith, same, few))
    where
      by : (t : Bool) → length (text_of (record_lines r)) ≤ 6 → length (text_of (record_lines r)) ≤ 0 + 6 + extra t
      by true k = omega (arith, k)
      by false k = omega (arith, k)

  abbrev AllowedAt : ℕ → Bool → Pending Row → Entry Row → Type 0
  AllowedAt bound top q e = Allowed same_row (whole m) Anything bound q e

  abbrev LeanAt : Bool → Pending Row → Entry Row → Type 0
  LeanAt top q e = node.IsLean m q (node.most_raises top) e

  more_lines : (r : Record) (rs : List Record) → length (text_of (flat_map record_lines (r ∷ rs))) ≡ length (text_of (record_lines r)) + length (text_of (flat_map record_lines rs))
  more_lines r rs = ap (λ (ls : List Line). length (text_of ls)) (flat_map-cons record_lines r rs) ∙ text_append (record_lines r) (flat_map record_lines rs)

  map_long : {A B : Type 0} (f : A → B) (xs : List A) → length (map f xs) ≡ length xs
  map_long f [] = refl
  map_long f (x ∷ xs) = omega (arith, map_long f xs)

  records_text : (bound : ℕ) (top : Bool) (waiting : List (Pending Row)) (rs : List Record) → Every Good waiting → HoldAll same_row (whole m) (AllowedAt bound) top waiting (map (entry_of m) rs) → HoldAll same_row (whole m) LeanAt top waiting (map (entry_of m) rs) → LeavesEmpty rs
      → length (text_of (flat_map record_lines rs)) ≤ room cost rs + extra top
  records_text bound top waiting [] good a l empties = omega arith
  records_text bound top [] (r ∷ rs) good a l empties = absurd a
  records_text bound top (q ∷ waiting) (r ∷ rs) good a l empties =
      let e = entry_of m r in
      let steps : length r.steps ≤ length (variables m) = (let f = free_falls (whole m) q.box r.steps good.0.0 l.0.steps in let g = free_low q.box in omega (arith, f, g, good.0.0)) in
      let raises : length r.raises ≤ node.most_raises top = (let f = l.0.raises in let g = map_long raise_of r.raises in omega (arith, f, g)) in
      let here = fits_room top r r.end refl empties.0 (record_text bound q r (node.most_raises top) good.0.1 a.0 steps raises) in
      let next = next_good (branches e.end) (child same_row (whole m) q e true) (child same_row (whole m) q e false) waiting (child_good bound q e true good.0 a.0) (child_good bound q e false good.0 a.0) good.1 in
      let rest = records_text bound false _ rs next a.1 l.1 empties.1 in
      let both = more_lines r rs in
      omega (arith, here, rest, both)

  -- a settled tree has allowed records
  end_settles : (bound : ℕ) (Rest : List (Pending Row) → Type 0) (waiting : List (Pending Row)) (b : Box) (o : Option (Multipliers Row)) (x : trees.End) → EndSettles same_row (whole m) Anything bound Rest waiting b o x
      → EndAllowed same_row (whole m) Anything bound b o x × Rest (cond (branches x) (record { box = divided b x true; multipliers = known o } ∷ record { box = divided b x false; multipliers = known o } ∷ waiting) waiting)
  end_settles bound Rest waiting b None x h = absurd h
  end_settles bound Rest waiting b (Some ms) trees.Leaf h = (h.0, h.1)
  end_settles bound Rest waiting b (Some ms) trees.Left h = (h.0, h.1)
  end_settles bound Rest waiting b (Some ms) (trees.Branch v) h = ((h.0, h.1), h.2)

  settled_allowed : (bound : ℕ) (top : Bool) (waiting : List (Pending Row)) (es : List (Entry Row)) → SettleAll same_row (whole m) Anything bound waiting es → HoldAll same_row (whole m) (AllowedAt bound) top waiting es
  settled_allowed bound top [] [] h = tt
  settled_allowed bound top [] (e ∷ es) h = absurd h
  settled_allowed bound top (q ∷ waiting) [] h = absurd h
  settled_allowed bound top (q ∷ waiting) (e ∷ es) h =
      let r = end_settles bound (λ boxes. SettleAll same_row (whole m) Anything bound boxes es) waiting (box_after same_row (whole m) q e) (multipliers_after same_row (whole m) q e) e.end h.2 in
      (((h.0, h.1), r.0), settled_allowed bound false _ es r.1)

  free_long : length (free_box (whole m)) ≡ length (variables m)
  free_long = length-replicate (length (variables m)) None

  -- ## The whole text

  room_is : (c : ℕ) (rs : List Record) → room c rs ≡ handled rs * c + 6 * length rs
  room_is c [] = omega arith
  room_is c (r ∷ rs) = by (was_handled r.end) refl (room_is c rs)
    where
      counted : (b : Bool) → was_handled r.end ≡ b → handled (r ∷ rs) ≡ cond b 1 0 + handled rs
      counted b e = sum_by-cons (λ (x : Record). cond (was_handled x.end) 1 0) r rs ∙ ap (λ (t : Bool). cond t 1 0 + handled rs) e

      by : (b : Bool) → was_handled r.end ≡ b → room c rs ≡ handled rs * c + 6 * length rs → room c (r ∷ rs) ≡ handled (r ∷ rs) * c + 6 * length (r ∷ rs)
      by true e rest =
          let n = ap (λ (k : ℕ). k * c) (counted true e) ∙ add-mul 1 (handled rs) c in
          let d : cond (was_handled r.end) c 0 ≡ c = ap (λ (t : Bool). cond t c 0) e in
          omega (arith, n, d, rest)
      by false e rest =
          let f = counted false e in
          let same : handled (r ∷ rs) ≡ handled rs = omega (arith, f) in
          let n : handled (r ∷ rs) * c ≡ handled rs * c = ap (λ (k : ℕ). k * c) same in
          let d : cond (was_handled r.end) c 0 ≡ 0 = ap (λ (t : Bool). cond t c 0) e in
          omega (arith, n, d, rest)

  -- h nodes of c bytes each, among n records
  total : (h b c w n t : ℕ) → h ≤ b → c + 12 ≤ w → n ≤ 2 * h + 1 → t ≤ h * c + 6 * n + 278303 → t ≤ b * w + 400000
  total h b c w n t few low many long =
      let more : h * (c + 12) ≡ h * c + h * 12 = mul-add h c 12 in
      let less : h * (c + 12) ≤ b * (c + 12) = mul-le-mul_right (c + 12) few in
      let most : b * (c + 12) ≤ b * w = mul-le-mul_left b low in
      omega (arith, more, less, most, many, long)

  number_short : (n : ℕ) → n < 10 ^ 12 → length (decimal n) ≤ 12
  number_short n h = length-decimal-le 12 n (omega arith) h (omega (arith, h))

  outcome_short : (o : Outcome) → length (text.whole (line.Outcome o)) ≤ 18
  unfolding line_text
  outcome_short Optimal = omega arith
  outcome_short Gap = omega arith
  outcome_short NoPlan = omega arith
  outcome_short Undecided = omega arith

  abbrev pub IsLow : Option ℕ → Type 0
  IsLow None = Unit {0}
  IsLow (Some n) = n < 10 ^ 12

  rehandles_short : (o : Option ℕ) → IsLow o → length (text.whole (line.Rehandles o)) ≤ 23
  unfolding line_text
  rehandles_short None h = omega arith
  rehandles_short (Some n) h = let a = with_feed (line.Rehandles (Some n)) in let b = length-append (codes "rehandles ") (decimal n) in let c : length (codes "rehandles ") ≡ 10 = refl in omega (arith, a, b, c, number_short n h)

  bound_short : (n : ℕ) → n < 10 ^ 12 → length (text.whole (line.Bound n)) ≤ 19
  unfolding line_text
  bound_short n h = let a = with_feed (line.Bound n) in let b = length-append (codes "bound ") (decimal n) in let c : length (codes "bound ") ≡ 6 = refl in omega (arith, a, b, c, number_short n h)

  nodes_short : (n : ℕ) → n < 10 ^ 12 → length (text.whole (line.Nodes n)) ≤ 19
  unfolding line_text
  nodes_short n h = let a = with_feed (line.Nodes n) in let b = length-append (codes "nodes ") (decimal n) in let c : length (codes "nodes ") ≡ 6 = refl in omega (arith, a, b, c, number_short n h)

  title_short : length (text.whole line.Title) ≤ 12
  unfolding line_text
  title_short = omega arith

  close_short : length (text.whole line.Close) ≤ 4
  unfolding line_text
  close_short = omega arith

  head_short : (h : Head) → IsLow h.rehandles → h.bound < 10 ^ 12 → h.nodes < 10 ^ 12 → length (text_of (head_lines h)) ≤ 91
  head_short h low bound nodes =
      let a = text_cons line.Title (line.Outcome h.outcome ∷ line.Rehandles h.rehandles ∷ line.Bound h.bound ∷ line.Nodes h.nodes ∷ []) in
      let b = text_cons (line.Outcome h.outcome) (line.Rehandles h.rehandles ∷ line.Bound h.bound ∷ line.Nodes h.nodes ∷ []) in
      let c = text_cons (line.Rehandles h.rehandles) (line.Bound h.bound ∷ line.Nodes h.nodes ∷ []) in
      let d = text_cons (line.Bound h.bound) (line.Nodes h.nodes ∷ []) in
      let e = text_cons (line.Nodes h.nodes) [] in
      omega (arith, a, b, c, d, e, title_short, outcome_short h.outcome, rehandles_short h.rehandles low, bound_short h.bound bound, nodes_short h.nodes nodes)

  -- the text of a certificate of so many nodes at most
  pub text_short : (budget bound : ℕ) (h : Head) (tree : List Record) → handled tree ≤ budget → Settled same_row (whole m) (map (entry_of m) tree) bound → IsLean m tree → LeavesEmpty tree → IsLow h.rehandles → h.bound < 10 ^ 12 → h.nodes < 10 ^ 12
      → length (cert_text h tree) ≤ most_bytes m budget
  text_short budget bound h tree few settled lean empties low bound_low nodes_low =
      let allowed = settled_allowed bound true (root (whole m) ∷ []) (map (entry_of m) tree) settled in
      let records = records_text bound true (root (whole m) ∷ []) tree ((free_long, tt), tt) allowed lean empties in
      let count = few_records same_row (whole m) LeanAt true (root (whole m) ∷ []) (map (entry_of m) tree) lean in
      let long = map_long (entry_of m) tree in
      let weight = handled_counts m tree in
      let a = text_append (head_lines h) (flat_map record_lines tree ++ line.Close ∷ []) in
      let b = text_append (flat_map record_lines tree) (line.Close ∷ []) in
      let c = text_cons line.Close [] in
      let all = room_is cost tree in
      let each : cost + 12 ≤ (length (variables m) + 70) * 80 = omega arith in
      let same = mul_assoc budget (length (variables m) + 70) 80 in
      let most = total (handled tree) budget cost ((length (variables m) + 70) * 80) (length tree) (length (cert_text h tree)) few each (omega (arith, count, long, weight)) (subst (λ (k : ℕ). length (cert_text h tree) ≤ k + 278303) all (omega (arith, records, a, b, c, close_short, head_short h low bound_low nodes_low))) in
      subst (λ (n : ℕ). length (cert_text h tree) ≤ n + 400000) (sym same) most
