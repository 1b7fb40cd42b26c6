-- The terms of a row are those of its sums.
use Rattle.std.proofs.Common.{◌≡◌, ◌⊎◌, inl, inr, ⊎_elim, ℕ, zero, suc, ◌<◌, ◌≤◌, ◌+◌, ◌^◌, Bool, true, false, cond, ◌||◌, List, [], ◌∷◌, ◌++◌, length, All, ℤ, pos, refl, sym, ◌∙◌, ap, subst, arith}
use Rattle.std.specs.Prelude.{filter, flat_map, map, nat_eq, slice_index_or}
use Rattle.std.specs.List.{range_with_len}
use Rattle.std.specs.Int.RustNames.{unsigned_abs}
use Rattle.std.proofs.lemmas.Bool.{both_ways}
use Rattle.std.proofs.lemmas.List.{map-append}
use Rattle.std.proofs.lemmas.List.Elements.{All-append, All-cons, All-nil, All-head, All-tail}
use Rattle.std.proofs.lemmas.List.Folds.{list_any-append}
use Rattle.row_matrix.proofs.Summing.{same_or_other, equal, unequal}
use Rattle.zero_one_rows.specs.declared.program.Row.{Row}
use Rattle.zero_one_rows.specs.declared.program.Var.{Var}
use Rattle.zero_one_rows.specs.Variables.{Voyage, variables, var}
use Rattle.zero_one_rows.specs.Rows.{coef, has, is_base, whole}
use Rattle.row_sums.specs.declared.sums.Sign.{Sign}
use Rattle.row_sums.specs.declared.sums.Sign.TheVariants.{Plus, Minus}
use Rattle.row_sums.specs.declared.sums.Part.{Part}
use Rattle.row_sums.specs.Sums.{holds, counts, signed}
use Rattle.row_sums.specs.declared.numbering.Numbering.{Numbering}
use Rattle.row_sums.specs.Numbers.{number, IsThere}
use Rattle.row_sums.specs.Held.{stands, variables_of}
use Rattle.row_matrix.specs.declared.entries.Entry.{Entry}
use Rattle.row_matrix.specs.declared.entries.Term.{Term}
use Rattle.row_matrix.specs.Terms.{vars_in, AreTerms}
use Rattle.row_matrix.specs.Counted.{counted, entry_of, signed_by, term_of, terms_of, weight_of, AreEntries}
use Rattle.row_matrix.specs.Parted.{loses_at, IsPart, AreSumsOf}
use Rattle.row_matrix.proofs.Dividing.{coef_at, coef_or}
use Rattle.row_matrix.proofs.There.{held_there}
use Rattle.row_matrix.proofs.Numbered.{counted_is}
use Rattle.row_matrix.proofs.Losing.{Laws}
use Rattle.row_matrix.proofs.TermsOnce.{filter_all, or_left, or_right, vars_mapped, terms_once}

-- ## Lists

in_filter : (t : ℕ → Bool) (a n k : ℕ) → a ≤ k → k < a + n → t k ≡ true → stands k (filter t (range_with_len a n)) ≡ true
in_filter t a zero k l h e = absurd (omega (arith, l, h))
in_filter t a (suc n) k l h e = go (same_or_other k a) (λ l. in_filter t (a + 1) n k l (omega (arith, h)) e)
  where
    here : k ≡ a → (b : Bool) → b ≡ true → stands k (cond b (a ∷ filter t (range_with_len (a + 1) n)) (filter t (range_with_len (a + 1) n))) ≡ true
    here q true f = ap (λ (b : Bool). b || stands k (filter t (range_with_len (a + 1) n))) (ap (nat_eq k) (sym q) ∙ equal k)
    here q false f = absurd (both_ways false refl f)

    or_later : (a b : Bool) → b ≡ true → (a || b) ≡ true
    or_later true b h = refl
    or_later false b h = h

    there : (b : Bool) → stands k (filter t (range_with_len (a + 1) n)) ≡ true → stands k (cond b (a ∷ filter t (range_with_len (a + 1) n)) (filter t (range_with_len (a + 1) n))) ≡ true
    there true s = or_later (nat_eq k a) (stands k (filter t (range_with_len (a + 1) n))) s
    there false s = s

    go : (k ≡ a) ⊎ (k ≡ a → ⊥) → (a + 1 ≤ k → stands k (filter t (range_with_len (a + 1) n)) ≡ true) → stands k (cond (t a) (a ∷ filter t (range_with_len (a + 1) n)) (filter t (range_with_len (a + 1) n))) ≡ true
    go (inl q) more = here q (t a) (ap t (sym q) ∙ e)
    go (inr other) more = there (t a) (more (grind arith))

map_all : {X Y : Type 0} (f : X → Y) (P : Y → Type 0) (xs : List X) → All (λ x. P (f x)) xs → All P (map f xs)
map_all f P [] h = All-nil P
map_all f P (x ∷ xs) h = All-cons P (f x) (map f xs) (All-head (λ y. P (f y)) x xs h) (map_all f P xs (All-tail (λ y. P (f y)) x xs h))

first_stands : (x : ℕ) (xs : List ℕ) → stands x (x ∷ xs) ≡ true
first_stands x xs = or_left (nat_eq x x) (stands x xs) (equal x)

flat_all : {Y : Type 0} (f : ℕ → List Y) (P : Y → Type 0) (ns : List ℕ) → ((n : ℕ) → stands n ns ≡ true → All P (f n)) → All P (flat_map f ns)
flat_all f P [] h = All-nil P
flat_all f P (n ∷ ns) h = All-append P (f n) (flat_map f ns) (h n (first_stands n ns)) (flat_all f P ns (λ i s. h i (or_right (nat_eq i n) (stands i ns) s)))

-- a variable of one of two lists of terms
pub var_left : (v : ℕ) (xs ys : List Term) → stands v (vars_in xs) ≡ true → stands v (vars_in (xs ++ ys)) ≡ true
var_left v xs ys h = ap (stands v) (map-append (λ (t : Term). t.at) xs ys) ∙ list_any-append (nat_eq v) (vars_in xs) (vars_in ys) ∙ or_left (stands v (vars_in xs)) (stands v (vars_in ys)) h

pub var_right : (v : ℕ) (xs ys : List Term) → stands v (vars_in ys) ≡ true → stands v (vars_in (xs ++ ys)) ≡ true
var_right v xs ys h = ap (stands v) (map-append (λ (t : Term). t.at) xs ys) ∙ list_any-append (nat_eq v) (vars_in xs) (vars_in ys) ∙ or_right (stands v (vars_in xs)) (stands v (vars_in ys)) h

flat_stands : (f : ℕ → List Term) (v n : ℕ) (ns : List ℕ) → stands n ns ≡ true → stands v (vars_in (f n)) ≡ true → stands v (vars_in (flat_map f ns)) ≡ true
flat_stands f v n [] s h = absurd (both_ways false refl s)
flat_stands f v n (i ∷ ns) s h = go (same_or_other n i) (λ t. flat_stands f v n ns t h)
  where
    go : (n ≡ i) ⊎ (n ≡ i → ⊥) → (stands n ns ≡ true → stands v (vars_in (flat_map f ns)) ≡ true) → stands v (vars_in (f i ++ flat_map f ns)) ≡ true
    go (inl e) more = var_left v (f i) (flat_map f ns) (subst (λ (j : ℕ). stands v (vars_in (f j)) ≡ true) e h)
    go (inr other) more = var_right v (f i) (flat_map f ns) (more (sym (ap (λ (b : Bool). b || stands n ns) (unequal n i other)) ∙ s))

-- ## Terms of sums

signed_is : (s : Sign) (y : Bool) (c : ℕ) → loses_at s y ≡ true → signed_by y c ≡ signed s (pos c)
signed_is Plus true c h = absurd (both_ways false refl h)
signed_is Plus false c h = refl
signed_is Minus true c h = refl
signed_is Minus false c h = absurd (both_ways false refl h)

module _ (m : Voyage) (z : Numbering) (laws : Laws m z) (r : Row) (there : has m r ≡ true) (base : is_base r ≡ true) (entries : List (List Entry)) (are : AreEntries m z entries) where
  -- a variable with its coefficient
  abbrev pub IsTerm : Term → Type 0
  IsTerm t = (t.at < length (variables m)) × (t.by ≡ (whole m).coef r t.at)

  abbrev pub of_number : (y : Bool) (n : ℕ) → List Term
  of_number y n = map (term_of y) (slice_index_or entries n [])

  number_terms : (y : Bool) (q : Part) → IsPart m r q → loses_at q.sign y ≡ true → IsThere m q.sum → All IsTerm (of_number y (number z q.sum))
  number_terms y q i l t =
      subst (λ (es : List Entry). All IsTerm (map (term_of y) es)) (sym (are q.sum t))
      (map_all (term_of y) IsTerm (map (entry_of m z (number z q.sum)) (variables_of m q.sum))
      (map_all (entry_of m z (number z q.sum)) (λ e. IsTerm (term_of y e)) (variables_of m q.sum)
      (filter_all (λ v. holds m q.sum (var m v)) (λ v. IsTerm (term_of y (entry_of m z (number z q.sum) v))) 0 (length (variables m)) (λ v lt h.
      let c : counted z (number z q.sum) (weight_of m v) ≡ counts m q.sum (var m v) = counted_is m z q.sum v laws.numbering t in
      (omega (arith, lt), ap (signed_by y) c ∙ signed_is q.sign y (counts m q.sum (var m v)) l ∙ sym (coef_at laws.are_sums laws.share_none m r (var m v) there (laws.listed m v (omega (arith, lt))).0 q i h))))))

  sums_terms : (y : Bool) (ns : List ℕ) → AreSumsOf m z y r ns → All IsTerm (terms_of y entries ns)
  sums_terms y ns of = flat_all (of_number y) IsTerm ns (λ n s.
      let o = of.only n s in
      subst (λ (i : ℕ). All IsTerm (of_number y i)) o.is_number (number_terms y o.part o.is_part o.loses o.there))

  var_there : (y : Bool) (ns : List ℕ) → AreSumsOf m z y r ns → (q : Part) → IsPart m r q → loses_at q.sign y ≡ true → (v : ℕ) → v < length (variables m) → holds m q.sum (var m v) ≡ true → stands v (vars_in (terms_of y entries ns)) ≡ true
  var_there y ns of q i l v lt h =
      let t : IsThere m q.sum = held_there m r q (var m v) laws.names laws.rules there (laws.listed m v lt).1 i h in
      let inside : stands v (variables_of m q.sum) ≡ true = in_filter (λ v. holds m q.sum (var m v)) 0 (length (variables m)) v (omega arith) (omega (arith, lt)) h in
      let vars : vars_in (of_number y (number z q.sum)) ≡ variables_of m q.sum =
      ap (λ (es : List Entry). vars_in (map (term_of y) es)) (are q.sum t) ∙ vars_mapped y (λ v. counted z (number z q.sum) (weight_of m v)) (variables_of m q.sum) in
      flat_stands (of_number y) v (number z q.sum) ns (of.all q i l t) (ap (stands v) vars ∙ inside)

  pub row_terms : ((x : Var) → unsigned_abs (coef m r x) ≤ 2 ^ 17) → (ps ms : List ℕ) → AreSumsOf m z false r ps → AreSumsOf m z true r ms → AreTerms m r (terms_of false entries ps ++ terms_of true entries ms)
  row_terms low ps ms plus minus =
      let all : All IsTerm (terms_of false entries ps ++ terms_of true entries ms) = All-append IsTerm (terms_of false entries ps) (terms_of true entries ms) (sums_terms false ps plus) (sums_terms true ms minus) in
      record {
        inside = λ i d lt. (all i d lt).0;
        once = terms_once m z laws r there entries are ps ms plus.order minus.order;
        are = λ i d lt. (all i d lt).1;
        small = λ i d lt. subst (λ (c : ℤ). unsigned_abs c ≤ 2 ^ 17) (sym (all i d lt).1) (low (var m (slice_index_or (terms_of false entries ps ++ terms_of true entries ms) i d).at));
        others = λ v lt e. ⊎_elim
            (λ (n : coef m r (var m v) ≡ pos 0). n)
            (λ (p : (q : Part) × IsPart m r q × (holds m q.sum (var m v) ≡ true)). absurd (both_ways (stands v (vars_in (terms_of false entries ps ++ terms_of true entries ms))) e (found v lt p.0 p.1 p.2 p.0.sign refl)))
            (coef_or laws.are_sums laws.share_none m r (var m v) there (laws.listed m v lt).0 laws.has_parts base);
      }
    where
      found : (v : ℕ) → v < length (variables m) → (q : Part) → IsPart m r q → holds m q.sum (var m v) ≡ true → (s : Sign) → q.sign ≡ s → stands v (vars_in (terms_of false entries ps ++ terms_of true entries ms)) ≡ true
      found v lt q i h Plus e = var_left v (terms_of false entries ps) (terms_of true entries ms) (var_there false ps plus q i (ap (λ (s : Sign). loses_at s false) e) v lt h)
      found v lt q i h Minus e = var_right v (terms_of false entries ps) (terms_of true entries ms) (var_there true ms minus q i (ap (λ (s : Sign). loses_at s true) e) v lt h)
