-- No variable stands twice among the terms of a row.
use Rattle.std.proofs.Common.{◌≡◌, ◌≢◌, ◌⊎◌, inl, inr, ⊎_elim, ℕ, zero, suc, ◌<◌, ◌+◌, Bool, true, false, cond, ◌||◌, List, [], ◌∷◌, ◌++◌, length, All, AllPairs, Option, Some, None, refl, sym, ◌∙◌, ap, subst, arith, append-nil}
use Rattle.std.specs.Prelude.{filter, map, nat_eq, slice_index_or}
use Rattle.std.specs.List.{range_with_len}
use Rattle.std.proofs.lemmas.Bool.{both_ways, eqb-true}
use Rattle.std.proofs.lemmas.Option.{same_Some}
use Rattle.std.proofs.lemmas.List.{map-append}
use Rattle.std.proofs.lemmas.List.Elements.{All-append, All-cons, All-nil, All-head, All-tail}
use Rattle.std.proofs.lemmas.List.Folds.{list_any-append}
use Rattle.std.proofs.lemmas.List.Kept.{AllPairs-cons}
use Rattle.std.proofs.lemmas.Grind.{flat_map-append}
use Rattle.row_matrix.proofs.Summing.{equal}
use Rattle.zero_one_rows.specs.declared.program.Row.{Row}
use Rattle.zero_one_rows.specs.Variables.{Voyage, variables, var}
use Rattle.zero_one_rows.specs.Rows.{has}
use Rattle.row_sums.specs.declared.sums.Sign.{Sign}
use Rattle.row_sums.specs.declared.sums.Sign.TheVariants.{Plus, Minus}
use Rattle.row_sums.specs.declared.sums.Part.{Part}
use Rattle.row_sums.specs.declared.sums.Parts.{Parts}
use Rattle.row_sums.specs.Sums.{parts, holds}
use Rattle.row_sums.specs.declared.numbering.Numbering.{Numbering}
use Rattle.row_sums.specs.Numbers.{number, IsThere}
use Rattle.row_sums.specs.Held.{stands, variables_of}
use Rattle.row_matrix.specs.declared.entries.Entry.{Entry}
use Rattle.row_matrix.specs.declared.entries.Term.{Term}
use Rattle.row_matrix.specs.Terms.{vars_in}
use Rattle.row_matrix.specs.Counted.{counted, term_of, terms_of, weight_of, AreEntries}
use Rattle.row_matrix.specs.Parted.{loses_at, number_of_second, numbers_of, IsPart, AreInOrder}
use Rattle.row_matrix.proofs.Dividing.{right_false}
use Rattle.row_matrix.proofs.Losing.{Laws}

-- ## Lists

abbrev pub AreOnce : List ℕ → Type 0
AreOnce xs = AllPairs (λ v w. v ≢ w) xs

abbrev pub AreApart : List ℕ → List ℕ → Type 0
AreApart xs ys = (v : ℕ) → stands v xs ≡ true → stands v ys ≡ true → ⊥

pub or_left : (a b : Bool) → a ≡ true → (a || b) ≡ true
or_left true b h = refl
or_left false b h = absurd (both_ways false refl h)

pub or_right : (a b : Bool) → b ≡ true → (a || b) ≡ true
or_right true b h = refl
or_right false b h = h

or_cases : (a b : Bool) → (a || b) ≡ true → (a ≡ true) ⊎ (b ≡ true)
or_cases true b h = inl refl
or_cases false b h = inr h

none_once : AreOnce []
none_once i j d lt within = absurd (omega arith)

-- a number that doesn't stand in a list differs from all in it
all_other : (x : ℕ) (ys : List ℕ) → (stands x ys ≡ true → ⊥) → All (λ w. x ≢ w) ys
all_other x [] n = All-nil (λ w. x ≢ w)
all_other x (y ∷ ys) n = All-cons (λ w. x ≢ w) y ys (λ e. n (or_left (nat_eq x y) (stands x ys) (ap (nat_eq x) (sym e) ∙ equal x))) (all_other x ys (λ s. n (or_right (nat_eq x y) (stands x ys) s)))

all_stands : (P : ℕ → Type 0) (xs : List ℕ) (v : ℕ) → All P xs → stands v xs ≡ true → P v
all_stands P [] v all s = absurd (both_ways false refl s)
all_stands P (x ∷ xs) v all s = ⊎_elim
    (λ (e : nat_eq v x ≡ true). subst P (sym (eqb-true v x e)) (All-head P x xs all))
    (λ (t : stands v xs ≡ true). all_stands P xs v (All-tail P x xs all) t)
    (or_cases (nat_eq v x) (stands v xs) s)

joined : (xs ys : List ℕ) → AreOnce xs → AreOnce ys → AreApart xs ys → AreOnce (xs ++ ys)
joined [] ys h k a = k
joined (x ∷ xs) ys h k a =
    AllPairs-cons (λ v w. v ≢ w) x (xs ++ ys)
    (All-append (λ w. x ≢ w) xs ys (λ j d lt. h 0 (suc j) d (omega arith) (omega (arith, lt))) (all_other x ys (λ s. a x (or_left (nat_eq x x) (stands x xs) (equal x)) s)))
    (joined xs ys (λ i j d lt within. h (suc i) (suc j) d (omega (arith, lt)) (omega (arith, within))) k (λ v s t. a v (or_right (nat_eq v x) (stands v xs) s) t))

apart_joined : (xs ys zs : List ℕ) → AreApart xs zs → AreApart ys zs → AreApart (xs ++ ys) zs
apart_joined xs ys zs a b v s t = ⊎_elim (λ (e : stands v xs ≡ true). a v e t) (λ (e : stands v ys ≡ true). b v e t) (or_cases (stands v xs) (stands v ys) (sym (list_any-append (nat_eq v) xs ys) ∙ s))

turned : (xs ys : List ℕ) → AreApart xs ys → AreApart ys xs
turned xs ys a v s t = a v t s

pub filter_all : (t : ℕ → Bool) (P : ℕ → Type 0) (a n : ℕ) → ((v : ℕ) → v < a + n → t v ≡ true → P v) → All P (filter t (range_with_len a n))
filter_all t P a zero h = All-nil P
filter_all t P a (suc n) h = go (t a) refl (filter_all t P (a + 1) n (λ v l e. h v (omega (arith, l)) e))
  where
    go : (b : Bool) → t a ≡ b → All P (filter t (range_with_len (a + 1) n)) → All P (cond b (a ∷ filter t (range_with_len (a + 1) n)) (filter t (range_with_len (a + 1) n)))
    go true e rest = All-cons P a (filter t (range_with_len (a + 1) n)) (h a (omega arith) e) rest
    go false e rest = rest

above : (t : ℕ → Bool) (a n b : ℕ) → b < a → All (λ w. b ≢ w) (filter t (range_with_len a n))
above t a zero b l = All-nil (λ w. b ≢ w)
above t a (suc n) b l = go (t a) (above t (a + 1) n b (omega (arith, l)))
  where
    go : (c : Bool) → All (λ w. b ≢ w) (filter t (range_with_len (a + 1) n)) → All (λ w. b ≢ w) (cond c (a ∷ filter t (range_with_len (a + 1) n)) (filter t (range_with_len (a + 1) n)))
    go true rest = All-cons (λ w. b ≢ w) a (filter t (range_with_len (a + 1) n)) (λ e. absurd (omega (arith, l, e))) rest
    go false rest = rest

filter_once : (t : ℕ → Bool) (a n : ℕ) → AreOnce (filter t (range_with_len a n))
filter_once t a zero = none_once
filter_once t a (suc n) = go (t a) (filter_once t (a + 1) n)
  where
    go : (c : Bool) → AreOnce (filter t (range_with_len (a + 1) n)) → AreOnce (cond c (a ∷ filter t (range_with_len (a + 1) n)) (filter t (range_with_len (a + 1) n)))
    go true rest = AllPairs-cons (λ v w. v ≢ w) a (filter t (range_with_len (a + 1) n)) (above t (a + 1) n a (omega arith)) rest
    go false rest = rest

pub vars_mapped : (minus : Bool) (g : ℕ → ℕ) (vs : List ℕ) → vars_in (map (term_of minus) (map (λ v. record { at = v; by = g v }) vs)) ≡ vs
vars_mapped minus g [] = refl
vars_mapped minus g (v ∷ vs) = ap (λ (us : List ℕ). v ∷ us) (vars_mapped minus g vs)

-- ## Terms of sums

one_value : (s : Sign) → loses_at s false ≡ true → loses_at s true ≡ true → ⊥
one_value Plus h k = both_ways false refl k
one_value Minus h k = both_ways false refl h

module _ (m : Voyage) (z : Numbering) (laws : Laws m z) (r : Row) (there : has m r ≡ true) (entries : List (List Entry)) (are : AreEntries m z entries) where
  -- the variables of a sum that loses at the value
  abbrev of_part : Bool → Part → List ℕ
  of_part y q = cond (loses_at q.sign y) (variables_of m q.sum) []

  abbrev of_second : Bool → Option Part → List ℕ
  of_second y None = []
  of_second y (Some q) = of_part y q

  abbrev IsHeld : ℕ → Part → Type 0
  IsHeld v q = (v < length (variables m)) × (holds m q.sum (var m v) ≡ true)

  held_in : (q : Part) (v : ℕ) → stands v (variables_of m q.sum) ≡ true → IsHeld v q
  held_in q v s = all_stands (λ w. IsHeld w q) (variables_of m q.sum) v
      (filter_all (λ w. holds m q.sum (var m w)) (λ w. IsHeld w q) 0 (length (variables m)) (λ w lt h. (omega (arith, lt), h))) s

  in_part : (y : Bool) (q : Part) (v : ℕ) → stands v (of_part y q) ≡ true → (loses_at q.sign y ≡ true) × IsHeld v q
  in_part y q v = go (loses_at q.sign y)
    where
      go : (b : Bool) → stands v (cond b (variables_of m q.sum) []) ≡ true → (b ≡ true) × IsHeld v q
      go true s = (refl, held_in q v s)
      go false s = absurd (both_ways false refl s)

  part_once : (y : Bool) (q : Part) → AreOnce (of_part y q)
  part_once y q = go (loses_at q.sign y)
    where
      go : (b : Bool) → AreOnce (cond b (variables_of m q.sum) [])
      go true = filter_once (λ w. holds m q.sum (var m w)) 0 (length (variables m))
      go false = none_once

  second_once : (y : Bool) (o : Option Part) → AreOnce (of_second y o)
  second_once y None = none_once
  second_once y (Some q) = part_once y q

  itself : (q : Part) → AreApart (of_part false q) (of_part true q)
  itself q v s t = one_value q.sign (in_part false q v s).0 (in_part true q v t).0

  itself_second : (o : Option Part) → AreApart (of_second false o) (of_second true o)
  itself_second None v s t = both_ways false refl s
  itself_second (Some q) v s t = itself q v s t

  module _ (ps : Parts) (row : parts m r ≡ Some ps) where
    both : (x y : Bool) (o : Option Part) → ps.second ≡ o → AreApart (of_part x ps.first) (of_second y o)
    both x y None e v s t = both_ways false refl t
    both x y (Some q) e v s t =
        let f = in_part x ps.first v s in
        let g = in_part y q v t in
        both_ways (holds m q.sum (var m v)) (right_false (holds m ps.first.sum (var m v)) (holds m q.sum (var m v)) (laws.share_none m r ps q there row e (var m v) (laws.listed m v f.1.0).0) f.1.1) g.1.1

    abbrev of_parts : Bool → List ℕ
    of_parts y = of_part y ps.first ++ of_second y ps.second

    value_once : (y : Bool) → AreOnce (of_parts y)
    value_once y = joined (of_part y ps.first) (of_second y ps.second) (part_once y ps.first) (second_once y ps.second) (both y y ps.second refl)

    values_apart : AreApart (of_parts false) (of_parts true)
    values_apart = apart_joined (of_part false ps.first) (of_second false ps.second) (of_parts true)
        (turned (of_parts true) (of_part false ps.first) (apart_joined (of_part true ps.first) (of_second true ps.second) (of_part false ps.first)
        (turned (of_part false ps.first) (of_part true ps.first) (itself ps.first))
        (turned (of_part false ps.first) (of_second true ps.second) (both false true ps.second refl))))
        (turned (of_parts true) (of_second false ps.second) (apart_joined (of_part true ps.first) (of_second true ps.second) (of_second false ps.second)
        (both true false ps.second refl)
        (turned (of_second false ps.second) (of_second true ps.second) (itself_second ps.second))))

    all_once : AreOnce (of_parts false ++ of_parts true)
    all_once = joined (of_parts false) (of_parts true) (value_once false) (value_once true) values_apart

    -- the terms of the row's sums have their variables
    number_vars : (y : Bool) (q : Part) → IsThere m q.sum → vars_in (map (term_of y) (slice_index_or entries (number z q.sum) [])) ≡ variables_of m q.sum
    number_vars y q t = ap (λ (es : List Entry). vars_in (map (term_of y) es)) (are q.sum t) ∙ vars_mapped y (λ v. counted z (number z q.sum) (weight_of m v)) (variables_of m q.sum)

    part_vars : (y : Bool) (q : Part) → IsThere m q.sum → vars_in (terms_of y entries (cond (loses_at q.sign y) (number z q.sum ∷ []) [])) ≡ of_part y q
    part_vars y q t = go (loses_at q.sign y)
      where
        go : (b : Bool) → vars_in (terms_of y entries (cond b (number z q.sum ∷ []) [])) ≡ cond b (variables_of m q.sum) []
        go true = ap (λ (ts : List Term). vars_in ts) (append-nil (map (term_of y) (slice_index_or entries (number z q.sum) []))) ∙ number_vars y q t
        go false = refl

    second_vars : (y : Bool) (o : Option Part) → ((q : Part) → o ≡ Some q → IsThere m q.sum) → vars_in (terms_of y entries (number_of_second z y o)) ≡ of_second y o
    second_vars y None t = refl
    second_vars y (Some q) t = part_vars y q (t q refl)

    parts_vars : (y : Bool) → ((q : Part) → IsPart m r q → IsThere m q.sum) → vars_in (terms_of y entries (numbers_of z y ps)) ≡ of_parts y
    parts_vars y each =
        let ns : List ℕ = cond (loses_at ps.first.sign y) (number z ps.first.sum ∷ []) [] in
        let ks : List ℕ = number_of_second z y ps.second in
        ap (λ (ts : List Term). vars_in ts) (flat_map-append (λ n. map (term_of y) (slice_index_or entries n [])) ns ks)
        ∙ map-append (λ (t : Term). t.at) (terms_of y entries ns) (terms_of y entries ks)
        ∙ ap (λ (vs : List ℕ). vs ++ vars_in (terms_of y entries ks)) (part_vars y ps.first (each ps.first (record { all = ps; are = row; which = inl refl })))
        ∙ ap (λ (vs : List ℕ). of_part y ps.first ++ vs) (second_vars y ps.second (λ q e. each q (record { all = ps; are = row; which = inr e })))

  -- one sign's terms
  side_once : (y : Bool) (ns : List ℕ) → (ns ≡ []) ⊎ AreInOrder m z y r ns → AreOnce (vars_in (terms_of y entries ns))
  side_once y ns (inl e) = subst (λ (ks : List ℕ). AreOnce (vars_in (terms_of y entries ks))) (sym e) none_once
  side_once y ns (inr i) =
      subst (λ (ks : List ℕ). AreOnce (vars_in (terms_of y entries ks))) (sym i.order)
      (subst AreOnce (sym (parts_vars i.all i.are y i.there)) (value_once i.all i.are y))

  pub terms_once : (ps ms : List ℕ) → (ps ≡ []) ⊎ AreInOrder m z false r ps → (ms ≡ []) ⊎ AreInOrder m z true r ms → AreOnce (vars_in (terms_of false entries ps ++ terms_of true entries ms))
  terms_once ps ms plus minus =
      subst AreOnce (sym (map-append (λ (t : Term). t.at) (terms_of false entries ps) (terms_of true entries ms))) (joined (vars_in (terms_of false entries ps)) (vars_in (terms_of true entries ms)) (side_once false ps plus) (side_once true ms minus) (sides plus minus))
    where
      sides : (ps ≡ []) ⊎ AreInOrder m z false r ps → (ms ≡ []) ⊎ AreInOrder m z true r ms → AreApart (vars_in (terms_of false entries ps)) (vars_in (terms_of true entries ms))
      sides (inl e) k v s t = both_ways false refl (sym (ap (λ (ks : List ℕ). stands v (vars_in (terms_of false entries ks))) e) ∙ s)
      sides (inr i) (inl e) v s t = both_ways false refl (sym (ap (λ (ks : List ℕ). stands v (vars_in (terms_of true entries ks))) e) ∙ t)
      sides (inr i) (inr k) v s t =
          let same : k.all ≡ i.all = same_Some k.all i.all (sym k.are ∙ i.are) in
          let f : vars_in (terms_of false entries ps) ≡ of_parts i.all i.are false = ap (λ (ks : List ℕ). vars_in (terms_of false entries ks)) i.order ∙ parts_vars i.all i.are false i.there in
          let g : vars_in (terms_of true entries ms) ≡ of_parts i.all i.are true = ap (λ (ks : List ℕ). vars_in (terms_of true entries ks)) (k.order ∙ ap (λ (qs : Parts). numbers_of z true qs) same) ∙ parts_vars i.all i.are true i.there in
          values_apart i.all i.are v (sym (ap (stands v) f) ∙ s) (sym (ap (stands v) g) ∙ t)
