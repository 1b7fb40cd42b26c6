-- What rows lose where a variable gets a value.
use Rattle.std.proofs.Common.{◌≡◌, ◌≢◌, ◌⊎◌, inl, inr, ⊎_elim, ℕ, zero, suc, ◌<◌, ◌≤◌, ◌+◌, Bool, true, false, cond, ◌||◌, List, [], ◌∷◌, length, ℤ, pos, ◌+ℤ◌, refl, sym, ◌∙◌, ap, subst, arith}
use Rattle.std.specs.Prelude.{filter, map, nat_eq, slice_index_or}
use Rattle.std.specs.List.{range_with_len}
use borrow.Author.Differences.{ints}
use Rattle.std.proofs.lemmas.Bool.{both_ways}
use Rattle.stow_data.specs.Profile.{IsShip}
use Rattle.proof_trees.specs.Program.{where_set}
use Rattle.row_matrix.proofs.Summing.{same_or_other, equal, unequal}
use Rattle.zero_one_rows.specs.declared.program.Row.{Row}
use Rattle.zero_one_rows.specs.Listed.{ListsVariables}
use Rattle.zero_one_rows.specs.Ranges.{NamesWhatIsThere}
use Rattle.zero_one_rows.specs.Variables.{Voyage, variables, var, is_var}
use Rattle.zero_one_rows.specs.Rows.{coef, has, is_base}
use Rattle.row_sums.specs.declared.sums.Sum.{Sum}
use Rattle.row_sums.specs.declared.sums.Sign.{Sign}
use Rattle.row_sums.specs.declared.sums.Sign.TheVariants.{Plus, Minus}
use Rattle.row_sums.specs.declared.sums.Part.{Part}
use Rattle.row_sums.specs.Sums.{holds, counts, signed}
use Rattle.row_sums.specs.Laws.{HasParts, AreSums, ShareNone}
use Rattle.row_sums.specs.declared.numbering.Numbering.{Numbering}
use Rattle.row_sums.specs.Numbers.{number, numbers, IsNumbering, IsThere}
use Rattle.row_sums.specs.Held.{stands, IsRising}
use Rattle.row_sums.proofs.Telling.{tell, number_low}
use Rattle.row_matrix.specs.declared.entries.Share.{Share}
use Rattle.row_matrix.specs.Terms.{loss, lost, lost_by}
use Rattle.row_matrix.specs.Counted.{counted, share_of, weight_of, AreShares}
use Rattle.row_matrix.specs.Parted.{loses_at, IsPart, AreSumsOf}
use Rattle.row_matrix.proofs.Dividing.{coef_at, coef_or, one_sum}
use Rattle.row_matrix.proofs.There.{held_there}
use Rattle.row_matrix.proofs.Numbered.{counted_is}

-- ## The rows of a sum

head : (b : Bool) (by a k : ℕ) (rest : List ℕ) → lost_by by (cond b (a ∷ rest) rest) k ≡ where_set b (where_set (nat_eq a k) (pos by)) +ℤ lost_by by rest k
head true by a k rest = refl
head false by a k rest = omega (arith, ints)

none_where : (b : Bool) → where_set b (pos 0) ≡ pos 0
none_where true = refl
none_where false = refl

later : (t : ℕ → Bool) (by a n k : ℕ) → k < a → lost_by by (filter t (range_with_len a n)) k ≡ pos 0
later t by a zero k l = refl
later t by a (suc n) k l =
    let rest : lost_by by (filter t (range_with_len (a + 1) n)) k ≡ pos 0 = later t by (a + 1) n k (omega (arith, l)) in
    let other : where_set (t a) (where_set (nat_eq a k) (pos by)) ≡ pos 0 = ap (λ (b : Bool). where_set (t a) (where_set b (pos by))) (unequal a k (λ e. omega arith)) ∙ none_where (t a) in
    head (t a) by a k (filter t (range_with_len (a + 1) n)) ∙ ap (λ (y : ℤ). y +ℤ lost_by by (filter t (range_with_len (a + 1) n)) k) other ∙ ap (λ (y : ℤ). pos 0 +ℤ y) rest

pub lost_there : (t : ℕ → Bool) (by a n k : ℕ) → a ≤ k → k < a + n → lost_by by (filter t (range_with_len a n)) k ≡ where_set (t k) (pos by)
lost_there t by a zero k l h = absurd (omega (arith, l, h))
lost_there t by a (suc n) k l h = go (same_or_other k a) (λ l h. lost_there t by (a + 1) n k l h)
  where
    here : k ≡ a → lost_by by (filter t (range_with_len a (suc n))) k ≡ where_set (t k) (pos by)
    here e =
        let rest : lost_by by (filter t (range_with_len (a + 1) n)) k ≡ pos 0 = later t by (a + 1) n k (omega (arith, e)) in
        let w : where_set (t a) (where_set (nat_eq a k) (pos by)) ≡ where_set (t k) (pos by) = ap (λ (b : Bool). where_set (t a) (where_set b (pos by))) (ap (nat_eq a) e ∙ equal a) ∙ ap (λ (i : ℕ). where_set (t i) (pos by)) (sym e) in
        let s = head (t a) by a k (filter t (range_with_len (a + 1) n)) in
        omega (arith, ints)

    there : (a + 1 ≤ k → k < a + 1 + n → lost_by by (filter t (range_with_len (a + 1) n)) k ≡ where_set (t k) (pos by)) → k ≢ a → lost_by by (filter t (range_with_len a (suc n))) k ≡ where_set (t k) (pos by)
    there more other =
        let rest : lost_by by (filter t (range_with_len (a + 1) n)) k ≡ where_set (t k) (pos by) = more (grind arith) (omega (arith, h)) in
        let w : where_set (t a) (where_set (nat_eq a k) (pos by)) ≡ pos 0 = ap (λ (b : Bool). where_set (t a) (where_set b (pos by))) (unequal a k (λ e. other (sym e))) ∙ none_where (t a) in
        let s = head (t a) by a k (filter t (range_with_len (a + 1) n)) in
        omega (arith, ints)

    go : (k ≡ a) ⊎ (k ≢ a) → (a + 1 ≤ k → k < a + 1 + n → lost_by by (filter t (range_with_len (a + 1) n)) k ≡ where_set (t k) (pos by)) → lost_by by (filter t (range_with_len a (suc n))) k ≡ where_set (t k) (pos by)
    go (inl e) more = here e
    go (inr other) more = there more other

-- ## The sums of a variable

-- each stands once
abbrev pub Once : List ℕ → Type 0
Once [] = Unit {0}
Once (x ∷ xs) = (stands x xs ≡ false) × Once xs

none_there : (xs : List ℕ) (v : ℕ) → ((k d : ℕ) → k < length xs → v < slice_index_or xs k d) → stands v xs ≡ false
none_there [] v h = refl
none_there (x ∷ xs) v h = ap (λ (b : Bool). b || stands v xs) (unequal v x (λ e. let l = h 0 x (omega arith) in omega (arith, l))) ∙ none_there xs v (λ k d lt. h (suc k) d (omega arith))

pub once_is : (xs : List ℕ) → IsRising xs → Once xs
once_is [] h = tt
once_is (x ∷ xs) h = (none_there xs x (λ k d lt. h 0 (suc k) d (omega arith) (omega arith)), once_is xs (λ i j d lt lt'. h (suc i) (suc j) d (omega arith) (omega arith)))

module _ (z : Numbering) (w : ℕ) (rows : List (List ℕ)) (k : ℕ) (t : ℕ → Bool) where
  -- each sum of these takes from row k what the variable counts there, where it is one of the row's
  abbrev pub Takes : List ℕ → Type 0
  Takes ns = (n : ℕ) → stands n ns ≡ true → lost_by (counted z n w) (slice_index_or rows n []) k ≡ where_set (t n) (pos (counted z n w))

  stands_later : (x n : ℕ) (xs : List ℕ) → stands n xs ≡ true → stands n (x ∷ xs) ≡ true
  stands_later x n xs h = or_true (nat_eq n x) (stands n xs) h
    where
      or_true : (a b : Bool) → b ≡ true → (a || b) ≡ true
      or_true true b h = refl
      or_true false b h = h

  stands_first : (x : ℕ) (xs : List ℕ) → stands x (x ∷ xs) ≡ true
  stands_first x xs = ap (λ (b : Bool). b || stands x xs) (equal x)

  none_lost : (ns : List ℕ) → Takes ns → ((n : ℕ) → stands n ns ≡ true → t n ≡ false) → lost (map (share_of z w) ns) rows k ≡ pos 0
  none_lost [] takes none = refl
  none_lost (n ∷ ns) takes none =
      let first : lost_by (counted z n w) (slice_index_or rows n []) k ≡ pos 0 = takes n (stands_first n ns) ∙ ap (λ (b : Bool). where_set b (pos (counted z n w))) (none n (stands_first n ns)) in
      let rest : lost (map (share_of z w) ns) rows k ≡ pos 0 = none_lost ns (λ i s. takes i (stands_later n i ns s)) (λ i s. none i (stands_later n i ns s)) in
      ap (λ (y : ℤ). y +ℤ lost (map (share_of z w) ns) rows k) first ∙ ap (λ (y : ℤ). pos 0 +ℤ y) rest

  pub lost_is : (ns : List ℕ) (total : ℤ) → Once ns → Takes ns
      → ((n : ℕ) → stands n ns ≡ true → t n ≡ true → pos (counted z n w) ≡ total)
      → ((n i : ℕ) → stands n ns ≡ true → stands i ns ≡ true → t n ≡ true → t i ≡ true → n ≡ i)
      → (((n : ℕ) → stands n ns ≡ true → t n ≡ false) → total ≡ pos 0)
      → lost (map (share_of z w) ns) rows k ≡ total
  lost_is [] total once takes is one none = sym (none (λ n s. absurd (both_ways false refl s)))
  lost_is (n ∷ ns) total once takes is one none = go (t n) refl (λ h. lost_is ns total once.1 (λ i s. takes i (stands_later n i ns s)) (λ i s. is i (stands_later n i ns s)) (λ i j a b. one i j (stands_later n i ns a) (stands_later n j ns b)) h)
    where
      go : (b : Bool) → t n ≡ b → ((((i : ℕ) → stands i ns ≡ true → t i ≡ false) → total ≡ pos 0) → lost (map (share_of z w) ns) rows k ≡ total) → lost (map (share_of z w) (n ∷ ns)) rows k ≡ total
      go true e more =
          let first : lost_by (counted z n w) (slice_index_or rows n []) k ≡ total = takes n (stands_first n ns) ∙ ap (λ (b : Bool). where_set b (pos (counted z n w))) e ∙ is n (stands_first n ns) e in
          let rest : lost (map (share_of z w) ns) rows k ≡ pos 0 = none_lost ns (λ i s. takes i (stands_later n i ns s)) (λ i s. others i s (t i) refl) in
          omega (arith, ints)
        where
          others : (i : ℕ) → stands i ns ≡ true → (c : Bool) → t i ≡ c → t i ≡ false
          others i s false f = f
          others i s true f =
              let same : n ≡ i = one n i (stands_first n ns) (stands_later n i ns s) e f in
              absurd (both_ways (stands n ns) once.0 (subst (λ (j : ℕ). stands j ns ≡ true) (sym same) s))
      go false e more =
          let first : lost_by (counted z n w) (slice_index_or rows n []) k ≡ pos 0 = takes n (stands_first n ns) ∙ ap (λ (b : Bool). where_set b (pos (counted z n w))) e in
          let rest : lost (map (share_of z w) ns) rows k ≡ total =
          more (λ h. none (λ i s. all h i (t i) refl s)) in
          omega (arith, ints)
        where
          all : ((i : ℕ) → stands i ns ≡ true → t i ≡ false) → (i : ℕ) (c : Bool) → t i ≡ c → stands i (n ∷ ns) ≡ true → t i ≡ false
          all h i false f s = f
          all h i true f s = absurd (by (same_or_other i n))
            where
              by : (i ≡ n) ⊎ (i ≢ n) → ⊥
              by (inl same) = both_ways (t n) e (ap t (sym same) ∙ f)
              by (inr other) = both_ways (t i) (h i (sym (ap (λ (b : Bool). b || stands i ns) (unequal i n other)) ∙ s)) f

-- ## What a sign loses

pub loses : (s : Sign) (y : Bool) (c : ℕ) → loses_at s y ≡ true → pos c ≡ loss y (signed s (pos c))
loses Plus true c h = absurd (both_ways false refl h)
loses Plus false c h = grind (arith, ints)
loses Minus true c h = grind (arith, ints)
loses Minus false c h = absurd (both_ways false refl h)

pub keeps : (s : Sign) (y : Bool) (c : ℕ) → loses_at s y ≡ false → loss y (signed s (pos c)) ≡ pos 0
keeps Plus true c h = grind (arith, ints)
keeps Plus false c h = absurd (both_ways true h refl)
keeps Minus true c h = absurd (both_ways true h refl)
keeps Minus false c h = grind (arith, ints)

no_loss : (y : Bool) → loss y (pos 0) ≡ pos 0
no_loss true = refl
no_loss false = refl

-- what all these proofs stand on
pub record Laws (m : Voyage) (z : Numbering) : Type 0 where
  pub has_parts : HasParts
  pub are_sums : AreSums
  pub share_none : ShareNone
  pub names : NamesWhatIsThere
  pub listed : ListsVariables
  pub rules : IsShip m.ship
  pub numbering : IsNumbering m z

module _ (m : Voyage) (z : Numbering) (laws : Laws m z) (r : Row) (there : has m r ≡ true) (base : is_base r ≡ true) (y : Bool) (ls : List ℕ) (of : AreSumsOf m z y r ls) (v : ℕ) (lt : v < length (variables m)) where
  x_var : is_var m (var m v) ≡ true
  x_var = (laws.listed m v lt).0

  -- a sum that holds the variable and is one of the row's
  pub the_part : (s : Sum) → IsThere m s → holds m s (var m v) ≡ true → stands (number z s) ls ≡ true → (q : Part) × IsPart m r q × (loses_at q.sign y ≡ true) × (q.sum ≡ s)
  the_part s t h is =
      let o = of.only (number z s) is in
      (o.part, o.is_part, o.loses, tell m z o.part.sum s laws.numbering o.there t o.is_number)

  module _ (ss : List Share) (share : AreShares m z v ss) (rows : List (List ℕ)) (k : ℕ) (row_lost : (n : ℕ) → n < numbers z → lost_by (counted z n (weight_of m v)) (slice_index_or rows n []) k ≡ where_set (stands n ls) (pos (counted z n (weight_of m v)))) where
    abbrev pub a : ℤ
    a = coef m r (var m v)

    of_sum : (n : ℕ) → stands n share.sums ≡ true → stands n ls ≡ true → (q : Part) × IsPart m r q × (loses_at q.sign y ≡ true) × (holds m q.sum (var m v) ≡ true) × IsThere m q.sum × (number z q.sum ≡ n)
    of_sum n s t =
        let h = share.hold.only n s in
        let p = the_part h.sum h.there h.holds_it (subst (λ (i : ℕ). stands i ls ≡ true) (sym h.is_number) t) in
        (p.0, p.1, p.2, subst (λ (u : Sum). holds m u (var m v) ≡ true) (sym p.3) h.holds_it, subst (IsThere m) (sym p.3) h.there, ap (number z) p.3 ∙ h.is_number)

    counts_loss : (n : ℕ) → stands n share.sums ≡ true → stands n ls ≡ true → pos (counted z n (weight_of m v)) ≡ loss y a
    counts_loss n s t =
        let p = of_sum n s t in
        let c : counted z n (weight_of m v) ≡ counts m p.0.sum (var m v) = ap (λ (i : ℕ). counted z i (weight_of m v)) (sym p.5) ∙ counted_is m z p.0.sum v laws.numbering p.4 in
        ap pos c ∙ loses p.0.sign y (counts m p.0.sum (var m v)) p.2 ∙ ap (loss y) (sym (coef_at laws.are_sums laws.share_none m r (var m v) there x_var p.0 p.1 p.3))

    one : (n i : ℕ) → stands n share.sums ≡ true → stands i share.sums ≡ true → stands n ls ≡ true → stands i ls ≡ true → n ≡ i
    one n i s t u w =
        let p = of_sum n s u in
        let q = of_sum i t w in
        let same : p.0 ≡ q.0 = one_sum laws.are_sums laws.share_none m r (var m v) there x_var p.0 q.0 p.1 q.1 p.3 q.3 in
        sym p.5 ∙ ap (λ (d : Part). number z d.sum) same ∙ q.5

    none : ((n : ℕ) → stands n share.sums ≡ true → stands n ls ≡ false) → loss y a ≡ pos 0
    none h = ⊎_elim
        (λ (e : a ≡ pos 0). ap (loss y) e ∙ no_loss y)
        (λ (p : (q : Part) × IsPart m r q × (holds m q.sum (var m v) ≡ true)).
        let c : a ≡ signed p.0.sign (pos (counts m p.0.sum (var m v))) = coef_at laws.are_sums laws.share_none m r (var m v) there x_var p.0 p.1 p.2 in
        ap (loss y) c ∙ keeps p.0.sign y (counts m p.0.sum (var m v)) (not_lost p.0 p.1 p.2 (loses_at p.0.sign y) refl))
        (coef_or laws.are_sums laws.share_none m r (var m v) there x_var laws.has_parts base)
      where
        not_lost : (q : Part) → IsPart m r q → holds m q.sum (var m v) ≡ true → (b : Bool) → loses_at q.sign y ≡ b → loses_at q.sign y ≡ false
        not_lost q i held false e = e
        not_lost q i held true e =
            let t = held_there m r q (var m v) laws.names laws.rules there (laws.listed m v lt).1 i held in
            absurd (both_ways (stands (number z q.sum) ls) (h (number z q.sum) (share.hold.all q.sum t held)) (of.all q i e t))

    pub row_loses : lost ss rows k ≡ loss y a
    row_loses =
        ap (λ (us : List Share). lost us rows k) share.are
        ∙ lost_is z (weight_of m v) rows k (λ n. stands n ls) share.sums (loss y a) (once_is share.sums share.rising)
        (λ n s. let h = share.hold.only n s in row_lost n (subst (λ (i : ℕ). i < numbers z) h.is_number (number_low m z h.sum laws.numbering h.there)))
        counts_loss one none
