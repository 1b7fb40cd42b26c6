-- The numbers of a row's sums.
use Rattle.std.proofs.Common.{◌≡◌, ◌⊎◌, inl, inr, ⊎_elim, ℕ, Bool, true, false, cond, ◌||◌, [], ◌∷◌, Option, Some, None, refl, sym, ◌∙◌, ap, subst}
use Rattle.std.specs.Prelude.{nat_eq}
use Rattle.std.proofs.lemmas.Bool.{both_ways, eqb-true}
use Rattle.std.proofs.lemmas.Option.{none-some, same_Some}
use Rattle.std.proofs.lemmas.List.Folds.{list_any-append}
use Rattle.row_matrix.proofs.Summing.{equal}
use Rattle.stow_data.specs.Profile.{IsShip}
use Rattle.zero_one_rows.specs.declared.program.Row.{Row}
use Rattle.zero_one_rows.specs.Ranges.{NamesWhatIsThere}
use Rattle.zero_one_rows.specs.Variables.{Voyage}
use Rattle.zero_one_rows.specs.Rows.{has}
use Rattle.row_sums.specs.declared.sums.Part.{Part}
use Rattle.row_sums.specs.declared.sums.Parts.{Parts}
use Rattle.row_sums.specs.Sums.{parts}
use Rattle.row_sums.specs.declared.numbering.Numbering.{Numbering}
use Rattle.row_sums.specs.Numbers.{number, IsNumbering, IsThere}
use Rattle.row_sums.specs.Held.{stands}
use Rattle.row_sums.proofs.Telling.{has_room}
use Rattle.row_matrix.specs.Parted.{loses_at, number_of, number_of_second, numbers_of, IsPart, IsSumOf, AreSumsOf, NamesPlace, PartsLow, SecondLow}
use Rattle.row_matrix.proofs.There.{there}

-- there is room for the sums of a row
pub parts_low : (m : Voyage) (z : Numbering) (r : Row) (ps : Parts) → IsNumbering m z → NamesWhatIsThere → IsShip m.ship → has m r ≡ true → NamesPlace m.ship r → parts m r ≡ Some ps → PartsLow z ps
parts_low m z r ps n names rules h p e = (has_room m z ps.first.sum n (there m r ps.first names rules h p (record { all = ps; are = e; which = inl refl })), second ps.second refl)
  where
    second : (o : Option Part) → ps.second ≡ o → SecondLow z o
    second None f = tt
    second (Some q) f = has_room m z q.sum n (there m r q names rules h p (record { all = ps; are = e; which = inr f }))

or_cases : (a b : Bool) → (a || b) ≡ true → (a ≡ true) ⊎ (b ≡ true)
or_cases true b h = inl refl
or_cases false b h = inr h

or_left : (a b : Bool) → a ≡ true → (a || b) ≡ true
or_left true b h = refl
or_left false b h = absurd (both_ways false refl h)

or_right : (a b : Bool) → b ≡ true → (a || b) ≡ true
or_right true b h = refl
or_right false b h = h

one_only : (b : Bool) (n k : ℕ) → stands n (cond b (k ∷ []) []) ≡ true → (b ≡ true) × (n ≡ k)
one_only true n k s = (refl, ⊎_elim (λ (e : nat_eq n k ≡ true). eqb-true n k e) (λ (f : false ≡ true). absurd (both_ways false refl f)) (or_cases (nat_eq n k) false s))
one_only false n k s = absurd (both_ways false refl s)

one_there : (b : Bool) (k : ℕ) → b ≡ true → stands k (cond b (k ∷ []) []) ≡ true
one_there true k h = or_left (nat_eq k k) false (equal k)
one_there false k h = absurd (both_ways false refl h)

-- a row without sums has no numbers
pub none_numbered : (m : Voyage) (z : Numbering) (y : Bool) (r : Row) → parts m r ≡ None → AreSumsOf m z y r []
none_numbered m z y r e = record {
  only = λ n s. absurd (both_ways false refl s);
  all = λ q i l t. absurd (none-some i.all (sym e ∙ i.are));
  order = inl refl;
}

-- nor has one whose place isn't the ship's
pub misplaced_numbered : (m : Voyage) (z : Numbering) (y : Bool) (r : Row) → ((q : Part) → IsPart m r q → IsThere m q.sum → ⊥) → AreSumsOf m z y r []
misplaced_numbered m z y r never = record {
  only = λ n s. absurd (both_ways false refl s);
  all = λ q i l t. absurd (never q i t);
  order = inl refl;
}

module _ (m : Voyage) (z : Numbering) (y : Bool) (r : Row) (ps : Parts) (each : (q : Part) → IsPart m r q → IsThere m q.sum) (are : parts m r ≡ Some ps) where
  part_number : (q : Part) → IsPart m r q → (n : ℕ) → stands n (number_of z y q) ≡ true → IsSumOf m z y r n
  part_number q i n s = let o = one_only (loses_at q.sign y) n (number z q.sum) s in record { part = q; is_part = i; loses = o.0; there = each q i; is_number = sym o.1 }

  second_number : (o : Option Part) → ps.second ≡ o → (n : ℕ) → stands n (number_of_second z y o) ≡ true → IsSumOf m z y r n
  second_number None f n s = absurd (both_ways false refl s)
  second_number (Some q) f n s = part_number q (record { all = ps; are = are; which = inr f }) n s

  split : (n : ℕ) → stands n (numbers_of z y ps) ≡ (stands n (number_of z y ps.first) || stands n (number_of_second z y ps.second))
  split n = list_any-append (nat_eq n) (number_of z y ps.first) (number_of_second z y ps.second)

  pub part_numbers : AreSumsOf m z y r (numbers_of z y ps)
  part_numbers = record {
    only = λ n s. ⊎_elim
        (λ (a : stands n (number_of z y ps.first) ≡ true). part_number ps.first (record { all = ps; are = are; which = inl refl }) n a)
        (λ (b : stands n (number_of_second z y ps.second) ≡ true). second_number ps.second refl n b)
        (or_cases (stands n (number_of z y ps.first)) (stands n (number_of_second z y ps.second)) (sym (split n) ∙ s));
    all = λ q i l t.
        let same : i.all ≡ ps = same_Some i.all ps (sym i.are ∙ are) in
        split (number z q.sum) ∙ ⊎_elim
        (λ (e : q ≡ i.all.first). or_left (stands (number z q.sum) (number_of z y ps.first)) (stands (number z q.sum) (number_of_second z y ps.second)) (subst (λ (p : Part). stands (number z q.sum) (number_of z y p) ≡ true) (e ∙ ap (λ (qs : Parts). qs.first) same) (one_there (loses_at q.sign y) (number z q.sum) l)))
        (λ (e : i.all.second ≡ Some q). or_right (stands (number z q.sum) (number_of z y ps.first)) (stands (number z q.sum) (number_of_second z y ps.second)) (subst (λ (o : Option Part). stands (number z q.sum) (number_of_second z y o) ≡ true) (sym e ∙ ap (λ (qs : Parts). qs.second) same) (one_there (loses_at q.sign y) (number z q.sum) l)))
        i.which;
    order = inr (record { all = ps; are = are; there = each; order = refl });
  }
