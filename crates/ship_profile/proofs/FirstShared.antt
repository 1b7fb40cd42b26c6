-- The stack that is refused is the first that shares a cell with an earlier one.
use Rattle.std.proofs.Common.{◌≡◌, ℕ, suc, ◌+◌, ◌-◌, ◌≤◌, Bool, true, false, ◌||◌, ◌&&◌, List, [], ◌∷◌, ◌++◌, map, Option, Some, None, Err, ◌⊎◌, ⊎_elim, append_assoc, inl, inr, refl, sym, ap, ◌∙◌, subst, arith}
use Rattle.std.specs.Prelude.{All, AllPairs, Contains, find, cond, if◌then◌else◌, ◌==◌, Result}
use Rattle.std.specs.List.{list_any}
use Rattle.std.proofs.lemmas.Bool.{false≢true, eqb-true, eq-eqb}
use Rattle.std.proofs.lemmas.Option.{none-some, same_Some}
use Rattle.std.proofs.lemmas.List.Elements.{All-nil}
use Rattle.std.proofs.lemmas.List.Quantifiers.{all_pairs_push}
use Rattle.toml_values.specs.Values.{◌>>=◌}
use Rattle.toml_values.proofs.ValueLaws.{err_is_no_ok}
use Rattle.stow_data.specs.declared.geometry.Stack.{Stack}
use Rattle.stow_data.specs.declared.geometry.Lengths.{Lengths}
use Rattle.stow_data.specs.declared.geometry.Lengths.TheVariants.{Forty, Twenty, Mixed, ForeOnly, AftOnly}
use Rattle.stow_data.specs.Ship.{sides}
use Rattle.stow_data.specs.Profile.{IsStack, IsInHold, IsOnDeck, SharesCell}
use Rattle.ship_profile.specs.declared.faults.ProfileFault.{ProfileFault}
use Rattle.ship_profile.specs.declared.faults.ProfileFault.TheVariants.{DuplicateCell}
use Rattle.ship_profile.specs.Stacks.{apart_after, refused_at, shared_bay, has_cell_of, same_part, is_in_hold, is_on_deck, is_among, odd_bays}
use Rattle.ship_profile.specs.SharedCells.{SharesIn, IsFirstShared, NamesFirstShared}
use Rattle.ship_profile.proofs.Bound.{both, either, or_left, or_right, All-push}
use Rattle.ship_profile.proofs.Apart.{any_at, bay_found, cell_found, none_shared}
use Rattle.ship_profile.proofs.Named.{in_hold, on_deck}

record IsFound {X : Type 0} (p : X → Bool) (xs : List X) : Type 0 where
  pub item : X
  pub within : Contains xs item
  pub passes : p item ≡ true

any_is : {X : Type 0} (p : X → Bool) (xs : List X) → list_any p xs ≡ true → IsFound p xs
any_is p [] h = absurd (false≢true h)
any_is p (x ∷ xs) h =
    ⊎_elim (λ (e : p x ≡ true). record { item = x; within = (0, omega arith, refl); passes = e }) (λ (e : list_any p xs ≡ true). let more = any_is p xs e in record { item = more.item; within = (suc more.within.0, omega (arith, more.within.1), more.within.2); passes = more.passes }) (either (p x) (list_any p xs) h)

both_sides : (bay odd : ℕ) → 2 ≤ bay → (((bay - 1) == odd) || (((bay + 1) == odd) || false)) ≡ true → ((odd + 1 ≡ bay) × Contains (false ∷ true ∷ []) false) ⊎ ((odd ≡ bay + 1) × Contains (false ∷ true ∷ []) true)
both_sides bay odd low h =
    ⊎_elim (λ (e : ((bay - 1) == odd) ≡ true). let same = eqb-true (bay - 1) odd e in inl (omega arith, (0, omega arith, refl)))
    (λ (e : (((bay + 1) == odd) || false) ≡ true). ⊎_elim (λ (k : ((bay + 1) == odd) ≡ true). inr (sym (eqb-true (bay + 1) odd k), (1, omega arith, refl))) (λ (k : false ≡ true). absurd (false≢true k)) (either ((bay + 1) == odd) false e))
    (either ((bay - 1) == odd) (((bay + 1) == odd) || false) h)

has_bay : (bay odd : ℕ) (l : Lengths) → 2 ≤ bay → is_among (map (λ aft. if aft then bay + 1 else bay - 1) (sides l)) odd ≡ true → ((odd + 1 ≡ bay) × Contains (sides l) false) ⊎ ((odd ≡ bay + 1) × Contains (sides l) true)
has_bay bay odd Forty low h = both_sides bay odd low h
has_bay bay odd Twenty low h = both_sides bay odd low h
has_bay bay odd Mixed low h = both_sides bay odd low h
has_bay bay odd ForeOnly low h = ⊎_elim (λ (e : ((bay - 1) == odd) ≡ true). let same = eqb-true (bay - 1) odd e in inl (omega arith, (0, omega arith, refl))) (λ (k : false ≡ true). absurd (false≢true k)) (either ((bay - 1) == odd) false h)
has_bay bay odd AftOnly low h = ⊎_elim (λ (e : ((bay + 1) == odd) ≡ true). inr (sym (eqb-true (bay + 1) odd e), (0, omega arith, refl))) (λ (k : false ≡ true). absurd (false≢true k)) (either ((bay + 1) == odd) false h)

part_is : (t s : Stack) → IsStack t → IsStack s → same_part t s ≡ true → (IsInHold t × IsInHold s) ⊎ (IsOnDeck t × IsOnDeck s)
part_is t s h k e =
    ⊎_elim (λ (p : (is_in_hold t && is_in_hold s) ≡ true). let b = both (is_in_hold t) (is_in_hold s) p in inl (in_hold t h b.0, in_hold s k b.1)) (λ (p : (is_on_deck t && is_on_deck s) ≡ true). let b = both (is_on_deck t) (is_on_deck s) p in inr (on_deck t h b.0, on_deck s k b.1)) (either (is_in_hold t && is_in_hold s) (is_on_deck t && is_on_deck s) e)

shares_in : (earlier : List Stack) (s : Stack) (odd : ℕ) → All IsStack earlier → IsStack s → is_among (odd_bays s) odd ≡ true → list_any (has_cell_of s odd) earlier ≡ true → SharesIn earlier s odd
shares_in earlier s odd each rules mine h =
    let found = any_is (has_cell_of s odd) earlier h in
    let e = found.item in
    let e_rules = subst IsStack found.within.2 (each found.within.0 e found.within.1) in
    let parts = both ((e.row == s.row) && same_part e s) (is_among (odd_bays e) odd) found.passes in
    let places = both (e.row == s.row) (same_part e s) parts.0 in
    record {
      other = e;
      is_earlier = found.within;
      shared = record { odd = odd; in_first = has_bay e.bay odd e.lengths e_rules.bay_from parts.1; in_second = has_bay s.bay odd s.lengths rules.bay_from mine; same_row = eqb-true e.row s.row places.0; same_part = part_is e s e_rules rules places.1 };
      in_bay = refl;
    }

found_by : (p : ℕ → Bool) (ns : List ℕ) (n : ℕ) → find p ns ≡ Some n → (is_among ns n ≡ true) × (p n ≡ true)
found_by p [] n h = absurd (none-some n h)
found_by p (m ∷ ns) n h = of_test (p m) refl h (λ k. found_by p ns n k)
  where
    of_test : (b : Bool) → p m ≡ b → cond b (Some m) (find p ns) ≡ Some n → (find p ns ≡ Some n → (is_among ns n ≡ true) × (p n ≡ true)) → (is_among (m ∷ ns) n ≡ true) × (p n ≡ true)
    of_test true e k more = let same = same_Some m n k in (or_left (m == n) (is_among ns n) (eq-eqb m n same), subst (λ (z : ℕ). p z ≡ true) same e)
    of_test false e k more = let r = more k in (or_right (m == n) (is_among ns n) r.0, r.1)

one_of : (m n : ℕ) → is_among (m ∷ []) n ≡ true → m ≡ n
one_of m n h = ⊎_elim (λ (e : (m == n) ≡ true). eqb-true m n e) (λ (k : false ≡ true). absurd (false≢true k)) (either (m == n) false h)

least_of_two : (p : ℕ → Bool) (a b n odd : ℕ) → a ≤ b → find p (a ∷ b ∷ []) ≡ Some n → is_among (a ∷ b ∷ []) odd ≡ true → p odd ≡ true → n ≤ odd
least_of_two p a b n odd le h mine passes = of_test (p a) refl h
  where
    of_test : (t : Bool) → p a ≡ t → cond t (Some a) (find p (b ∷ [])) ≡ Some n → n ≤ odd
    of_test true e k =
        let same = same_Some a n k in
        ⊎_elim (λ (i : (a == odd) ≡ true). let is = eqb-true a odd i in omega arith) (λ (i : is_among (b ∷ []) odd ≡ true). let is = one_of b odd i in omega arith) (either (a == odd) (is_among (b ∷ []) odd) mine)
    of_test false e k =
        let same = one_of b n (found_by p (b ∷ []) n k).0 in
        ⊎_elim (λ (i : (a == odd) ≡ true). absurd (false≢true (sym e ∙ ap p (eqb-true a odd i) ∙ passes))) (λ (i : is_among (b ∷ []) odd ≡ true). let is = one_of b odd i in omega arith) (either (a == odd) (is_among (b ∷ []) odd) mine)

least_of_one : (p : ℕ → Bool) (a n odd : ℕ) → find p (a ∷ []) ≡ Some n → is_among (a ∷ []) odd ≡ true → n ≤ odd
least_of_one p a n odd h mine = let first = one_of a n (found_by p (a ∷ []) n h).0 in let second = one_of a odd mine in omega arith

least_bay : (p : ℕ → Bool) (bay n odd : ℕ) (l : Lengths) → find p (map (λ aft. if aft then bay + 1 else bay - 1) (sides l)) ≡ Some n → is_among (map (λ aft. if aft then bay + 1 else bay - 1) (sides l)) odd ≡ true → p odd ≡ true → n ≤ odd
least_bay p bay n odd Forty h mine passes = least_of_two p (bay - 1) (bay + 1) n odd (omega arith) h mine passes
least_bay p bay n odd Twenty h mine passes = least_of_two p (bay - 1) (bay + 1) n odd (omega arith) h mine passes
least_bay p bay n odd Mixed h mine passes = least_of_two p (bay - 1) (bay + 1) n odd (omega arith) h mine passes
least_bay p bay n odd ForeOnly h mine passes = least_of_one p (bay - 1) n odd h mine
least_bay p bay n odd AftOnly h mine passes = least_of_one p (bay + 1) n odd h mine

lowest_of : (earlier : List Stack) (s : Stack) (bay odd : ℕ) → shared_bay earlier s ≡ Some bay → SharesIn earlier s odd → bay ≤ odd
lowest_of earlier s bay odd found h =
    let mine : is_among (odd_bays s) odd ≡ true = subst (λ (o : ℕ). is_among (odd_bays s) o ≡ true) h.in_bay (bay_found s h.shared.odd h.shared.in_second) in
    let cell : has_cell_of s odd h.other ≡ true = subst (λ (o : ℕ). has_cell_of s o h.other ≡ true) h.in_bay (cell_found s h.other h.shared) in
    let any = any_at (has_cell_of s odd) earlier h.is_earlier.0 h.other h.is_earlier.1 (subst (λ (e : Stack). has_cell_of s odd e ≡ true) (sym h.is_earlier.2) cell) in
    least_bay (λ o. list_any (has_cell_of s o) earlier) s.bay bay odd s.lengths found mine any

refused_first : (earlier : List Stack) (s : Stack) (ss : List Stack) (bay row tier : ℕ) (o : Option ℕ) → shared_bay earlier s ≡ o → All IsStack earlier → IsStack s → AllPairs (λ s t. SharesCell s t → ⊥) earlier
    → (shared_bay earlier s ≡ None → apart_after (earlier ++ s ∷ []) ss ≡ Err (DuplicateCell bay row tier) → IsFirstShared (earlier ++ s ∷ ss) bay row tier)
    → (refused_at s o >>= λ _. apart_after (earlier ++ s ∷ []) ss) ≡ Err (DuplicateCell bay row tier) → IsFirstShared (earlier ++ s ∷ ss) bay row tier
refused_first earlier s ss bay row tier None e each rules apart more h = more e h
refused_first earlier s ss bay row tier (Some odd) e each rules apart more h =
    let same : ◌≡◌ {A = Result (Unit {0}) ProfileFault} (Err (DuplicateCell odd s.row s.lowest)) (Err (DuplicateCell bay row tier)) = h in
    let bay_is : odd ≡ bay = cc in
    let found = found_by (λ o. list_any (has_cell_of s o) earlier) (odd_bays s) odd e in
    record {
      before = earlier;
      stack = s;
      after = ss;
      split = refl;
      apart = apart;
      shares = subst (SharesIn earlier s) bay_is (shares_in earlier s odd each rules found.0 found.1);
      lowest = λ other k. let le = lowest_of earlier s odd other e k in omega arith;
      row_is = cc;
      tier_is = cc;
    }

first_shared : (earlier ss : List Stack) (bay row tier : ℕ) → All IsStack earlier → All IsStack ss → AllPairs (λ s t. SharesCell s t → ⊥) earlier → apart_after earlier ss ≡ Err (DuplicateCell bay row tier) → IsFirstShared (earlier ++ ss) bay row tier
unfolding apart_after
first_shared earlier [] bay row tier each rules apart h = absurd (err_is_no_ok (DuplicateCell bay row tier) tt (sym h))
first_shared earlier (s ∷ ss) bay row tier each rules apart h =
    refused_first earlier s ss bay row tier (shared_bay earlier s) refl each (rules 0 s (omega arith)) apart
    (λ none k. subst (λ (xs : List Stack). IsFirstShared xs bay row tier) (append_assoc earlier (s ∷ []) ss) (first_shared (earlier ++ s ∷ []) ss bay row tier (All-push IsStack earlier s each (rules 0 s (omega arith))) (λ k d lt. rules (suc k) d (omega arith)) (all_pairs_push (λ s t. SharesCell s t → ⊥) earlier s apart (none_shared earlier s none)) k))
    h

pub names_first_shared : NamesFirstShared
names_first_shared stacks bay row tier each h = first_shared [] stacks bay row tier (All-nil IsStack) each (λ i j d lt within. absurd (omega arith)) h
