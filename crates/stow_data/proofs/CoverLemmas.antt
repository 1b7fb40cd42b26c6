-- The tables of the covers over and under the stacks.
use Rattle.std.proofs.Common.{◌≡◌, ℕ, zero, suc, ◌<◌, ◌+◌, List, [], ◌∷◌, ◌++◌, arith, refl, sym, ◌∙◌, ap, ◌⊎◌, inl, inr, ⊎_elim, subst, length, Some, None, length-set, replicate}
use Rattle.std.specs.Prelude.{slice_get, slice_set, slice_index_or, MatchOption, Option, Contains, All}
use Rattle.std.proofs.lemmas.Bool.{cases_eq}
use Rattle.std.proofs.lemmas.Option.{none-some, same_Some, slice_get_within, slice_get-get_or, get_or_from_slice_get}
use Rattle.stow_data.specs.declared.geometry.Cover.{Cover}
use Rattle.stow_data.specs.declared.hatches.Naming.{Naming}
use Rattle.stow_data.specs.declared.hatches.Naming.TheVariants.{Under, On}
use Rattle.stow_data.specs.Ship.{Ship, LiesUnder, StandsOn}
use Rattle.stow_data.specs.Profile.{IsShip, IsCover}
use Rattle.stow_data.specs.CoverTable.{listed, Names, IsCoverTable}
use Rattle.stow_data.proofs.Members.{Member, member_of}
use Rattle.stow_data.proofs.InOrder.{split_get, get_left, get_right}
use Rattle.stow_data.proofs.CellLemmas.{member_contains}

pub get_set_other : {X : Type 0} (xs : List X) (i j : ℕ) (x : X) → (j ≡ i → ⊥) → slice_get (slice_set xs i x) j ≡ slice_get xs j
get_set_other [] i j x ne = refl
get_set_other (y ∷ ys) zero zero x ne = absurd (ne refl)
get_set_other (y ∷ ys) zero (suc j) x ne = refl
get_set_other (y ∷ ys) (suc i) zero x ne = refl
get_set_other (y ∷ ys) (suc i) (suc j) x ne = get_set_other ys i j x (λ e. ne (ap suc e))

pub get_set_same : {X : Type 0} (xs : List X) (i : ℕ) (x : X) → i < length xs → slice_get (slice_set xs i x) i ≡ Some x
get_set_same [] i x h = absurd (omega arith)
get_set_same (z ∷ zs) zero x h = refl
get_set_same (z ∷ zs) (suc i) x h = get_set_same zs i x (omega arith)

pub contains_member : {X : Type 0} (xs : List X) (x : X) → Contains xs x → Member x xs
contains_member xs x h = member_of xs h.0 x (slice_get-get_or xs h.0 x h.1 ∙ ap (λ z. Some z) h.2)

-- a number is listed or not
pub member_or_not : (xs : List ℕ) (x : ℕ) → Member x xs ⊎ (Member x xs → ⊥)
member_or_not [] x = inr (λ h. h)
member_or_not (y ∷ ys) x = ⊎_elim
    (λ (e : x ≡ y). inl (inl e))
    (λ (ne : x ≡ y → ⊥). ⊎_elim (λ (m : Member x ys). inl (inr m)) (λ (no_m : Member x ys → ⊥). inr (λ h. ⊎_elim (λ (e : x ≡ y). ne e) (λ (m : Member x ys). no_m m) h)) (member_or_not ys x))
    (cases_eq x y)

-- a table after these stacks lead to this cover
abbrev pub entered : List (Option ℕ) → ℕ → List ℕ → List (Option ℕ)
entered table cover [] = table
entered table cover (s ∷ ss) = entered (slice_set table s (Some cover)) cover ss

pub entered_more : (table : List (Option ℕ)) (cover : ℕ) (ss : List ℕ) (s : ℕ) → entered table cover (ss ++ s ∷ []) ≡ slice_set (entered table cover ss) s (Some cover)
entered_more table cover [] s = refl
entered_more table cover (x ∷ ss) s = entered_more (slice_set table x (Some cover)) cover ss s

pub entered_length : (table : List (Option ℕ)) (cover : ℕ) (ss : List ℕ) → length (entered table cover ss) ≡ length table
entered_length table cover [] = refl
entered_length table cover (s ∷ ss) = entered_length (slice_set table s (Some cover)) cover ss ∙ length-set table s (Some cover)

pub entered_other : (table : List (Option ℕ)) (cover : ℕ) (ss : List ℕ) (s : ℕ) → (Member s ss → ⊥) → slice_get (entered table cover ss) s ≡ slice_get table s
entered_other table cover [] s out = refl
entered_other table cover (x ∷ ss) s out = entered_other (slice_set table x (Some cover)) cover ss s (λ m. out (inr m)) ∙ get_set_other table x s (Some cover) (λ e. out (inl e))

pub entered_same : (table : List (Option ℕ)) (cover : ℕ) (ss : List ℕ) (s : ℕ) → s < length table → Member s ss → slice_get (entered table cover ss) s ≡ Some (Some cover)
entered_same table cover [] s l m = absurd m
entered_same table cover (x ∷ ss) s l m = ⊎_elim
    (λ (k : Member s ss). entered_same (slice_set table x (Some cover)) cover ss s (omega (arith, length-set table x (Some cover))) k)
    (λ (out : Member s ss → ⊥). entered_other (slice_set table x (Some cover)) cover ss s out ∙ here m out)
    (member_or_not ss s)
  where
    here : Member s (x ∷ ss) → (Member s ss → ⊥) → slice_get (slice_set table x (Some cover)) s ≡ Some (Some cover)
    here (inl e) out = subst (λ (z : ℕ). slice_get (slice_set table x (Some cover)) z ≡ Some (Some cover)) (sym e) (get_set_same table x (Some cover) (subst (λ (z : ℕ). z < length table) e l))
    here (inr k) out = absurd (out k)

-- of one cover more
names_more : (covers : List Cover) (cover : Cover) (naming : Naming) (s k : ℕ) → Names covers naming s k → Names (covers ++ cover ∷ []) naming s k
names_more covers cover naming s k h = record { cover = h.cover; is_cover = get_left covers (cover ∷ []) k h.cover h.is_cover; named = h.named }

last_item : {X : Type 0} (xs : List X) (x : X) → slice_get (xs ++ x ∷ []) (length xs) ≡ Some x
last_item xs x = get_right xs (x ∷ []) 0 (length xs) (omega arith)

pub table_more : (covers : List Cover) (cover : Cover) (naming : Naming) (table new : List (Option ℕ)) (number : ℕ) → number ≡ length covers → IsCoverTable covers naming table
    → ((s : ℕ) → Contains (listed naming cover) s → slice_get new s ≡ Some (Some number)) → ((s : ℕ) → (Contains (listed naming cover) s → ⊥) → slice_get new s ≡ slice_get table s) → IsCoverTable (covers ++ cover ∷ []) naming new
table_more covers cover naming table new number is old these others = record {
  leads = λ s entry at. ⊎_elim
      (λ (m : Member s (listed naming cover)). let c = member_contains (listed naming cover) s m in
      let e : Some number ≡ entry = same_Some (Some number) entry (sym (these s c) ∙ at) in
      subst (λ (z : Option ℕ). MatchOption z ((k : ℕ) → Names (covers ++ cover ∷ []) naming s k → ⊥) (λ k. Names (covers ++ cover ∷ []) naming s k)) e
      (record { cover = cover; is_cover = subst (λ (z : ℕ). slice_get (covers ++ cover ∷ []) z ≡ Some cover) (sym is) (last_item covers cover); named = c }))
      (λ (out : Member s (listed naming cover) → ⊥). let no : Contains (listed naming cover) s → ⊥ = λ c. out (contains_member (listed naming cover) s c) in
      carried s entry no (old.leads s entry (sym (others s no) ∙ at)))
      (member_or_not (listed naming cover) s);
}
  where
    carried : (s : ℕ) (entry : Option ℕ) → (Contains (listed naming cover) s → ⊥) → MatchOption entry ((k : ℕ) → Names covers naming s k → ⊥) (λ k. Names covers naming s k) → MatchOption entry ((k : ℕ) → Names (covers ++ cover ∷ []) naming s k → ⊥) (λ k. Names (covers ++ cover ∷ []) naming s k)
    carried s None out h = λ k n. ⊎_elim
        (λ (u : (k < length covers) × (slice_get covers k ≡ Some n.cover)). h k (record { cover = n.cover; is_cover = u.1; named = n.named }))
        (λ (u : (j : ℕ) × (k ≡ length covers + j) × (slice_get (cover ∷ []) j ≡ Some n.cover)). out (only u.0 n.cover u.2 n.named))
        (split_get covers (cover ∷ []) k n.cover n.is_cover)
      where
        only : (j : ℕ) (c : Cover) → slice_get (cover ∷ []) j ≡ Some c → Contains (listed naming c) s → Contains (listed naming cover) s
        only zero c e h = subst (λ (z : Cover). Contains (listed naming z) s) (sym (same_Some cover c e)) h
        only (suc j) c e h = absurd (none-some c e)
    carried s (Some k) out h = names_more covers cover naming s k h

-- a table of no cover
pub no_covers : (naming : Naming) (n : ℕ) → IsCoverTable [] naming (replicate n None)
no_covers naming n = record { leads = λ s entry at. subst (λ (z : Option ℕ). MatchOption z ((k : ℕ) → Names [] naming s k → ⊥) (λ k. Names [] naming s k)) (empty n s entry at) (λ k h. none-some h.cover h.is_cover) }
  where
    empty : (n s : ℕ) (entry : Option ℕ) → slice_get (replicate n None) s ≡ Some entry → None ≡ entry
    empty zero s entry e = absurd (none-some entry e)
    empty (suc n) zero entry e = same_Some None entry e
    empty (suc n) (suc s) entry e = empty n s entry e

-- what the tables say of a ship's stacks
pub over_said : (ship : Ship) (covers : List Cover) (s n : ℕ) (entry : Option ℕ) → covers ≡ ship.covers → n ≡ s → MatchOption entry ((k : ℕ) → Names covers Under n k → ⊥) (λ k. Names covers Under n k) → MatchOption entry ((k : ℕ) → LiesUnder ship s k → ⊥) (λ k. LiesUnder ship s k)
over_said ship covers s n entry e f h = said entry (subst (λ (cs : List Cover). MatchOption entry ((k : ℕ) → Names cs Under s k → ⊥) (λ k. Names cs Under s k)) e (subst (λ (m : ℕ). MatchOption entry ((k : ℕ) → Names covers Under m k → ⊥) (λ k. Names covers Under m k)) f h))
  where
    said : (entry : Option ℕ) → MatchOption entry ((k : ℕ) → Names ship.covers Under s k → ⊥) (λ k. Names ship.covers Under s k) → MatchOption entry ((k : ℕ) → LiesUnder ship s k → ⊥) (λ k. LiesUnder ship s k)
    said None h = λ k n. h k (record { cover = n.cover; is_cover = n.is_cover; named = n.named })
    said (Some k) h = record { cover = h.cover; is_cover = h.is_cover; named = h.named }

pub under_said : (ship : Ship) (covers : List Cover) (s n : ℕ) (entry : Option ℕ) → covers ≡ ship.covers → n ≡ s → MatchOption entry ((k : ℕ) → Names covers On n k → ⊥) (λ k. Names covers On n k) → MatchOption entry ((k : ℕ) → StandsOn ship s k → ⊥) (λ k. StandsOn ship s k)
under_said ship covers s n entry e f h = said entry (subst (λ (cs : List Cover). MatchOption entry ((k : ℕ) → Names cs On s k → ⊥) (λ k. Names cs On s k)) e (subst (λ (m : ℕ). MatchOption entry ((k : ℕ) → Names covers On m k → ⊥) (λ k. Names covers On m k)) f h))
  where
    said : (entry : Option ℕ) → MatchOption entry ((k : ℕ) → Names ship.covers On s k → ⊥) (λ k. Names ship.covers On s k) → MatchOption entry ((k : ℕ) → StandsOn ship s k → ⊥) (λ k. StandsOn ship s k)
    said None h = λ k n. h k (record { cover = n.cover; is_cover = n.is_cover; named = n.named })
    said (Some k) h = record { cover = h.cover; is_cover = h.is_cover; named = h.named }

cover_rules : (ship : Ship) (k : ℕ) (c : Cover) → IsShip ship → slice_get ship.covers k ≡ Some c → IsCover ship c
cover_rules ship k c rules is = subst (IsCover ship) (get_or_from_slice_get ship.covers k c c is) (rules.each_cover k c (slice_get_within ship.covers k c is))

-- only stacks of the ship lie under a cover or stand on one
pub under_in : (ship : Ship) (s k : ℕ) → IsShip ship → LiesUnder ship s k → s < length ship.stacks
under_in ship s k rules h = let r = (cover_rules ship k h.cover rules h.is_cover).under s h.named in slice_get_within ship.stacks s r.0 r.1

pub on_in : (ship : Ship) (s k : ℕ) → IsShip ship → StandsOn ship s k → s < length ship.stacks
on_in ship s k rules h = let r = (cover_rules ship k h.cover rules h.is_cover).on s h.named in slice_get_within ship.stacks s r.0 r.1

-- the stacks that the covers name are the ship's
pub named_in : (ship : Ship) (naming : Naming) → IsShip ship → All (λ c. All (λ s. s < length ship.stacks) (listed naming c)) ship.covers
named_in ship Under rules k d l i e m = (let c = slice_index_or ship.covers k d in let r = (rules.each_cover k d l).under (slice_index_or c.under i e) (i, m, same c.under i e m) in slice_get_within ship.stacks (slice_index_or c.under i e) r.0 r.1)
  where
    same : (xs : List ℕ) (i e : ℕ) → i < length xs → slice_index_or xs i (slice_index_or xs i e) ≡ slice_index_or xs i e
    same [] i e h = absurd (omega arith)
    same (x ∷ xs) zero e h = refl
    same (x ∷ xs) (suc i) e h = same xs i e (omega arith)
named_in ship On rules k d l i e m = (let c = slice_index_or ship.covers k d in let r = (rules.each_cover k d l).on (slice_index_or c.on i e) (i, m, same c.on i e m) in slice_get_within ship.stacks (slice_index_or c.on i e) r.0 r.1)
  where
    same : (xs : List ℕ) (i e : ℕ) → i < length xs → slice_index_or xs i (slice_index_or xs i e) ≡ slice_index_or xs i e
    same [] i e h = absurd (omega arith)
    same (x ∷ xs) zero e h = refl
    same (x ∷ xs) (suc i) e h = same xs i e (omega arith)
