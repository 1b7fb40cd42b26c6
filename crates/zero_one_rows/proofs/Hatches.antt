-- Stacks under a cover and on it.
use Rattle.std.proofs.Common.{◌≡◌, ℕ, suc, Bool, true, false, ◌&&◌, ◌==◌, List, [], ◌∷◌, Option, None, Some, arith, refl, sym, ◌∙◌, ap, subst, Contains}
use Rattle.std.specs.Prelude.{slice_get, nat_eq, MatchOption}
use Rattle.std.specs.List.{list_any}
use Rattle.std.proofs.lemmas.Bool.{eqb-true, eq-eqb, false≢true}
use Rattle.std.proofs.lemmas.Bool.Decides.{nat_tests}
use Rattle.std.proofs.lemmas.List.Folds.{list_any_at}
use Rattle.std.proofs.lemmas.Option.{same_Some, slice_get_within, get_or_from_slice_get}
use Rattle.std.proofs.lemmas.Map.Views.{Contains-from_any}
use Rattle.stow_data.specs.declared.geometry.Cover.{Cover}
use Rattle.stow_data.specs.Ship.{Ship, LiesUnder, StandsOn}
use Rattle.zero_one_rows.specs.Rows.{cover_joins}
use Rattle.zero_one_rows.specs.Counted.{is_one}
use Rattle.zero_one_rows.proofs.EveryRow.{both, left_of, right_of}

equal : (a : ℕ) → nat_eq a a ≡ true
equal a = grind (arith, nat_tests)

same_number : (x y : ℕ) → nat_eq x y ≡ true → x ≡ y
same_number x y h = grind (arith, nat_tests)

named : (ks : List ℕ) (s : ℕ) → Contains ks s → list_any (nat_eq s) ks ≡ true
named ks s c = list_any_at (nat_eq s) ks c.0 s c.1 (ap (λ (w : ℕ). nat_eq s w) c.2 ∙ equal s)

-- an item that passes a test, by its index
any_at : (p : Cover → Bool) (cs : List Cover) → list_any p cs ≡ true → (k : ℕ) × (c : Cover) × (slice_get cs k ≡ Some c) × (p c ≡ true)
any_at p [] h = absurd (false≢true h)
any_at p (c ∷ cs) h = go (p c) refl (any_at p cs)
  where
    go : (b : Bool) → p c ≡ b → (list_any p cs ≡ true → (k : ℕ) × (d : Cover) × (slice_get cs k ≡ Some d) × (p d ≡ true)) → (k : ℕ) × (d : Cover) × (slice_get (c ∷ cs) k ≡ Some d) × (p d ≡ true)
    go true e rest = (0, c, refl, e)
    go false e rest = let r = rest (grind (arith, e, h)) in (suc r.0, r.1, r.2, r.3)

module _ (ship : Ship) (s t : ℕ) where
  abbrev joins : Cover → Bool
  joins c = list_any (nat_eq s) c.under && list_any (nat_eq t) c.on

  joined_at : cover_joins ship.covers s t ≡ true → (k : ℕ) × LiesUnder ship s k × StandsOn ship t k
  joined_at h =
      let r = any_at joins ship.covers h in (
        r.0,
        record { cover = r.1; is_cover = r.2; named = Contains-from_any {eq = nat_eq} same_number s r.1.under (left_of (list_any (nat_eq s) r.1.under) _ r.3) },
        record { cover = r.1; is_cover = r.2; named = Contains-from_any {eq = nat_eq} same_number t r.1.on (right_of (list_any (nat_eq s) r.1.under) _ r.3) },
      )

  joined_from : (k : ℕ) → LiesUnder ship s k → StandsOn ship t k → cover_joins ship.covers s t ≡ true
  joined_from k a b =
      let same : b.cover ≡ a.cover = same_Some b.cover a.cover (sym b.is_cover ∙ a.is_cover) in
      let on : Contains a.cover.on t = subst (λ (c : Cover). Contains c.on t) same b.named in
      list_any_at joins ship.covers k a.cover (slice_get_within ship.covers k a.cover a.is_cover)
      (ap joins (get_or_from_slice_get ship.covers k a.cover a.cover a.is_cover) ∙ both (list_any (nat_eq s) a.cover.under) (list_any (nat_eq t) a.cover.on) (named a.cover.under s a.named) (named a.cover.on t on))

  pub joined_is : (o u : Option ℕ) → MatchOption o ((k : ℕ) → LiesUnder ship s k → ⊥) (λ k. LiesUnder ship s k) → ((k : ℕ) → LiesUnder ship s k → o ≡ Some k) → MatchOption u ((k : ℕ) → StandsOn ship t k → ⊥) (λ k. StandsOn ship t k) → ((k : ℕ) → StandsOn ship t k → u ≡ Some k) → is_one o u ≡ cover_joins ship.covers s t
  joined_is o u is_o back_o is_u back_u = go (cover_joins ship.covers s t) refl
    where
      apart : (o u : Option ℕ) → MatchOption o ((k : ℕ) → LiesUnder ship s k → ⊥) (λ k. LiesUnder ship s k) → MatchOption u ((k : ℕ) → StandsOn ship t k → ⊥) (λ k. StandsOn ship t k) → cover_joins ship.covers s t ≡ false → is_one o u ≡ false
      apart None u a b e = refl
      apart (Some c) None a b e = refl
      apart (Some c) (Some d) a b e = test (c == d) refl
        where
          test : (z : Bool) → (c == d) ≡ z → (c == d) ≡ false
          test false f = f
          test true f = let same : c ≡ d = eqb-true c d f in absurd (false≢true (sym e ∙ joined_from c a (subst (λ (k : ℕ). StandsOn ship t k) (sym same) b)))

      go : (b : Bool) → cover_joins ship.covers s t ≡ b → is_one o u ≡ cover_joins ship.covers s t
      go true e = let r = joined_at e in ap (λ (x : Option ℕ). is_one x u) (back_o r.0 r.1) ∙ (ap (λ (x : Option ℕ). is_one (Some r.0) x) (back_u r.0 r.2) ∙ (eq-eqb r.0 r.0 refl ∙ sym e))
      go false e = apart o u is_o is_u e ∙ sym e
