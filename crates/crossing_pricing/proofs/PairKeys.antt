-- The number of a variable's pair tells in which crossing rows it stands.
use Rattle.std.proofs.Common.{◌≡◌, ℕ, ◌+◌, ◌*◌, ◌<◌, ◌≤◌, ◌⊎◌, inl, inr, Bool, true, false, ◌&&◌, ◌||◌, ltb, arith, refl, sym, ◌∙◌, ap}
use Rattle.std.specs.Prelude.{◌==◌}
use Rattle.std.proofs.lemmas.Bool.{and_parts, and_from, ltb-true, lt-ltb, eqb-true}
use Rattle.std.proofs.lemmas.Bool.Decides.{nat_tests}
use Rattle.stow_data.specs.declared.geometry.Length.{Length}
use Rattle.stow_data.specs.declared.geometry.Length.TheVariants.{Twenty, Forty}
use Rattle.stow_data.specs.Ship.{same_length}
use Rattle.zero_one_rows.specs.declared.program.Var.{Var}
use Rattle.zero_one_rows.specs.Variables.{Voyage, kind}
use Rattle.crossing_pricing.specs.Pairs.{IsKey, IsKeyOf}

both_ways : (a b : Bool) → (a ≡ true → b ≡ true) → (b ≡ true → a ≡ true) → a ≡ b
both_ways true b h k = sym (h refl)
both_ways false true h k = k refl
both_ways false false h k = refl

not_true : (a : Bool) → (a ≡ true → ⊥) → a ≡ false
not_true true h = absurd (h refl)
not_true false h = refl

or_none : (a : Bool) → (a || false) ≡ a
or_none true = refl
or_none false = refl

less_or_not : (a b : ℕ) → (a < b) ⊎ (b ≤ a)
less_or_not a b = grind arith

eq_true : (a b : ℕ) → a ≡ b → (a == b) ≡ true
eq_true a b e = grind (arith, nat_tests)

module _ (o key put dest lifted : ℕ) (late : dest ≤ lifted → key ≡ 338) (put_out : 12 < put → key ≡ 338) (dest_out : 12 < dest → key ≡ 338)
    (inside : lifted < dest → put ≤ 12 → dest ≤ 12 → key ≡ o + (13 * put + dest)) (i d : ℕ) (i_low : i ≤ 12) (d_low : d ≤ 12) where
  abbrev Told : Type 0
  Told = (i ≡ put) × (d ≡ dest) × (lifted < dest)

  told : o ≤ 169 → key ≡ o + (13 * i + d) → Told
  told h e = by (less_or_not lifted dest) (less_or_not 12 put) (less_or_not 12 dest)
    where
      by : (lifted < dest) ⊎ (dest ≤ lifted) → (12 < put) ⊎ (put ≤ 12) → (12 < dest) ⊎ (dest ≤ 12) → Told
      by (inr a) p q = absurd (omega (arith, late a))
      by (inl a) (inl p) q = absurd (omega (arith, put_out p))
      by (inl a) (inr p) (inl q) = absurd (omega (arith, dest_out q))
      by (inl a) (inr p) (inr q) = let k = inside a p q in (omega arith, omega arith, a)

  pub key_same : o ≤ 169 → (key == o + (13 * i + d)) ≡ ((((i == put) && (d == dest)) || false) && ltb lifted dest)
  key_same h = both_ways _ _ to fro
    where
      to : (key == o + (13 * i + d)) ≡ true → ((((i == put) && (d == dest)) || false) && ltb lifted dest) ≡ true
      to e = let t = told h (eqb-true _ _ e) in
          and_from _ _ (or_none ((i == put) && (d == dest)) ∙ and_from _ _ (eq_true i put t.0) (eq_true d dest t.1)) (lt-ltb lifted dest t.2)

      fro : ((((i == put) && (d == dest)) || false) && ltb lifted dest) ≡ true → (key == o + (13 * i + d)) ≡ true
      fro e =
          let p = and_parts (((i == put) && (d == dest)) || false) (ltb lifted dest) e in
          let q = and_parts (i == put) (d == dest) (sym (or_none ((i == put) && (d == dest))) ∙ p.0) in
          let a : i ≡ put = eqb-true _ _ q.0 in
          let b : d ≡ dest = eqb-true _ _ q.1 in
          let k : key ≡ o + (13 * put + dest) = inside (ltb-true _ _ p.1) (omega arith) (omega arith) in
          eq_true key (o + (13 * i + d)) (omega arith)

  -- of the other length
  pub key_other : (n : ℕ) → (n ≡ 0) × (o ≡ 169) ⊎ (n ≡ 169) × (o ≡ 0) → (key == n + (13 * i + d)) ≡ false
  key_other n side = not_true _ (λ e. none side (eqb-true _ _ e))
    where
      none : (n ≡ 0) × (o ≡ 169) ⊎ (n ≡ 169) × (o ≡ 0) → key ≡ n + (13 * i + d) → ⊥
      none s e = by s (less_or_not lifted dest) (less_or_not 12 put) (less_or_not 12 dest)
        where
          by : (n ≡ 0) × (o ≡ 169) ⊎ (n ≡ 169) × (o ≡ 0) → (lifted < dest) ⊎ (dest ≤ lifted) → (12 < put) ⊎ (put ≤ 12) → (12 < dest) ⊎ (dest ≤ 12) → ⊥
          by s (inr a) p q = let k = late a in side_out s k
            where
              side_out : (n ≡ 0) × (o ≡ 169) ⊎ (n ≡ 169) × (o ≡ 0) → key ≡ 338 → ⊥
              side_out (inl t) k = omega arith
              side_out (inr t) k = omega arith
          by s (inl a) (inl p) q = let k = put_out p in side_out s k
            where
              side_out : (n ≡ 0) × (o ≡ 169) ⊎ (n ≡ 169) × (o ≡ 0) → key ≡ 338 → ⊥
              side_out (inl t) k = omega arith
              side_out (inr t) k = omega arith
          by s (inl a) (inr p) (inl q) = let k = dest_out q in side_out s k
            where
              side_out : (n ≡ 0) × (o ≡ 169) ⊎ (n ≡ 169) × (o ≡ 0) → key ≡ 338 → ⊥
              side_out (inl t) k = omega arith
              side_out (inr t) k = omega arith
          by (inl t) (inl a) (inr p) (inr q) = let k = inside a p q in omega arith
          by (inr t) (inl a) (inr p) (inr q) = let k = inside a p q in omega arith

pub is_key : (m : Voyage) (x : Var) (key : ℕ) → IsKeyOf (kind m x.kind).long x.put (kind m x.kind).dest x.lifted key → IsKey m x key
is_key m x key of = by (kind m x.kind).long refl of
  where
    by : (long : Length) → (kind m x.kind).long ≡ long → IsKeyOf long x.put (kind m x.kind).dest x.lifted key → IsKey m x key
    by Twenty e k = record {
      short = λ i d il dl. key_same 0 key x.put (kind m x.kind).dest x.lifted k.late k.put_out k.dest_out k.inside i d il dl (omega arith)
          ∙ ap (λ (l : Length). same_length Twenty l && ((((i == x.put) && (d == (kind m x.kind).dest)) || false) && ltb x.lifted (kind m x.kind).dest)) (sym e);
      long = λ i d il dl. key_other 0 key x.put (kind m x.kind).dest x.lifted k.late k.put_out k.dest_out k.inside i d il dl 169 (inr (refl, refl))
          ∙ ap (λ (l : Length). same_length Forty l && ((((i == x.put) && (d == (kind m x.kind).dest)) || false) && ltb x.lifted (kind m x.kind).dest)) (sym e);
    }
    by Forty e k = record {
      short = λ i d il dl. key_other 169 key x.put (kind m x.kind).dest x.lifted k.late k.put_out k.dest_out k.inside i d il dl 0 (inl (refl, refl))
          ∙ ap (λ (l : Length). same_length Twenty l && ((((i == x.put) && (d == (kind m x.kind).dest)) || false) && ltb x.lifted (kind m x.kind).dest)) (sym e);
      long = λ i d il dl. key_same 169 key x.put (kind m x.kind).dest x.lifted k.late k.put_out k.dest_out k.inside i d il dl (omega arith)
          ∙ ap (λ (l : Length). same_length Forty l && ((((i == x.put) && (d == (kind m x.kind).dest)) || false) && ltb x.lifted (kind m x.kind).dest)) (sym e);
    }
