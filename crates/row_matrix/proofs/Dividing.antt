-- The coefficient of a variable is what it counts in the one sum of the row that holds it.
use Rattle.std.proofs.Common.{◌≡◌, ◌⊎◌, inl, inr, ⊎_elim, Bool, true, false, ◌&&◌, Option, Some, None, ℤ, pos, ◌+ℤ◌, refl, sym, ◌∙◌, ap, subst, arith}
use Rattle.std.proofs.lemmas.Bool.{both_ways}
use Rattle.std.proofs.lemmas.Option.{same_Some}
use borrow.Author.Differences.{ints}
use Rattle.proof_trees.specs.Program.{where_set}
use Rattle.zero_one_rows.specs.declared.program.Var.{Var}
use Rattle.zero_one_rows.specs.declared.program.Row.{Row}
use Rattle.zero_one_rows.specs.Variables.{Voyage, is_var}
use Rattle.zero_one_rows.specs.Rows.{coef, has, is_base}
use Rattle.row_sums.specs.declared.sums.Sign.{Sign}
use Rattle.row_sums.specs.declared.sums.Sign.TheVariants.{Plus, Minus}
use Rattle.row_sums.specs.declared.sums.Part.{Part}
use Rattle.row_sums.specs.declared.sums.Parts.{Parts}
use Rattle.row_sums.specs.Sums.{parts, holds, counts, in_part, signed}
use Rattle.row_sums.specs.Laws.{HasParts, AreSums, ShareNone, in_second}
use Rattle.row_matrix.specs.Parted.{IsPart}

-- a fact on each signed sum of a row
abbrev pub OnSecond : (Part → Type 0) → Option Part → Type 0
OnSecond P None = Unit {0}
OnSecond P (Some q) = P q

abbrev pub OnParts : (Part → Type 0) → Option Parts → Type 0
OnParts P None = Unit {0}
OnParts P (Some ps) = P ps.first × OnSecond P ps.second

pub on_part : (P : Part → Type 0) (m : Voyage) (r : Row) (q : Part) → OnParts P (parts m r) → IsPart m r q → P q
on_part P m r q h i =
    let f : OnParts P (Some i.all) = subst (OnParts P) i.are h in
    ⊎_elim (λ (e : q ≡ i.all.first). subst P (sym e) f.0) (λ (e : i.all.second ≡ Some q). subst (OnSecond P) e f.1) i.which

signed_none : (s : Sign) → signed s (pos 0) ≡ pos 0
signed_none Plus = refl
signed_none Minus = refl

held : (m : Voyage) (q : Part) (x : Var) → holds m q.sum x ≡ true → in_part m q x ≡ signed q.sign (pos (counts m q.sum x))
held m q x h = ap (λ (b : Bool). signed q.sign (where_set b (pos (counts m q.sum x)))) h

missed : (m : Voyage) (q : Part) (x : Var) → holds m q.sum x ≡ false → in_part m q x ≡ pos 0
missed m q x h = ap (λ (b : Bool). signed q.sign (where_set b (pos (counts m q.sum x)))) h ∙ signed_none q.sign

pub right_false : (a b : Bool) → (a && b) ≡ false → a ≡ true → b ≡ false
right_false true b h e = h
right_false false b h e = absurd (both_ways false refl e)

left_false : (a b : Bool) → (a && b) ≡ false → b ≡ true → a ≡ false
left_false false b h e = refl
left_false true b h e = absurd (both_ways b h e)

module _ (sums : AreSums) (share : ShareNone) (m : Voyage) (r : Row) (x : Var) (there : has m r ≡ true) (var : is_var m x ≡ true) where
  second_missed : (ps : Parts) (o : Option Part) → parts m r ≡ Some ps → ps.second ≡ o → holds m ps.first.sum x ≡ true → in_second m o x ≡ pos 0
  second_missed ps None e f h = refl
  second_missed ps (Some p) e f h = missed m p x (right_false (holds m ps.first.sum x) (holds m p.sum x) (share m r ps p there e f x var) h)

  first_missed : (ps : Parts) (q : Part) → parts m r ≡ Some ps → ps.second ≡ Some q → holds m q.sum x ≡ true → in_part m ps.first x ≡ pos 0
  first_missed ps q e f h = missed m ps.first x (left_false (holds m ps.first.sum x) (holds m q.sum x) (share m r ps q there e f x var) h)

  -- the sum that holds it
  pub coef_at : (q : Part) → IsPart m r q → holds m q.sum x ≡ true → coef m r x ≡ signed q.sign (pos (counts m q.sum x))
  coef_at q i h = ⊎_elim
      (λ (e : q ≡ i.all.first).
      let k : holds m i.all.first.sum x ≡ true = subst (λ (p : Part). holds m p.sum x ≡ true) e h in
      let z : in_second m i.all.second x ≡ pos 0 = second_missed i.all i.all.second i.are refl k in
      let f : in_part m i.all.first x ≡ signed q.sign (pos (counts m q.sum x)) = held m i.all.first x k ∙ ap (λ (p : Part). signed p.sign (pos (counts m p.sum x))) (sym e) in
      let c : coef m r x ≡ in_part m i.all.first x +ℤ in_second m i.all.second x = sums m r i.all there i.are x in
      c ∙ ap (λ (y : ℤ). in_part m i.all.first x +ℤ y) z ∙ none_more (in_part m i.all.first x) ∙ f)
      (λ (e : i.all.second ≡ Some q).
      let z : in_part m i.all.first x ≡ pos 0 = first_missed i.all q i.are e h in
      let f : in_second m i.all.second x ≡ signed q.sign (pos (counts m q.sum x)) = ap (λ (o : Option Part). in_second m o x) e ∙ held m q x h in
      sums m r i.all there i.are x ∙ ap (λ (y : ℤ). y +ℤ in_second m i.all.second x) z ∙ none_before (in_second m i.all.second x) ∙ f)
      i.which
    where
      none_more : (y : ℤ) → y +ℤ pos 0 ≡ y
      none_more y = omega (arith, ints)

      none_before : (y : ℤ) → pos 0 +ℤ y ≡ y
      none_before y = omega (arith, ints)

  -- no sum holds it, or one does
  pub coef_or : HasParts → is_base r ≡ true → (coef m r x ≡ pos 0) ⊎ ((q : Part) × IsPart m r q × (holds m q.sum x ≡ true))
  coef_or has_parts base = let p = has_parts m r base in by_first p.0 p.1 (holds m p.0.first.sum x) refl
    where
      none : (ps : Parts) → parts m r ≡ Some ps → in_part m ps.first x ≡ pos 0 → in_second m ps.second x ≡ pos 0 → coef m r x ≡ pos 0
      none ps e a b = sums m r ps there e x ∙ ap (λ (y : ℤ). y +ℤ in_second m ps.second x) a ∙ ap (λ (y : ℤ). pos 0 +ℤ y) b

      by_second : (ps : Parts) (o : Option Part) → parts m r ≡ Some ps → ps.second ≡ o → in_part m ps.first x ≡ pos 0 → (coef m r x ≡ pos 0) ⊎ ((q : Part) × IsPart m r q × (holds m q.sum x ≡ true))
      by_second ps None e f a = inl (none ps e a (ap (λ (o : Option Part). in_second m o x) f))
      by_second ps (Some q) e f a = by_held (holds m q.sum x) refl
        where
          by_held : (b : Bool) → holds m q.sum x ≡ b → (coef m r x ≡ pos 0) ⊎ ((q : Part) × IsPart m r q × (holds m q.sum x ≡ true))
          by_held true h = inr (q, record { all = ps; are = e; which = inr f }, h)
          by_held false h = inl (none ps e a (ap (λ (o : Option Part). in_second m o x) f ∙ missed m q x h))

      by_first : (ps : Parts) → parts m r ≡ Some ps → (b : Bool) → holds m ps.first.sum x ≡ b → (coef m r x ≡ pos 0) ⊎ ((q : Part) × IsPart m r q × (holds m q.sum x ≡ true))
      by_first ps e true h = inr (ps.first, record { all = ps; are = e; which = inl refl }, h)
      by_first ps e false h = by_second ps ps.second e refl (missed m ps.first x h)

  -- two sums that hold it are one
  pub one_sum : (p q : Part) → IsPart m r p → IsPart m r q → holds m p.sum x ≡ true → holds m q.sum x ≡ true → p ≡ q
  one_sum p q i j a b =
      let same : j.all ≡ i.all = same_Some j.all i.all (sym j.are ∙ i.are) in
      by i.which (⊎_elim (λ (e : q ≡ j.all.first). inl (e ∙ ap (λ (ps : Parts). ps.first) same)) (λ (e : j.all.second ≡ Some q). inr (sym (ap (λ (ps : Parts). ps.second) same) ∙ e)) j.which)
    where
      never : (f s : Part) → f ≡ i.all.first → i.all.second ≡ Some s → holds m f.sum x ≡ true → holds m s.sum x ≡ true → ⊥
      never f s e g h k = both_ways (holds m s.sum x) (right_false (holds m i.all.first.sum x) (holds m s.sum x) (share m r i.all s there i.are g x var) (subst (λ (u : Part). holds m u.sum x ≡ true) e h)) k

      by : (p ≡ i.all.first) ⊎ (i.all.second ≡ Some p) → (q ≡ i.all.first) ⊎ (i.all.second ≡ Some q) → p ≡ q
      by (inl e) (inl f) = e ∙ sym f
      by (inl e) (inr f) = absurd (never p q e f a b)
      by (inr e) (inl f) = absurd (never q p f e b a)
      by (inr e) (inr f) = same_Some p q (sym e ∙ f)
