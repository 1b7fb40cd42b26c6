-- A box that is divided by a record's end.
use Rattle.std.proofs.Common.{◌≡◌, ◌≢◌, ℕ, zero, suc, ◌<◌, ◌≤◌, ◌⊎◌, inl, inr, Bool, true, false, List, length, replicate, set, get_or, Option, Some, None, refl, sym, subst, ◌∙◌, ap, arith}
use Rattle.std.specs.Prelude.{slice_get}
use Rattle.std.proofs.lemmas.Option.{slice_get-get_or, get_or_from_slice_get}
use Rattle.std.proofs.lemmas.List.{ext_get_or, length-replicate, length-set, get_or-set_same, get_or-set_other}
use Rattle.zero_one_rows.specs.declared.program.Var.{Var}
use Rattle.zero_one_rows.specs.Variables.{Voyage, variables, var}
use Rattle.zero_one_rows.specs.Rows.{whole}
use Rattle.zero_one_rows.specs.declared.program.Row.{Row}
use Rattle.proof_trees.specs.Boxes.{Box, at, fixed, free_box, tightened}
use Rattle.proof_trees.specs.Trees.{End as Ends, Leaf as Whole, Left as Open, Branch as Halved}
use Rattle.proof_trees.proofs.Duality.{length_tightened}
use Rattle.certificate.specs.declared.tree.End.{End}
use Rattle.certificate.specs.declared.tree.End.TheVariants.{Leaf, Left, Branch}
use Rattle.certificate.specs.Entries.{end_of, number_of}
use Rattle.search_core.specs.Journals.{divided, branches}
use Rattle.search_core.specs.Machine.{Divides}
use Rattle.bound_checker.proofs.Numbered.{number_is, number_none}
use Rattle.dual_bound.proofs.Summing.{same_or_other}

-- ## All variables freed, one after the other

pub freed_one : (b : Box) (v j : ℕ) → v < length b → ((i : ℕ) → i < v → at b i ≡ None) → j < suc v → at (set b v None) j ≡ None
freed_one b v j lt free below = by (same_or_other j v)
  where
    by : (j ≡ v) ⊎ (j ≢ v) → at (set b v None) j ≡ None
    by (inl same) = ap (at (set b v None)) same ∙ get_or-set_same b v None None lt
    by (inr other) = get_or-set_other b v j None None other ∙ free j (omega (arith, other))

none_at : (n j : ℕ) → get_or {A = Option Bool} (replicate n None) j None ≡ None
none_at zero j = refl
none_at (suc n) zero = refl
none_at (suc n) (suc j) = none_at n j

pub all_free : (m : Voyage) (b : Box) (v : ℕ) → length b ≡ length (variables m) → length (variables m) ≤ v → ((i : ℕ) → i < v → at b i ≡ None) → b ≡ free_box (whole m)
all_free m b v len le free = ext_get_or None b (free_box (whole m)) (len ∙ sym (length-replicate (length (variables m)) None)) (λ i lt. free i (omega (arith, len, le, lt)) ∙ sym (none_at (length (variables m)) i))

length_divided : (b : Box) (e : Ends) (y : Bool) → length (divided b e y) ≡ length b
length_divided b Whole y = refl
length_divided b Open y = refl
length_divided b (Halved v) y = length-set b v (Some y)

pub length_followed : (m : Voyage) (b : Box) (rows : List Row) (e : Ends) (y : Bool) → length b ≡ length (variables m) → length (divided (tightened (whole m) b rows) e y) ≡ length (variables m)
length_followed m b rows e y len = length_divided (tightened (whole m) b rows) e y ∙ length_tightened (whole m) b rows len

module _ (m : Voyage) where
  -- an end that isn't a leaf's, and one that isn't a branch's
  pub no_leaf : (e : End) → (e ≡ Left) ⊎ ((v : Var) × (e ≡ Branch v)) → end_of (number_of m) e ≡ Whole → ⊥
  no_leaf e (inl is) h = let no : Open ≡ Whole = sym (ap (end_of (number_of m)) is) ∙ h in cc
  no_leaf e (inr is) h = let no : Halved (number_of m is.0) ≡ Whole = sym (ap (end_of (number_of m)) is.1) ∙ h in cc

  pub no_branch : (e : End) → (e ≡ Leaf) ⊎ (e ≡ Left) → branches (end_of (number_of m) e) ≡ true → ⊥
  no_branch e (inl is) h = let no : false ≡ true = sym (ap (λ (f : End). branches (end_of (number_of m) f)) is) ∙ h in cc
  no_branch e (inr is) h = let no : false ≡ true = sym (ap (λ (f : End). branches (end_of (number_of m) f)) is) ∙ h in cc

module _ (m : Voyage) (b : Box) where
  never_leaf : (e : End) → e ≡ Leaf → Divides (whole m) b (end_of (number_of m) e) → ⊥
  never_leaf e is h = subst (λ (f : End). Divides (whole m) b (end_of (number_of m) f)) is h

  never_left : (e : End) → e ≡ Left → Divides (whole m) b (end_of (number_of m) e) → ⊥
  never_left e is h = subst (λ (f : End). Divides (whole m) b (end_of (number_of m) f)) is h

  pub never_whole : (e : End) → (e ≡ Leaf) ⊎ (e ≡ Left) → Divides (whole m) b (end_of (number_of m) e) → ⊥
  never_whole e (inl is) h = never_leaf e is h
  never_whole e (inr is) h = never_left e is h

  module _ (e : End) (v : Var) (is : e ≡ Branch v) where
    here : Divides (whole m) b (end_of (number_of m) e) → (number_of m v < length (variables m)) × (at b (number_of m v) ≡ None)
    here divides = subst (λ (f : End). Divides (whole m) b (end_of (number_of m) f)) is divides

    pub always_numbered : ((x : ℕ) → x < length (variables m) → var m x ≢ v) → Divides (whole m) b (end_of (number_of m) e) → ⊥
    always_numbered other divides = let h = (here divides).0 in omega (arith, number_none m v other)

    module _ (x : ℕ) (lt : x < length (variables m)) (at_x : var m x ≡ v) where
      number : number_of m v ≡ x
      number = number_is m v x lt at_x

      pub is_free : Divides (whole m) b (end_of (number_of m) e) → length b ≡ length (variables m) → slice_get b x ≡ Some None
      is_free divides len = slice_get-get_or b x None (omega (arith, lt, len)) ∙ ap (λ (o : Option Bool). Some o) (subst (λ (k : ℕ). at b k ≡ None) number (here divides).1)

      pub half_is : (y : Bool) → fixed b x y ≡ divided b (end_of (number_of m) e) y
      half_is y = ap (λ (k : ℕ). fixed b k y) (sym number) ∙ ap (λ (f : End). divided b (end_of (number_of m) f) y) (sym is)

      -- the variable is free, or the end doesn't divide the box
      pub divides_free : slice_get b x ≡ Some None → Divides (whole m) b (end_of (number_of m) e)
      divides_free free = subst (λ (f : End). Divides (whole m) b (end_of (number_of m) f)) (sym is)
          (subst (λ (k : ℕ). k < length (variables m)) (sym number) lt, subst (λ (k : ℕ). at b k ≡ None) (sym number) (get_or_from_slice_get b x None None free))
