-- A box that is divided by a record's end.
use Rattle.std.proofs.Common.{◌≡◌, ◌≢◌, ℕ, ◌<◌, Bool, length, Option, Some, None, sym, subst, ◌∙◌, ap, arith}
use Rattle.std.specs.Prelude.{slice_get}
use Rattle.std.proofs.lemmas.Option.{slice_get-get_or}
use Rattle.zero_one_rows.specs.declared.program.Var.{Var}
use Rattle.zero_one_rows.specs.Variables.{Voyage, variables, var}
use Rattle.zero_one_rows.specs.Rows.{whole}
use Rattle.proof_trees.specs.Boxes.{Box, at, fixed}
use Rattle.certificate.specs.declared.tree.End.{End}
use Rattle.certificate.specs.declared.tree.End.TheVariants.{Leaf, Left, Branch}
use Rattle.certificate.specs.Entries.{end_of, number_of}
use Rattle.search_core.specs.Journals.{divided}
use Rattle.search_core.specs.Machine.{Divides}
use Rattle.node_work.proofs.Numbered.{number_is, number_none}

module _ (m : Voyage) (b : Box) where
  pub never_leaf : (e : End) → e ≡ Leaf → Divides (whole m) b (end_of (number_of m) e) → ⊥
  never_leaf e is h = subst (λ (f : End). Divides (whole m) b (end_of (number_of m) f)) is h

  pub never_left : (e : End) → e ≡ Left → Divides (whole m) b (end_of (number_of m) e) → ⊥
  never_left e is h = subst (λ (f : End). Divides (whole m) b (end_of (number_of m) f)) is h

  module _ (e : End) (v : Var) (is : e ≡ Branch v) (divides : Divides (whole m) b (end_of (number_of m) e)) where
    here : (number_of m v < length (variables m)) × (at b (number_of m v) ≡ None)
    here = subst (λ (f : End). Divides (whole m) b (end_of (number_of m) f)) is divides

    pub always_numbered : ((x : ℕ) → x < length (variables m) → var m x ≢ v) → ⊥
    always_numbered other = let h = here.0 in omega (arith, number_none m v other)

    module _ (x : ℕ) (lt : x < length (variables m)) (at_x : var m x ≡ v) where
      number : number_of m v ≡ x
      number = number_is m v x lt at_x

      pub is_free : length b ≡ length (variables m) → slice_get b x ≡ Some None
      is_free len = slice_get-get_or b x None (omega arith) ∙ ap (λ (o : Option Bool). Some o) (subst (λ (k : ℕ). at b k ≡ None) number here.1)

      pub half_is : (y : Bool) → fixed b x y ≡ divided b (end_of (number_of m) e) y
      half_is y = ap (λ (k : ℕ). fixed b k y) (sym number) ∙ ap (λ (f : End). divided b (end_of (number_of m) f) y) (sym is)
