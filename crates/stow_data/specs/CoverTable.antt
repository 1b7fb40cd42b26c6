-- The tables of the covers over and under the stacks.
use Rattle.std.specs.Prelude.{◌≡◌, ℕ, List, Option, Some, MatchOption, slice_get, Contains}
use Rattle.stow_data.specs.declared.geometry.Cover.{Cover}
use Rattle.stow_data.specs.declared.hatches.Naming.{Naming}
use Rattle.stow_data.specs.declared.hatches.Naming.TheVariants.{Under, On}

-- the stacks that a cover names in this way
abbrev pub listed : Naming → Cover → List ℕ
listed Under c = c.under
listed On c = c.on

-- cover k names stack s in this way
pub record Names (covers : List Cover) (naming : Naming) (s k : ℕ) : Type 0 where
  pub cover : Cover
  pub is_cover : slice_get covers k ≡ Some cover
  pub named : Contains (listed naming cover) s

-- the table leads from each stack to a cover that names it
pub record IsCoverTable (covers : List Cover) (naming : Naming) (table : List (Option ℕ)) : Type 0 where
  pub leads : (s : ℕ) (entry : Option ℕ) → slice_get table s ≡ Some entry → MatchOption entry ((k : ℕ) → Names covers naming s k → ⊥) (λ k. Names covers naming s k)
