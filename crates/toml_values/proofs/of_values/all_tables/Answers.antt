use Rattle.std.proofs.Common.{rules, ◌≡◌, ◌∙◌, ◌&&◌, is_ok, ap, refl, Bool, List, [], ◌∷◌}
use Rattle.std.specs.List.{list_all}
use Rattle.std.proofs.lemmas.Iterator.{YieldsList-from_slice}
use Rattle.std.proofs.lemmas.Iterator.Search.{all_from_yields_List}
use Rattle.toml.specs.declared.value.Value.{Value}
use Rattle.toml.specs.View.{view, items_view}
use Rattle.toml_values.specs.Values.{table_of}
use Rattle.toml_values.specs.Arrays.{all_tables}
use Rattle.toml_values.proofs.of_values.all_tables.Goals as goal

-- of each item as of the list
each : (vs : List Value) → list_all (λ v. is_ok (table_of (view v))) vs ≡ all_tables (items_view vs)
each [] = refl
each (v ∷ vs) = ap (λ (b : Bool). is_ok (table_of (view v)) && b) (each vs)

pub returns : goal.returns
returns c = all_from_yields_List (λ v. is_ok (table_of (view v))) _ _ _ c.all.ensures.ran (YieldsList-from_slice _ c.iter.ensures.rest) (λ x b q k. search rules) ∙ ap (list_all (λ v. is_ok (table_of (view v)))) c.deref.ensures.value ∙ each c.args.array.now.items
