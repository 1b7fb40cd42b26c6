use Rattle.std.proofs.Common.{◌≡◌, true, false, Some, ap, sym, ◌∙◌}
use Rattle.std.specs.Str.{is_utf8}
use Rattle.std.proofs.lemmas.Bool.{false_from_ne_true}
use Rattle.std.proofs.lemmas.Str.{IsUtf8-from_is_utf8, is_utf8-from_IsUtf8}
use Rattle.toml.specs.Parse.{parse_document}
use Rattle.toml.specs.View.{table_view}
use Rattle.toml_values.proofs.parsing.document.Goals as goal

pub returns-in_default-clause-refused : goal.returns-in_default-clause-refused
returns-in_default-clause-refused c =
    let no : is_utf8 c.args.bytes.now ≡ false = false_from_ne_true _ (λ h. c.in_default.ensures.cases.0 (IsUtf8-from_is_utf8 _ h)) in
    λ _. rw no

pub returns-in-Ok-table_from_str-clause-read : goal.returns-in-Ok-table_from_str-clause-read
returns-in-Ok-table_from_str-clause-read c =
    let yes : is_utf8 c.args.bytes.now ≡ true = is_utf8-from_IsUtf8 _ c.in-Ok.ensures.cases.1 in
    let same : parse_document c.args.bytes.now ≡ Some (table_view c.in-Ok-table_from_str.top) = ap parse_document (sym c.in-Ok.ensures.cases.0) ∙ c.in-Ok-table_from_str.ensures.ok in
    rw yes same
