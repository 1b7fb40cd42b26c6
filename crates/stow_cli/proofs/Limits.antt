-- Lines of different limits differ.
use Rattle.std.proofs.Common.{◌≡◌, ℕ, ◌+◌, ◌<◌, List, [], ◌∷◌, ◌++◌, Option, Some, refl, sym, ap, ◌∙◌, arith}
use Rattle.std.specs.Prelude.{flat_map, slice_get}
use Rattle.std.proofs.lemmas.Fmt.{decimal_digit}
use Rattle.stow_data.specs.declared.limits.Limit.{Limit}
use Rattle.stow_data.specs.declared.limits.Limit.TheVariants.{Calls, Containers, Places, Variables, Rows, Certificate}
use Rattle.stow_report.specs.declared.lines.Line.{Line}
use Rattle.stow_report.specs.Refusals.{field_text, group_word, opening, refusal_text}
use Rattle.stow_report.specs.Inputs.{limit_line, limit_number}

small : (limit : Limit) → limit_number limit < 10
small Calls = omega arith
small Containers = omega arith
small Places = omega arith
small Variables = omega arith
small Rows = omega arith
small Certificate = omega arith

-- a refusal's text with these digits for its number
abbrev text_with : List ℕ → Line → List ℕ
text_with digits line = opening line.checked ++ group_word line.group ++ 32 ∷ digits ++ flat_map (λ f. 32 ∷ field_text f) line.fields ++ 10 ∷ []

-- what stands in a line where its limit's number is
abbrev digit_at : List ℕ → Option ℕ
digit_at text = slice_get text 14

digit_is : (limit : Limit) (n : ℕ) → digit_at (refusal_text (limit_line limit n)) ≡ Some (48 + limit_number limit)
digit_is limit n = ap (λ (digits : List ℕ). digit_at (text_with digits (limit_line limit n))) (decimal_digit (limit_number limit) (small limit))

same_digit : (a b : ℕ) → ◌≡◌ {A = Option ℕ} (Some a) (Some b) → a ≡ b
same_digit a b e = cc

same_limit : (limit : Limit) → 48 + limit_number limit ≡ 48 + limit_number Certificate → limit ≡ Certificate
same_limit Certificate e = refl
same_limit Calls e = absurd (omega (arith, e))
same_limit Containers e = absurd (omega (arith, e))
same_limit Places e = absurd (omega (arith, e))
same_limit Variables e = absurd (omega (arith, e))
same_limit Rows e = absurd (omega (arith, e))

-- only the line of a certificate's limit is that of a certificate
pub is_certificate : (limit : Limit) (n k : ℕ) → refusal_text (limit_line limit n) ≡ refusal_text (limit_line Certificate k) → limit ≡ Certificate
is_certificate limit n k e =
    same_limit limit (same_digit (48 + limit_number limit) (48 + limit_number Certificate) (sym (digit_is limit n) ∙ ap digit_at e ∙ digit_is Certificate k))
