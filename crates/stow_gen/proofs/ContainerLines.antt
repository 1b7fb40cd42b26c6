-- The text of a container is its lines.
use Rattle.std.proofs.Common.{◌≡◌, ℕ, ◌<◌, ◌^◌, ◌/◌, Bool, true, false, List, [], ◌∷◌, ◌++◌, refl, sym, ap, ◌∙◌, arith, append_assoc, decimal}
use Rattle.std.specs.Prelude.{codes, pos, negsuc}
use Rattle.std.specs.List.{list_all}
use Rattle.std.proofs.lemmas.Bool.Decides.{nat_tests}
use Rattle.toml_writer.specs.Text.{key_text}
use Rattle.toml.specs.Data.{string, integer}
use Rattle.toml.specs.Tables.{Expression}
use Rattle.stow_data.specs.Digits.{digit}
use Rattle.stow_gen.specs.Words.{raw, told, seven_digits, only_if}
use Rattle.stow_gen.specs.MadeBookings.{id_of}
use Rattle.stow_gen.proofs.Numerals.{eighteen}
use Rattle.stow_gen.proofs.PlainStrings.{is_plain_byte}
use Rattle.stow_gen.proofs.Lines.{pair, header, number_line, text_line, header_line}
use Rattle.stow_gen.proofs.BareLines.{Bare}

-- the line of the temperature, where the container is cooled
abbrev pub temperature_lines : Bool → List Expression
temperature_lines true = pair (codes "temperature") (integer (negsuc 17)) ∷ []
temperature_lines false = []

-- the lines of a container
abbrev pub lines_of : ℕ → ℕ → ℕ → ℕ → Bool → List Expression
lines_of k load dest kg cooled =
    header (codes "container") ∷ pair (codes "id") (string (id_of k)) ∷ pair (codes "from") (integer (pos load)) ∷ pair (codes "to") (integer (pos dest))
    ∷ pair (codes "type") (string (codes "42G1")) ∷ pair (codes "kg") (integer (pos kg)) ∷ temperature_lines cooled

-- the text of a container, by its parts
abbrev pub text_of : ℕ → ℕ → ℕ → ℕ → Bool → List ℕ
text_of k load dest kg cooled =
    raw (codes "[[container]]\nid = \"GENU") ++ seven_digits k ++ (told (codes "\"\nfrom = ") load ++ told (codes "\nto = ") dest)
    ++ (told (codes "\ntype = \"42G1\"\nkg = ") kg ++ raw (codes "\n") ++ only_if cooled (codes "temperature = -18\n"))

digit_plain : (n : ℕ) → is_plain_byte (digit n) ≡ true
digit_plain n = grind (arith, nat_tests)

pub id_plain : (k : ℕ) → list_all is_plain_byte (id_of k) ≡ true
id_plain k = rw (digit_plain (k / 1000000), digit_plain (k / 100000), digit_plain (k / 10000), digit_plain (k / 1000), digit_plain (k / 100), digit_plain (k / 10), digit_plain k) refl

temperature_bare : (cooled : Bool) → Bare (temperature_lines cooled) (only_if cooled (codes "temperature = -18\n"))
unfolding raw key_text
temperature_bare true = (codes "temperature = -18\n", [], refl, (codes "-18", refl, (ap (λ t. 45 ∷ t) (sym eighteen), omega arith)), refl)
temperature_bare false = refl

-- the parts of a text, grouped by lines
by_lines : (from to kg rest : List ℕ)
    → (codes "from = " ++ from ++ (codes "\nto = " ++ to)) ++ ((codes "\ntype = \"42G1\"\nkg = " ++ kg) ++ codes "\n" ++ rest)
    ≡ (codes "from" ++ (codes " = " ++ (from ++ 10 ∷ []))) ++ ((codes "to" ++ (codes " = " ++ (to ++ 10 ∷ []))) ++ (codes "type = \"42G1\"\n" ++ ((codes "kg" ++ (codes " = " ++ (kg ++ 10 ∷ []))) ++ rest)))
by_lines from to kg rest =
    let more = codes "type = \"42G1\"\nkg = " ++ ((kg ++ 10 ∷ []) ++ rest) in
    ap (λ t. codes "from = " ++ t) (append_assoc from (codes "\nto = " ++ to) (10 ∷ more)
    ∙ ap (λ t. from ++ (codes "\nto = " ++ t)) (sym (append_assoc to (10 ∷ []) more))
    ∙ sym (append_assoc from (10 ∷ []) (codes "to = " ++ ((to ++ 10 ∷ []) ++ more))))

pub container_bare : (k load dest kg : ℕ) (cooled : Bool) → load < 2 ^ 63 → dest < 2 ^ 63 → kg < 2 ^ 63 → Bare (lines_of k load dest kg cooled) (text_of k load dest kg cooled)
unfolding raw key_text
container_bare k load dest kg cooled a b c = (
  _,
  _,
  ap (λ t. codes "[[container]]\nid = \"GENU" ++ seven_digits k ++ codes "\"\n" ++ t) (by_lines (decimal load) (decimal dest) (decimal kg) (only_if cooled (codes "temperature = -18\n"))),
  header_line (codes "container") (codes "container") refl,
  (
    _,
    _,
    refl,
    text_line (codes "id") (codes "id") (id_of k) refl (id_plain k),
    (
      _,
      _,
      refl,
      number_line (codes "from") (codes "from") load refl a,
      (
        _,
        _,
        refl,
        number_line (codes "to") (codes "to") dest refl b,
        (
          _,
          _,
          refl,
          text_line (codes "type") (codes "type") (codes "42G1") refl refl,
          (
            _,
            only_if cooled (codes "temperature = -18\n"),
            refl,
            number_line (codes "kg") (codes "kg") kg refl c,
            temperature_bare cooled,
          ),
        ),
      ),
    ),
  ),
)
