-- A document whose lines stand one after the other, without empty lines, is read as its expressions.
use Rattle.std.proofs.Common.{◌≡◌, ℕ, suc, ◌-◌, ◌<◌, true, false, ◌==◌, List, [], ◌∷◌, ◌++◌, length, Option, Some, None, refl, sym, ap, ◌∙◌, arith, append_assoc}
use Rattle.std.specs.Prelude.{option_and_then}
use Rattle.std.proofs.lemmas.Bool.Decides.{nat_tests}
use Rattle.toml_parser.specs.Lexical.{first, skip_blank}
use Rattle.toml_parser.proofs.LexicalLemmas.{skip_from-nil}
use Rattle.toml.specs.Tables.{Document, Expression, define, no_nodes, close}
use Rattle.toml.specs.Parse.{line, lines, skip_bom, parse_document}
use Rattle.toml.specs.Text.{IsLineText}
use Rattle.toml.proofs.Turns.{lines_end, lines_more, lines_refused, document_some}
use Rattle.toml.proofs.Blanks.{skip_newline, skip_within}
use Rattle.toml.proofs.ReadLines.{run, AllPrinted, line_turn}

-- the text writes the expressions, each on a line of its own, with no line between
abbrev pub Bare : List Expression → List ℕ → Type 0
Bare [] text = text ≡ []
Bare (e ∷ es) text = (this : List ℕ) × (rest : List ℕ) × (text ≡ this ++ rest) × IsLineText false false e.0 e.1 this × Bare es rest

pub Bare-append : (es fs : List Expression) (t u : List ℕ) → Bare es t → Bare fs u → Bare (es ++ fs) (t ++ u)
Bare-append [] fs t u a b = rw a b
Bare-append (e ∷ es) fs t u a b =
    let (this, rest, whole, text, more) = a in
    (this, rest ++ u, rw whole (append_assoc this rest u), text, Bare-append es fs rest u more b)

pub AllPrinted-append : (es fs : List Expression) → AllPrinted es → AllPrinted fs → AllPrinted (es ++ fs)
AllPrinted-append [] fs a b = b
AllPrinted-append (e ∷ es) fs a b = (a.0, AllPrinted-append es fs a.1 b)

-- one line more
read_step : (m : ℕ) (doc : Document) (x : List ℕ) (e : Expression) (after : List ℕ) (es : List Expression) (defined : Option Document) → defined ≡ define doc e → 0 < m → (length (skip_blank x) == 0) ≡ false
    → line (skip_blank x) ≡ Some (e, after) → ((next : Document) → lines (m - 1) next after ≡ option_and_then (λ n. run n es) (Some next)) → lines m doc x ≡ option_and_then (λ n. run n es) defined
read_step m doc x e after es None same some other read more = lines_refused m doc x e after some other read (sym same)
read_step m doc x e after es (Some next) same some other read more = lines_more m doc next x e after some other read (sym same) ∙ more next

pub read_bare : (es : List Expression) (text x : List ℕ) (doc : Document) (m : ℕ) → Bare es text → AllPrinted es → skip_blank x ≡ skip_blank text → length x < m → lines m doc x ≡ run doc es
read_bare [] text x doc m h ok skip room =
    lines_end m doc x (omega arith) (rw (skip, h, skip_from-nil true false) refl)
read_bare (e ∷ es) text x doc m h ok skip room =
    let (this, rest, whole, line_text, more) = h in
    let (s, at_start, read, some, shorter, not_bom) = line_turn false false e.0 e.1 this rest line_text ok.0 in
    let same : skip_blank x ≡ s = skip ∙ rw whole at_start in
    let other : (length (skip_blank x) == 0) ≡ false = rw same (grind (arith, nat_tests)) in
    let within = skip_within x in
    read_step m doc x e (10 ∷ rest) es (define doc e) refl (omega arith) other (rw same read) (λ next. read_bare es rest (10 ∷ rest) next (m - 1) more ok.1 (skip_newline rest) (omega (arith, ap length same)))

-- a text whose first byte is no byte order mark is read whole
pub bare_document : (es : List Expression) (text : List ℕ) (doc : Document) → Bare es text → AllPrinted es → (first text == 239) ≡ false → run (no_nodes, []) es ≡ Some doc → parse_document text ≡ Some (close doc.0)
unfolding skip_bom
bare_document es text doc h ok start ran =
    document_some text doc (rw start (read_bare es text text (no_nodes, []) (suc (length text)) h ok refl (omega arith) ∙ ran))
