use Rattle.std.proofs.Common.{◌≡◌, ◌++◌, ◌∷◌, ℕ, List, drop, length, length-drop, refl, subst, sym, ap, ◌∙◌, arith}
use Rattle.std.specs.Prelude.{All}
use Rattle.certificate.specs.declared.words.Token.{Token}
use Rattle.certificate.specs.declared.words.Token.TheVariants.{Word}
use Rattle.certificate.specs.Reading.{closed, IsToken}
use Rattle.certificate.proofs.Joined.{no_words, no_key, no_joined, joined, joined_fits, no_bare, closed_none}
use Rattle.certificate.proofs.line_reader.read_line.Goals as goal

pub returns-in_default-clause-none : goal.returns-in_default-clause-none
returns-in_default-clause-none c = λ none. no_words (drop c.args.from c.args.bytes.now) (c.in_default.ensures.none refl)

pub returns-in_default-split_first-clause-none : goal.returns-in_default-split_first-clause-none
returns-in_default-split_first-clause-none c = λ none.
    let z : length c.in-Some.words.items ≡ 0 = ap length (sym c.as_slice.ensures.value) ∙ c.in_default-split_first.ensures.cases in
    no_bare (drop c.args.from c.args.bytes.now) (drop c.in-Some.next c.args.bytes.now) (c.in-Some.ensures.text ∙ ap (λ (x : List ℕ). x ++ drop c.in-Some.next c.args.bytes.now) (closed_none c.in-Some.words.items z))
    (omega (arith, length-drop c.in-Some.next c.args.bytes.now, length-drop c.args.from c.args.bytes.now, c.in-Some.ensures.next))

pub returns-in_default-first : goal.returns-in_default-first
returns-in_default-first c =
    let w : c.in-Some.words.items ≡ c.in-Some-split_first.first.now ∷ c.in-Some-split_first.rest.now = sym c.as_slice.ensures.value ∙ c.in-Some-split_first.ensures.cases.0 in
    record { none = λ none. no_key (drop c.args.from c.args.bytes.now) (drop c.in-Some.next c.args.bytes.now) c.in-Some-split_first.first.now c.in-Some-split_first.rest.now (subst (All IsToken) w c.in-Some.ensures.words) (c.in-Some.ensures.text ∙ ap (λ (ts : List Token). closed ts ++ drop c.in-Some.next c.args.bytes.now) w) c.in_default-first.not-Word; text = tt; line = tt; next = tt }

pub returns-in_default-line_of-clause-none : goal.returns-in_default-line_of-clause-none
returns-in_default-line_of-clause-none c = λ none.
    let w : c.in-Some.words.items ≡ c.in-Some-split_first.first.now ∷ c.in-Some-split_first.rest.now = sym c.as_slice.ensures.value ∙ c.in-Some-split_first.ensures.cases.0 in
    let k : c.in-Some.words.items ≡ Word c.in-Word.key ∷ c.in-Some-split_first.rest.now = w ∙ ap (λ (t : Token). t ∷ c.in-Some-split_first.rest.now) c.in-Word.is in
    no_joined (drop c.args.from c.args.bytes.now) (drop c.in-Some.next c.args.bytes.now) c.in-Word.key c.in-Some-split_first.rest.now (subst (All IsToken) k c.in-Some.ensures.words) (c.in-Some.ensures.text ∙ ap (λ (ts : List Token). closed ts ++ drop c.in-Some.next c.args.bytes.now) k) c.in_default-line_of.ensures

pub returns-clause-text : goal.returns-clause-text
returns-clause-text c =
    let w : c.in-Some.words.items ≡ c.in-Some-split_first.first.now ∷ c.in-Some-split_first.rest.now = sym c.as_slice.ensures.value ∙ c.in-Some-split_first.ensures.cases.0 in
    let k : c.in-Some.words.items ≡ Word c.in-Word.key ∷ c.in-Some-split_first.rest.now = w ∙ ap (λ (t : Token). t ∷ c.in-Some-split_first.rest.now) c.in-Word.is in
    joined (drop c.args.from c.args.bytes.now) (drop c.in-Some.next c.args.bytes.now) c.in-Word.key c.in-Some-split_first.rest.now c.in-Some-line_of.line (subst (All IsToken) k c.in-Some.ensures.words) (c.in-Some.ensures.text ∙ ap (λ (ts : List Token). closed ts ++ drop c.in-Some.next c.args.bytes.now) k) c.in-Some-line_of.ensures.0 c.in-Some-line_of.ensures.1

pub returns-clause-line : goal.returns-clause-line
returns-clause-line c =
    let w : c.in-Some.words.items ≡ c.in-Some-split_first.first.now ∷ c.in-Some-split_first.rest.now = sym c.as_slice.ensures.value ∙ c.in-Some-split_first.ensures.cases.0 in
    let k : c.in-Some.words.items ≡ Word c.in-Word.key ∷ c.in-Some-split_first.rest.now = w ∙ ap (λ (t : Token). t ∷ c.in-Some-split_first.rest.now) c.in-Word.is in
    joined_fits c.in-Word.key c.in-Some-split_first.rest.now c.in-Some-line_of.line (subst (All IsToken) k c.in-Some.ensures.words) c.in-Some-line_of.ensures.1 c.in-Some-line_of.ensures.2
