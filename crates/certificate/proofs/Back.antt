-- A line, told by its words.
use Rattle.std.proofs.Common.{◌≡◌, ◌<◌, ◌+◌, ◌-◌, ℕ, true, false, List, [], ◌∷◌, ◌++◌, length, map, pos, negsuc, Some, None, refl, sym, ◌∙◌, ap, arith, length-append}
use Rattle.std.specs.Prelude.{Option, All, ℤ}
use Rattle.zero_one_rows.specs.declared.program.Row.{Row}
use Rattle.certificate.specs.declared.tree.End.TheVariants as end
use Rattle.certificate.specs.declared.tree.Outcome.TheVariants as outcome
use Rattle.certificate.specs.declared.lines.Line.{Line}
use Rattle.certificate.specs.declared.lines.Line.TheVariants as line
use Rattle.certificate.specs.declared.words.Key.{Key}
use Rattle.certificate.specs.declared.words.Key.TheVariants as key
use Rattle.certificate.specs.declared.words.Token.{Token}
use Rattle.certificate.specs.declared.words.Token.TheVariants.{Word, Number, Minus}
use Rattle.certificate.specs.Text.{whole, numbers_of, line_text, text_of}
use Rattle.certificate.specs.Grammar.{IsEven}
use Rattle.certificate.specs.Reading.{row_of_two, row_of_three, row_of_four, row_of_chain, family_key, row_words, amount_word, bare_line, number_line, word_line, line_key, line_rest, IsLine, HasRanges}
use Rattle.certificate.proofs.Lists.{first_all, rest_all}
use Rattle.certificate.proofs.Parsed.{made}
use Rattle.certificate.proofs.Scanned.{same_closed}
use Rattle.certificate.proofs.Joined.{has_ranges, line_closed, line_fits}

-- ## Rows

row_made : Key → List ℕ → Option Row
row_made k [] = None
row_made k (a ∷ []) = None
row_made k (a ∷ b ∷ []) = row_of_two k a b
row_made k (a ∷ b ∷ c ∷ []) = row_of_three k a b c
row_made k (a ∷ b ∷ c ∷ d ∷ []) = row_of_four k a b c d
row_made k (l ∷ p ∷ a ∷ b ∷ c ∷ chain) = row_of_chain k l p (a ∷ b ∷ c ∷ chain)

row_back : (r : Row) → IsEven r → row_made (family_key r) (numbers_of r) ≡ Some r
unfolding row_made
row_back r even = made r (row_made (family_key r) (numbers_of r)) even (record {
  two = λ a b e. ap (row_made (family_key r)) e;
  three = λ a b c e. ap (row_made (family_key r)) e;
  four = λ a b c d e. ap (row_made (family_key r)) e;
  many = λ l p a b c chain e. ap (row_made (family_key r)) e;
})

number_of : Token → ℕ
number_of (Number n) = n
number_of (Word k) = 0
number_of (Minus n) = 0

numbers_back : (ns : List ℕ) → map number_of (map Number ns) ≡ ns
unfolding number_of
numbers_back [] = refl
numbers_back (n ∷ ns) = ap (λ (x : List ℕ). n ∷ x) (numbers_back ns)

row_from : List Token → Option Row
row_from (Word k ∷ ts) = row_made k (map number_of ts)
row_from _ = None

row_told : (r : Row) → IsEven r → row_from (row_words r) ≡ Some r
unfolding row_from
row_told r even = ap (row_made (family_key r)) (numbers_back (numbers_of r)) ∙ row_back r even

amount_from : Token → ℤ
amount_from (Number n) = pos n
amount_from (Minus n) = negsuc (n - 1)
amount_from (Word k) = pos 0

amount_told : (z : ℤ) → amount_from (amount_word z) ≡ z
unfolding amount_from
amount_told (pos n) = refl
amount_told (negsuc n) = let e : n + 1 - 1 ≡ n = omega arith in ap negsuc e

-- ## Lines

step_line : Option Row → Option Line
step_line (Some r) = Some (line.Step r)
step_line None = None

change_line : ℤ → Option Row → Option Line
change_line z (Some r) = Some (line.Change (record { row = r; amount = z }))
change_line z None = None

branch_line : List ℕ → Option Line
branch_line (a ∷ b ∷ c ∷ d ∷ []) = Some (line.Ends (end.Branch (record { put = a; kind = b; lifted = c; place = d })))
branch_line _ = None

short_line : Key → List Token → Option Line
short_line k [] = bare_line k
short_line k (Number n ∷ []) = number_line k n
short_line k (Word w ∷ []) = word_line k w
short_line k _ = None

change_from : List Token → Option Line
change_from [] = None
change_from (t ∷ ts) = change_line (amount_from t) (row_from ts)

line_from : Key → List Token → Option Line
line_from key.Step ts = step_line (row_from ts)
line_from key.Raise ts = change_from ts
line_from key.Branch ts = branch_line (map number_of ts)
line_from k ts = short_line k ts

line_told : (l : Line) → HasRanges l → line_from (line_key l) (line_rest l) ≡ Some l
unfolding line_from short_line step_line change_from change_line branch_line number_of
line_told line.Title h = refl
line_told (line.Outcome outcome.Optimal) h = refl
line_told (line.Outcome outcome.Gap) h = refl
line_told (line.Outcome outcome.NoPlan) h = refl
line_told (line.Outcome outcome.Undecided) h = refl
line_told (line.Rehandles None) h = refl
line_told (line.Rehandles (Some n)) h = refl
line_told (line.Bound n) h = refl
line_told (line.Nodes n) h = refl
line_told (line.Node false) h = refl
line_told (line.Node true) h = refl
line_told (line.Step r) h = ap step_line (row_told r h.even)
line_told (line.Change r) h = ap (change_line (amount_from (amount_word r.amount))) (row_told r.row h.row.even) ∙ ap (λ (z : ℤ). Some (line.Change (record { row = r.row; amount = z }))) (amount_told r.amount)
line_told (line.Ends end.Leaf) h = refl
line_told (line.Ends end.Left) h = refl
line_told (line.Ends (end.Branch x)) h = refl
line_told line.Close h = refl

some_same : (l m : Line) → Some l ≡ Some m → l ≡ m
some_same l m e = cc

-- ## One line and one list of lines at the front of a text

pub record SameFront (l m : Line) (r s : List ℕ) : Type 0 where
  pub first : l ≡ m
  pub rest : r ≡ s

pub same_line : (l m : Line) (r s : List ℕ) → IsLine l → IsLine m → whole l ++ r ≡ whole m ++ s → SameFront l m r s
same_line l m r s p q e =
    let w = same_closed (Word (line_key l)) (line_rest l) (Word (line_key m)) (line_rest m) r s (line_fits l p) (line_fits m q)
    (ap (λ (x : List ℕ). x ++ r) (sym (line_closed l)) ∙ e ∙ ap (λ (x : List ℕ). x ++ s) (line_closed m)) in
    let h = w.first in
    let k : line_key l ≡ line_key m = cc in
    record {
      first = some_same l m (sym (line_told l (has_ranges l p)) ∙ ap (λ (z : Key). line_from z (line_rest l)) k ∙ ap (line_from (line_key m)) w.others ∙ line_told m (has_ranges m q));
      rest = w.rest;
    }

pub line_some : (l : Line) → 0 < length (whole l)
line_some l = omega (arith, length-append (line_text l) (10 ∷ []))

-- lines are told by their text
pub same_lines_of : (xs ys : List Line) → All IsLine xs → All IsLine ys → text_of xs ≡ text_of ys → xs ≡ ys
same_lines_of [] [] p q e = refl
same_lines_of [] (y ∷ ys) p q e = absurd (omega (arith, ap length e, line_some y, length-append (whole y) (text_of ys)))
same_lines_of (x ∷ xs) [] p q e = absurd (omega (arith, ap length e, line_some x, length-append (whole x) (text_of xs)))
same_lines_of (x ∷ xs) (y ∷ ys) p q e =
    let w = same_line x y (text_of xs) (text_of ys) (first_all IsLine x xs p) (first_all IsLine y ys q) e in
    let h = w.first in
    let t = same_lines_of xs ys (rest_all IsLine x xs p) (rest_all IsLine y ys q) w.rest in
    λ i. h i ∷ t i
