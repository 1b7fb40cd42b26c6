-- Lines of words.
use Rattle.std.proofs.Common.{◌≡◌, ◌≢◌, ◌<◌, ◌≤◌, ◌^◌, ◌+◌, ℕ, suc, true, false, List, [], ◌∷◌, ◌++◌, length, map, pos, negsuc, Some, None, refl, sym, ◌∙◌, ap, subst, arith, append_assoc}
use Rattle.std.specs.Prelude.{Option, All, IfSome, MatchOption, codes, unsigned_abs, ℤ}
use Rattle.std.specs.Fmt.{decimal, signed_decimal}
use Rattle.std.proofs.lemmas.Fmt.{decimal_digit}
use Rattle.zero_one_rows.specs.declared.program.Row.{Row}
use Rattle.zero_one_rows.specs.declared.program.Row.TheVariants.{Flow, Start, Cell, Support, Twenty, Block, Hatch, Weight, Apart, Cross}
use Rattle.zero_one_rows.specs.declared.program.Raise.{Raise}
use Rattle.certificate.specs.declared.tree.End.TheVariants as end
use Rattle.certificate.specs.declared.tree.Outcome.TheVariants as outcome
use Rattle.certificate.specs.declared.lines.Line.{Line}
use Rattle.certificate.specs.declared.lines.Line.TheVariants as line
use Rattle.certificate.specs.declared.words.Key.{Key}
use Rattle.certificate.specs.declared.words.Key.TheVariants as key
use Rattle.certificate.specs.declared.words.Token.{Token}
use Rattle.certificate.specs.declared.words.Token.TheVariants.{Word, Number}
use Rattle.certificate.specs.Text.{whole, numbers, numbers_of, family, line_text}
use Rattle.certificate.specs.Grammar.{IsRow, IsEven}
use Rattle.certificate.specs.Reading.{key_text, token_text, tail_text, closed, IsToken, IsNoLine, family_key, row_words, change_words, amount_word, outcome_key, bare_line, number_line, word_line, line_key, line_rest, IsLine, HasRanges, HasNoLine}
use Rattle.certificate.proofs.Lists.{first_all, rest_all, none_all, one_all, both_all}
use Rattle.certificate.proofs.Parsed.{length_numbers}
use Rattle.certificate.proofs.Scanned.{SameLine, same_closed}

-- ## The line of a key

-- what the line of a key and at most one word is
pub record Short (k : Key) (rest : List Token) (result : Option Line) : Type 0 where
  pub bare : rest ≡ [] → result ≡ bare_line k
  pub number : (n : ℕ) → rest ≡ Number n ∷ [] → result ≡ number_line k n
  pub word : (w : Key) → rest ≡ Word w ∷ [] → result ≡ word_line k w

short_made : (l : Line) (result : Option Line) → (line_key l ≡ key.Step → ⊥) → (line_key l ≡ key.Raise → ⊥) → (line_key l ≡ key.Branch → ⊥) → Short (line_key l) (line_rest l) result → result ≡ Some l
short_made line.Title result s t b m = m.number 1 refl
short_made (line.Outcome outcome.Optimal) result s t b m = m.word key.Optimal refl
short_made (line.Outcome outcome.Gap) result s t b m = m.word key.Gap refl
short_made (line.Outcome outcome.NoPlan) result s t b m = m.word key.NoPlan refl
short_made (line.Outcome outcome.Undecided) result s t b m = m.word key.Undecided refl
short_made (line.Rehandles None) result s t b m = m.word key.None refl
short_made (line.Rehandles (Some n)) result s t b m = m.number n refl
short_made (line.Bound n) result s t b m = m.number n refl
short_made (line.Nodes n) result s t b m = m.number n refl
short_made (line.Node false) result s t b m = m.number 0 refl
short_made (line.Node true) result s t b m = m.number 1 refl
short_made (line.Step r) result s t b m = absurd (s refl)
short_made (line.Change r) result s t b m = absurd (t refl)
short_made (line.Ends end.Leaf) result s t b m = m.bare refl
short_made (line.Ends end.Left) result s t b m = m.bare refl
short_made (line.Ends (end.Branch x)) result s t b m = absurd (b refl)
short_made line.Close result s t b m = m.bare refl

abbrev IsNothing : Option Line → Type 0
IsNothing None = Unit {0}
IsNothing (Some l) = ⊥

pub short_answer : (k : Key) (rest : List Token) (result : Option Line) → (k ≡ key.Step → ⊥) → (k ≡ key.Raise → ⊥) → (k ≡ key.Branch → ⊥) → Short k rest result
    → IfSome result (λ l. (line_key l ≡ k) × (line_rest l ≡ rest) × HasRanges l)
    → MatchOption result ((l : Line) → HasRanges l → line_key l ≡ k → line_rest l ≢ rest) (λ l. (line_key l ≡ k) × (line_rest l ≡ rest) × HasRanges l)
short_answer k rest (Some l) s t b m found = found
short_answer k rest None s t b m found = λ l h is same.
    let m' : Short (line_key l) (line_rest l) None = subst (λ (z : Key). Short z (line_rest l) None) (sym is) (subst (λ (z : List Token). Short k z None) (sym same) m) in
    absurd (subst IsNothing (short_made l None (λ e. s (sym is ∙ e)) (λ e. t (sym is ∙ e)) (λ e. b (sym is ∙ e)) m') tt)

-- ## The words of a line

numbers_tail : (ns : List ℕ) → numbers ns ++ 10 ∷ [] ≡ tail_text (map Number ns)
numbers_tail [] = refl
numbers_tail (n ∷ ns) = append_assoc (32 ∷ token_text (Number n)) (numbers ns) (10 ∷ []) ∙ ap (λ (x : List ℕ). 32 ∷ (token_text (Number n) ++ x)) (numbers_tail ns)

family_text : (r : Row) → family r ≡ key_text (family_key r)
family_text (Flow q i g) = refl
family_text (Start q p) = refl
family_text (Cell i h) = refl
family_text (Support i h) = refl
family_text (Twenty i h) = refl
family_text (Block j h) = refl
family_text (Hatch w j h d) = refl
family_text (Weight i k) = refl
family_text (Apart i e p q) = refl
family_text (Cross l p c) = refl

row_closed : (r : Row) → (family r ++ numbers (numbers_of r)) ++ 10 ∷ [] ≡ closed (row_words r)
row_closed r = append_assoc (family r) (numbers (numbers_of r)) (10 ∷ []) ∙ ap (λ (x : List ℕ). family r ++ x) (numbers_tail (numbers_of r)) ∙ ap (λ (x : List ℕ). x ++ tail_text (map Number (numbers_of r))) (family_text r)

signed_text : (z : ℤ) → signed_decimal z ≡ token_text (amount_word z)
signed_text (pos n) = refl
signed_text (negsuc n) = let e : suc n ≡ n + 1 = omega arith in ap (λ (m : ℕ). 45 ∷ decimal m) e

change_closed : (r : Raise) → (signed_decimal r.amount ++ 32 ∷ (family r.row ++ numbers (numbers_of r.row))) ++ 10 ∷ [] ≡ closed (change_words r)
change_closed r =
    append_assoc (signed_decimal r.amount) (32 ∷ (family r.row ++ numbers (numbers_of r.row))) (10 ∷ [])
    ∙ ap (λ (x : List ℕ). signed_decimal r.amount ++ 32 ∷ x) (row_closed r.row)
    ∙ ap (λ (x : List ℕ). x ++ 32 ∷ closed (row_words r.row)) (signed_text r.amount)

-- a line is its words
pub line_closed : (l : Line) → whole l ≡ closed (Word (line_key l) ∷ line_rest l)
unfolding line_text
line_closed line.Title = ap (λ (x : List ℕ). codes "stow-cert " ++ x ++ 10 ∷ []) (sym (decimal_digit 1 (omega arith)))
line_closed (line.Outcome outcome.Optimal) = refl
line_closed (line.Outcome outcome.Gap) = refl
line_closed (line.Outcome outcome.NoPlan) = refl
line_closed (line.Outcome outcome.Undecided) = refl
line_closed (line.Rehandles None) = refl
line_closed (line.Rehandles (Some n)) = refl
line_closed (line.Bound n) = refl
line_closed (line.Nodes n) = refl
line_closed (line.Node false) = ap (λ (x : List ℕ). codes "n " ++ x ++ 10 ∷ []) (sym (decimal_digit 0 (omega arith)))
line_closed (line.Node true) = ap (λ (x : List ℕ). codes "n " ++ x ++ 10 ∷ []) (sym (decimal_digit 1 (omega arith)))
line_closed (line.Step r) = ap (λ (x : List ℕ). 115 ∷ 32 ∷ x) (row_closed r)
line_closed (line.Change r) = ap (λ (x : List ℕ). 114 ∷ 32 ∷ x) (change_closed r)
line_closed (line.Ends end.Leaf) = refl
line_closed (line.Ends end.Left) = refl
line_closed (line.Ends (end.Branch x)) = ap (λ (y : List ℕ). 98 ∷ y) (numbers_tail (x.put ∷ x.kind ∷ x.lifted ∷ x.place ∷ []))
line_closed line.Close = refl

-- ## Words in range

numbers_fit : (ns : List ℕ) → All (λ n. n < 2 ^ 32) ns → All IsToken (map Number ns)
numbers_fit [] h = none_all IsToken
numbers_fit (n ∷ ns) h = let a : n < 2 ^ 32 = first_all (λ n. n < 2 ^ 32) n ns h in both_all IsToken (Number n) (map Number ns) (omega arith) (numbers_fit ns (rest_all (λ n. n < 2 ^ 32) n ns h))

row_fits : (r : Row) → IsRow r → All IsToken (row_words r)
row_fits r is = both_all IsToken (Word (family_key r)) (map Number (numbers_of r)) tt (numbers_fit (numbers_of r) is.small)

amount_fits : (z : ℤ) → unsigned_abs z ≤ 2 ^ 40 → IsToken (amount_word z)
amount_fits (pos n) h = omega arith
amount_fits (negsuc n) h = (omega arith, omega arith)

pub small_four : (a b c d : ℕ) → a < 2 ^ 32 → b < 2 ^ 32 → c < 2 ^ 32 → d < 2 ^ 32 → All (λ n. n < 2 ^ 32) (a ∷ b ∷ c ∷ d ∷ [])
small_four a b c d p q r s = let P : ℕ → Type 0 = λ n. n < 2 ^ 32 in both_all P a (b ∷ c ∷ d ∷ []) p (both_all P b (c ∷ d ∷ []) q (both_all P c (d ∷ []) r (one_all P d s)))

rest_fits : (l : Line) → IsLine l → All IsToken (line_rest l)
rest_fits line.Title h = one_all IsToken (Number 1) (omega arith)
rest_fits (line.Outcome o) h = one_all IsToken (Word (outcome_key o)) tt
rest_fits (line.Rehandles None) h = one_all IsToken (Word key.None) tt
rest_fits (line.Rehandles (Some n)) h = one_all IsToken (Number n) h
rest_fits (line.Bound n) h = one_all IsToken (Number n) h
rest_fits (line.Nodes n) h = one_all IsToken (Number n) h
rest_fits (line.Node false) h = one_all IsToken (Number 0) (omega arith)
rest_fits (line.Node true) h = one_all IsToken (Number 1) (omega arith)
rest_fits (line.Step r) h = row_fits r h
rest_fits (line.Change r) h = both_all IsToken (amount_word r.amount) (row_words r.row) (amount_fits r.amount h.amount) (row_fits r.row h.row)
rest_fits (line.Ends end.Leaf) h = none_all IsToken
rest_fits (line.Ends end.Left) h = none_all IsToken
rest_fits (line.Ends (end.Branch x)) h = numbers_fit (x.put ∷ x.kind ∷ x.lifted ∷ x.place ∷ []) (small_four x.put x.kind x.lifted x.place h.0 h.1 h.2 h.3)
rest_fits line.Close h = none_all IsToken

pub line_fits : (l : Line) → IsLine l → All IsToken (Word (line_key l) ∷ line_rest l)
line_fits l h = both_all IsToken (Word (line_key l)) (line_rest l) tt (rest_fits l h)

row_few : (r : Row) → IsEven r → length (row_words r) ≤ 15
row_few (Flow q i g) e = omega arith
row_few (Start q p) e = omega arith
row_few (Cell i h) e = omega arith
row_few (Support i h) e = omega arith
row_few (Twenty i h) e = omega arith
row_few (Block j h) e = omega arith
row_few (Hatch w j h d) e = omega arith
row_few (Weight i k) e = omega arith
row_few (Apart i x p q) e = omega arith
row_few (Cross l p c) e = omega (arith, length_numbers c, e)

pub line_few : (l : Line) → IsLine l → length (Word (line_key l) ∷ line_rest l) ≤ 18
line_few line.Title h = omega arith
line_few (line.Outcome o) h = omega arith
line_few (line.Rehandles None) h = omega arith
line_few (line.Rehandles (Some n)) h = omega arith
line_few (line.Bound n) h = omega arith
line_few (line.Nodes n) h = omega arith
line_few (line.Node false) h = omega arith
line_few (line.Node true) h = omega arith
line_few (line.Step r) h = omega (arith, row_few r h.even)
line_few (line.Change r) h = omega (arith, row_few r.row h.row.even)
line_few (line.Ends end.Leaf) h = omega arith
line_few (line.Ends end.Left) h = omega arith
line_few (line.Ends (end.Branch x)) h = omega arith
line_few line.Close h = omega arith

ranges : (l : Line) → All IsToken (line_rest l) → HasRanges l → IsLine l
ranges line.Title a h = tt
ranges (line.Outcome o) a h = tt
ranges (line.Rehandles None) a h = tt
ranges (line.Rehandles (Some n)) a h = first_all IsToken (Number n) [] a
ranges (line.Bound n) a h = first_all IsToken (Number n) [] a
ranges (line.Nodes n) a h = first_all IsToken (Number n) [] a
ranges (line.Node z) a h = tt
ranges (line.Step r) a h = h
ranges (line.Change r) a h = h
ranges (line.Ends e) a h = h
ranges line.Close a h = tt

pub has_ranges : (l : Line) → IsLine l → HasRanges l
has_ranges line.Title h = tt
has_ranges (line.Outcome o) h = tt
has_ranges (line.Rehandles None) h = tt
has_ranges (line.Rehandles (Some n)) h = tt
has_ranges (line.Bound n) h = tt
has_ranges (line.Nodes n) h = tt
has_ranges (line.Node z) h = tt
has_ranges (line.Step r) h = h
has_ranges (line.Change r) h = h
has_ranges (line.Ends e) h = h
has_ranges line.Close h = tt

-- ## One line at the front of a text

pub no_words : (text : List ℕ) → IsNoLine text → HasNoLine text
no_words text none = λ l more is e. none (Word (line_key l)) (line_rest l) more (line_fits l is) (line_few l is) (e ∙ ap (λ (x : List ℕ). x ++ more) (line_closed l))

-- where the words of the line at the front are known, a line has these words
pub has_words : (text next : List ℕ) (t : Token) (ts : List Token) → All IsToken (t ∷ ts) → text ≡ closed (t ∷ ts) ++ next → (l : Line) (more : List ℕ) → IsLine l → text ≡ whole l ++ more → SameLine t ts (Word (line_key l)) (line_rest l) next more
has_words text next t ts are e l more is f = same_closed t ts (Word (line_key l)) (line_rest l) next more are (line_fits l is) (sym e ∙ f ∙ ap (λ (x : List ℕ). x ++ more) (line_closed l))

pub no_key : (text next : List ℕ) (t : Token) (ts : List Token) → All IsToken (t ∷ ts) → text ≡ closed (t ∷ ts) ++ next → ((k : Key) → t ≡ Word k → ⊥) → HasNoLine text
no_key text next t ts are e bad = λ l more is f. bad (line_key l) (has_words text next t ts are e l more is f).first

pub no_joined : (text next : List ℕ) (k : Key) (ts : List Token) → All IsToken (Word k ∷ ts) → text ≡ closed (Word k ∷ ts) ++ next → ((l : Line) → HasRanges l → line_key l ≡ k → line_rest l ≢ ts) → HasNoLine text
no_joined text next k ts are e bad = λ l more is f. let w = has_words text next (Word k) ts are e l more is f in let h = w.first in let h' : line_key l ≡ k = cc in bad l (has_ranges l is) h' (sym w.others)

pub joined : (text next : List ℕ) (k : Key) (ts : List Token) (l : Line) → All IsToken (Word k ∷ ts) → text ≡ closed (Word k ∷ ts) ++ next → line_key l ≡ k → line_rest l ≡ ts → text ≡ whole l ++ next
joined text next k ts l are e is same = e ∙ ap (λ (x : List ℕ). x ++ next) (sym (line_closed l ∙ ap (λ (z : Key). closed (Word z ∷ line_rest l)) is ∙ ap (λ (z : List Token). closed (Word k ∷ z)) same))

pub joined_fits : (k : Key) (ts : List Token) (l : Line) → All IsToken (Word k ∷ ts) → line_rest l ≡ ts → HasRanges l → IsLine l
joined_fits k ts l are same h = ranges l (subst (All IsToken) (sym same) (rest_all IsToken (Word k) ts are)) h

-- no line is empty
pub no_bare : (text next : List ℕ) → text ≡ next → length next < length text → HasNoLine text
no_bare text next e low = λ l more is f. omega (arith, ap length e)

pub closed_none : (ts : List Token) → length ts ≡ 0 → closed ts ≡ []
closed_none [] e = refl
closed_none (t ∷ ts) e = absurd (omega (arith, e))
