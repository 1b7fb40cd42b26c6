-- The lines of a record, one by one.
use Rattle.std.proofs.Common.{◌≡◌, ◌≢◌, ◌<◌, ◌≤◌, ◌+◌, ℕ, List, [], ◌∷◌, ◌++◌, length, drop, map, Some, None, refl, sym, ◌∙◌, ap, subst, arith, append_assoc, append-nil, length-drop, ⊎_elim}
use Rattle.std.specs.Prelude.{All}
use Rattle.std.proofs.lemmas.Bool.{cases_lt}
use Rattle.std.proofs.lemmas.List.{map-append}
use Rattle.std.proofs.lemmas.List.Elements.{All-append}
use Rattle.zero_one_rows.specs.declared.program.Row.{Row}
use Rattle.zero_one_rows.specs.declared.program.Raise.{Raise}
use Rattle.certificate.specs.declared.tree.End.{End}
use Rattle.certificate.specs.declared.lines.Line.{Line}
use Rattle.certificate.specs.declared.lines.Line.TheVariants as line
use Rattle.certificate.specs.declared.words.Token.TheVariants.{Word}
use Rattle.certificate.specs.declared.faults.CertFault.{CertFault}
use Rattle.certificate.specs.declared.faults.CertFault.TheVariants.{BadLine, NoEnd}
use Rattle.certificate.specs.Text.{whole, text_of}
use Rattle.certificate.specs.Grammar.{IsRow, IsRaise}
use Rattle.certificate.specs.Reading.{line_key, line_rest, IsLine, HasNoLine, Place, after_key, run, Halts, Fails, body_so_far}
use Rattle.certificate.specs.Reading.Place.{InSteps, InRaises, Done}
use Rattle.certificate.proofs.Lists.{first_all, rest_all, none_all, both_all}
use Rattle.certificate.proofs.Texts.{text-append}
use Rattle.certificate.proofs.Joined.{line_closed, line_fits, has_words}

no_items : (xs : List ℕ) → length xs ≡ 0 → xs ≡ []
no_items [] e = refl
no_items (x ∷ xs) e = absurd (omega (arith, e))

-- ## One more line

pub text_more : (text rest next : List ℕ) (ls : List Line) (l : Line) → text ≡ text_of ls ++ rest → rest ≡ whole l ++ next → text ≡ text_of (ls ++ l ∷ []) ++ next
text_more text rest next ls l e f =
    e ∙ ap (λ (x : List ℕ). text_of ls ++ x) f ∙ sym (append_assoc (text_of ls) (whole l) next)
    ∙ ap (λ (x : List ℕ). x ++ next) (ap (λ (x : List ℕ). text_of ls ++ x) (sym (append-nil (whole l))) ∙ sym (text-append ls (l ∷ [])))

pub body_step : (steps : List Row) (raises : List Raise) (row : Row) → length raises ≡ 0 → body_so_far (steps ++ row ∷ []) raises ≡ body_so_far steps raises ++ line.Step row ∷ []
body_step steps [] row e = append-nil (map line.Step (steps ++ row ∷ [])) ∙ map-append line.Step steps (row ∷ []) ∙ ap (λ (x : List Line). x ++ line.Step row ∷ []) (sym (append-nil (map line.Step steps)))
body_step steps (r ∷ rs) row e = absurd (omega (arith, e))

pub body_change : (steps : List Row) (raises : List Raise) (raise : Raise) → body_so_far steps (raises ++ raise ∷ []) ≡ body_so_far steps raises ++ line.Change raise ∷ []
body_change steps raises raise = ap (λ (x : List Line). map line.Step steps ++ x) (map-append line.Change raises (raise ∷ [])) ∙ sym (append_assoc (map line.Step steps) (map line.Change raises) (line.Change raise ∷ []))

-- ## Where the lines lead

abbrev pub place_for : List Raise → Place
place_for [] = InSteps
place_for (r ∷ rs) = InRaises

run_raises : (rs : List Raise) → run (Some InRaises) (map line.Change rs) ≡ Some InRaises
run_raises [] = refl
run_raises (r ∷ rs) = run_raises rs

run_changes : (rs : List Raise) → run (Some InSteps) (map line.Change rs) ≡ Some (place_for rs)
run_changes [] = refl
run_changes (r ∷ rs) = run_raises rs

pub run_body : (steps : List Row) (raises : List Raise) → run (Some InSteps) (body_so_far steps raises) ≡ Some (place_for raises)
run_body [] raises = run_changes raises
run_body (s ∷ ss) raises = run_body ss raises

-- a record that is begun is no end
pub body_open : (steps : List Row) (raises : List Raise) → run (Some InSteps) (body_so_far steps raises) ≢ Some Done
body_open steps [] e = let k = sym (run_body steps []) ∙ e in absurd cc
body_open steps (r ∷ rs) e = let k = sym (run_body steps (r ∷ rs)) ∙ e in absurd cc

step_lines : (steps : List Row) → All IsRow steps → All IsLine (map line.Step steps)
step_lines [] h = none_all IsLine
step_lines (s ∷ ss) h = both_all IsLine (line.Step s) (map line.Step ss) (first_all IsRow s ss h) (step_lines ss (rest_all IsRow s ss h))

change_lines : (raises : List Raise) → All IsRaise raises → All IsLine (map line.Change raises)
change_lines [] h = none_all IsLine
change_lines (r ∷ rs) h = both_all IsLine (line.Change r) (map line.Change rs) (first_all IsRaise r rs h) (change_lines rs (rest_all IsRaise r rs h))

pub body_are_lines : (steps : List Row) (raises : List Raise) → All IsRow steps → All IsRaise raises → All IsLine (body_so_far steps raises)
body_are_lines steps raises a b = All-append IsLine (map line.Step steps) (map line.Change raises) (step_lines steps a) (change_lines raises b)

-- ## Faults

drop_all : (n : ℕ) (xs : List ℕ) → length xs ≤ n → drop n xs ≡ []
drop_all n xs h = no_items (drop n xs) (omega (arith, length-drop n xs))

-- the line at the front of a text is one, so far as its first word goes
pub same_first : (text more more' : List ℕ) (l m : Line) → IsLine l → IsLine m → text ≡ whole l ++ more → text ≡ whole m ++ more' → line_key m ≡ line_key l
same_first text more more' l m p q e f =
    let w = has_words text more (Word (line_key l)) (line_rest l) (line_fits l p) (e ∙ ap (λ (x : List ℕ). x ++ more) (line_closed l)) m more' q f in
    let h = w.first in
    let k : line_key m ≡ line_key l = cc in k

module _ (text : List ℕ) (start : Place) (ls : List Line) (here : Place) (are : All IsLine ls) (ran : run (Some start) ls ≡ Some here) where
  pub halts_none : (rest : List ℕ) → text ≡ text_of ls ++ rest → HasNoLine rest → Halts text start ls rest
  halts_none rest e none = record { text_is = e; are_lines = are; place = here; ran = ran; stuck = λ l more is f. absurd (none l more is f) }

  pub halts_wrong : (rest next : List ℕ) (m : Line) → text ≡ text_of ls ++ rest → IsLine m → rest ≡ whole m ++ next → after_key here (line_key m) ≡ None → Halts text start ls rest
  halts_wrong rest next m e q g wrong = record {
    text_is = e;
    are_lines = are;
    place = here;
    ran = ran;
    stuck = λ l more is f. ap (after_key here) (same_first rest next more m l q is g f) ∙ wrong;
  }

nothing_left : (bytes : List ℕ) (at : ℕ) → drop at bytes ≡ [] → at < length bytes → ⊥
nothing_left bytes at e low = omega (arith, ap length e, length-drop at bytes)

pub something_left : (rest next : List ℕ) (m : Line) → length next < length rest → rest ≢ []
something_left rest next m low e = omega (arith, ap length e)

-- no line stands where the text goes on, or it ends
pub ends_or_bad : (bytes text : List ℕ) (at lines before : ℕ) (start : Place) (ls : List Line) (result : CertFault) → Halts text start ls (drop at bytes) → run (Some start) ls ≢ Some Done → at ≤ length bytes → lines ≡ before + length ls
    → (at ≡ length bytes → result ≡ NoEnd) → (at < length bytes → result ≡ BadLine (lines + 1)) → Fails text start before result
ends_or_bad bytes text at lines before start ls result halts begun within count end bad = ⊎_elim
    (λ (low : at < length bytes). subst (Fails text start before) (sym (bad low)) (ls, drop at bytes, halts, (λ e. nothing_left bytes at e low), omega arith))
    (λ (high : length bytes ≤ at). subst (Fails text start before) (sym (end (omega arith))) (ls, subst (Halts text start ls) (drop_all at bytes high) halts, begun))
    (cases_lt at (length bytes))

pub body_halts : (text rest : List ℕ) (steps : List Row) (raises : List Raise) → text ≡ text_of (body_so_far steps raises) ++ rest → All IsRow steps → All IsRaise raises → HasNoLine rest → Halts text InSteps (body_so_far steps raises) rest
body_halts text rest steps raises e a b none = halts_none text InSteps (body_so_far steps raises) (place_for raises) (body_are_lines steps raises a b) (run_body steps raises) rest e none

pub body_wrong : (text rest next : List ℕ) (steps : List Row) (raises : List Raise) (m : Line) → text ≡ text_of (body_so_far steps raises) ++ rest → All IsRow steps → All IsRaise raises → IsLine m → rest ≡ whole m ++ next → after_key (place_for raises) (line_key m) ≡ None → Halts text InSteps (body_so_far steps raises) rest
body_wrong text rest next steps raises m e a b is f wrong = halts_wrong text InSteps (body_so_far steps raises) (place_for raises) (body_are_lines steps raises a b) (run_body steps raises) rest next m e is f wrong

-- lines that go on in no record
pub late_step : (raises : List Raise) (l : Line) (row : Row) → l ≡ line.Step row → (raises ≡ [] → ⊥) → after_key (place_for raises) (line_key l) ≡ None
late_step [] l row e some = absurd (some refl)
late_step (x ∷ xs) l row e some = ap (λ (m : Line). after_key InRaises (line_key m)) e

pub wrong_there : (raises : List Raise) (l : Line) → ((row : Row) → l ≡ line.Step row → ⊥) → ((raise : Raise) → l ≡ line.Change raise → ⊥) → ((x : End) → l ≡ line.Ends x → ⊥) → after_key (place_for raises) (line_key l) ≡ None
wrong_there [] line.Title s c e = refl
wrong_there (x ∷ xs) line.Title s c e = refl
wrong_there [] (line.Outcome o) s c e = refl
wrong_there (x ∷ xs) (line.Outcome o) s c e = refl
wrong_there [] (line.Rehandles r) s c e = refl
wrong_there (x ∷ xs) (line.Rehandles r) s c e = refl
wrong_there [] (line.Bound n) s c e = refl
wrong_there (x ∷ xs) (line.Bound n) s c e = refl
wrong_there [] (line.Nodes n) s c e = refl
wrong_there (x ∷ xs) (line.Nodes n) s c e = refl
wrong_there [] (line.Node z) s c e = refl
wrong_there (x ∷ xs) (line.Node z) s c e = refl
wrong_there raises (line.Step r) s c e = absurd (s r refl)
wrong_there raises (line.Change r) s c e = absurd (c r refl)
wrong_there raises (line.Ends x) s c e = absurd (e x refl)
wrong_there [] line.Close s c e = refl
wrong_there (x ∷ xs) line.Close s c e = refl
