-- Where the lines of a text stop, as a reader of certificates finds it.
use Rattle.std.proofs.Common.{◌≡◌, ◌≢◌, ◌<◌, ◌+◌, ◌^◌, ◌⊎◌, inl, inr, ⊎_elim, ℕ, Bool, List, [], ◌∷◌, ◌++◌, length, map, Some, None, refl, sym, ◌∙◌, ap, subst, arith, append_assoc, append-nil, length-append}
use Rattle.std.specs.Prelude.{◌↔◌, codes, All, Option, Result, Err, flat_map}
use Rattle.std.proofs.lemmas.List.{length-map, nil_from_length}
use Rattle.std.proofs.lemmas.List.Elements.{All-append}
use Rattle.zero_one_rows.specs.declared.program.Row.{Row}
use Rattle.zero_one_rows.specs.declared.program.Raise.{Raise}
use Rattle.certificate.specs.declared.tree.End.{End}
use Rattle.certificate.specs.declared.tree.End.TheVariants as end
use Rattle.certificate.specs.declared.tree.Record.{Record}
use Rattle.certificate.specs.declared.tree.Head.{Head}
use Rattle.certificate.specs.declared.tree.Outcome.{Outcome}
use Rattle.certificate.specs.declared.tree.Outcome.TheVariants.{Optimal, Gap, NoPlan, Undecided}
use Rattle.certificate.specs.declared.lines.Line.{Line}
use Rattle.certificate.specs.declared.lines.Line.TheVariants as line
use Rattle.certificate.specs.declared.faults.CertFault.{CertFault}
use Rattle.certificate.specs.declared.faults.CertFault.TheVariants.{NotCert, BadHead, BadLine, NoEnd, NoMemory}
use Rattle.certificate.specs.Text.{whole, line_text, text_of, head_lines, record_lines, cert_lines}
use Rattle.certificate.specs.Grammar.{IsRow, IsRaise, IsEnd, IsRecord, IsOutcome, IsHead, IsCert}
use Rattle.certificate.specs.Reading.{line_key, IsLine, Place, after_key, after_some, run, Halts, Fails}
use Rattle.certificate.specs.Reading.Place.{Between, InSteps, InRaises, Done}
use Rattle.certificate.specs.FirstFault.{IsCertificate, Begins, IsPlain, fed, Stops, HasFault}
use Rattle.certificate.proofs.Lists.{first_all, rest_all, none_all, one_all, both_all}
use Rattle.certificate.proofs.Texts.{text-append}
use Rattle.certificate.proofs.Records.{text_more}
use Rattle.certificate.proofs.Trees.{run-append, run_records}
use Rattle.certificate.proofs.Back.{same_line, same_lines_of, line_some}
use Rattle.certificate.proofs.Plain.{plain_line, plain_lines, fed_lines, fed-append, fed_first, split}
use Rattle.certificate.proofs.Determined.{one_fault, no_fault, fits_line, head_are_lines, cert_are_lines, tree_then}

-- ## A line with which no certificate goes on

-- a certificate has this line behind these
pub record Goes (ls : List Line) (m : Line) : Type 0 where
  pub head : Head
  pub tree : List Record
  pub more : List Line
  pub head_is : IsHead head
  pub tree_is : All IsRecord tree
  pub lines : cert_lines head tree ≡ ls ++ m ∷ more

record Next (ls cs : List Line) (w : List ℕ) : Type 0 where
  line : Line
  more : List Line
  is : IsLine line
  lines : cs ≡ ls ++ line ∷ more
  text : line_text line ≡ w

next_line : (ls cs : List Line) (w r : List ℕ) → All IsLine ls → All IsLine cs → IsPlain w → text_of cs ≡ text_of ls ++ (w ++ 10 ∷ r) → ((l : Line) → IsLine l → IsPlain (line_text l)) → Next ls cs w
next_line [] [] w r p q plain e each = absurd (omega (arith, ap length e, length-append w (10 ∷ r)))
next_line [] (c ∷ cs) w r p q plain e each =
    let is = first_all IsLine c cs q in
    let k = split (line_text c) w (text_of cs) r (each c is) plain (sym (append_assoc (line_text c) (10 ∷ []) (text_of cs)) ∙ e) in
    record { line = c; more = cs; is = is; lines = refl; text = k.line }
next_line (x ∷ xs) [] w r p q plain e each = absurd (omega (arith, ap length e, line_some x, length-append (whole x ++ text_of xs) (w ++ 10 ∷ r), length-append (whole x) (text_of xs)))
next_line (x ∷ xs) (c ∷ cs) w r p q plain e each =
    let k = same_line c x (text_of cs) (text_of xs ++ (w ++ 10 ∷ r)) (first_all IsLine c cs q) (first_all IsLine x xs p) (e ∙ append_assoc (whole x) (text_of xs) (w ++ 10 ∷ r)) in
    let n = next_line xs cs w r (rest_all IsLine x xs p) (rest_all IsLine c cs q) plain k.rest each in
    let h = k.first in
    let t = n.lines in
    record { line = n.line; more = n.more; is = n.is; lines = λ i. h i ∷ t i; text = n.text }

stuck_at : (rest : List ℕ) (ls : List Line) → All IsLine ls → ((m : Line) (more : List ℕ) → IsLine m → rest ≡ whole m ++ more → Goes ls m → ⊥)
    → (w more : List ℕ) → IsPlain w → rest ≡ w ++ 10 ∷ more → Begins (fed (map line_text ls ++ w ∷ [])) → ⊥
stuck_at rest ls are wrong w more p f c =
    let head = c.1.0 in
    let tree = c.1.1 in
    let cert = c.1.2 in
    let r = c.0 in
    let e : fed (map line_text ls ++ w ∷ []) ++ r ≡ text_of ls ++ (w ++ 10 ∷ r) =
    ap (λ (x : List ℕ). x ++ r) (fed-append (map line_text ls) (w ∷ [])) ∙ append_assoc (fed (map line_text ls)) (fed (w ∷ [])) r
    ∙ ap (λ (x : List ℕ). fed (map line_text ls) ++ x) (fed_first w [] r) ∙ ap (λ (x : List ℕ). x ++ (w ++ 10 ∷ r)) (fed_lines ls) in
    let k = next_line ls (cert_lines head tree) w r are (cert_are_lines head tree cert.head_is cert.tree_is) p (sym cert.text ∙ e) plain_line in
    wrong k.line more k.is (f ∙ ap (λ (x : List ℕ). x ++ 10 ∷ more) (sym k.text) ∙ sym (append_assoc (line_text k.line) (10 ∷ []) more))
    (record { head = head; tree = tree; more = k.more; head_is = cert.head_is; tree_is = cert.tree_is; lines = k.lines })

pub stops_at : (text rest : List ℕ) (ls : List Line) → All IsLine ls → text ≡ text_of ls ++ rest → Begins (text_of ls) → ((m : Line) (more : List ℕ) → IsLine m → rest ≡ whole m ++ more → Goes ls m → ⊥) → Stops text (length ls + 1) rest
stops_at text rest ls are e b wrong = record {
  lines = map line_text ls;
  plain = plain_lines ls are;
  text_is = e ∙ ap (λ (x : List ℕ). x ++ rest) (sym (fed_lines ls));
  count = omega (arith, length-map ls line_text);
  begins = subst Begins (sym (fed_lines ls)) b;
  stuck = stuck_at rest ls are wrong;
}

pub begins_lines : (h : Head) (tree : List Record) (ls more : List Line) → IsHead h → All IsRecord tree → cert_lines h tree ≡ ls ++ more → Begins (text_of ls)
begins_lines h tree ls more is are e = (text_of more, (h, tree, record { head_is = is; tree_is = are; text = sym (ap text_of e ∙ text-append ls more) }))

-- ## The head

fit : Outcome → Option ℕ
fit Optimal = Some 0
fit Gap = Some 0
fit NoPlan = None
fit Undecided = None

fit_is : (o : Outcome) → IsOutcome o (fit o)
unfolding fit
fit_is Optimal = omega arith
fit_is Gap = omega arith
fit_is NoPlan = tt
fit_is Undecided = tt

abbrev head_with : Outcome → Option ℕ → ℕ → Head
head_with o r b = record { outcome = o; rehandles = r; bound = b; nodes = 0 }

head_with_is : (o : Outcome) (r : Option ℕ) (b : ℕ) → IsOutcome o r → b < 2 ^ 63 → IsHead (head_with o r b)
head_with_is o r b f l = record { rehandles = f; bound = l; nodes = omega arith }

then_line : (rest more : List ℕ) (l m : Line) → rest ≡ whole m ++ more → m ≡ l → rest ≡ whole l ++ more
then_line rest more l m e f = e ∙ ap (λ (x : Line). whole x ++ more) f

pub title_stops : (text : List ℕ) → ((more : List ℕ) → text ≢ whole line.Title ++ more) → Stops text 1 text
title_stops text lacks = stops_at text text [] (none_all IsLine) refl (begins_lines (head_with NoPlan None 0) [] [] (cert_lines (head_with NoPlan None 0) []) (head_with_is NoPlan None 0 tt (omega arith)) (none_all IsRecord) refl)
    (λ m more is e g. let h = g.lines in let k : m ≡ line.Title = cc in lacks more (then_line text more line.Title m e k))

title_text : whole line.Title ≡ codes "stow-cert 1\n"
unfolding line_text
title_text = refl

no_title : (text rest : List ℕ) → Stops text 1 rest → (more : List ℕ) → text ≢ codes "stow-cert 1\n" ++ more
no_title text rest s more e =
    let none : s.lines ≡ [] = nil_from_length s.lines (omega (arith, s.count)) in
    let here : rest ≡ line_text line.Title ++ 10 ∷ more =
    sym (s.text_is ∙ ap (λ (x : List (List ℕ)). fed x ++ rest) none) ∙ e ∙ ap (λ (x : List ℕ). x ++ more) (sym title_text) ∙ append_assoc (line_text line.Title) (10 ∷ []) more in
    s.stuck (line_text line.Title) more (plain_line line.Title tt) here
    (subst (λ (x : List (List ℕ)). Begins (fed (x ++ line_text line.Title ∷ []))) (sym none)
    (begins_lines (head_with NoPlan None 0) [] (line.Title ∷ []) _ (head_with_is NoPlan None 0 tt (omega arith)) (none_all IsRecord) refl))

pub title_told : (text : List ℕ) → HasFault text NotCert ↔ ((more : List ℕ) → text ≢ codes "stow-cert 1\n" ++ more)
title_told text = ((λ h more e. no_title text h.0 h.1 more e), (λ lacks. (text, title_stops text (λ more e. lacks more (e ∙ ap (λ (x : List ℕ). x ++ more) title_text)))))

module _ (text rest : List ℕ) where
  pub outcome_stops : text ≡ text_of (line.Title ∷ []) ++ rest → ((o : Outcome) (more : List ℕ) → rest ≢ whole (line.Outcome o) ++ more) → Stops text 2 rest
  outcome_stops t lacks = stops_at text rest (line.Title ∷ []) (one_all IsLine line.Title tt) t
      (begins_lines (head_with NoPlan None 0) [] (line.Title ∷ []) _ (head_with_is NoPlan None 0 tt (omega arith)) (none_all IsRecord) refl)
      (λ m more is e g. let h = g.lines in let k : m ≡ line.Outcome g.head.outcome = cc in lacks g.head.outcome more (then_line rest more (line.Outcome g.head.outcome) m e k))

  pub rehandles_stops : (o : Outcome) → text ≡ text_of (line.Title ∷ line.Outcome o ∷ []) ++ rest → ((r : Option ℕ) (more : List ℕ) → IsOutcome o r → rest ≢ whole (line.Rehandles r) ++ more) → Stops text 3 rest
  rehandles_stops o t lacks = stops_at text rest (line.Title ∷ line.Outcome o ∷ []) (both_all IsLine line.Title (line.Outcome o ∷ []) tt (one_all IsLine (line.Outcome o) tt)) t
      (begins_lines (head_with o (fit o) 0) [] (line.Title ∷ line.Outcome o ∷ []) _ (head_with_is o (fit o) 0 (fit_is o) (omega arith)) (none_all IsRecord) refl)
      (λ m more is e g.
      let h = g.lines in
      let k : m ≡ line.Rehandles g.head.rehandles = cc in
      let f : g.head.outcome ≡ o = cc in
      lacks g.head.rehandles more (subst (λ (x : Outcome). IsOutcome x g.head.rehandles) f g.head_is.rehandles) (then_line rest more (line.Rehandles g.head.rehandles) m e k))

  module _ (o : Outcome) (r : Option ℕ) (fits : IsOutcome o r) where
    three : All IsLine (line.Title ∷ line.Outcome o ∷ line.Rehandles r ∷ [])
    three = both_all IsLine line.Title (line.Outcome o ∷ line.Rehandles r ∷ []) tt (both_all IsLine (line.Outcome o) (line.Rehandles r ∷ []) tt (one_all IsLine (line.Rehandles r) (fits_line o r fits)))

    pub bound_stops : text ≡ text_of (line.Title ∷ line.Outcome o ∷ line.Rehandles r ∷ []) ++ rest → ((n : ℕ) (more : List ℕ) → n < 2 ^ 63 → rest ≢ whole (line.Bound n) ++ more) → Stops text 4 rest
    bound_stops t lacks = stops_at text rest (line.Title ∷ line.Outcome o ∷ line.Rehandles r ∷ []) three t
        (begins_lines (head_with o r 0) [] (line.Title ∷ line.Outcome o ∷ line.Rehandles r ∷ []) _ (head_with_is o r 0 fits (omega arith)) (none_all IsRecord) refl)
        (λ m more is e g. let h = g.lines in let k : m ≡ line.Bound g.head.bound = cc in lacks g.head.bound more g.head_is.bound (then_line rest more (line.Bound g.head.bound) m e k))

    pub nodes_stops : (b : ℕ) → b < 2 ^ 63 → text ≡ text_of (line.Title ∷ line.Outcome o ∷ line.Rehandles r ∷ line.Bound b ∷ []) ++ rest → ((n : ℕ) (more : List ℕ) → n < 2 ^ 63 → rest ≢ whole (line.Nodes n) ++ more) → Stops text 5 rest
    nodes_stops b low t lacks = stops_at text rest (line.Title ∷ line.Outcome o ∷ line.Rehandles r ∷ line.Bound b ∷ []) (All-append IsLine (line.Title ∷ line.Outcome o ∷ line.Rehandles r ∷ []) (line.Bound b ∷ []) three (one_all IsLine (line.Bound b) low)) t
        (begins_lines (head_with o r b) [] (line.Title ∷ line.Outcome o ∷ line.Rehandles r ∷ line.Bound b ∷ []) _ (head_with_is o r b fits low) (none_all IsRecord) refl)
        (λ m more is e g. let h = g.lines in let k : m ≡ line.Nodes g.head.nodes = cc in lacks g.head.nodes more g.head_is.nodes (then_line rest more (line.Nodes g.head.nodes) m e k))

-- lines of the head, read one by one
module _ (text : List ℕ) where
  pub read_one : (r : List ℕ) → text ≡ whole line.Title ++ r → text ≡ text_of (line.Title ∷ []) ++ r
  read_one r e = text_more text text r [] line.Title refl e

  pub read_two : (r s : List ℕ) (o : Outcome) → text ≡ whole line.Title ++ r → r ≡ whole (line.Outcome o) ++ s → text ≡ text_of (line.Title ∷ line.Outcome o ∷ []) ++ s
  read_two r s o e f = text_more text r s (line.Title ∷ []) (line.Outcome o) (read_one r e) f

  pub read_three : (r s t : List ℕ) (o : Outcome) (n : Option ℕ) → text ≡ whole line.Title ++ r → r ≡ whole (line.Outcome o) ++ s → s ≡ whole (line.Rehandles n) ++ t → text ≡ text_of (line.Title ∷ line.Outcome o ∷ line.Rehandles n ∷ []) ++ t
  read_three r s t o n e f g = text_more text s t (line.Title ∷ line.Outcome o ∷ []) (line.Rehandles n) (read_two r s o e f) g

  pub read_four : (r s t u : List ℕ) (o : Outcome) (n : Option ℕ) (b : ℕ) → text ≡ whole line.Title ++ r → r ≡ whole (line.Outcome o) ++ s → s ≡ whole (line.Rehandles n) ++ t → t ≡ whole (line.Bound b) ++ u
      → text ≡ text_of (line.Title ∷ line.Outcome o ∷ line.Rehandles n ∷ line.Bound b ∷ []) ++ u
  read_four r s t u o n b e f g h = text_more text t u (line.Title ∷ line.Outcome o ∷ line.Rehandles n ∷ []) (line.Bound b) (read_three r s t o n e f g) h

-- ## Lines that run are those of some tree, or can be made so

-- what the lines from a place on are, where a tree ends with them
abbrev Completes : Place → List Line → Type 0
Completes Between ls = (tree : List Record) × (All IsRecord tree) × (ls ≡ flat_map record_lines tree ++ line.Close ∷ [])
Completes InSteps ls = (steps : List Row) × (raises : List Raise) × (e : End) × (tree : List Record) × All IsRow steps × All IsRaise raises × IsEnd e × All IsRecord tree
    × (ls ≡ map line.Step steps ++ (map line.Change raises ++ line.Ends e ∷ (flat_map record_lines tree ++ line.Close ∷ [])))
Completes InRaises ls = (raises : List Raise) × (e : End) × (tree : List Record) × All IsRaise raises × IsEnd e × All IsRecord tree
    × (ls ≡ map line.Change raises ++ line.Ends e ∷ (flat_map record_lines tree ++ line.Close ∷ []))
Completes Done ls = ls ≡ []

run_none : (ls : List Line) (q : Place) → run None ls ≡ Some q → ⊥
run_none [] q e = absurd cc
run_none (l ∷ ls) q e = run_none ls q e

ends_steps : (e : End) → after_key InSteps (line_key (line.Ends e)) ≡ Some Between
ends_steps end.Leaf = refl
ends_steps end.Left = refl
ends_steps (end.Branch x) = refl

ends_raises : (e : End) → after_key InRaises (line_key (line.Ends e)) ≡ Some Between
ends_raises end.Leaf = refl
ends_raises end.Left = refl
ends_raises (end.Branch x) = refl

ends_between : (e : End) → after_key Between (line_key (line.Ends e)) ≡ None
ends_between end.Leaf = refl
ends_between end.Left = refl
ends_between (end.Branch x) = refl

with_first : (l : Line) (ls ms : List Line) → ls ≡ ms → l ∷ ls ≡ l ∷ ms
with_first l ls ms e = ap (λ (x : List Line). l ∷ x) e

-- one more line in front
front_node : (ls : List Line) (z : Bool) → Completes InSteps ls → Completes Between (line.Node z ∷ ls)
front_node ls z c =
    let r : Record = record { from_zero = z; steps = c.0; raises = c.1; end = c.2 } in
    (r ∷ c.3, both_all IsRecord r c.3 (record { steps = c.4; raises = c.5; end = c.6 }) c.7, with_first (line.Node z) ls _ c.8 ∙ sym (tree_then r c.3 (line.Close ∷ [])))

front_step : (ls : List Line) (r : Row) → IsRow r → Completes InSteps ls → Completes InSteps (line.Step r ∷ ls)
front_step ls r is c = (r ∷ c.0, c.1, c.2, c.3, both_all IsRow r c.0 is c.4, c.5, c.6, c.7, with_first (line.Step r) ls _ c.8)

front_change : (ls : List Line) (r : Raise) → IsRaise r → Completes InRaises ls → Completes InRaises (line.Change r ∷ ls)
front_change ls r is c = (r ∷ c.0, c.1, c.2, both_all IsRaise r c.0 is c.3, c.4, c.5, with_first (line.Change r) ls _ c.6)

front_end : (ls : List Line) (e : End) → IsEnd e → Completes Between ls → Completes InRaises (line.Ends e ∷ ls)
front_end ls e is c = ([], e, c.0, none_all IsRaise, is, c.1, with_first (line.Ends e) ls _ c.2)

-- behind no step
no_steps : (ls : List Line) → Completes InRaises ls → Completes InSteps ls
no_steps ls c = ([], c.0, c.1, c.2, none_all IsRow, c.3, c.4, c.5, c.6)

closed_there : Completes Between (line.Close ∷ [])
closed_there = ([], none_all IsRecord, refl)

completed : (ls : List Line) (p q : Place) → All IsLine ls → run (Some p) ls ≡ Some q → (more : List Line) × Completes p (ls ++ more)
completed [] Between q are e = (line.Close ∷ [], closed_there)
completed [] InSteps q are e = (line.Ends end.Leaf ∷ line.Close ∷ [], no_steps (line.Ends end.Leaf ∷ line.Close ∷ []) (front_end (line.Close ∷ []) end.Leaf tt closed_there))
completed [] InRaises q are e = (line.Ends end.Leaf ∷ line.Close ∷ [], front_end (line.Close ∷ []) end.Leaf tt closed_there)
completed [] Done q are e = ([], refl)
completed (line.Node z ∷ ls) Between q are e = let k = completed ls InSteps q (rest_all IsLine (line.Node z) ls are) e in (k.0, front_node (ls ++ k.0) z k.1)
completed (line.Close ∷ ls) Between q are e = let k = completed ls Done q (rest_all IsLine line.Close ls are) e in (k.0, ([], none_all IsRecord, with_first line.Close (ls ++ k.0) [] k.1))
completed (line.Ends d ∷ ls) Between q are e = absurd (run_none ls q (ap (λ (p : Option Place). run p ls) (sym (ends_between d)) ∙ e))
completed (l ∷ ls) Between q are e = absurd (run_none ls q e)
completed (line.Step r ∷ ls) InSteps q are e = let k = completed ls InSteps q (rest_all IsLine (line.Step r) ls are) e in (k.0, front_step (ls ++ k.0) r (first_all IsLine (line.Step r) ls are) k.1)
completed (line.Change r ∷ ls) InSteps q are e = let k = completed ls InRaises q (rest_all IsLine (line.Change r) ls are) e in (k.0, no_steps (line.Change r ∷ (ls ++ k.0)) (front_change (ls ++ k.0) r (first_all IsLine (line.Change r) ls are) k.1))
completed (line.Ends d ∷ ls) InSteps q are e = let k = completed ls Between q (rest_all IsLine (line.Ends d) ls are) (ap (λ (p : Option Place). run p ls) (sym (ends_steps d)) ∙ e) in (k.0, no_steps (line.Ends d ∷ (ls ++ k.0)) (front_end (ls ++ k.0) d (first_all IsLine (line.Ends d) ls are) k.1))
completed (l ∷ ls) InSteps q are e = absurd (run_none ls q e)
completed (line.Change r ∷ ls) InRaises q are e = let k = completed ls InRaises q (rest_all IsLine (line.Change r) ls are) e in (k.0, front_change (ls ++ k.0) r (first_all IsLine (line.Change r) ls are) k.1)
completed (line.Ends d ∷ ls) InRaises q are e = let k = completed ls Between q (rest_all IsLine (line.Ends d) ls are) (ap (λ (p : Option Place). run p ls) (sym (ends_raises d)) ∙ e) in (k.0, front_end (ls ++ k.0) d (first_all IsLine (line.Ends d) ls are) k.1)
completed (l ∷ ls) InRaises q are e = absurd (run_none ls q e)
completed (l ∷ ls) Done q are e = absurd (run_none ls q e)

-- ## Records

cert_runs : (tree : List Record) → run (Some Between) (flat_map record_lines tree ++ line.Close ∷ []) ≡ Some Done
cert_runs tree = run-append (Some Between) (flat_map record_lines tree) (line.Close ∷ []) ∙ ap (λ (p : Option Place). run p (line.Close ∷ [])) (run_records tree)

module _ (text text' : List ℕ) (h : Head) (is : IsHead h) (e : text ≡ text_of (head_lines h) ++ text') where
  read_so_far : (rest : List ℕ) (ls : List Line) → text' ≡ text_of ls ++ rest → text ≡ text_of (head_lines h ++ ls) ++ rest
  read_so_far rest ls f = e ∙ ap (λ (x : List ℕ). text_of (head_lines h) ++ x) f ∙ sym (append_assoc (text_of (head_lines h)) (text_of ls) rest) ∙ ap (λ (x : List ℕ). x ++ rest) (sym (text-append (head_lines h) ls))

  records_stop : (rest : List ℕ) (ls : List Line) → Halts text' Between ls rest → Stops text (5 + length ls + 1) rest
  records_stop rest ls t =
      let k = completed ls Between t.place t.are_lines t.ran in
      subst (λ (n : ℕ). Stops text n rest) (let c : length (head_lines h ++ ls) + 1 ≡ 5 + length ls + 1 = omega arith in c)
      (stops_at text rest (head_lines h ++ ls) (All-append IsLine (head_lines h) ls (head_are_lines h is) t.are_lines) (read_so_far rest ls t.text_is)
      (begins_lines h k.1.0 (head_lines h ++ ls) k.0 is k.1.1 (ap (λ (x : List Line). head_lines h ++ x) (sym k.1.2)))
      (λ m more il f g.
      let w = g.lines in
      let b : flat_map record_lines g.tree ++ line.Close ∷ [] ≡ ls ++ m ∷ g.more = cc in
      run_none g.more Done
      (ap (λ (p : Option Place). run p g.more) (sym (t.stuck m more il f))
      ∙ ap (λ (p : Option Place). run (after_some p (line_key m)) g.more) (sym t.ran)
      ∙ sym (run-append (Some Between) ls (m ∷ g.more)) ∙ ap (run (Some Between)) (sym b) ∙ cert_runs g.tree)))

  not_ended : (ls : List Line) → Halts text' Between ls [] → run (Some Between) ls ≢ Some Done → IsCertificate text → ⊥
  not_ended ls t begun c =
      let a = same_lines_of (cert_lines c.0 c.1) (head_lines h ++ ls) (cert_are_lines c.0 c.1 c.2.head_is c.2.tree_is) (All-append IsLine (head_lines h) ls (head_are_lines h is) t.are_lines)
      (sym c.2.text ∙ read_so_far [] ls t.text_is ∙ append-nil (text_of (head_lines h ++ ls))) in
      let b : flat_map record_lines c.1 ++ line.Close ∷ [] ≡ ls = cc in
      begun (ap (run (Some Between)) (sym b) ∙ cert_runs c.1)

  pub fails_fault : (fault : CertFault) → Fails text' Between 5 fault → (fault ≡ NoMemory) ⊎ HasFault text fault
  fails_fault NotCert f = absurd f
  fails_fault (BadHead n) f = absurd f
  fails_fault (BadLine n) f = inr (omega (arith, f.4), f.1, f.3, subst (λ (m : ℕ). Stops text m f.1) (sym f.4) (records_stop f.1 f.0 f.2))
  fails_fault NoEnd f = inr (5 + length f.0 + 1, omega arith, records_stop [] f.0 f.1, not_ended f.0 f.1 f.2)
  fails_fault NoMemory f = inl refl

-- ## The whole text

pub cert_read : (text rest : List ℕ) (h : Head) (tree : List Record) → IsHead h → All IsRecord tree → text ≡ text_of (head_lines h) ++ rest → rest ≡ text_of (flat_map record_lines tree ++ line.Close ∷ []) → IsCert text h tree
cert_read text rest h tree is are e f = record {
  head_is = is;
  tree_is = are;
  text = e ∙ ap (λ (x : List ℕ). text_of (head_lines h) ++ x) f ∙ sym (text-append (head_lines h) (flat_map record_lines tree ++ line.Close ∷ []));
}

pub reads_err : (text : List ℕ) (e : CertFault) → (e ≡ NoMemory) ⊎ HasFault text e → IsCertificate text → e ≡ NoMemory
reads_err text e h is = ⊎_elim (λ (none : e ≡ NoMemory). none) (λ (some : HasFault text e). absurd (no_fault text e is some)) h

pub refuses_err : (text : List ℕ) (e fault : CertFault) → (e ≡ NoMemory) ⊎ HasFault text e → HasFault text fault → (e ≡ fault) ⊎ (e ≡ NoMemory)
refuses_err text e fault h is = ⊎_elim (λ (none : e ≡ NoMemory). inr none) (λ (some : HasFault text e). inl (one_fault text e fault some is)) h

pub at_err : {T : Type 0} (r : Result T CertFault) (Q : Result T CertFault → Type 0) (y x : CertFault) → r ≡ Err y → y ≡ x → Q (Err x) → Q r
at_err r Q y x e f h = subst Q (sym (e ∙ ap Err f)) h
