-- The lines of a tree, record by record.
use Rattle.std.proofs.Common.{◌≡◌, ◌≢◌, ◌+◌, ℕ, Bool, List, [], ◌∷◌, ◌++◌, length, map, Some, None, refl, sym, ◌∙◌, ap, subst, arith, append_assoc, length-append}
use Rattle.std.specs.Prelude.{Option, All, IfErr, Result, Err, flat_map}
use Rattle.std.proofs.lemmas.List.{flat_map_more}
use Rattle.std.proofs.lemmas.List.Elements.{All-append}
use Rattle.zero_one_rows.specs.declared.program.Raise.{Raise}
use Rattle.certificate.specs.declared.tree.End.{End}
use Rattle.certificate.specs.declared.tree.End.TheVariants.{Leaf, Left, Branch}
use Rattle.certificate.specs.declared.tree.Record.{Record}
use Rattle.certificate.specs.declared.lines.Line.{Line}
use Rattle.certificate.specs.declared.lines.Line.TheVariants as line
use Rattle.certificate.specs.declared.words.Key.{Key}
use Rattle.certificate.specs.declared.faults.CertFault.{CertFault}
use Rattle.certificate.specs.declared.faults.CertFault.TheVariants.{NotCert, BadHead, BadLine, NoEnd, NoMemory}
use Rattle.certificate.specs.Text.{whole, text_of, record_lines}
use Rattle.certificate.specs.Grammar.{IsRecord}
use Rattle.certificate.specs.Reading.{line_key, IsLine, Place, after_key, run, Halts, Fails, body_so_far, body_lines}
use Rattle.certificate.specs.Reading.Place.{Between, InSteps, Done}
use Rattle.certificate.proofs.Lists.{first_all, rest_all, none_all, one_all, both_all}
use Rattle.certificate.proofs.Texts.{text-append}
use Rattle.certificate.proofs.Records.{text_more, place_for, run_body, body_are_lines}

pub run-append : (p : Option Place) (xs ys : List Line) → run p (xs ++ ys) ≡ run (run p xs) ys
run-append p [] ys = refl
run-append p (x ∷ xs) ys = run-append _ xs ys

pub body_is : (r : Record) → body_lines r ≡ body_so_far r.steps r.raises ++ line.Ends r.end ∷ []
body_is r = sym (append_assoc (map line.Step r.steps) (map line.Change r.raises) (line.Ends r.end ∷ []))

run_end : (raises : List Raise) (e : End) → run (Some (place_for raises)) (line.Ends e ∷ []) ≡ Some Between
run_end [] Leaf = refl
run_end [] Left = refl
run_end [] (Branch x) = refl
run_end (r ∷ rs) Leaf = refl
run_end (r ∷ rs) Left = refl
run_end (r ∷ rs) (Branch x) = refl

run_record : (r : Record) → run (Some Between) (record_lines r) ≡ Some Between
run_record r = ap (run (Some InSteps)) (body_is r) ∙ run-append (Some InSteps) (body_so_far r.steps r.raises) (line.Ends r.end ∷ [])
    ∙ ap (λ (p : Option Place). run p (line.Ends r.end ∷ [])) (run_body r.steps r.raises) ∙ run_end r.raises r.end

pub run_records : (tree : List Record) → run (Some Between) (flat_map record_lines tree) ≡ Some Between
run_records [] = refl
run_records (r ∷ rs) = run-append (Some Between) (record_lines r) (flat_map record_lines rs) ∙ ap (λ (p : Option Place). run p (flat_map record_lines rs)) (run_record r) ∙ run_records rs

-- a tree is open behind its records
pub records_open : (tree : List Record) → run (Some Between) (flat_map record_lines tree) ≢ Some Done
records_open tree e = let k = sym (run_records tree) ∙ e in absurd cc

pub record_are_lines : (r : Record) → IsRecord r → All IsLine (record_lines r)
record_are_lines r is = both_all IsLine (line.Node r.from_zero) (body_lines r) tt
    (subst (All IsLine) (sym (body_is r)) (All-append IsLine (body_so_far r.steps r.raises) (line.Ends r.end ∷ []) (body_are_lines r.steps r.raises is.steps is.raises) (one_all IsLine (line.Ends r.end) is.end)))

pub records_are_lines : (tree : List Record) → All IsRecord tree → All IsLine (flat_map record_lines tree)
records_are_lines [] h = none_all IsLine
records_are_lines (r ∷ rs) h = All-append IsLine (record_lines r) (flat_map record_lines rs) (record_are_lines r (first_all IsRecord r rs h)) (records_are_lines rs (rest_all IsRecord r rs h))

pub more_records : (tree : List Record) (r : Record) → flat_map record_lines (tree ++ r ∷ []) ≡ flat_map record_lines tree ++ record_lines r
more_records tree r = sym (flat_map_more record_lines [] tree r)

-- a text that goes on with a record
pub record_read : (text rest next behind : List ℕ) (tree : List Record) (r : Record) (z : Bool) → text ≡ text_of (flat_map record_lines tree) ++ rest → rest ≡ whole (line.Node z) ++ next → r.from_zero ≡ z → next ≡ text_of (body_lines r) ++ behind
    → text ≡ text_of (flat_map record_lines (tree ++ r ∷ [])) ++ behind
record_read text rest next behind tree r z e f g h =
    e ∙ ap (λ (x : List ℕ). text_of (flat_map record_lines tree) ++ x)
    (f ∙ ap (λ (b : Bool). whole (line.Node b) ++ next) (sym g) ∙ ap (λ (x : List ℕ). whole (line.Node r.from_zero) ++ x) h ∙ sym (append_assoc (whole (line.Node r.from_zero)) (text_of (body_lines r)) behind))
    ∙ sym (append_assoc (text_of (flat_map record_lines tree)) (text_of (record_lines r)) behind)
    ∙ ap (λ (x : List ℕ). x ++ behind) (sym (text-append (flat_map record_lines tree) (record_lines r)) ∙ ap text_of (sym (more_records tree r)))

-- the fault of a record is that of the tree
module _ (text text' : List ℕ) (start here : Place) (before before' : ℕ) (ls : List Line) (e : text ≡ text_of ls ++ text') (are : All IsLine ls) (ran : run (Some start) ls ≡ Some here) (count : before' ≡ before + length ls) where
  halts_within : (more : List Line) (rest : List ℕ) → Halts text' here more rest → Halts text start (ls ++ more) rest
  halts_within more rest h = record {
    text_is = e ∙ ap (λ (x : List ℕ). text_of ls ++ x) h.text_is ∙ sym (append_assoc (text_of ls) (text_of more) rest) ∙ ap (λ (x : List ℕ). x ++ rest) (sym (text-append ls more));
    are_lines = All-append IsLine ls more are h.are_lines;
    place = h.place;
    ran = run-append (Some start) ls more ∙ ap (λ (p : Option Place). run p more) ran ∙ h.ran;
    stuck = h.stuck;
  }

  pub fails_within : (fault : CertFault) → Fails text' here before' fault → Fails text start before fault
  fails_within NotCert h = h
  fails_within (BadHead n) h = h
  fails_within (BadLine n) h = (ls ++ h.0, h.1, halts_within h.0 h.1 h.2, h.3, omega (arith, h.4, length-append ls h.0))
  fails_within NoEnd h = (ls ++ h.0, halts_within h.0 [] h.1, (λ d. h.2 (sym (run-append (Some start) ls h.0 ∙ ap (λ (p : Option Place). run p h.0) ran) ∙ d)))
  fails_within NoMemory h = h

done_none : (k : Key) → after_key Done k ≡ None
done_none k = refl

-- a text that goes on behind its end
pub halts_done : (text rest next : List ℕ) (tree : List Record) → All IsRecord tree → text ≡ text_of (flat_map record_lines tree) ++ rest → rest ≡ whole line.Close ++ next → Halts text Between (flat_map record_lines tree ++ line.Close ∷ []) next
halts_done text rest next tree are e f = record {
  text_is = text_more text rest next (flat_map record_lines tree) line.Close e f;
  are_lines = All-append IsLine (flat_map record_lines tree) (line.Close ∷ []) (records_are_lines tree are) (one_all IsLine line.Close tt);
  place = Done;
  ran = run-append (Some Between) (flat_map record_lines tree) (line.Close ∷ []) ∙ ap (λ (p : Option Place). run p (line.Close ∷ [])) (run_records tree);
  stuck = λ l more is g. done_none (line_key l);
}

pub wrong_between : (l : Line) → ((z : Bool) → l ≡ line.Node z → ⊥) → (l ≡ line.Close → ⊥) → after_key Between (line_key l) ≡ None
wrong_between line.Title n c = refl
wrong_between (line.Outcome o) n c = refl
wrong_between (line.Rehandles r) n c = refl
wrong_between (line.Bound b) n c = refl
wrong_between (line.Nodes b) n c = refl
wrong_between (line.Node z) n c = absurd (n z refl)
wrong_between (line.Step r) n c = refl
wrong_between (line.Change r) n c = refl
wrong_between (line.Ends Leaf) n c = refl
wrong_between (line.Ends Left) n c = refl
wrong_between (line.Ends (Branch x)) n c = refl
wrong_between line.Close n c = absurd (c refl)

pub if_err : {T : Type 0} (r : Result T CertFault) (P : CertFault → Type 0) (y x : CertFault) → r ≡ Err y → y ≡ x → P x → IfErr r P
if_err r P y x e f h = subst (λ z. IfErr z P) (sym e) (subst P (sym f) h)
