-- One answer for each text.
use Rattle.std.proofs.Common.{◌≡◌, ◌≢◌, ◌<◌, ◌≤◌, ◌+◌, ℕ, zero, suc, Bool, false, List, [], ◌∷◌, ◌++◌, length, map, Some, None, refl, sym, ◌∙◌, ap, subst, arith, append_assoc, append-nil, length-append, ⊎_elim}
use Rattle.std.specs.Prelude.{All, Option, flat_map, nat_le, if◌then◌else◌}
use Rattle.std.proofs.lemmas.Bool.{cases_lt, le-leb, leb-true, false_from_ne_true}
use Rattle.std.proofs.lemmas.List.{length-map}
use Rattle.std.proofs.lemmas.List.Elements.{All-append}
use Rattle.zero_one_rows.specs.declared.program.Row.{Row}
use Rattle.zero_one_rows.specs.declared.program.Raise.{Raise}
use Rattle.certificate.specs.declared.tree.End.{End}
use Rattle.certificate.specs.declared.tree.Record.{Record}
use Rattle.certificate.specs.declared.tree.Head.{Head}
use Rattle.certificate.specs.declared.tree.Outcome.{Outcome}
use Rattle.certificate.specs.declared.tree.Outcome.TheVariants.{Optimal, Gap, NoPlan, Undecided}
use Rattle.certificate.specs.declared.lines.Line.{Line}
use Rattle.certificate.specs.declared.lines.Line.TheVariants as line
use Rattle.certificate.specs.declared.faults.CertFault.{CertFault}
use Rattle.certificate.specs.declared.faults.CertFault.TheVariants.{NotCert, BadHead, BadLine, NoEnd, NoMemory}
use Rattle.certificate.specs.Text.{line_text, head_lines, record_lines, cert_lines, cert_text}
use Rattle.certificate.specs.Grammar.{IsRecord, IsOutcome, IsHead, IsCert}
use Rattle.certificate.specs.Reading.{IsLine}
use Rattle.certificate.specs.FirstFault.{IsCertificate, Begins, IsPlain, fed, Stops, HasFault}
use Rattle.certificate.proofs.Lists.{none_all, one_all, both_all}
use Rattle.certificate.proofs.Trees.{records_are_lines}
use Rattle.certificate.proofs.Back.{same_lines_of}
use Rattle.certificate.proofs.Plain.{plain_lines, fed_lines, fed-append, fed_long, behind, goes_no_on}

-- ## The lines of a certificate

pub fits_line : (o : Outcome) (r : Option ℕ) → IsOutcome o r → IsLine (line.Rehandles r)
fits_line Optimal (Some n) h = h
fits_line Optimal None h = tt
fits_line Gap (Some n) h = h
fits_line Gap None h = tt
fits_line NoPlan (Some n) h = absurd h
fits_line NoPlan None h = tt
fits_line Undecided (Some n) h = absurd h
fits_line Undecided None h = tt

pub head_are_lines : (h : Head) → IsHead h → All IsLine (head_lines h)
head_are_lines h is =
    both_all IsLine line.Title (line.Outcome h.outcome ∷ line.Rehandles h.rehandles ∷ line.Bound h.bound ∷ line.Nodes h.nodes ∷ []) tt
    (both_all IsLine (line.Outcome h.outcome) (line.Rehandles h.rehandles ∷ line.Bound h.bound ∷ line.Nodes h.nodes ∷ []) tt
    (both_all IsLine (line.Rehandles h.rehandles) (line.Bound h.bound ∷ line.Nodes h.nodes ∷ []) (fits_line h.outcome h.rehandles is.rehandles)
    (both_all IsLine (line.Bound h.bound) (line.Nodes h.nodes ∷ []) is.bound (one_all IsLine (line.Nodes h.nodes) is.nodes))))

pub cert_are_lines : (h : Head) (tree : List Record) → IsHead h → All IsRecord tree → All IsLine (cert_lines h tree)
cert_are_lines h tree is are =
    All-append IsLine (head_lines h) (flat_map record_lines tree ++ line.Close ∷ []) (head_are_lines h is)
    (All-append IsLine (flat_map record_lines tree) (line.Close ∷ []) (records_are_lines tree are) (one_all IsLine line.Close tt))

-- ## Where texts stop

record SameStop (n m : ℕ) (r s : List ℕ) : Type 0 where
  number : n ≡ m
  rest : r ≡ s

later : (text r s : List ℕ) (n m : ℕ) (a : Stops text n r) (b : Stops text m s) → length a.lines ≤ length b.lines → SameStop n m r s
later text r s n m a b le =
    let k = behind a.lines b.lines r s a.plain b.plain (sym a.text_is ∙ b.text_is) le in
    let e = goes_no_on text r n a k.more s k.plain k.rest (subst (λ (x : List (List ℕ)). Begins (fed x)) k.lines b.begins) in
    record {
      number = omega (arith, a.count, b.count, ap length k.lines, ap length e, length-append a.lines k.more);
      rest = k.rest ∙ ap (λ (x : List (List ℕ)). fed x ++ s) e;
    }

same_stop : (text r s : List ℕ) (n m : ℕ) → Stops text n r → Stops text m s → SameStop n m r s
same_stop text r s n m a b = ⊎_elim
    (λ (low : length a.lines < length b.lines). later text r s n m a b (omega arith))
    (λ (high : length b.lines ≤ length a.lines). let k = later text s r m n b a high in record { number = sym k.number; rest = sym k.rest })
    (cases_lt (length a.lines) (length b.lines))

-- the fault where a text stops
end_fault : ℕ → List ℕ → CertFault
end_fault n [] = NoEnd
end_fault n (x ∷ xs) = BadLine n

fault_of : ℕ → List ℕ → CertFault
fault_of n r = if nat_le n 1 then NotCert else (if nat_le n 5 then BadHead n else end_fault n r)

high : (n k : ℕ) → k < n → nat_le n k ≡ false
high n k l = false_from_ne_true _ (λ e. let h = leb-true n k e in omega (arith, h, l))

head_fault : (n : ℕ) (r : List ℕ) → 2 ≤ n → n ≤ 5 → BadHead n ≡ fault_of n r
unfolding fault_of
head_fault n r a b = sym (ap (λ (t : Bool). if t then NotCert else (if nat_le n 5 then BadHead n else end_fault n r)) (high n 1 a) ∙ ap (λ (t : Bool). if t then BadHead n else end_fault n r) (le-leb n 5 b))

later_fault : (n : ℕ) (r : List ℕ) → 6 ≤ n → end_fault n r ≡ fault_of n r
unfolding fault_of
later_fault n r a = sym (ap (λ (t : Bool). if t then NotCert else (if nat_le n 5 then BadHead n else end_fault n r)) (high n 1 (omega arith)) ∙ ap (λ (t : Bool). if t then BadHead n else end_fault n r) (high n 5 a))

record Stopped (text : List ℕ) (a : CertFault) : Type 0 where
  n : ℕ
  rest : List ℕ
  stop : Stops text n rest
  fault : a ≡ fault_of n rest

some_end : (n : ℕ) (r : List ℕ) → r ≢ [] → BadLine n ≡ end_fault n r
unfolding end_fault
some_end n [] h = absurd (h refl)
some_end n (x ∷ xs) h = refl

stopped : (text : List ℕ) (a : CertFault) → HasFault text a → Stopped text a
unfolding fault_of end_fault
stopped text NotCert h = record { n = 1; rest = h.0; stop = h.1; fault = refl }
stopped text (BadHead n) h = record { n = n; rest = h.2; stop = h.3; fault = head_fault n h.2 h.0 h.1 }
stopped text (BadLine n) h = record { n = n; rest = h.1; stop = h.3; fault = some_end n h.1 h.2 ∙ later_fault n h.1 h.0 }
stopped text NoEnd h = record { n = h.0; rest = []; stop = h.2; fault = later_fault h.0 [] h.1 }
stopped text NoMemory h = absurd h

pub one_fault : (text : List ℕ) (a b : CertFault) → HasFault text a → HasFault text b → a ≡ b
one_fault text a b p q =
    let s = stopped text a p in
    let t = stopped text b q in
    let k = same_stop text s.rest t.rest s.n t.n s.stop t.stop in
    s.fault ∙ ap (λ (n : ℕ). fault_of n s.rest) k.number ∙ ap (fault_of t.n) k.rest ∙ sym t.fault

-- ## Certificates have no fault

record AtEnd (n : ℕ) (rest : List ℕ) : Type 0 where
  all : rest ≡ []
  long : 7 ≤ n

cert_long : (h : Head) (tree : List Record) → 6 ≤ length (map line_text (cert_lines h tree))
cert_long h tree = omega (arith, length-map (cert_lines h tree) line_text, length-append (flat_map record_lines tree) (line.Close ∷ []))

ends : (text rest : List ℕ) (n : ℕ) (a : Stops text n rest) (ls : List (List ℕ)) → All IsPlain ls → text ≡ fed ls → IsCertificate text → 6 ≤ length ls → AtEnd n rest
ends text rest n a ls plain e is long = ⊎_elim
    (λ (low : length ls < length a.lines).
    let k = behind ls a.lines [] rest plain a.plain (append-nil (fed ls) ∙ sym e ∙ a.text_is) (omega arith) in
    absurd (omega (arith, ap length k.rest, fed_long k.more, length-append (fed k.more) rest, ap length k.lines, length-append ls k.more)))
    (λ (high : length a.lines ≤ length ls).
    let k = behind a.lines ls rest [] a.plain plain (sym a.text_is ∙ e ∙ sym (append-nil (fed ls))) high in
    let b : Begins (fed ls) = ([], subst IsCertificate (e ∙ sym (append-nil (fed ls))) is) in
    let z = goes_no_on text rest n a k.more [] k.plain k.rest (subst (λ (x : List (List ℕ)). Begins (fed x)) k.lines b) in
    record { all = k.rest ∙ ap (λ (x : List (List ℕ)). fed x ++ []) z; long = omega (arith, a.count, ap length k.lines, ap length z, length-append a.lines k.more) })
    (cases_lt (length ls) (length a.lines))

cert_ends : (text rest : List ℕ) (n : ℕ) → Stops text n rest → IsCertificate text → AtEnd n rest
cert_ends text rest n a is =
    let ls = cert_lines is.0 is.1 in
    ends text rest n a (map line_text ls) (plain_lines ls (cert_are_lines is.0 is.1 is.2.head_is is.2.tree_is)) (is.2.text ∙ sym (fed_lines ls)) is (cert_long is.0 is.1)

pub no_fault : (text : List ℕ) (a : CertFault) → IsCertificate text → HasFault text a → ⊥
no_fault text NotCert is h = omega (arith, (cert_ends text h.0 1 h.1 is).long)
no_fault text (BadHead n) is h = omega (arith, (cert_ends text h.2 n h.3 is).long, h.1)
no_fault text (BadLine n) is h = h.2 (cert_ends text h.1 n h.3 is).all
no_fault text NoEnd is h = h.3 is
no_fault text NoMemory is h = h

-- ## Every text has an answer

pub some_begins : Begins []
some_begins =
    let h : Head = record { outcome = NoPlan; rehandles = None; bound = 0; nodes = 0 } in
    (cert_text h [], (h, [], record { head_is = record { rehandles = tt; bound = omega arith; nodes = omega arith }; tree_is = none_all IsRecord; text = refl }))

head_there : (text rest : List ℕ) (n : ℕ) → ((a : CertFault) → HasFault text a → ⊥) → Stops text n rest → n < 6 → ⊥
head_there text rest n none s low = ⊎_elim
    (λ (first : n < 2). none NotCert (rest, subst (λ (m : ℕ). Stops text m rest) (let e : n ≡ 1 = omega (arith, s.count) in e) s))
    (λ (more : 2 ≤ n). none (BadHead n) (more, omega arith, rest, s))
    (cases_lt n 2)

pub fault_there : (text rest : List ℕ) (n : ℕ) → (IsCertificate text → ⊥) → ((a : CertFault) → HasFault text a → ⊥) → Stops text n rest → ⊥
fault_there text [] n bad none s = ⊎_elim
    (λ (low : n < 6). head_there text [] n none s low)
    (λ (big : 6 ≤ n). none NoEnd (n, big, s, bad))
    (cases_lt n 6)
fault_there text (x ∷ xs) n bad none s = ⊎_elim
    (λ (low : n < 6). head_there text (x ∷ xs) n none s low)
    (λ (big : 6 ≤ n). none (BadLine n) (big, x ∷ xs, (λ e. omega (arith, ap length e)), s))
    (cases_lt n 6)

goes_on : (m : ℕ) (text : List ℕ) (lines : List (List ℕ)) (rest : List ℕ) → (IsCertificate text → ⊥) → ((a : CertFault) → HasFault text a → ⊥) → length rest ≤ m → All IsPlain lines → text ≡ fed lines ++ rest → Begins (fed lines) → ⊥
goes_on zero text lines rest bad none le plain e b = fault_there text rest (length lines + 1) bad none (record {
  lines = lines;
  plain = plain;
  text_is = e;
  count = refl;
  begins = b;
  stuck = λ line more p f c. omega (arith, ap length f, length-append line (10 ∷ more), le);
})
goes_on (suc m) text lines rest bad none le plain e b = fault_there text rest (length lines + 1) bad none (record {
  lines = lines;
  plain = plain;
  text_is = e;
  count = refl;
  begins = b;
  stuck = λ line more p f c. goes_on m text (lines ++ line ∷ []) more bad none (omega (arith, ap length f, length-append line (10 ∷ more), le))
      (All-append IsPlain lines (line ∷ []) plain (one_all IsPlain line p))
      (e ∙ ap (λ (x : List ℕ). fed lines ++ x) (f ∙ sym (ap (λ (x : List ℕ). x ++ more) (append-nil (line ++ 10 ∷ [])) ∙ append_assoc line (10 ∷ []) more))
      ∙ sym (append_assoc (fed lines) (fed (line ∷ [])) more) ∙ ap (λ (x : List ℕ). x ++ more) (sym (fed-append lines (line ∷ []))))
      c;
})

pub some_answer : (text : List ℕ) → (IsCertificate text → ⊥) → ((a : CertFault) → HasFault text a → ⊥) → ⊥
some_answer text bad none = goes_on (length text) text [] text bad none (omega arith) (none_all IsPlain) refl some_begins

-- ## One head and one tree

record SameBody (ss ts : List Row) (rs qs : List Raise) (d e : End) (k l : List Line) : Type 0 where
  steps : ss ≡ ts
  raises : rs ≡ qs
  end : d ≡ e
  rest : k ≡ l

record SameChanges (rs qs : List Raise) (d e : End) (k l : List Line) : Type 0 where
  raises : rs ≡ qs
  end : d ≡ e
  rest : k ≡ l

same_changes : (rs qs : List Raise) (d e : End) (k l : List Line) → map line.Change rs ++ line.Ends d ∷ k ≡ map line.Change qs ++ line.Ends e ∷ l → SameChanges rs qs d e k l
same_changes [] [] d e k l h = record { raises = refl; end = cc; rest = cc }
same_changes [] (q ∷ qs) d e k l h = absurd cc
same_changes (r ∷ rs) [] d e k l h = absurd cc
same_changes (r ∷ rs) (q ∷ qs) d e k l h =
    let a : r ≡ q = cc in
    let t : map line.Change rs ++ line.Ends d ∷ k ≡ map line.Change qs ++ line.Ends e ∷ l = cc in
    let w = same_changes rs qs d e k l t in
    let b = w.raises in
    record { raises = λ i. a i ∷ b i; end = w.end; rest = w.rest }

same_body : (ss ts : List Row) (rs qs : List Raise) (d e : End) (k l : List Line) → map line.Step ss ++ (map line.Change rs ++ line.Ends d ∷ k) ≡ map line.Step ts ++ (map line.Change qs ++ line.Ends e ∷ l) → SameBody ss ts rs qs d e k l
same_body [] [] rs qs d e k l h = let w = same_changes rs qs d e k l h in record { steps = refl; raises = w.raises; end = w.end; rest = w.rest }
same_body [] (t ∷ ts) [] qs d e k l h = absurd cc
same_body [] (t ∷ ts) (r ∷ rs) qs d e k l h = absurd cc
same_body (s ∷ ss) [] rs [] d e k l h = absurd cc
same_body (s ∷ ss) [] rs (q ∷ qs) d e k l h = absurd cc
same_body (s ∷ ss) (t ∷ ts) rs qs d e k l h =
    let a : s ≡ t = cc in
    let u : map line.Step ss ++ (map line.Change rs ++ line.Ends d ∷ k) ≡ map line.Step ts ++ (map line.Change qs ++ line.Ends e ∷ l) = cc in
    let w = same_body ss ts rs qs d e k l u in
    let b = w.steps in
    record { steps = λ i. a i ∷ b i; raises = w.raises; end = w.end; rest = w.rest }

pub record_then : (r : Record) (k : List Line) → record_lines r ++ k ≡ line.Node r.from_zero ∷ (map line.Step r.steps ++ (map line.Change r.raises ++ line.Ends r.end ∷ k))
record_then r k = ap (λ (x : List Line). line.Node r.from_zero ∷ x)
    (append_assoc (map line.Step r.steps) (map line.Change r.raises ++ line.Ends r.end ∷ []) k ∙ ap (λ (x : List Line). map line.Step r.steps ++ x) (append_assoc (map line.Change r.raises) (line.Ends r.end ∷ []) k))

pub tree_then : (r : Record) (rs : List Record) (k : List Line) → flat_map record_lines (r ∷ rs) ++ k ≡ line.Node r.from_zero ∷ (map line.Step r.steps ++ (map line.Change r.raises ++ line.Ends r.end ∷ (flat_map record_lines rs ++ k)))
tree_then r rs k = append_assoc (record_lines r) (flat_map record_lines rs) k ∙ record_then r (flat_map record_lines rs ++ k)

same_tree : (s t : List Record) → flat_map record_lines s ++ line.Close ∷ [] ≡ flat_map record_lines t ++ line.Close ∷ [] → s ≡ t
same_tree [] [] h = refl
same_tree [] (y ∷ ys) h = let e = h ∙ tree_then y ys (line.Close ∷ []) in absurd cc
same_tree (x ∷ xs) [] h = let e = sym (tree_then x xs (line.Close ∷ [])) ∙ h in absurd cc
same_tree (x ∷ xs) (y ∷ ys) h =
    let e = sym (tree_then x xs (line.Close ∷ [])) ∙ h ∙ tree_then y ys (line.Close ∷ []) in
    let z : x.from_zero ≡ y.from_zero = cc in
    let b : map line.Step x.steps ++ (map line.Change x.raises ++ line.Ends x.end ∷ (flat_map record_lines xs ++ line.Close ∷ [])) ≡ map line.Step y.steps ++ (map line.Change y.raises ++ line.Ends y.end ∷ (flat_map record_lines ys ++ line.Close ∷ [])) = cc in
    let w = same_body x.steps y.steps x.raises y.raises x.end y.end (flat_map record_lines xs ++ line.Close ∷ []) (flat_map record_lines ys ++ line.Close ∷ []) b in
    let p = w.steps in
    let q = w.raises in
    let d = w.end in
    let k = same_tree xs ys w.rest in
    λ i. record { from_zero = z i; steps = p i; raises = q i; end = d i } ∷ k i

pub one_tree : (text : List ℕ) (g h : Head) (s t : List Record) → IsCert text g s → IsCert text h t → (g ≡ h) × (s ≡ t)
one_tree text g h s t a b =
    let e = same_lines_of (cert_lines g s) (cert_lines h t) (cert_are_lines g s a.head_is a.tree_is) (cert_are_lines h t b.head_is b.tree_is) (sym a.text ∙ b.text) in
    let o : g.outcome ≡ h.outcome = cc in
    let r : g.rehandles ≡ h.rehandles = cc in
    let m : g.bound ≡ h.bound = cc in
    let n : g.nodes ≡ h.nodes = cc in
    let k : flat_map record_lines s ++ line.Close ∷ [] ≡ flat_map record_lines t ++ line.Close ∷ [] = cc in
    ((λ i. record { outcome = o i; rehandles = r i; bound = m i; nodes = n i }), same_tree s t k)
