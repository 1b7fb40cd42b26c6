-- A group in another cell is read without a fault, and tells what it told.
use Rattle.std.proofs.Common.{◌≡◌, ℕ, suc, ◌+◌, ◌<◌, ◌==◌, Bool, true, false, cond, List, [], ◌∷◌, ◌++◌, length, get_or, drop, map, codes, Option, Some, None, refl, sym, ap, subst, ◌∙◌, arith}
use Rattle.std.specs.Prelude.{All, find, is_none, unwrap_or, IfSome}
use Rattle.std.proofs.lemmas.Bool.{and_parts, eqb-true}
use Rattle.std.proofs.lemmas.List.Elements.{All-cons, All-head, All-tail}
use Rattle.std.proofs.lemmas.Slice.Eq.{bytes_eq-Decides}
use Rattle.edifact_segments.specs.Canonical.{in_front, trimmed, canonical}
use Rattle.edifact_segments.specs.ReadBack.{IsPrintable, IsPrintableElement, ArePrintable, IsWritable}
use Rattle.edifact_segments.specs.declared.segments.Segment.{Segment}
use Rattle.edifact_segments.proofs.CanonicalLemmas.{map-trimmed-canonical}
use Rattle.stow_data.specs.declared.geometry.Length.{Length}
use Rattle.baplie.specs.declared.causes.Cause.{Cause}
use Rattle.baplie.specs.declared.causes.Cause.TheVariants.{NotBaplie, BadCell, NoWeightOrPort}
use Rattle.baplie.specs.Finding.{scan, group_causes, group_cause}
use Rattle.baplie.specs.Groups.{cell_group, cell_in, facts_at, facts_from, lacks, long_of_bay, prior, shows}
use Rattle.baplie.specs.Segments.{component, element, is_container, is_one, opens, same_text}
use Rattle.stow_data.specs.Types.{length_of_type}
use Rattle.baplie.proofs.CellDigits.{cell-known}
use Rattle.baplie.proofs.Scans.{none≢some, scan-cons, scan-first}
use Rattle.plan_files.specs.DepartureFile.{moved, moved_segment}
use Rattle.plan_files.specs.DepartureSegments.{one, cell_text, segment}
use Rattle.plan_files.proofs.Good.{IsCut, IsGood}
use Rattle.plan_files.proofs.Quiet.{none_found}
use Rattle.plan_files.proofs.Texts.{closed, printable_cell}

-- ## The first segment

same_bytes : (a b : List ℕ) → same_text a b ≡ true → a ≡ b
same_bytes a b h = (bytes_eq-Decides a b).0 h

nothing_in : (es : List (List ℕ)) → length es ≡ 0 → es ≡ []
nothing_in [] e = refl
nothing_in (x ∷ es) e = absurd (omega arith)

single : (e : List (List ℕ)) (t : List ℕ) → is_one e t ≡ true → e ≡ t ∷ []
single [] t h = absurd cc
single (x ∷ es) t h =
    let b = and_parts (length (x ∷ es) == 1) (same_text x t) h in
    let n : suc (length es) ≡ 1 = eqb-true (suc (length es)) 1 b.0 in
    ap (λ (zs : List (List ℕ)). x ∷ zs) (nothing_in es (omega (arith, n))) ∙ ap (λ (y : List ℕ). y ∷ []) (same_bytes x t b.1)

first_one : (es : List (List (List ℕ))) (t : List ℕ) → is_one (element (segment (codes "LOC") es) 1) t ≡ true → es ≡ (t ∷ []) ∷ drop 1 es
first_one [] t h = absurd cc
first_one (e ∷ es) t h = ap (λ (x : List (List ℕ)). x ∷ es) (single e t h)

-- what opens a group is LOC+147
opened : (s : Segment) → opens s ≡ true → s ≡ segment (codes "LOC") (one (codes "147") ∷ drop 1 s.elements)
opened s h =
    let b = and_parts (same_text s.tag (codes "LOC")) (is_one (element s 1) (codes "147")) h in
    ap (λ (tag : List ℕ). segment tag s.elements) (same_bytes s.tag (codes "LOC") b.0) ∙ ap (segment (codes "LOC")) (first_one s.elements (codes "147") b.1)

-- ## Canonical form

tail_kept : {A : Type 0} (x : List A) (xs : List (List A)) → trimmed (x ∷ xs) ≡ x ∷ xs → trimmed xs ≡ xs
tail_kept (b ∷ bs) xs h = cc
tail_kept {A} [] xs h = go (trimmed xs) refl h
  where
    go : (ys : List (List A)) → trimmed xs ≡ ys → in_front [] ys ≡ [] ∷ xs → trimmed xs ≡ xs
    go [] e k = absurd cc
    go (y ∷ ys) e k = e ∙ (let f : y ∷ ys ≡ xs = cc in f)

drop_kept : {A : Type 0} (n : ℕ) (xs : List (List A)) → trimmed xs ≡ xs → trimmed (drop n xs) ≡ drop n xs
drop_kept ℕ.zero xs h = h
drop_kept (suc n) [] h = refl
drop_kept (suc n) (x ∷ xs) h = drop_kept n xs (tail_kept x xs h)

each_kept : (n : ℕ) (es : List (List (List ℕ))) → map trimmed es ≡ es → map trimmed (drop n es) ≡ drop n es
each_kept ℕ.zero es h = h
each_kept (suc n) [] h = refl
each_kept (suc n) (e ∷ es) h = each_kept n es (let k : map trimmed es ≡ es = cc in k)

second_kept : (es : List (List (List ℕ))) → map trimmed es ≡ es → trimmed (element (segment (codes "LOC") es) 2) ≡ element (segment (codes "LOC") es) 2
second_kept [] h = refl
second_kept (e ∷ []) h = refl
second_kept (e ∷ f ∷ es) h = cc

in_front-some : {A : Type 0} (x y : List A) (ys : List (List A)) → in_front x (y ∷ ys) ≡ x ∷ y ∷ ys
in_front-some [] y ys = refl
in_front-some (b ∷ bs) y ys = refl

-- an element with a cell, a second component, an agency, and more
cell_kept : (cell : ℕ × ℕ × ℕ) (c : List ℕ) (cs : List (List ℕ)) → trimmed cs ≡ cs → trimmed (cell_text cell ∷ c ∷ codes "5" ∷ cs) ≡ cell_text cell ∷ c ∷ codes "5" ∷ cs
cell_kept cell c cs h = ap (λ (x : List (List ℕ)). cell_text cell ∷ x) (ap (λ (x : List (List ℕ)). in_front c (codes "5" ∷ x)) h ∙ in_front-some c (codes "5") cs)

canonical-moved : (cell : ℕ × ℕ × ℕ) (s : Segment) → canonical s.elements ≡ s.elements → canonical (moved_segment cell s).elements ≡ (moved_segment cell s).elements
canonical-moved cell s h =
    let each : map trimmed s.elements ≡ s.elements = sym (ap (map trimmed) h) ∙ (map-trimmed-canonical s.elements ∙ h) in
    let all : trimmed s.elements ≡ s.elements = sym (ap trimmed each) ∙ h in
    let behind = drop 2 s.elements in
    let second = cell_text cell ∷ component s 2 2 ∷ codes "5" ∷ drop 3 (element s 2) in
    ap (λ (x : List (List ℕ)). trimmed (one (codes "147") ∷ x ∷ map trimmed behind)) (cell_kept cell (component s 2 2) (drop 3 (element s 2)) (drop_kept 3 (element s 2) (second_kept s.elements each)))
    ∙ ap (λ (xs : List (List (List ℕ))). trimmed (one (codes "147") ∷ second ∷ xs)) (each_kept 2 s.elements each)
    ∙ ap (λ (xs : List (List (List ℕ))). one (codes "147") ∷ second ∷ xs) (drop_kept 2 s.elements all)

printable-drop : (n : ℕ) (cs : List (List ℕ)) → IsPrintableElement cs → IsPrintableElement (drop n cs)
printable-drop ℕ.zero cs h = h
printable-drop (suc n) [] h = tt
printable-drop (suc n) (c ∷ cs) h = printable-drop n cs h.1

printable-behind : (n : ℕ) (es : List (List (List ℕ))) → ArePrintable es → ArePrintable (drop n es)
printable-behind ℕ.zero es h = h
printable-behind (suc n) [] h = tt
printable-behind (suc n) (e ∷ es) h = printable-behind n es h.1

printable-second : (es : List (List (List ℕ))) → ArePrintable es → IsPrintableElement (element (segment (codes "LOC") es) 2)
printable-second [] h = tt
printable-second (e ∷ []) h = tt
printable-second (e ∷ f ∷ es) h = h.1.0

printable-part : (e : List (List ℕ)) → IsPrintableElement e → IsPrintable (component (segment (codes "LOC") (one (codes "147") ∷ e ∷ [])) 2 2)
printable-part [] h = tt
printable-part (c ∷ []) h = tt
printable-part (c ∷ d ∷ cs) h = h.1.0

writable-moved : (cell : ℕ × ℕ × ℕ) (s : Segment) → IsWritable s → IsWritable (moved_segment cell s)
writable-moved cell s w =
    let e = printable-second s.elements w.2 in (
      (76, 79, 67, refl, refl, refl, refl),
      canonical-moved cell s w.1,
      ((closed (codes "147") refl, tt), ((printable_cell cell, (printable-part (element s 2) e, (closed (codes "5") refl, printable-drop 3 (element s 2) e))), printable-behind 2 s.elements w.2)),
    )

-- ## Faults

-- bay, row and tier number of a cell
pub record IsNumber (cell : ℕ × ℕ × ℕ) : Type 0 where
  pub bay : cell.0 < 1000
  pub row : cell.1 < 100
  pub tier : cell.2 < 100

-- none of the causes is shown
not_shown : (f : Cause → Bool) (cs : List Cause) (k : ℕ) (d : Cause) → k < length cs → find f cs ≡ None → f (get_or cs k d) ≡ false
not_shown f [] k d l h = absurd (omega arith)
not_shown f (c ∷ cs) k d l h = go (f c) refl k l h (λ j m e. not_shown f cs j d m e)
  where
    go : (t : Bool) → f c ≡ t → (k : ℕ) → k < suc (length cs) → cond t (Some c) (find f cs) ≡ None → ((j : ℕ) → j < length cs → find f cs ≡ None → f (get_or cs j d) ≡ false) → f (get_or (c ∷ cs) k d) ≡ false
    go true e k l h rest = absurd (none≢some h)
    go false e ℕ.zero l h rest = e
    go false e (suc k) l h rest = rest k (omega arith) h

module _ (cell : ℕ × ℕ × ℕ) (number : IsNumber cell) (rest : List (List (List ℕ))) (ss : List Segment) where
  -- LOC+147 with the other elements
  abbrev first : Segment
  first = segment (codes "LOC") (one (codes "147") ∷ rest)

  abbrev now : Segment
  now = moved_segment cell (segment (codes "LOC") (one (codes "147") ∷ rest))

  quiet-first : lacks (now ∷ ss) ≡ false → (c : Cause) → shows (prior (now ∷ ss) []) now c ≡ false
  quiet-first l BadCell = ap is_none (cell-known cell.0 cell.1 cell.2 number.bay number.row number.tier)
  quiet-first l NoWeightOrPort = l
  quiet-first l c = refl

  quiet-behind : (b xs : List Segment) (n m : ℕ) → scan (group_cause (first ∷ ss)) n (first ∷ b) xs ≡ None → scan (group_cause (now ∷ ss)) m (now ∷ b) xs ≡ None
  quiet-behind b [] n m h = refl
  quiet-behind b (x ∷ xs) n m h =
      let p = scan-first (group_cause (first ∷ ss)) n (first ∷ b) xs x h in
      let here : group_cause (now ∷ ss) (now ∷ b) x ≡ None = p.0 in
      scan-cons (group_cause (now ∷ ss)) m (now ∷ b) xs x here ∙ quiet-behind (b ++ x ∷ []) xs (n + 1) (m + 1) p.1

  quiet-all : (n m : ℕ) → scan (group_cause (first ∷ ss)) n [] (first ∷ ss) ≡ None → scan (group_cause (now ∷ ss)) m [] (now ∷ ss) ≡ None
  quiet-all n m h =
      let p = scan-first (group_cause (first ∷ ss)) n [] ss first h in
      let whole : lacks (first ∷ ss) ≡ false = not_shown (shows (prior (first ∷ ss) []) first) group_causes 9 NotBaplie (omega arith) p.0 in
      scan-cons (group_cause (now ∷ ss)) m [] ss now (none_found (shows (prior (now ∷ ss) []) now) group_causes (quiet-first whole)) ∙ quiet-behind [] ss (n + 1) (m + 1) p.1

  -- ## What is told

  same_cell : cell_in (now ∷ ss) ≡ cell
  same_cell = ap (λ o. unwrap_or o (0, 0, 0)) (cell-known cell.0 cell.1 cell.2 number.bay number.row number.tier)

  same_long : (o : Option Length) (new old : Length) → new ≡ unwrap_or o old → unwrap_or o new ≡ unwrap_or o old
  same_long None new old h = h
  same_long (Some l) new old h = refl

  -- the length by the bay, where there is no type, is that of the container
  same_facts : (o : Option Segment) → IfSome (facts_from (first ∷ ss) o) (λ f. long_of_bay cell.0 ≡ f.long) → facts_from (now ∷ ss) o ≡ facts_from (first ∷ ss) o
  same_facts None h = refl
  same_facts (Some s) h =
      let bay : long_of_bay (cell_in (now ∷ ss)).0 ≡ long_of_bay cell.0 = ap (λ (z : ℕ × ℕ × ℕ). long_of_bay z.0) same_cell in
      ap (λ (long : Length). Some (record {
        id = (facts_at (first ∷ ss) s).id;
        iso = (facts_at (first ∷ ss) s).iso;
        long = long;
        empty = (facts_at (first ∷ ss) s).empty;
        kg = (facts_at (first ∷ ss) s).kg;
        reefer = (facts_at (first ∷ ss) s).reefer;
        class = (facts_at (first ∷ ss) s).class;
        dest = (facts_at (first ∷ ss) s).dest;
      })) (same_long (length_of_type (component s 3 1)) (long_of_bay (cell_in (now ∷ ss)).0) (long_of_bay (cell_in (first ∷ ss)).0) (bay ∙ h))

  same_told : IfSome (cell_group (first ∷ ss)).facts (λ f. long_of_bay cell.0 ≡ f.long) → cell_group (now ∷ ss) ≡ moved cell (cell_group (first ∷ ss))
  same_told h = λ i. record {
    bay = (same_cell i).0;
    row = (same_cell i).1;
    tier = (same_cell i).2;
    facts = same_facts (find is_container ss) h i;
    segments = now ∷ ss;
  }

-- a group as it was read, in another cell
pub moved_good : (cell : ℕ × ℕ × ℕ) (group : List Segment) (n : ℕ) → IsNumber cell → IsCut group → scan (group_cause group) n [] group ≡ None → IfSome (cell_group group).facts (λ f. long_of_bay cell.0 ≡ f.long) → IsGood (moved cell (cell_group group))
moved_good cell group n number cut quiet long =
    let whole : group ≡ segment (codes "LOC") (one (codes "147") ∷ drop 1 cut.first.elements) ∷ cut.others = cut.begins ∙ ap (λ (s : Segment). s ∷ cut.others) (opened cut.first cut.opening) in
    let first = segment (codes "LOC") (one (codes "147") ∷ drop 1 cut.first.elements) in
    let rest = drop 1 cut.first.elements in
    let w : All IsWritable (first ∷ cut.others) = subst (λ (xs : List Segment). All IsWritable xs) whole cut.writable in
    let q = subst (λ (xs : List Segment). scan (group_cause xs) n [] xs ≡ None) whole quiet in
    let h = subst (λ (xs : List Segment). IfSome (cell_group xs).facts (λ f. long_of_bay cell.0 ≡ f.long)) whole long in
    let good : IsGood (moved cell (cell_group (first ∷ cut.others))) = record {
      cut = record {
        first = moved_segment cell first;
        others = cut.others;
        begins = refl;
        opening = refl;
        first_open = refl;
        shut = cut.shut;
        open_end = cut.open_end;
        writable = All-cons IsWritable (moved_segment cell first) cut.others (writable-moved cell first (All-head IsWritable first cut.others w)) (All-tail IsWritable first cut.others w);
      };
      told = same_told cell number rest cut.others h;
      quiet = λ m. quiet-all cell number rest cut.others n m q;
    } in
    subst (λ (xs : List Segment). IsGood (moved cell (cell_group xs))) (sym whole) good
