-- A message that is read can be written.
use Rattle.std.proofs.Common.{◌≡◌, ℕ, ◌+◌, ◌^◌, ◌≤◌, List, [], ◌∷◌, ◌++◌, length, map, refl, sym, ap, subst, ◌∙◌, arith, cond, true, false, Bool, Some, length-take}
use Rattle.std.proofs.lemmas.List.Elements.{All-head, All-tail, All-cons, All-take}
use Rattle.std.specs.Prelude.{All}
use Rattle.std.specs.List.{flat_map, list_any, position_or_len}
use Rattle.edifact_segments.specs.Grammar.{IsInterchange}
use Rattle.edifact_segments.specs.ReadBack.{IsWritable}
use Rattle.edifact_segments.specs.declared.segments.Segment.{Segment}
use Rattle.edifact_segments.proofs.Lengths.{few}
use Rattle.baplie.specs.declared.parts.CellGroup.{CellGroup}
use Rattle.baplie.specs.declared.parts.Message.{Message}
use Rattle.baplie.specs.Faults.{body, head, groups}
use Rattle.baplie.specs.Finding.{groups_fault}
use Rattle.baplie.specs.Groups.{cell_group}
use Rattle.baplie.specs.Messages.{IsMessage}
use Rattle.baplie.specs.Segments.{is_title, opens, closes}
use Rattle.baplie.specs.Whole.{content, IsWhole}
use Rattle.baplie.proofs.Built.{AreParts, read_by_parts}
use Rattle.baplie.proofs.WrittenParts.{clean, none_found}
use Rattle.baplie.proofs.Scans.{none≢some, open-cut}
use Rattle.baplie.proofs.Taken.{interchange_writable, interchange_headed}

joined-groups : (gs : List (List Segment)) → flat_map (λ (g : CellGroup). g.segments) (map cell_group gs) ≡ flat_map (λ g. g) gs
joined-groups [] = refl
joined-groups (g ∷ gs) = ap (λ xs. g ++ xs) (joined-groups gs)

-- the head and the groups are all
parts-whole : (xs : List Segment) → head xs ++ flat_map (λ g. g) (groups xs) ≡ xs
parts-whole [] = refl
parts-whole (x ∷ xs) = go (opens x) (parts-whole xs)
  where
    go : (t : Bool) → head xs ++ flat_map (λ g. g) (groups xs) ≡ xs → cond t [] (x ∷ head xs) ++ flat_map (λ g. g) (cond t ((x ∷ head xs) ∷ groups xs) (groups xs)) ≡ x ∷ xs
    go true h = ap (λ ys. x ∷ ys) h
    go false h = ap (λ ys. x ∷ ys) h

some-same : {A : Type 0} {x y : A} → Some x ≡ Some y → x ≡ y
some-same e = cc

module _ (bytes : List ℕ) (a b : Segment) (more : List Segment) (m : Message) (short : length bytes ≤ 2 ^ 29) (i : IsInterchange bytes (a ∷ b ∷ more)) (r : IsMessage (a ∷ b ∷ more) m) where
  segments : List Segment
  segments = a ∷ b ∷ more

  content-is : content m ≡ body (a ∷ b ∷ more)
  content-is =
      ap (λ xs. xs ++ flat_map (λ (g : CellGroup). g.segments) m.groups) r.head ∙ ap (λ gs. head (body (a ∷ b ∷ more)) ++ flat_map (λ (g : CellGroup). g.segments) gs) r.groups
      ∙ ap (λ xs. head (body (a ∷ b ∷ more)) ++ xs) (joined-groups (groups (body (a ∷ b ∷ more)))) ∙ parts-whole (body (a ∷ b ∷ more))

  service-is : a ≡ m.service
  service-is = some-same r.service

  title-is : b ≡ m.title
  title-is = some-same r.title

  all : All IsWritable (a ∷ b ∷ more)
  all = interchange_writable bytes (a ∷ b ∷ more) i

  rest_all : All IsWritable (b ∷ more)
  rest_all = All-tail IsWritable a (b ∷ more) all

  writable : All IsWritable (m.service ∷ m.title ∷ content m)
  writable =
      let P : Segment → Type 0 = λ s. IsWritable s in
      let Q : List Segment → Type 0 = λ xs. All IsWritable xs in
      All-cons IsWritable m.service (m.title ∷ content m) (subst P service-is (All-head IsWritable a (b ∷ more) all))
      (All-cons IsWritable m.title (content m) (subst P title-is (All-head IsWritable b more rest_all))
      (subst Q (sym content-is) (All-take IsWritable (position_or_len closes more) more (All-tail IsWritable b more rest_all))))

  parts : AreParts m
  parts =
      let c = clean (a ∷ b ∷ more) (none_found (a ∷ b ∷ more) r.faultless) in
      let behind = All-tail IsWritable m.service (m.title ∷ content m) writable in
      record {
        titled = ap is_title (sym title-is) ∙ c.titled;
        open_content = ap (λ xs. list_any closes xs) content-is ∙ open-cut more;
        head_is = ap head content-is ∙ sym r.head;
        groups_are = ap (λ xs. map cell_group (groups xs)) content-is ∙ sym r.groups;
        faultless_groups = ap (λ xs. groups_fault (3 + length (head xs)) (groups xs)) content-is ∙ c.groups;
        few = omega (arith, few bytes (a ∷ b ∷ more) i, ap length content-is, length-take (position_or_len closes more) more);
        canonical_title = (All-head IsWritable m.title (content m) behind).1;
        canonical_service = (All-head IsWritable m.service (m.title ∷ content m) writable).1;
      }

  whole : IsWhole m
  whole = record { headed = ap (λ s. s.tag) (sym service-is) ∙ interchange_headed bytes (a ∷ b ∷ more) i; writable = writable; read = read_by_parts m parts }

pub read_is_whole : (bytes : List ℕ) (segments : List Segment) (m : Message) → length bytes ≤ 2 ^ 29 → IsInterchange bytes segments → IsMessage segments m → IsWhole m
read_is_whole bytes [] m h i r = absurd (none≢some (sym r.service))
read_is_whole bytes (a ∷ []) m h i r = absurd (none≢some (sym r.title))
read_is_whole bytes (a ∷ b ∷ more) m h i r = whole bytes a b more m h i r
