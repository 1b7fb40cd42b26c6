use Rattle.std.proofs.Common.{◌≡◌, ◌+◌, ◌<◌, ◌^◌, ◌++◌, ◌∷◌, ℕ, length, length-append, List, [], append_assoc, sym, ap, subst, ◌∙◌, arith}
use Rattle.std.specs.Prelude.{All, codes}
use Rattle.std.proofs.lemmas.List.{append-nil}
use Rattle.std.proofs.lemmas.List.Concat.{flat_map-append}
use Rattle.baplie.specs.Segments.{element}
use Rattle.std.specs.List.{flat_map}
use Rattle.std.proofs.lemmas.List.Elements.{All-head, All-tail}
use Rattle.edifact_segments.specs.Grammar.{IsInterchange}
use Rattle.edifact_segments.specs.ReadBack.{IsWritable}
use Rattle.edifact_segments.specs.Written.{written}
use Rattle.edifact_segments.specs.declared.segments.Segment.{Segment}
use Rattle.edifact_segments.proofs.OneReading.{one_interchange}
use Rattle.baplie.specs.declared.parts.Message.{Message}
use Rattle.baplie.specs.declared.parts.CellGroup.{CellGroup}
use Rattle.baplie.specs.Messages.{IsMessage}
use Rattle.baplie.specs.Whole.{content, segments_of, trailer, unt, unz}
use Rattle.baplie.proofs.WrittenParts.{is_open, interchange}
use Rattle.baplie.proofs.writing.write_baplie.Goals as goal

few : (m : Message) → All IsWritable (m.service ∷ m.title ∷ content m) → IsMessage (segments_of m) m → length m.head + length (flat_map (λ (g : CellGroup). g.segments) m.groups) + 2 < 10 ^ 9
few m w r =
    let title = All-head IsWritable m.title (content m) (All-tail IsWritable m.service (m.title ∷ content m) w) in
    omega (arith, (is_open m title.1 r.faultless).few, length-append m.head (flat_map (λ (g : CellGroup). g.segments) m.groups))

pub overflow_add-count : goal.overflow_add-count
overflow_add-count c = omega (arith, c.len.ensures, few c.args.message.now c.requires.writable c.requires.read)

pub count_segments-requires : goal.count_segments-requires
count_segments-requires c = omega (arith, few c.args.message.now c.requires.writable c.requires.read)

pub overflow_add-count-2 : goal.overflow_add-count-2
overflow_add-count-2 c = omega (arith, c.len.ensures, c.count_segments.ensures, few c.args.message.now c.requires.writable c.requires.read)

-- the text after each step
joined : (m : Message) (a b c d e f g : List ℕ) (count : ℕ) → a ≡ [] → b ≡ a ++ written m.service → c ≡ b ++ written m.title → d ≡ c ++ flat_map written m.head → e ≡ d ++ flat_map written (flat_map (λ (x : CellGroup). x.segments) m.groups)
    → f ≡ e ++ written (trailer (codes "UNT") count (element m.title 1)) → g ≡ f ++ written (unz m) → count ≡ length (content m) + 2 → g ≡ flat_map written (segments_of m)
joined m a b c d e f g count p q r s t u v n =
    let head = flat_map written m.head in
    let groups = flat_map written (flat_map (λ (x : CellGroup). x.segments) m.groups) in
    let end = written (unt m) ++ written (unz m) in
    let ends : f ≡ e ++ written (unt m) = u ∙ ap (λ k. e ++ written (trailer (codes "UNT") k (element m.title 1))) n in
    let begun : c ≡ written m.service ++ written m.title = r ∙ ap (λ y. y ++ written m.title) (q ∙ ap (λ y. y ++ written m.service) p) in
    let whole : g ≡ written m.service ++ written m.title ++ head ++ groups ++ written (unt m) ++ written (unz m) =
    v ∙ ap (λ y. y ++ written (unz m)) (ends ∙ ap (λ y. y ++ written (unt m)) (t ∙ ap (λ y. y ++ groups) (s ∙ ap (λ y. y ++ head) begun))) in
    let parts : flat_map written (content m ++ unt m ∷ unz m ∷ []) ≡ head ++ groups ++ (written (unt m) ++ (written (unz m) ++ [])) =
    flat_map-append written (content m) (unt m ∷ unz m ∷ []) ∙ ap (λ y. y ++ (written (unt m) ++ (written (unz m) ++ []))) (flat_map-append written m.head (flat_map (λ (x : CellGroup). x.segments) m.groups)) in
    whole ∙ regroup (written m.service) (written m.title) head groups (written (unt m)) (written (unz m)) ∙ ap (λ y. written m.service ++ (written m.title ++ y)) (sym parts)
  where
    regroup : (a b c d e f : List ℕ) → a ++ b ++ c ++ d ++ e ++ f ≡ a ++ (b ++ (c ++ d ++ (e ++ (f ++ []))))
    regroup a b c d e f = simp (append_assoc, append-nil)

pub returns-clause-text : goal.returns-clause-text
returns-clause-text c =
    let m = c.args.message.now in
    joined m c.new-text.result c.write_segment.new.out c.write_segment-2.new.out c.write_all.new.out c.write_groups.new.out c.write_trailer.new.out c.write_trailer-2.new.out (2 + c.len.result + c.count_segments.result)
    c.new-text.ensures c.in_ok-write_segment.ensures c.in_ok-write_segment-2.ensures c.in_ok-write_all.ensures c.in_ok-write_groups.ensures c.in_ok-write_trailer.ensures c.in_ok-write_trailer-2.ensures
    (omega (arith, c.len.ensures, c.count_segments.ensures, length-append m.head (flat_map (λ (x : CellGroup). x.segments) m.groups)))

pub returns-clause-interchange : goal.returns-clause-interchange
returns-clause-interchange c =
    let P : List ℕ → Type 0 = λ t. IsInterchange t (segments_of c.args.message.now) in
    subst P (sym (returns-clause-text c)) (interchange c.args.message.now c.requires.headed c.requires.writable c.requires.read.faultless)

pub returns-clause-reads_back : goal.returns-clause-reads_back
returns-clause-reads_back c segments h =
    let P : List Segment → Type 0 = λ s. IsMessage s c.args.message.now in
    subst P (one_interchange _ (segments_of c.args.message.now) segments (returns-clause-interchange c) h) c.requires.read
