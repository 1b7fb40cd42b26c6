-- Cell groups that stand in a message as they are read.
use Rattle.std.proofs.Common.{◌≡◌, ℕ, suc, ◌+◌, Bool, true, false, ◌||◌, cond, List, [], ◌∷◌, ◌++◌, length, map, Option, Some, None, refl, sym, ap, subst, ◌∙◌}
use Rattle.std.proofs.lemmas.List.{append-nil}
use Rattle.std.proofs.lemmas.List.Elements.{All-nil, All-cons, All-append, All-head, All-tail}
use Rattle.std.specs.Prelude.{All}
use Rattle.std.specs.List.{flat_map, list_any}
use Rattle.std.specs.Option.{option_or}
use Rattle.edifact_segments.specs.ReadBack.{IsWritable}
use Rattle.edifact_segments.specs.declared.segments.Segment.{Segment}
use Rattle.baplie.specs.declared.causes.Cause.{Cause}
use Rattle.baplie.specs.declared.parts.CellGroup.{CellGroup}
use Rattle.baplie.specs.Faults.{head, groups}
use Rattle.baplie.specs.Finding.{scan, group_cause, groups_fault}
use Rattle.baplie.specs.Groups.{cell_group}
use Rattle.baplie.specs.Segments.{closes, opens}
use Rattle.baplie.proofs.Scans.{neither, any-append, none≢some}

-- a LOC+147 and what stands behind it, up to the next one or the end
pub record IsCut (group : List Segment) : Type 0 where
  pub first : Segment
  pub others : List Segment
  pub begins : group ≡ first ∷ others
  pub opening : opens first ≡ true
  pub first_open : closes first ≡ false
  pub shut : list_any opens others ≡ false
  pub open_end : list_any closes others ≡ false
  pub writable : All IsWritable group

-- it tells this without a fault
pub record IsGood (g : CellGroup) : Type 0 where
  pub cut : IsCut g.segments
  pub told : cell_group g.segments ≡ g
  pub quiet : (n : ℕ) → scan (group_cause g.segments) n [] g.segments ≡ None

abbrev pub AllGood : List CellGroup → Type 0
AllGood [] = Unit {0}
AllGood (g ∷ gs) = IsGood g × AllGood gs

pub good-append : (xs ys : List CellGroup) → AllGood xs → AllGood ys → AllGood (xs ++ ys)
good-append [] ys a b = b
good-append (x ∷ xs) ys a b = (a.0, good-append xs ys a.1 b)

-- the segments of all
abbrev pub joined : List CellGroup → List Segment
joined gs = flat_map (λ g. g.segments) gs

pub all_told : (gs : List CellGroup) → AllGood gs → map cell_group (map (λ (g : CellGroup). g.segments) gs) ≡ gs
all_told [] p = refl
all_told (g ∷ gs) p = ap (λ x. x ∷ map cell_group (map (λ (g : CellGroup). g.segments) gs)) p.0.told ∙ ap (λ xs. g ∷ xs) (all_told gs p.1)

pub groups_quiet : (gs : List CellGroup) (n : ℕ) → AllGood gs → groups_fault n (map (λ (g : CellGroup). g.segments) gs) ≡ None
groups_quiet [] n p = refl
groups_quiet (g ∷ gs) n p =
    ap (λ r. option_or r (groups_fault (n + length g.segments) (map (λ (g : CellGroup). g.segments) gs))) (p.0.quiet n) ∙ groups_quiet gs (n + length g.segments) p.1

pub groups-writable : (gs : List CellGroup) → AllGood gs → All IsWritable (joined gs)
groups-writable [] p = All-nil IsWritable
groups-writable (g ∷ gs) p = All-append IsWritable g.segments (joined gs) p.0.cut.writable (groups-writable gs p.1)

-- ## The cuts

-- segments that open no group
head-past : (xs ys : List Segment) → list_any opens xs ≡ false → head (xs ++ ys) ≡ xs ++ head ys
head-past [] ys h = refl
head-past (x ∷ xs) ys h =
    let p = neither (opens x) (list_any opens xs) h in
    ap (λ t. cond t [] (x ∷ head (xs ++ ys))) p.0 ∙ ap (λ zs. x ∷ zs) (head-past xs ys p.1)

groups-past : (xs ys : List Segment) → list_any opens xs ≡ false → groups (xs ++ ys) ≡ groups ys
groups-past [] ys h = refl
groups-past (x ∷ xs) ys h =
    let p = neither (opens x) (list_any opens xs) h in
    ap (λ t. cond t ((x ∷ head (xs ++ ys)) ∷ groups (xs ++ ys)) (groups (xs ++ ys))) p.0 ∙ groups-past xs ys p.1

pub head-groups : (gs : List CellGroup) → AllGood gs → head (joined gs) ≡ []
head-groups [] p = refl
head-groups (g ∷ gs) p =
    let c = p.0.cut in
    ap (λ xs. head (xs ++ joined gs)) c.begins ∙ ap (λ t. cond t [] (c.first ∷ head (c.others ++ joined gs))) c.opening

pub groups-groups : (gs : List CellGroup) → AllGood gs → groups (joined gs) ≡ map (λ (g : CellGroup). g.segments) gs
groups-groups [] p = refl
groups-groups (g ∷ gs) p =
    let c = p.0.cut in
    let more = joined gs in
    ap (λ xs. groups (xs ++ more)) c.begins
    ∙ ap (λ t. cond t ((c.first ∷ head (c.others ++ more)) ∷ groups (c.others ++ more)) (groups (c.others ++ more))) c.opening
    ∙ ap (λ xs. (c.first ∷ xs) ∷ groups (c.others ++ more)) (head-past c.others more c.shut ∙ ap (λ xs. c.others ++ xs) (head-groups gs p.1) ∙ append-nil c.others)
    ∙ ap (λ xs. (c.first ∷ c.others) ∷ xs) (groups-past c.others more c.shut ∙ groups-groups gs p.1)
    ∙ ap (λ xs. xs ∷ map (λ (g : CellGroup). g.segments) gs) (sym c.begins)

pub open-groups : (gs : List CellGroup) → AllGood gs → list_any closes (joined gs) ≡ false
open-groups [] p = refl
open-groups (g ∷ gs) p =
    let c = p.0.cut in
    any-append closes g.segments (joined gs) (subst (λ (xs : List Segment). list_any closes xs ≡ false) (sym c.begins) (either_none (closes c.first) (list_any closes c.others) c.first_open c.open_end)) (open-groups gs p.1)
  where
    either_none : (p q : Bool) → p ≡ false → q ≡ false → (p || q) ≡ false
    either_none true q h k = h
    either_none false q h k = k

-- ## Groups as they are cut from a message

head-shut : (xs : List Segment) → list_any opens (head xs) ≡ false
head-shut [] = refl
head-shut (x ∷ xs) = go (opens x) refl (head-shut xs)
  where
    go : (t : Bool) → opens x ≡ t → list_any opens (head xs) ≡ false → list_any opens (cond t [] (x ∷ head xs)) ≡ false
    go true e h = refl
    go false e h = rw (e, h) refl

head-open : (xs : List Segment) → list_any closes xs ≡ false → list_any closes (head xs) ≡ false
head-open [] h = refl
head-open (x ∷ xs) h =
    let p = neither (closes x) (list_any closes xs) h in
    go (opens x) p.0 (head-open xs p.1)
  where
    go : (t : Bool) → closes x ≡ false → list_any closes (head xs) ≡ false → list_any closes (cond t [] (x ∷ head xs)) ≡ false
    go true e h = refl
    go false e h = rw (e, h) refl

head-writable : (xs : List Segment) → All IsWritable xs → All IsWritable (head xs)
head-writable [] h = All-nil IsWritable
head-writable (x ∷ xs) h = go (opens x) (head-writable xs (All-tail IsWritable x xs h))
  where
    go : (t : Bool) → All IsWritable (head xs) → All IsWritable (cond t [] (x ∷ head xs))
    go true k = All-nil IsWritable
    go false k = All-cons IsWritable x (head xs) (All-head IsWritable x xs h) k

-- each is cut where it begins, and no segment of it is a fault
abbrev pub EachRead : List (List Segment) → Type 0
EachRead [] = Unit {0}
EachRead (g ∷ gs) = IsCut g × ((n : ℕ) × (scan (group_cause g) n [] g ≡ None)) × EachRead gs

parts : (r later : Option (ℕ × Cause)) → option_or r later ≡ None → (r ≡ None) × (later ≡ None)
parts None later e = (refl, e)
parts (Some x) later e = absurd (none≢some e)

pub each_read : (n : ℕ) (xs : List Segment) → All IsWritable xs → list_any closes xs ≡ false → groups_fault n (groups xs) ≡ None → EachRead (groups xs)
each_read n [] w o h = tt
each_read n (x ∷ xs) w o h = go (opens x) refl h (λ m e. each_read m xs (All-tail IsWritable x xs w) (neither (closes x) (list_any closes xs) o).1 e)
  where
    p : (closes x ≡ false) × (list_any closes xs ≡ false)
    p = neither (closes x) (list_any closes xs) o

    go : (t : Bool) → opens x ≡ t → groups_fault n (cond t ((x ∷ head xs) ∷ groups xs) (groups xs)) ≡ None → ((m : ℕ) → groups_fault m (groups xs) ≡ None → EachRead (groups xs)) → EachRead (cond t ((x ∷ head xs) ∷ groups xs) (groups xs))
    go false e k rest = rest n k
    go true e k rest =
        let q = parts (scan (group_cause (x ∷ head xs)) n [] (x ∷ head xs)) (groups_fault (n + suc (length (head xs))) (groups xs)) k in (
          record {
            first = x;
            others = head xs;
            begins = refl;
            opening = e;
            first_open = p.0;
            shut = head-shut xs;
            open_end = head-open xs p.1;
            writable = All-cons IsWritable x (head xs) (All-head IsWritable x xs w) (head-writable xs (All-tail IsWritable x xs w));
          },
          (n, q.0),
          rest (n + suc (length (head xs))) q.1,
        )
