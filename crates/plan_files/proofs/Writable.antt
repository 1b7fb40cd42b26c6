-- The segments of departure files are in canonical form, with tags and without control bytes.
use Rattle.std.proofs.Common.{◌≡◌, ℕ, ◌^◌, ◌<◌, ◌/◌, ◌==◌, Bool, true, false, cond, List, [], ◌∷◌, ◌++◌, length, take, drop, map, codes, ℤ, pos, negsuc, ◌≤ℤ◌, Option, Some, None, IfSome, refl, ap, ◌∙◌, arith, length-drop}
use Rattle.std.specs.Prelude.{All}
use Rattle.std.specs.Fmt.{decimal, signed_decimal}
use Rattle.std.proofs.lemmas.List.Elements.{All-nil, All-cons}
use Rattle.edifact_segments.specs.Canonical.{trimmed, canonical}
use Rattle.edifact_segments.specs.ReadBack.{IsPrintable, IsWritable}
use Rattle.edifact_segments.proofs.CanonicalLemmas.{push_full}
use Rattle.bookings.specs.declared.shipment.Bookings.{Bookings}
use Rattle.edifact_segments.specs.declared.segments.Segment.{Segment}
use Rattle.stow_data.specs.Digits.{digit}
use Rattle.plan_files.specs.DepartureSegments.{one, port_element, segment, unb, unh, bgm, dtm, tdt, loc, cell_segment, weight_code, mea, tmp, temperature_segments, rff, fullness, eqd, dgs, goods_segments}
use Rattle.baplie.proofs.Counts.{some_digits}
use Rattle.plan_files.proofs.Texts.{IsText, IsDate, closed, printable_decimal, printable_signed, printable-take, printable-drop, printable_cell, printable_number}

-- no element ends with an empty component
abbrev AreKept : List (List (List ℕ)) → Type 0
AreKept [] = Unit {0}
AreKept (e ∷ es) = (trimmed e ≡ e) × AreKept es

kept_all : (es : List (List (List ℕ))) → AreKept es → map trimmed es ≡ es
kept_all [] k = refl
kept_all (e ∷ es) k = ap (λ x. x ∷ map trimmed es) k.0 ∙ ap (λ xs. e ∷ xs) (kept_all es k.1)

-- nor do the elements with an empty one
canonical_by : (front : List (List (List ℕ))) (last : List (List ℕ)) → 0 < length last → AreKept (front ++ last ∷ []) → canonical (front ++ last ∷ []) ≡ front ++ last ∷ []
canonical_by front last h k = ap trimmed (kept_all (front ++ last ∷ []) k) ∙ push_full front last h

-- an element that ends with this component
kept : (front : List (List ℕ)) (last : List ℕ) → 0 < length last → trimmed (front ++ last ∷ []) ≡ front ++ last ∷ []
kept front last h = push_full front last h

pub writable-unb : (bookings : Bookings) (call : ℕ) → IsDate bookings.date → IsText 35 bookings.sender → IsText 35 bookings.recipient → call < 2 ^ 64 → IsWritable (unb bookings call)
unfolding unb
writable-unb bookings call d s r small =
    let date = bookings.date in
    let behind : 0 < length (drop 6 date) = omega (arith, length-drop 6 date, d.ten) in
    let front : List (List (List ℕ)) = (codes "UNOA" ∷ codes "2" ∷ []) ∷ one bookings.sender ∷ one bookings.recipient ∷ (take 6 date ∷ drop 6 date ∷ []) ∷ [] in (
      (85, 78, 66, refl, refl, refl, refl),
      canonical_by front (one (decimal call)) (omega arith) (refl, (kept [] bookings.sender s.some, (kept [] bookings.recipient r.some, (kept (take 6 date ∷ []) (drop 6 date) behind, (kept [] (decimal call) (some_digits call), tt))))),
      (
        (closed (codes "UNOA") refl, (closed (codes "2") refl, tt)),
        ((s.calm, tt), ((r.calm, tt), ((printable-take 6 date d.calm, (printable-drop 6 date d.calm, tt)), ((printable_decimal call small, tt), tt)))),
      ),
    )

pub writable-unh : IsWritable unh
unfolding unh
writable-unh = (
  (85, 78, 72, refl, refl, refl, refl),
  refl,
  ((closed (codes "1") refl, tt), ((closed (codes "BAPLIE") refl, (closed (codes "D") refl, (closed (codes "95B") refl, (closed (codes "UN") refl, (closed (codes "SMDG22") refl, tt))))), tt)),
)

pub writable-bgm : (call : ℕ) → call < 2 ^ 64 → IsWritable (bgm call)
unfolding bgm
writable-bgm call small = (
  (66, 71, 77, refl, refl, refl, refl),
  canonical_by ([] ∷ one (decimal call) ∷ []) (one (codes "9")) (omega arith) (refl, (kept [] (decimal call) (some_digits call), (refl, tt))),
  (tt, ((printable_decimal call small, tt), ((closed (codes "9") refl, tt), tt))),
)

pub writable-dtm : (qualifier date : List ℕ) → IsPrintable qualifier → IsPrintable date → IsWritable (dtm qualifier date)
unfolding dtm
writable-dtm qualifier date q d = (
  (68, 84, 77, refl, refl, refl, refl),
  canonical_by [] (qualifier ∷ date ∷ codes "201" ∷ []) (omega arith) (kept (qualifier ∷ date ∷ []) (codes "201") (omega arith), tt),
  ((q, (d, (closed (codes "201") refl, tt))), tt),
)

pub writable-tdt : (voyage vessel : List ℕ) → IsText 35 voyage → IsText 35 vessel → IsWritable (tdt voyage vessel)
unfolding tdt
writable-tdt voyage vessel v w = (
  (84, 68, 84, refl, refl, refl, refl),
  canonical_by (one (codes "20") ∷ one voyage ∷ [] ∷ [] ∷ [] ∷ [] ∷ [] ∷ []) ([] ∷ [] ∷ [] ∷ vessel ∷ []) (omega arith)
      (refl, (kept [] voyage v.some, (refl, (refl, (refl, (refl, (refl, (kept ([] ∷ [] ∷ [] ∷ []) vessel w.some, tt)))))))),
  ((closed (codes "20") refl, tt), ((v.calm, tt), (tt, (tt, (tt, (tt, (tt, ((tt, (tt, (tt, (w.calm, tt)))), tt)))))))),
)

pub writable-loc : (qualifier port : List ℕ) → 0 < length qualifier → IsPrintable qualifier → IsPrintable port → IsWritable (loc qualifier port)
unfolding loc
writable-loc qualifier port s q p = (
  (76, 79, 67, refl, refl, refl, refl),
  canonical_by (one qualifier ∷ []) (port_element port) (omega arith) (kept [] qualifier s, (kept (port ∷ codes "139" ∷ []) (codes "6") (omega arith), tt)),
  ((q, tt), ((p, (closed (codes "139") refl, (closed (codes "6") refl, tt))), tt)),
)

pub writable-cell : (cell : ℕ × ℕ × ℕ) → IsWritable (cell_segment cell)
unfolding cell_segment
writable-cell cell = (
  (76, 79, 67, refl, refl, refl, refl),
  refl,
  ((closed (codes "147") refl, tt), ((printable_cell cell, (tt, (closed (codes "5") refl, tt))), tt)),
)

some-weight_code : (vgm : Bool) → 0 < length (weight_code vgm)
some-weight_code true = omega arith
some-weight_code false = omega arith

calm-weight_code : (vgm : Bool) → IsPrintable (weight_code vgm)
calm-weight_code true = closed (codes "VGM") refl
calm-weight_code false = closed (codes "WT") refl

pub writable-mea : (vgm : Bool) (kg : ℕ) → kg < 2 ^ 64 → IsWritable (mea vgm kg)
unfolding mea
writable-mea vgm kg small = (
  (77, 69, 65, refl, refl, refl, refl),
  canonical_by (one (weight_code vgm) ∷ [] ∷ []) (codes "KGM" ∷ decimal kg ∷ []) (omega arith) (kept [] (weight_code vgm) (some-weight_code vgm), (refl, (kept (codes "KGM" ∷ []) (decimal kg) (some_digits kg), tt))),
  ((calm-weight_code vgm, tt), (tt, ((closed (codes "KGM") refl, (printable_decimal kg small, tt)), tt))),
)

writable-tmp : (z : ℤ) → negsuc 98 ≤ℤ z → z ≤ℤ pos 99 → IsWritable (tmp z)
unfolding tmp
writable-tmp z low high = (
  (84, 77, 80, refl, refl, refl, refl),
  canonical_by (one (codes "2") ∷ []) (signed_decimal z ∷ codes "CEL" ∷ []) (omega arith) (refl, (kept (signed_decimal z ∷ []) (codes "CEL") (omega arith), tt)),
  ((closed (codes "2") refl, tt), ((printable_signed z low high, (closed (codes "CEL") refl, tt)), tt)),
)

pub writable-rff : IsWritable rff
unfolding rff
writable-rff = ((82, 70, 70, refl, refl, refl, refl), refl, ((closed (codes "BM") refl, (closed (codes "1") refl, tt)), tt))

some-fullness : (empty : Bool) → 0 < length (fullness empty)
some-fullness true = omega arith
some-fullness false = omega arith

calm-fullness : (empty : Bool) → IsPrintable (fullness empty)
calm-fullness true = closed (codes "4") refl
calm-fullness false = closed (codes "5") refl

pub writable-eqd : (id iso : List ℕ) (empty : Bool) → 0 < length id → 0 < length iso → IsPrintable id → IsPrintable iso → IsWritable (eqd id iso empty)
unfolding eqd
writable-eqd id iso empty a b i t = (
  (69, 81, 68, refl, refl, refl, refl),
  canonical_by (one (codes "CN") ∷ one id ∷ one iso ∷ [] ∷ [] ∷ []) (one (fullness empty)) (omega arith) (refl, (kept [] id a, (kept [] iso b, (refl, (refl, (kept [] (fullness empty) (some-fullness empty), tt)))))),
  ((closed (codes "CN") refl, tt), ((i, tt), ((t, tt), (tt, (tt, ((calm-fullness empty, tt), tt)))))),
)

writable-dgs : (class : List ℕ) (unno : ℕ) → IsText 8 class → IsWritable (dgs class unno)
unfolding dgs
writable-dgs class unno c = go (unno == 0)
  where
    number : List ℕ
    number = digit (unno / 1000) ∷ digit (unno / 100) ∷ digit (unno / 10) ∷ digit unno ∷ []

    go : (none : Bool) → IsWritable (segment (codes "DGS") (one (codes "IMD") ∷ one class ∷ cond none [] (one number ∷ [])))
    go true = (
      (68, 71, 83, refl, refl, refl, refl),
      canonical_by (one (codes "IMD") ∷ []) (one class) (omega arith) (refl, (kept [] class c.some, tt)),
      ((closed (codes "IMD") refl, tt), ((c.calm, tt), tt)),
    )
    go false = (
      (68, 71, 83, refl, refl, refl, refl),
      canonical_by (one (codes "IMD") ∷ one class ∷ []) (one number) (omega arith) (refl, (kept [] class c.some, (refl, tt))),
      ((closed (codes "IMD") refl, tt), ((c.calm, tt), ((printable_number unno, tt), tt))),
    )

-- ## Lists of segments

-- each of the segments can be written
abbrev pub EachWritable : List Segment → Type 0
EachWritable [] = Unit {0}
EachWritable (x ∷ xs) = IsWritable x × EachWritable xs

pub writable-append : (xs ys : List Segment) → EachWritable xs → EachWritable ys → EachWritable (xs ++ ys)
writable-append [] ys a b = b
writable-append (x ∷ xs) ys a b = (a.0, writable-append xs ys a.1 b)

pub writable-temperature : (o : Option ℤ) → IfSome o (λ z. negsuc 98 ≤ℤ z) → IfSome o (λ z. z ≤ℤ pos 99) → EachWritable (temperature_segments o)
writable-temperature None low high = tt
writable-temperature (Some z) low high = (writable-tmp z low high, tt)

pub writable-goods : (o : Option (List ℕ)) (unno : ℕ) → IfSome o (IsText 8) → EachWritable (goods_segments o unno)
writable-goods None unno c = tt
writable-goods (Some class) unno c = (writable-dgs class unno c, tt)

pub all_writable : (xs : List Segment) → EachWritable xs → All IsWritable xs
all_writable [] w = All-nil IsWritable
all_writable (x ∷ xs) w = All-cons IsWritable x xs w.0 (all_writable xs w.1)
