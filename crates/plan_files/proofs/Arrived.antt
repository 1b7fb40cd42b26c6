-- The groups of the bay plan of the ship as it came in: each is read without a fault, and all together are short.
use Rattle.std.proofs.Common.{◌≡◌, ℕ, zero, suc, ◌+◌, ◌-◌, ◌%◌, ◌^◌, ◌<◌, ◌≤◌, ◌==◌, Bool, true, false, cond, List, [], ◌∷◌, length, get_or, map, None, refl, sym, ap, subst, ◌∙◌, arith, inl, inr, length-append, length-take, length-drop}
use Rattle.std.specs.Prelude.{All}
use Rattle.std.specs.List.{position_or_len}
use Rattle.std.proofs.lemmas.Bool.{eq-eqb}
use Rattle.edifact_segments.proofs.ScanLemmas.{not_eqb}
use Rattle.std.proofs.lemmas.List.Elements.{All-take, All-drop}
use Rattle.edifact_segments.specs.ReadBack.{IsWritable}
use Rattle.edifact_segments.specs.declared.segments.Segment.{Segment}
use Rattle.edifact_segments.proofs.Lengths as lengths
use Rattle.stow_data.specs.declared.geometry.Span.{Span}
use Rattle.stow_data.specs.declared.geometry.Span.TheVariants.{Fore, Aft, Both}
use Rattle.stow_data.specs.declared.geometry.Length.{Length}
use Rattle.stow_data.specs.declared.geometry.Length.TheVariants.{Twenty, Forty}
use Rattle.stow_data.specs.Ship.{bay_of, length_in}
use Rattle.stow_data.proofs.Members.{Member, map_at}
use Rattle.baplie.specs.declared.parts.CellGroup.{CellGroup}
use Rattle.baplie.specs.Faults.{body, head, groups, rest}
use Rattle.baplie.specs.Finding.{scan, group_cause}
use Rattle.baplie.specs.Groups.{cell_group, long_of_bay}
use Rattle.baplie.specs.Segments.{closes, opens}
use Rattle.baplie.proofs.WrittenParts.{clean, none_found}
use Rattle.baplie.proofs.Scans.{open-cut}
use Rattle.baplie.proofs.Taken.{interchange_writable}
use Rattle.plan_files.specs.DepartureFile.{AreArrived, AreOf}
use Rattle.plan_files.proofs.Good.{EachRead, IsCut, each_read, joined}

-- ## A group as it was read

pub record IsReadGroup (g : CellGroup) : Type 0 where
  pub segments : List Segment
  pub is : g ≡ cell_group segments
  pub cut : IsCut segments
  pub first : ℕ
  pub quiet : scan (group_cause segments) first [] segments ≡ None

of_each : (gs : List (List Segment)) (s : List Segment) → EachRead gs → Member s gs → IsReadGroup (cell_group s)
of_each [] s h m = absurd m
of_each (g ∷ gs) s h (inl e) = subst (λ (x : List Segment). IsReadGroup (cell_group x)) (sym e) (record { segments = g; is = refl; cut = h.0; first = h.1.0; quiet = h.1.1 })
of_each (g ∷ gs) s h (inr m) = of_each gs s h.2 m

of_message : (arrived : List CellGroup) (bytes : List ℕ) (g : CellGroup) → AreOf arrived bytes → Member g arrived → IsReadGroup g
of_message arrived bytes g of m =
    let segments = of.is_message.segments in
    let r = of.is_message.is_message in
    let w : All IsWritable (rest segments) = All-drop IsWritable 2 segments (interchange_writable bytes segments of.is_message.interchange) in
    let c = clean segments (none_found segments r.faultless) in
    let each = each_read (3 + length (head (body segments))) (body segments) (All-take IsWritable (position_or_len closes (rest segments)) (rest segments) w) (open-cut (rest segments)) c.groups in
    let here : Member g (map cell_group (groups (body segments))) = subst (λ (xs : List CellGroup). Member g xs) (of.are_groups ∙ r.groups) m in
    let at = map_at cell_group (groups (body segments)) g here in
    subst IsReadGroup (sym at.2) (of_each (groups (body segments)) at.0 each at.1)

pub read_group : (arrived : List CellGroup) (g : CellGroup) → AreArrived arrived → Member g arrived → IsReadGroup g
read_group arrived g (inl e) m = absurd (subst (λ (xs : List CellGroup). Member g xs) e m)
read_group arrived g (inr of) m = of_message arrived of.0 g of.1 m

-- ## All groups

length_groups : (xs : List Segment) → length (joined (map cell_group (groups xs))) + length (head xs) ≡ length xs
length_groups [] = refl
length_groups (x ∷ xs) = go (opens x) (length_groups xs)
  where
    go : (t : Bool) → length (joined (map cell_group (groups xs))) + length (head xs) ≡ length xs → length (joined (map cell_group (cond t ((x ∷ head xs) ∷ groups xs) (groups xs)))) + length (cond t [] (x ∷ head xs)) ≡ suc (length xs)
    go true h = omega (arith, h, length-append (x ∷ head xs) (joined (map cell_group (groups xs))))
    go false h = omega (arith, h)

pub few_arrived : (arrived : List CellGroup) → AreArrived arrived → length (joined arrived) ≤ 2 ^ 29
few_arrived arrived (inl e) = let none : length (joined arrived) ≡ 0 = ap (λ (xs : List CellGroup). length (joined xs)) e in omega (arith, none)
few_arrived arrived (inr (bytes, of)) =
    let segments = of.is_message.segments in
    let r = of.is_message.is_message in
    let same : length (joined arrived) ≡ length (joined (map cell_group (groups (body segments)))) = ap (λ (xs : List CellGroup). length (joined xs)) (of.are_groups ∙ r.groups) in
    let short = of.short in
    omega (arith, same, short, length_groups (body segments), length-take (position_or_len closes (rest segments)) (rest segments), length-drop 2 segments, lengths.few bytes segments of.is_message.interchange)

-- ## Some of them

-- what the numbers of the groups come to
pub total : List CellGroup → (ℕ → ℕ) → ℕ
total [] w = 0
total (g ∷ gs) w = w 0 + total gs (λ j. w (suc j))

pub total_joined : (gs : List CellGroup) (d : CellGroup) → total gs (λ k. length (get_or gs k d).segments) ≡ length (joined gs)
unfolding total
total_joined [] d = refl
total_joined (g ∷ gs) d = omega (arith, length-append g.segments (joined gs), total_joined gs d)

total_less : (gs : List CellGroup) (v w : ℕ → ℕ) → ((j : ℕ) → v j ≤ w j) → total gs v ≤ total gs w
unfolding total
total_less [] v w h = omega arith
total_less (g ∷ gs) v w h = omega (arith, h 0, total_less gs (λ j. v (suc j)) (λ j. w (suc j)) (λ j. h (suc j)))

without : (gs : List CellGroup) (v w : ℕ → ℕ) (k : ℕ) → k < length gs → v k ≡ 0 → ((j : ℕ) → v j ≤ w j) → total gs v + w k ≤ total gs w
unfolding total
without [] v w k l z h = absurd (omega arith)
without (g ∷ gs) v w zero l z h = omega (arith, z, total_less gs (λ j. v (suc j)) (λ j. w (suc j)) (λ j. h (suc j)))
without (g ∷ gs) v w (suc k) l z h = omega (arith, h 0, without gs (λ j. v (suc j)) (λ j. w (suc j)) k (omega arith) z (λ j. h (suc j)))

-- without the number of one group
abbrev pub put_out : ℕ → (ℕ → ℕ) → ℕ → ℕ
put_out k w j = cond (j == k) 0 (w j)

pub put_out_here : (w : ℕ → ℕ) (k : ℕ) → put_out k w k ≡ 0
put_out_here w k = ap (λ (t : Bool). cond t 0 (w k)) (eq-eqb k k refl)

pub put_out_else : (w : ℕ → ℕ) (k j : ℕ) → (j ≡ k → ⊥) → put_out k w j ≡ w j
put_out_else w k j ne = ap (λ (t : Bool). cond t 0 (w j)) (not_eqb j k ne)

put_out_less : (w : ℕ → ℕ) (k j : ℕ) → put_out k w j ≤ w j
put_out_less w k j = go (j == k)
  where
    go : (t : Bool) → cond t 0 (w j) ≤ w j
    go true = omega arith
    go false = omega arith

pub one_out : (gs : List CellGroup) (w : ℕ → ℕ) (k : ℕ) → k < length gs → total gs (put_out k w) + w k ≤ total gs w
one_out gs w k l = without gs (put_out k w) w k l (put_out_here w k) (put_out_less w k)

-- ## Lengths by bays

-- an odd bay is one of 20 foot, an even bay one of 40 foot
pub long_by_bay : (bay : ℕ) (span : Span) → bay % 2 ≡ 0 → 2 ≤ bay → long_of_bay (bay_of bay span) ≡ length_in span
long_by_bay bay Fore e l = let odd : (bay - 1) % 2 ≡ 1 = omega arith in ap (λ (t : Bool). cond {A = Length} t Twenty Forty) (eq-eqb ((bay - 1) % 2) 1 odd)
long_by_bay bay Aft e l = let odd : (bay + 1) % 2 ≡ 1 = omega arith in ap (λ (t : Bool). cond {A = Length} t Twenty Forty) (eq-eqb ((bay + 1) % 2) 1 odd)
long_by_bay bay Both e l = ap (λ (t : Bool). cond {A = Length} t Twenty Forty) (not_eqb (bay % 2) 1 (λ (odd : bay % 2 ≡ 1). omega arith))
