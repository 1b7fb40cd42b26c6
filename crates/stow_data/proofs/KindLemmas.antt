-- Kinds: each container has its kind, and the counts of a call.
use Rattle.std.proofs.Common.{◌≡◌, ℕ, zero, suc, ◌<◌, ◌≤◌, ◌+◌, Bool, true, false, cond, List, [], ◌∷◌, ◌++◌, arith, refl, sym, ◌∙◌, ap, ⊎_elim, subst, length, Some, map, min, take, get_or, Ok, Err, get_or-set_same, get_or-set_other, length-take}
use Rattle.std.specs.Prelude.{slice_get, slice_set, slice_index, slice_index_or, All, ◌==◌, ◌&&◌, Result, is_ok, OnOk, if◌then◌else◌}
use Rattle.std.proofs.lemmas.Bool.{eq-eqb, ne_eqb, and_left, cases_eq, cases_lt}
use Rattle.std.proofs.lemmas.Option.{none-some, same_Some, slice_get_within, get_or_from_slice_get}
use Rattle.std.proofs.lemmas.List.{get_or_past, take_more}
use Rattle.stow_data.specs.declared.cargoes.Container.{Container}
use Rattle.stow_data.specs.declared.kind_list.Kind.{Kind}
use Rattle.stow_data.specs.Kinds.{kind_of, alike, kinds_of, number_in, kind_number, loads_in, KindTable, AreKinds}
use Rattle.stow_data.specs.Shipment.{Cargo, IsCargo, IsShipped}
use Rattle.stow_data.proofs.KindJoins.{with_kind, kinds_after, kinds_more, kinds_joined, alike_equiv}

-- where none is alike, a kind is new
pub joins_new : (ks : List Kind) (k : Kind) → length ks ≤ number_in ks k → with_kind ks k ≡ ks ++ k ∷ []
joins_new [] k l = refl
joins_new (x ∷ xs) k l = go (alike x k) l (λ h. joins_new xs k h)
  where
    go : (b : Bool) → suc (length xs) ≤ cond b 0 (suc (number_in xs k)) → (length xs ≤ number_in xs k → with_kind xs k ≡ xs ++ k ∷ []) → cond b (record x { first = min x.first k.first } ∷ xs) (x ∷ with_kind xs k) ≡ x ∷ (xs ++ k ∷ [])
    go true l later = absurd (omega arith)
    go false l later = ap (λ (ys : List Kind). x ∷ ys) (later (omega arith))

-- otherwise the one that is alike begins at the lesser call
pub joins_old : (ks : List Kind) (k x : Kind) → slice_get ks (number_in ks k) ≡ Some x → with_kind ks k ≡ slice_set ks (number_in ks k) (record x { first = min x.first k.first })
joins_old [] k x h = absurd (none-some x h)
joins_old (y ∷ ys) k x h = go (alike y k) h (λ h. joins_old ys k x h)
  where
    go : (b : Bool) → slice_get (y ∷ ys) (cond b 0 (suc (number_in ys k))) ≡ Some x → (slice_get ys (number_in ys k) ≡ Some x → with_kind ys k ≡ slice_set ys (number_in ys k) (record x { first = min x.first k.first })) → cond b (record y { first = min y.first k.first } ∷ ys) (y ∷ with_kind ys k) ≡ slice_set (y ∷ ys) (cond b 0 (suc (number_in ys k))) (record x { first = min x.first k.first })
    go true h later = ap (λ (z : Kind). record z { first = min z.first k.first } ∷ ys) (same_Some y x h)
    go false h later = ap (λ (zs : List Kind). y ∷ zs) (later h)

-- a kind that has joined is there
joined : (ks : List Kind) (k : Kind) → number_in (with_kind ks k) k < length (with_kind ks k)
joined [] k = subst (λ (b : Bool). cond b 0 1 < 1) (sym (alike_equiv.refl k)) (let q : 0 < 1 = omega arith in q)
joined (x ∷ xs) k = go (alike x k) refl (joined xs k)
  where
    go : (b : Bool) → alike x k ≡ b → number_in (with_kind xs k) k < length (with_kind xs k) → number_in (cond b (record x { first = min x.first k.first } ∷ xs) (x ∷ with_kind xs k)) k < length (cond b (record x { first = min x.first k.first } ∷ xs) (x ∷ with_kind xs k))
    go true e later = subst (λ (b : Bool). cond b 0 (suc (number_in xs k)) < suc (length xs)) (sym e) (let q : 0 < suc (length xs) = omega arith in q)
    go false e later = subst (λ (b : Bool). cond b 0 (suc (number_in (with_kind xs k) k)) < suc (length (with_kind xs k))) (sym e) (let q : suc (number_in (with_kind xs k) k) < suc (length (with_kind xs k)) = omega arith in q)

-- and stays there
stays : (ks : List Kind) (j k : Kind) → number_in ks k < length ks → number_in (with_kind ks j) k < length (with_kind ks j)
stays [] j k h = absurd (omega arith)
stays (x ∷ xs) j k h = go (alike x j) (alike x k) refl h (λ h. stays xs j k h)
  where
    go : (a b : Bool) → alike x k ≡ b → cond b 0 (suc (number_in xs k)) < suc (length xs) → (number_in xs k < length xs → number_in (with_kind xs j) k < length (with_kind xs j)) → number_in (cond a (record x { first = min x.first j.first } ∷ xs) (x ∷ with_kind xs j)) k < length (cond a (record x { first = min x.first j.first } ∷ xs) (x ∷ with_kind xs j))
    go true b e h later = subst (λ (z : Bool). cond z 0 (suc (number_in xs k)) < suc (length xs)) (sym e) h
    go false true e h later = subst (λ (z : Bool). cond z 0 (suc (number_in (with_kind xs j) k)) < suc (length (with_kind xs j))) (sym e) (let q : 0 < suc (length (with_kind xs j)) = omega arith in q)
    go false false e h later = subst (λ (z : Bool). cond z 0 (suc (number_in (with_kind xs j) k)) < suc (length (with_kind xs j))) (sym e) (let r = later (omega arith) in let q : suc (number_in (with_kind xs j) k) < suc (length (with_kind xs j)) = omega (arith, r) in q)

stays_after : (step : ℕ) (ks : List Kind) (cs : List Container) (k : Kind) → number_in ks k < length ks → number_in (kinds_after step ks cs) k < length (kinds_after step ks cs)
stays_after step ks [] k h = h
stays_after step ks (c ∷ cs) k h = stays_after step (with_kind ks (kind_of step c)) cs k (stays ks (kind_of step c) k h)

kind_found : (step : ℕ) (ks : List Kind) (cs : List Container) (i : ℕ) (c : Container) → slice_get cs i ≡ Some c → number_in (kinds_after step ks cs) (kind_of step c) < length (kinds_after step ks cs)
kind_found step ks [] i c h = absurd (none-some c h)
kind_found step ks (x ∷ xs) zero c h = subst (λ (z : Container). number_in (kinds_after step ks (x ∷ xs)) (kind_of step z) < length (kinds_after step ks (x ∷ xs))) (same_Some x c h) (stays_after step (with_kind ks (kind_of step x)) xs (kind_of step x) (joined ks (kind_of step x)))
kind_found step ks (x ∷ xs) (suc i) c h = kind_found step (with_kind ks (kind_of step x)) xs i c h

-- each container is of one of the kinds
pub kind_in : (step : ℕ) (cs : List Container) (i : ℕ) (c : Container) → slice_get cs i ≡ Some c → kind_number step cs c < length (kinds_of step cs)
kind_in step cs i c h = subst (λ (ks : List Kind). number_in ks (kind_of step c) < length ks) (kinds_joined step cs) (kind_found step [] cs i c h)

all_map : {X Y : Type 0} (P : Y → Type 0) (f : X → Y) (cs : List X) → ((i : ℕ) (c : X) → slice_get cs i ≡ Some c → P (f c)) → (k : ℕ) (d : Y) → k < length (map f cs) → P (slice_index_or (map f cs) k d)
all_map P f [] h k d l = absurd (omega arith)
all_map P f (c ∷ cs) h zero d l = h 0 c refl
all_map P f (c ∷ cs) h (suc k) d l = all_map P f cs (λ i x e. h (suc i) x e) k d (omega arith)

pub kinds_in : (step : ℕ) (cs : List Container) → All (λ g. g < length (kinds_of step cs)) (map (kind_number step cs) cs)
kinds_in step cs = all_map (λ g. g < length (kinds_of step cs)) (kind_number step cs) cs (kind_in step cs)

-- there are no more kinds than containers
join_few : (ks : List Kind) (k : Kind) → length (with_kind ks k) ≤ length ks + 1
join_few [] k = omega arith
join_few (x ∷ xs) k = go (alike x k) (join_few xs k)
  where
    go : (b : Bool) → length (with_kind xs k) ≤ length xs + 1 → length (cond b (record x { first = min x.first k.first } ∷ xs) (x ∷ with_kind xs k)) ≤ suc (length xs) + 1
    go true h = omega arith
    go false h = omega arith

few_after : (step : ℕ) (ks : List Kind) (cs : List Container) → length (kinds_after step ks cs) ≤ length ks + length cs
few_after step ks [] = omega arith
few_after step ks (c ∷ cs) = let r = few_after step (with_kind ks (kind_of step c)) cs in let s = join_few ks (kind_of step c) in omega (arith, r, s)

pub kinds_few : (step : ℕ) (cs : List Container) → length (kinds_of step cs) ≤ length cs
kinds_few step cs = let r = few_after step [] cs in let e = ap length (kinds_joined step cs) in omega (arith, r, e)

-- a list that a container's kind has joined
pub joined_more : (step : ℕ) (cs : List Container) (c : Container) (list : List Kind) (shown : Kind) → list ≡ kinds_of step cs → shown ≡ kind_of step c → with_kind list shown ≡ kinds_of step (cs ++ c ∷ [])
joined_more step cs c list shown e f = ap (λ (ks : List Kind). with_kind ks shown) e ∙ ap (with_kind (kinds_of step cs)) f ∙ sym (kinds_more step cs c)

-- the counts of one container more
pub loads_more : (i g : ℕ) (cs : List Container) (ks : List ℕ) (c : Container) (k : ℕ) → length cs ≡ length ks → loads_in i (cs ++ c ∷ []) (ks ++ k ∷ []) g ≡ loads_in i cs ks g + cond ((c.load == i) && (k == g)) 1 0
loads_more i g [] [] c k e = omega arith
loads_more i g [] (y ∷ ys) c k e = absurd (omega arith)
loads_more i g (x ∷ xs) [] c k e = absurd (omega arith)
loads_more i g (x ∷ xs) (y ∷ ys) c k e = let r : loads_in i (xs ++ c ∷ []) (ys ++ k ∷ []) g ≡ loads_in i xs ys g + cond ((c.load == i) && (k == g)) 1 0 = loads_more i g xs ys c k (omega arith) in omega (arith, r)

bit_few : (b : Bool) → cond b 1 0 ≤ 1
bit_few true = omega arith
bit_few false = omega arith

pub loads_few : (i g : ℕ) (cs : List Container) (ks : List ℕ) → loads_in i cs ks g ≤ length cs
loads_few i g [] ks = omega arith
loads_few i g (c ∷ cs) [] = omega arith
loads_few i g (c ∷ cs) (k ∷ ks) = let r = loads_few i g cs ks in let s = bit_few ((c.load == i) && (k == g)) in omega (arith, r, s)

-- no container loads at a call past the last load
pub loads_none : (i g : ℕ) (cs : List Container) (ks : List ℕ) → ((j : ℕ) (c : Container) → slice_get cs j ≡ Some c → c.load ≡ i → ⊥) → loads_in i cs ks g ≡ 0
loads_none i g [] ks h = refl
loads_none i g (c ∷ cs) [] h = refl
loads_none i g (c ∷ cs) (k ∷ ks) h =
    let r = loads_none i g cs ks (λ j x e. h (suc j) x e) in
    let s : ◌≡◌ {A = ℕ} (cond ((c.load == i) && (k == g)) 1 0) 0 = ap (λ (b : Bool). cond {A = ℕ} b 1 0) (and_left (c.load == i) (k == g) (ne_eqb c.load i (h 0 c refl))) in
    omega (arith, r, s)

-- one entry of a row raised by one
raised : (row : List ℕ) (kind g : ℕ) → kind < length row → slice_index (slice_set row kind (slice_index row kind + 1)) g ≡ slice_index row g + cond (kind == g) 1 0
raised row kind g l = ⊎_elim
    (λ (e : kind ≡ g).
    let one : ◌≡◌ {A = ℕ} (cond (kind == g) 1 0) 1 = ap (λ (b : Bool). cond {A = ℕ} b 1 0) (eq-eqb kind g e) in
    let here : slice_index (slice_set row kind (slice_index row kind + 1)) g ≡ slice_index row kind + 1 = ap (slice_index (slice_set row kind (slice_index row kind + 1))) (sym e) ∙ get_or-set_same row kind (slice_index row kind + 1) 0 l in
    let same : slice_index row kind ≡ slice_index row g = ap (slice_index row) e in
    omega (arith, one, here, same))
    (λ (ne : kind ≡ g → ⊥).
    let none : ◌≡◌ {A = ℕ} (cond (kind == g) 1 0) 0 = ap (λ (b : Bool). cond {A = ℕ} b 1 0) (ne_eqb kind g ne) in
    let there : slice_index (slice_set row kind (slice_index row kind + 1)) g ≡ slice_index row g = get_or-set_other row kind g (slice_index row kind + 1) 0 (λ e. ne (sym e)) in
    omega (arith, none, there))
    (cases_eq kind g)

-- the counts of a call after one container more, which loads there or not
pub row_raised : (call i kinds : ℕ) (cs : List Container) (ks : List ℕ) (c : Container) (k v : ℕ) (row new : List ℕ) → i < length cs → length ks ≡ length cs → c ≡ get_or cs i c → k ≡ get_or ks i k → length row ≡ kinds → k < kinds → ((g : ℕ) → g < kinds → slice_index row g ≡ loads_in call (take i cs) (take i ks) g) → c.load ≡ call → v ≡ slice_index row k → new ≡ slice_set row k (v + 1)
    → (g : ℕ) → g < kinds → slice_index new g ≡ loads_in call (take (i + 1) cs) (take (i + 1) ks) g
row_raised call i kinds cs ks c k v row new l same c_is k_is long in_row old loads v_is new_is g m =
    let step : new ≡ slice_set row k (slice_index row k + 1) = new_is ∙ ap (λ (z : ℕ). slice_set row k (z + 1)) v_is in
    let up : slice_index new g ≡ slice_index row g + cond (k == g) 1 0 = ap (λ (r : List ℕ). slice_index r g) step ∙ raised row k g (omega arith) in
    let more = loads_more call g (take i cs) (take i ks) c k (length-take i cs ∙ (ap (min i) (sym same) ∙ sym (length-take i ks))) in
    let counted : ◌≡◌ {A = ℕ} (cond ((c.load == call) && (k == g)) 1 0) (cond (k == g) 1 0) = ap (λ (b : Bool). cond {A = ℕ} (b && (k == g)) 1 0) (eq-eqb c.load call loads) in
    let both : loads_in call (take (i + 1) cs) (take (i + 1) ks) g ≡ loads_in call (take i cs ++ c ∷ []) (take i ks ++ k ∷ []) g =
    ap (λ (xs : List Container). loads_in call xs (take (i + 1) ks) g) (take_more cs i c l ∙ ap (λ (z : Container). take i cs ++ z ∷ []) (sym c_is))
    ∙ ap (λ (ys : List ℕ). loads_in call (take i cs ++ c ∷ []) ys g) (take_more ks i k (omega arith) ∙ ap (λ (z : ℕ). take i ks ++ z ∷ []) (sym k_is)) in
    let before = old g m in
    omega (arith, up, more, counted, both, before)

pub row_kept : (call i kinds : ℕ) (cs : List Container) (ks : List ℕ) (c : Container) (row new : List ℕ) → i < length cs → length ks ≡ length cs → c ≡ get_or cs i c → ((g : ℕ) → g < kinds → slice_index row g ≡ loads_in call (take i cs) (take i ks) g) → (c.load ≡ call → ⊥) → new ≡ row
    → (g : ℕ) → g < kinds → slice_index new g ≡ loads_in call (take (i + 1) cs) (take (i + 1) ks) g
row_kept call i kinds cs ks c row new l same c_is old other new_is g m =
    let k = get_or ks i 0 in
    let more = loads_more call g (take i cs) (take i ks) c (get_or ks i 0) (length-take i cs ∙ (ap (min i) (sym same) ∙ sym (length-take i ks))) in
    let counted : ◌≡◌ {A = ℕ} (cond ((c.load == call) && (get_or ks i 0 == g)) 1 0) 0 = ap (λ (b : Bool). cond {A = ℕ} b 1 0) (and_left (c.load == call) (get_or ks i 0 == g) (ne_eqb c.load call other)) in
    let both : loads_in call (take (i + 1) cs) (take (i + 1) ks) g ≡ loads_in call (take i cs ++ c ∷ []) (take i ks ++ get_or ks i 0 ∷ []) g =
    ap (λ (xs : List Container). loads_in call xs (take (i + 1) ks) g) (take_more cs i c l ∙ ap (λ (z : Container). take i cs ++ z ∷ []) (sym c_is))
    ∙ ap (λ (ys : List ℕ). loads_in call (take i cs ++ c ∷ []) ys g) (take_more ks i 0 (omega arith)) in
    let before = old g m in
    let now : slice_index new g ≡ slice_index row g = ap (λ (r : List ℕ). slice_index r g) new_is in
    omega (arith, now, more, counted, both, before)

-- what a push that succeeds leaves
pub on_push : {X E : Type 0} (r : Result (Unit {0}) E) (new xs old : X) → new ≡ (if is_ok r then xs else old) → OnOk r (new ≡ xs)
on_push (Ok u) new xs old h = h
on_push (Err e) new xs old h = tt

-- each container's number is that of one of the kinds
pub each_in : (step : ℕ) (cs : List Container) (list : List Kind) (each : List ℕ) → list ≡ kinds_of step cs → each ≡ map (λ (c : Container). number_in list (kind_of step c)) cs → All (λ g. g < length list) each
each_in step cs list each e f = subst (λ (ks : List Kind). All (λ g. g < length ks) each) (sym e) (subst (λ (ns : List ℕ). All (λ g. g < length (kinds_of step cs)) ns) (sym (f ∙ ap (λ (ks : List Kind). map (λ (c : Container). number_in ks (kind_of step c)) cs) e)) (kinds_in step cs))

pub load_low : (cargo : Cargo) (j : ℕ) (c : Container) → IsCargo cargo → slice_get cargo.containers j ≡ Some c → c.load < length cargo.rotation
load_low cargo j c rules is =
    let r : IsShipped (length cargo.rotation) c = subst (IsShipped (length cargo.rotation)) (get_or_from_slice_get cargo.containers j c c is) (rules.each_shipped j c (slice_get_within cargo.containers j c is)) in
    omega (arith, r.later, r.in_rotation)

-- the tables that were made are the kinds
pub are_kinds : (step calls : ℕ) (cs : List Container) (k : KindTable) → k.list ≡ kinds_of step cs → k.each ≡ map (λ (c : Container). number_in k.list (kind_of step c)) cs → length k.loads ≡ calls
    → ((i g : ℕ) → i < calls → g < length k.list → slice_index (slice_index_or k.loads i []) g ≡ loads_in i cs k.each g) → ((j : ℕ) (c : Container) → slice_get cs j ≡ Some c → c.load < calls) → AreKinds step cs k
are_kinds step calls cs k list each long counts low = record {
  list = list;
  each = each_is;
  loads = λ i g l. ⊎_elim
      (λ (m : i < calls). counts i g m l ∙ ap (λ (ks : List ℕ). loads_in i cs ks g) each_is)
      (λ (m : calls ≤ i). ap (λ (row : List ℕ). slice_index row g) (get_or_past k.loads i [] (omega arith)) ∙ sym (loads_none i g cs (map (kind_number step cs) cs) (λ j c is e. let r = low j c is in absurd (omega (arith, r)))))
      (cases_lt i calls);
}
  where
    each_is : k.each ≡ map (kind_number step cs) cs
    each_is = each ∙ ap (λ (ks : List Kind). map (λ (c : Container). number_in ks (kind_of step c)) cs) list

-- the rows of one call more
pub row_push : {X : Type 0} (rows : List X) (row d : X) (P : ℕ → X → Type 0) → ((i : ℕ) → i < length rows → P i (slice_index_or rows i d)) → P (length rows) row → (i : ℕ) → i < length rows + 1 → P i (slice_index_or (rows ++ row ∷ []) i d)
row_push [] row d P old new zero l = new
row_push [] row d P old new (suc i) l = absurd (omega arith)
row_push (x ∷ xs) row d P old new zero l = old 0 (omega arith)
row_push (x ∷ xs) row d P old new (suc i) l = row_push xs row d (λ j y. P (suc j) y) (λ j m. old (suc j) (omega arith)) new i (omega arith)
