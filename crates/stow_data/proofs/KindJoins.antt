-- Kinds container by container: what a container shows joins the kinds of those before it.
use Rattle.std.proofs.Common.{◌≡◌, ℕ, Bool, true, false, cond, List, [], ◌∷◌, ◌++◌, arith, refl, sym, ◌∙◌, ap, Some, None, map, min}
use Rattle.std.specs.Prelude.{◌==◌, ◌&&◌, ◌||◌, nat_eq, Option, filter}
use Rattle.std.specs.List.{list_any}
use Rattle.std.specs.Cmp.{IsEquivalence, nat_eq_equiv, on_equiv}
use Rattle.std.specs.Cmp.Lexicographic.{pointwise, lists_equiv}
use Rattle.std.specs.Option.{option_eq}
use Rattle.std.proofs.lemmas.Bool.{and_parts, both_ways, false_from_ne_true, false≢true}
use Rattle.std.proofs.lemmas.List.{append_assoc, append-nil, map-append}
use Rattle.std.proofs.lemmas.List.Elements.{filter-append}
use Rattle.stow_data.specs.declared.geometry.Length.{Length}
use Rattle.stow_data.specs.declared.geometry.Length.TheVariants.{Twenty, Forty}
use Rattle.stow_data.specs.declared.cargoes.Container.{Container}
use Rattle.stow_data.specs.declared.kind_list.Kind.{Kind}
use Rattle.stow_data.specs.Ship.{same_length}
use Rattle.stow_data.specs.Kinds.{kind_of, same_flag, alike, of_one_kind, first_ones, least_load, kind_among, kinds_of}
use Rattle.stow_data.proofs.Distinct.{Each}
use Rattle.stow_data.proofs.Firsts.{Apart, each_filter, first_apart, first_more, any_first, none_like}

-- to be alike is an equivalence
both_equiv : {K : Type 0} (E F : K → K → Bool) → IsEquivalence E → IsEquivalence F → IsEquivalence (λ (a b : K). E a b && F a b)
both_equiv {K} E F e f = record {
  refl = λ x. ap (λ (t : Bool). t && F x x) (e.refl x) ∙ f.refl x;
  symm = λ x y. ap (λ (t : Bool). t && F x y) (e.symm x y) ∙ ap (λ (t : Bool). E y x && t) (f.symm x y);
  congr = λ x y z h. let p = and_parts (E x y) (F x y) h in ap (λ (t : Bool). t && F x z) (e.congr x y z p.0) ∙ ap (λ (t : Bool). E y z && t) (f.congr x y z p.1);
}

option_equiv : {T : Type 0} (E : T → T → Bool) → IsEquivalence E → IsEquivalence (option_eq E)
option_equiv {T} E e = record { refl = same; symm = turned; congr = carried }
  where
    same : (x : Option T) → option_eq E x x ≡ true
    same None = refl
    same (Some x) = e.refl x

    turned : (x y : Option T) → option_eq E x y ≡ option_eq E y x
    turned None None = refl
    turned None (Some y) = refl
    turned (Some x) None = refl
    turned (Some x) (Some y) = e.symm x y

    carried : (x y z : Option T) → option_eq E x y ≡ true → option_eq E x z ≡ option_eq E y z
    carried None None z h = refl
    carried None (Some y) z h = absurd (false≢true h)
    carried (Some x) None z h = absurd (false≢true h)
    carried (Some x) (Some y) None h = refl
    carried (Some x) (Some y) (Some z) h = e.congr x y z h

length_equiv : IsEquivalence same_length
length_equiv = record { refl = same; symm = turned; congr = carried }
  where
    same : (x : Length) → same_length x x ≡ true
    same Twenty = refl
    same Forty = refl

    turned : (x y : Length) → same_length x y ≡ same_length y x
    turned Twenty Twenty = refl
    turned Twenty Forty = refl
    turned Forty Twenty = refl
    turned Forty Forty = refl

    carried : (x y z : Length) → same_length x y ≡ true → same_length x z ≡ same_length y z
    carried Twenty Twenty z h = refl
    carried Twenty Forty z h = absurd (false≢true h)
    carried Forty Twenty z h = absurd (false≢true h)
    carried Forty Forty z h = refl

flag_equiv : IsEquivalence same_flag
flag_equiv = record { refl = same; symm = turned; congr = carried }
  where
    same : (x : Bool) → same_flag x x ≡ true
    same true = refl
    same false = refl

    turned : (x y : Bool) → same_flag x y ≡ same_flag y x
    turned true true = refl
    turned true false = refl
    turned false true = refl
    turned false false = refl

    carried : (x y z : Bool) → same_flag x y ≡ true → same_flag x z ≡ same_flag y z
    carried true true z h = refl
    carried true false z h = absurd (false≢true h)
    carried false true z h = absurd (false≢true h)
    carried false false z h = refl

pub alike_equiv : IsEquivalence alike
alike_equiv = both_equiv (λ (a b : Kind). a.dest == b.dest) _ (on_equiv (λ (k : Kind). k.dest) nat_eq_equiv)
    (both_equiv (λ (a b : Kind). same_length a.long b.long) _ (on_equiv (λ (k : Kind). k.long) length_equiv)
    (both_equiv (λ (a b : Kind). same_flag a.reefer b.reefer) _ (on_equiv (λ (k : Kind). k.reefer) flag_equiv)
    (both_equiv (λ (a b : Kind). option_eq (pointwise nat_eq) a.class b.class) (λ (a b : Kind). a.kg == b.kg) (on_equiv (λ (k : Kind). k.class) (option_equiv (pointwise nat_eq) (lists_equiv nat_eq_equiv))) (on_equiv (λ (k : Kind). k.kg) nat_eq_equiv))))

pub one_kind_equiv : (step : ℕ) → IsEquivalence (of_one_kind step)
one_kind_equiv step = on_equiv (kind_of step) alike_equiv

-- what a container shows joins the kind that is alike, which then begins at the lesser call, or is a new kind at the end
abbrev pub with_kind : List Kind → Kind → List Kind
with_kind [] k = k ∷ []
with_kind (x ∷ xs) k = cond (alike x k) (record x { first = min x.first k.first } ∷ xs) (x ∷ with_kind xs k)

abbrev pub kinds_after : ℕ → List Kind → List Container → List Kind
kinds_after step ks [] = ks
kinds_after step ks (c ∷ cs) = kinds_after step (with_kind ks (kind_of step c)) cs

least_more : (call : ℕ) (cs : List Container) (c : Container) → least_load call (cs ++ c ∷ []) ≡ min (least_load call cs) c.load
least_more call [] c = refl
least_more call (x ∷ xs) c = least_more (min call x.load) xs c

-- the kind of a container among one container more
kind_kept : (step : ℕ) (cs : List Container) (c x : Container) → of_one_kind step x c ≡ false → kind_among step (cs ++ c ∷ []) x ≡ kind_among step cs x
kind_kept step cs c x e =
    ap (λ (ds : List Container). record (kind_of step x) { first = least_load x.load ds })
    (filter-append (of_one_kind step x) cs (c ∷ []) ∙ (ap (λ (b : Bool). filter (of_one_kind step x) cs ++ cond b (c ∷ []) []) e ∙ append-nil (filter (of_one_kind step x) cs)))

kind_joined : (step : ℕ) (cs : List Container) (c x : Container) → of_one_kind step x c ≡ true → kind_among step (cs ++ c ∷ []) x ≡ record (kind_among step cs x) { first = min (kind_among step cs x).first c.load }
kind_joined step cs c x e =
    ap (λ (ds : List Container). record (kind_of step x) { first = least_load x.load ds })
    (filter-append (of_one_kind step x) cs (c ∷ []) ∙ ap (λ (b : Bool). filter (of_one_kind step x) cs ++ cond b (c ∷ []) []) e)
    ∙ ap (λ (n : ℕ). record (kind_of step x) { first = n }) (least_more x.load (filter (of_one_kind step x) cs) c)

all_kept : (step : ℕ) (cs : List Container) (c x : Container) (ds : List Container) → of_one_kind step x c ≡ true → Each (λ y. of_one_kind step x y ≡ false) ds → map (kind_among step cs) ds ≡ map (kind_among step (cs ++ c ∷ [])) ds
all_kept step cs c x [] e h = refl
all_kept step cs c x (d ∷ ds) e h =
    let other : of_one_kind step d c ≡ false = false_from_ne_true (of_one_kind step d c) (λ q. both_ways (of_one_kind step x d) h.0 ((one_kind_equiv step).symm x d ∙ ((one_kind_equiv step).congr d c x q ∙ ((one_kind_equiv step).symm c x ∙ e)))) in
    ap (λ (k : Kind). k ∷ map (kind_among step cs) ds) (sym (kind_kept step cs c d other)) ∙ ap (λ (ks : List Kind). kind_among step (cs ++ c ∷ []) d ∷ ks) (all_kept step cs c x ds e h.1)

joined_map : (step : ℕ) (cs : List Container) (c : Container) (ds : List Container) → Apart (of_one_kind step) ds
    → with_kind (map (kind_among step cs) ds) (kind_of step c) ≡ map (kind_among step (cs ++ c ∷ [])) ds ++ cond (list_any (λ d. of_one_kind step d c) ds) [] (kind_of step c ∷ [])
joined_map step cs c [] h = refl
joined_map step cs c (d ∷ ds) h = go (of_one_kind step d c) refl (joined_map step cs c ds h.1)
  where
    go : (b : Bool) → of_one_kind step d c ≡ b → with_kind (map (kind_among step cs) ds) (kind_of step c) ≡ map (kind_among step (cs ++ c ∷ [])) ds ++ cond (list_any (λ d. of_one_kind step d c) ds) [] (kind_of step c ∷ [])
        → cond b (record (kind_among step cs d) { first = min (kind_among step cs d).first c.load } ∷ map (kind_among step cs) ds) (kind_among step cs d ∷ with_kind (map (kind_among step cs) ds) (kind_of step c))
        ≡ kind_among step (cs ++ c ∷ []) d ∷ (map (kind_among step (cs ++ c ∷ [])) ds ++ cond (b || list_any (λ d. of_one_kind step d c) ds) [] (kind_of step c ∷ []))
    go true e r =
        ap (λ (k : Kind). k ∷ map (kind_among step cs) ds) (sym (kind_joined step cs c d e))
        ∙ ap (λ (ks : List Kind). kind_among step (cs ++ c ∷ []) d ∷ ks) (all_kept step cs c d ds e h.0 ∙ sym (append-nil (map (kind_among step (cs ++ c ∷ [])) ds)))
    go false e r = ap (λ (k : Kind). k ∷ with_kind (map (kind_among step cs) ds) (kind_of step c)) (sym (kind_kept step cs c d e)) ∙ ap (λ (ks : List Kind). kind_among step (cs ++ c ∷ []) d ∷ ks) r

least_self : (n : ℕ) → min n n ≡ n
least_self n = omega arith

-- a container that is like none before it shows its kind
kind_new : (step : ℕ) (cs : List Container) (c : Container) → list_any (λ d. of_one_kind step d c) cs ≡ false → kind_among step (cs ++ c ∷ []) c ≡ kind_of step c
kind_new step cs c h =
    ap (λ (ds : List Container). record (kind_of step c) { first = least_load c.load ds })
    (filter-append (of_one_kind step c) cs (c ∷ [])
    ∙ (ap (λ (ds : List Container). ds ++ filter (of_one_kind step c) (c ∷ [])) (none_like (of_one_kind step) (one_kind_equiv step) cs c h)
    ∙ ap (λ (b : Bool). cond b (c ∷ []) []) ((one_kind_equiv step).refl c)))
    ∙ ap (λ (n : ℕ). record (kind_of step c) { first = n }) (least_self c.load)

-- the kinds of one container more
pub kinds_more : (step : ℕ) (cs : List Container) (c : Container) → kinds_of step (cs ++ c ∷ []) ≡ with_kind (kinds_of step cs) (kind_of step c)
kinds_more step cs c =
    ap (map (kind_among step (cs ++ c ∷ []))) (first_more (of_one_kind step) cs c)
    ∙ map-append (kind_among step (cs ++ c ∷ [])) (first_ones (of_one_kind step) cs) (cond (list_any (λ d. of_one_kind step d c) cs) [] (c ∷ []))
    ∙ ap (λ (ks : List Kind). map (kind_among step (cs ++ c ∷ [])) (first_ones (of_one_kind step) cs) ++ ks) (last (list_any (λ d. of_one_kind step d c) cs) refl)
    ∙ ap (λ (b : Bool). map (kind_among step (cs ++ c ∷ [])) (first_ones (of_one_kind step) cs) ++ cond b [] (kind_of step c ∷ [])) (sym (any_first (of_one_kind step) (one_kind_equiv step) cs c))
    ∙ sym (joined_map step cs c (first_ones (of_one_kind step) cs) (first_apart (of_one_kind step) cs))
  where
    last : (b : Bool) → list_any (λ d. of_one_kind step d c) cs ≡ b → map (kind_among step (cs ++ c ∷ [])) (cond b [] (c ∷ [])) ≡ cond b [] (kind_of step c ∷ [])
    last true e = refl
    last false e = ap (λ (k : Kind). k ∷ []) (kind_new step cs c e)

-- the kinds are those that the containers, one after the other, join
joined_all : (step : ℕ) (xs ys : List Container) → kinds_after step (kinds_of step xs) ys ≡ kinds_of step (xs ++ ys)
joined_all step xs [] = ap (kinds_of step) (sym (append-nil xs))
joined_all step xs (c ∷ cs) =
    ap (λ (ks : List Kind). kinds_after step ks cs) (sym (kinds_more step xs c))
    ∙ joined_all step (xs ++ c ∷ []) cs
    ∙ ap (kinds_of step) (append_assoc xs (c ∷ []) cs)

pub kinds_joined : (step : ℕ) (cs : List Container) → kinds_after step [] cs ≡ kinds_of step cs
kinds_joined step cs = joined_all step [] cs

-- what each container shows, whatever its first call, each kind has
pub each_kind : (step : ℕ) (cs : List Container) (P : Kind → Type 0) → Each (λ c. (n : ℕ) → P (record (kind_of step c) { first = n })) cs → Each P (kinds_of step cs)
each_kind step cs P h = mapped (first_ones (of_one_kind step) cs) (kept cs h)
  where
    mapped : (ds : List Container) → Each (λ c. (n : ℕ) → P (record (kind_of step c) { first = n })) ds → Each P (map (kind_among step cs) ds)
    mapped [] h = tt
    mapped (d ∷ ds) h = (h.0 (least_load d.load (filter (of_one_kind step d) cs)), mapped ds h.1)

    kept : (ds : List Container) → Each (λ c. (n : ℕ) → P (record (kind_of step c) { first = n })) ds → Each (λ c. (n : ℕ) → P (record (kind_of step c) { first = n })) (first_ones (of_one_kind step) ds)
    kept [] h = tt
    kept (d ∷ ds) h = (h.0, each_filter _ _ (first_ones (of_one_kind step) ds) (kept ds h.1))
