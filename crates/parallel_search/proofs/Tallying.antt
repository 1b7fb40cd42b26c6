-- What the workers brought back fits the tally of their rack.
use Rattle.std.proofs.Common.{◌≡◌, ℕ, ◌+◌, ◌<◌, List, [], ◌∷◌, ◌++◌, length, map, Result, Ok, Err, IfOk, refl, ap, sym, subst, ◌∙◌, arith}
use Rattle.crossbeam_deque.specs.Handles.{Pass as Token, view, worker_view}
use Rattle.certificate.specs.declared.nodes.Node.{Node}
use Rattle.certificate.specs.declared.journals.Entry.{Entry}
use Rattle.search_core.specs.Bags.{weigh, Every}
use Rattle.search_core.specs.Journals.{Path}
use Rattle.search_core.proofs.Weights.{weigh_append, weigh_le, weigh_map, every_left, every_right, every_more}
use Rattle.shared_search.specs.declared.rule.Hand.{Hand}
use Rattle.shared_search.specs.declared.racks.Rack.{Rack}
use Rattle.shared_search.specs.declared.racks.Pass.{Pass}
use Rattle.shared_search.specs.declared.tally.Did.{Did}
use Rattle.shared_search.specs.declared.tally.Tally.{Tally}
use Rattle.shared_search.specs.Bags.{Each}
use Rattle.shared_search.specs.Racks.{AreAll, all_put, all_took, puts_of, put_weight, room_at, stolen_weight, took_weight}
use Rattle.shared_search.specs.Tallies.{did_of, room_of, stolen, workers_of}
use Rattle.steal_pool.specs.declared.deeds.Deeds.{Deeds}
use Rattle.steal_pool.specs.Deeds.{no_deeds}
use Rattle.steal_pool.specs.Jobs.{HasOwn}
use Rattle.parallel_search.specs.declared.joining.Ended.{Ended}
use Rattle.parallel_search.specs.declared.slots.WorkerEnd.{WorkerEnd}
use Rattle.parallel_search.specs.Tallied.{PutsFew, HasTaken, IsUnder, AreOfRest, IsTallied}
use Rattle.parallel_search.specs.Ends.{AreOwn, AreUnder, BringsOwn, HasPutFew, KeepsOwn}

each_more : {A B : Type 0} (P : A → B → Type 0) (xs : List A) (ys : List B) (x : A) (y : B) → Each P xs ys → P x y → Each P (xs ++ x ∷ []) (ys ++ y ∷ [])
each_more P [] [] x y h k = (k, tt)
each_more P [] (b ∷ bs) x y h k = absurd h
each_more P (a ∷ more) [] x y h k = absurd h
each_more P (a ∷ more) (b ∷ bs) x y h k = (h.0, each_more P more bs x y h.1 k)

-- both hold of a good result
pub if_both : {A E : Type 0} (r : Result A E) (P Q S : A → Type 0) → ((a : A) → P a → Q a → S a) → IfOk r P → IfOk r Q → IfOk r S
if_both (Ok a) P Q S f h k = f a h k
if_both (Err e) P Q S f h k = h

length_map : {A B : Type 0} (f : A → B) (xs : List A) → length (map f xs) ≡ length xs
length_map f [] = refl
length_map f (x ∷ xs) = omega (arith, length_map f xs)

both_empty : (xs ys zs : List Node) → zs ≡ xs ++ ys → xs ≡ [] → ys ≡ [] → zs ≡ []
both_empty xs ys zs is none empty = is ∙ (ap (λ (l : List Node). l ++ ys) none ∙ empty)

stolen_weighs : {A : Type 0} (h : Node → ℕ) (ts : List (Token Node Hand A)) → weigh h (stolen ts) ≡ stolen_weight h ts
stolen_weighs h [] = refl
stolen_weighs h (t ∷ ts) = omega (arith, weigh_append h (view {V = Hand} t).took (stolen ts), stolen_weighs h ts)

module _ {M : Type 0} where
  took_weighs : (h : Node → ℕ) (p : Pass M) → weigh h (did_of p).took ≡ took_weight h p
  took_weighs h p = omega (arith, weigh_append h (worker_view {V = Hand} p.own).took (stolen p.tokens.items), stolen_weighs h p.tokens.items)

  module _ (room : ℕ) where
    -- nothing is done yet
    pub own_begins : (p : Pass M) (d : Deeds) (xs : List Node) → d ≡ no_deeds → ((h : Node → ℕ) → took_weight h p ≡ 0) → (HasPutFew room p → xs ≡ []) → HasOwn room [] p d xs
    own_begins p d xs none took empty = λ few. (empty few, λ h. omega (arith, took (λ x. h x.path), ap (λ (x : Deeds). weigh (λ (e : Entry). h e.path) x.journal) none, ap (λ (x : Deeds). weigh h x.left) none))

    -- nothing is brought back yet
    pub own_none : (e : Ended M) → e.passes.items ≡ [] → e.aside.items ≡ [] → e.all.journals ≡ [] → AreOwn room e
    own_none e passes aside journals = record {
      none_aside = λ few. aside;
      kept = subst (λ (ps : List (Pass M)). Each (KeepsOwn room) ps e.all.journals) (sym passes) (subst (Each (KeepsOwn {M = M} room) []) (sym journals) tt);
    }

    -- what a worker brought back is taken in
    pub own_in : (e f : Ended M) (k : WorkerEnd M) → f.passes.items ≡ e.passes.items ++ k.pass ∷ [] → f.aside.items ≡ e.aside.items ++ k.aside.items → f.all.journals ≡ e.all.journals ++ k.deeds.journal ∷ [] → AreOwn room e → BringsOwn room k → AreOwn room f
    own_in e f k passes aside journals own brings = record {
      none_aside = λ few.
          let all : Every (HasPutFew room) (e.passes.items ++ k.pass ∷ []) = subst (Every (HasPutFew room)) passes few in
          both_empty e.aside.items k.aside.items f.aside.items aside (own.none_aside (every_left (HasPutFew room) e.passes.items (k.pass ∷ []) all)) (brings (every_right (HasPutFew room) e.passes.items (k.pass ∷ []) all).0).0;
      kept = subst (λ (ps : List (Pass M)). Each (KeepsOwn room) ps f.all.journals) (sym passes) (subst (Each (KeepsOwn room) (e.passes.items ++ k.pass ∷ [])) (sym journals)
          (each_more (KeepsOwn room) e.passes.items e.all.journals k.pass k.deeds.journal own.kept (λ few. (k.deeds.left, λ h. omega (arith, (brings few).1 h)))));
    }

    each_taken : (ps : List (Pass M)) (js : List (List Entry)) → Each (KeepsOwn room) ps js → Each (HasTaken room) (map did_of ps) js
    each_taken [] [] h = tt
    each_taken [] (j ∷ js) h = absurd h
    each_taken (p ∷ ps) [] h = absurd h
    each_taken (p ∷ ps) (j ∷ js) h = ((λ few. let k = h.0 few in (k.0, λ f. omega (arith, took_weighs (λ x. f x.path) p, k.1 f))), each_taken ps js h.1)

    all_few : (ps : List (Pass M)) → Every (PutsFew room) (map did_of ps) → Every (HasPutFew room) ps
    all_few [] h = tt
    all_few (p ∷ ps) h = (h.0, all_few ps h.1)

  put_weighs : (h : Node → ℕ) (ps : List (Pass M)) → weigh (λ w. weigh h w.put) (map did_of ps) ≡ all_put h ps
  put_weighs h ps = weigh_map did_of (λ w. weigh h w.put) ps

  took_weigh : (h : Node → ℕ) (ps : List (Pass M)) → weigh (λ w. weigh h w.took) (map did_of ps) ≡ all_took h ps
  took_weigh h ps = weigh_map did_of (λ w. weigh h w.took) ps ∙ weigh_le (λ p. weigh h (did_of p).took) (took_weight h) ps (took_weighs h)

  module _ (room : ℕ) (e : Ended M) (rest todo : List Node) (last : List Entry) where
    of_rest : todo ≡ rest ++ e.aside.items → ((h : Node → ℕ) → all_put h e.passes.items ≡ all_took h e.passes.items + weigh h rest) → AreUnder todo [] last → e.aside.items ≡ [] → AreOfRest (map did_of e.passes.items) last
    of_rest is bag under none =
        (todo, (λ h. omega (arith, put_weighs h e.passes.items, took_weigh h e.passes.items, bag h, ap (weigh h) is, weigh_append h rest e.aside.items, ap (weigh h) none)), under.journal_is)

    pub all_tallied : (workers : ℕ) (journals : List (List Entry)) (tally : Tally) → workers_of tally ≡ map did_of e.passes.items → room_of tally ≡ room → length e.passes.items ≡ workers → journals ≡ e.all.journals ++ last ∷ [] → AreOwn room e
        → todo ≡ rest ++ e.aside.items → ((h : Node → ℕ) → all_put h e.passes.items ≡ all_took h e.passes.items + weigh h rest) → AreUnder todo [] last → IsTallied room workers journals tally
    all_tallied workers journals tally did same many are own is bag under = record {
      own = e.all.journals;
      last = last;
      journals_are = are;
      many = ap length did ∙ (length_map did_of e.passes.items ∙ many);
      room_is = same;
      taken = subst (λ (ws : List Did). Each (HasTaken room) ws e.all.journals) (sym did) (each_taken room e.passes.items e.all.journals own.kept);
      finished = λ few. subst (λ (ws : List Did). AreOfRest ws last) (sym did) (of_rest is bag under (own.none_aside (all_few room e.passes.items (subst (Every (PutsFew room)) did few))));
    }
