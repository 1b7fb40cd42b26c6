-- Lists of passes, and of what they did, as a loop goes over them.
use Rattle.std.proofs.Common.{◌≡◌, ℕ, ◌+◌, List, [], ◌∷◌, ◌++◌, map, ap, sym, ◌∙◌, refl, arith}
use Rattle.std.proofs.lemmas.List.{map-append}
use Rattle.crossbeam_deque.specs.Handles.{Pass, view, worker_view}
use Rattle.certificate.specs.declared.nodes.Node.{Node}
use Rattle.search_core.specs.Bags.{weigh}
use Rattle.search_core.proofs.Weights.{weigh_append}
use Rattle.shared_search.specs.declared.rule.Hand.{Hand}
use Rattle.shared_search.specs.declared.racks.Pass.{Pass as Passes}
use Rattle.shared_search.specs.declared.tally.Did.{Did}
use Rattle.shared_search.specs.Racks.{stolen_weight, took_weight, put_weight, all_put, all_took}
use Rattle.shared_search.specs.Tallies.{stolen, did_of}
use Rattle.shared_search.proofs.Backs.{snoc_shift}

module _ {A B : Type 0} where
  -- one item goes from the rest to those that are done, and its value stays
  pub map_moved : (f : A → B) (done : List A) (y : A) (done' rest : List A) (x : A) (rest' : List A) → done' ≡ done ++ y ∷ [] → rest ≡ x ∷ rest' → f y ≡ f x
      → map f done' ++ map f rest' ≡ map f done ++ map f rest
  map_moved f done y done' rest x rest' p e s =
      ap (λ (l : List A). map f l ++ map f rest') p
      ∙ (ap (λ (l : List B). l ++ map f rest') (map-append f done (y ∷ []))
      ∙ (snoc_shift (map f done) (f y) (map f rest') ∙ (ap (λ (b : B). map f done ++ b ∷ map f rest') s ∙ ap (λ (l : List A). map f done ++ map f l) (sym e))))

-- two lists grow by items of the same value
pub map_both : {A B C : Type 0} (f : A → C) (g : B → C) (xs : List A) (x : A) (xs' : List A) (ys : List B) (y : B) (ys' : List B) → xs' ≡ xs ++ x ∷ [] → ys' ≡ ys ++ y ∷ [] → f x ≡ g y → map f xs ≡ map g ys → map f xs' ≡ map g ys'
map_both {A} {B} {C} f g xs x xs' ys y ys' p q s e =
    ap (map f) p ∙ (map-append f xs (x ∷ []) ∙ (ap (λ (l : List C). l ++ f x ∷ []) e ∙ (ap (λ (c : C). map g ys ++ c ∷ []) s ∙ (sym (map-append g ys (y ∷ [])) ∙ ap (map g) (sym q)))))

-- what was put and taken, weighed
module _ {A : Type 0} where
  stolen_weighs : (h : Node → ℕ) (ts : List (Pass Node Hand A)) → weigh h (stolen ts) ≡ stolen_weight h ts
  stolen_weighs h [] = refl
  stolen_weighs h (t ∷ ts) = omega (arith, stolen_weighs h ts, weigh_append h (view {V = Hand} t).took (stolen ts))

module _ {M : Type 0} where
  pub took_weighs : (h : Node → ℕ) (s : Passes M) → weigh h (did_of s).took ≡ took_weight h s
  took_weighs h s = omega (arith, weigh_append h (worker_view {V = Hand} s.own).took (stolen s.tokens.items), stolen_weighs h s.tokens.items)

  pub all_put_by : (h : Node → ℕ) (ss : List (Passes M)) → all_put h ss ≡ weigh (λ (d : Did). weigh h d.put) (map did_of ss)
  all_put_by h [] = refl
  all_put_by h (s ∷ ss) = omega (arith, all_put_by h ss)

  pub all_took_by : (h : Node → ℕ) (ss : List (Passes M)) → all_took h ss ≡ weigh (λ (d : Did). weigh h d.took) (map did_of ss)
  all_took_by h [] = refl
  all_took_by h (s ∷ ss) = omega (arith, all_took_by h ss, took_weighs h s)

  -- the bag of a closed rack, by what passes did
  pub bag_by : (ss ss' : List (Passes M)) (rest : List Node) → map did_of ss' ≡ map did_of ss → ((h : Node → ℕ) → all_put h ss' ≡ all_took h ss' + weigh h rest) → (h : Node → ℕ) → all_put h ss ≡ all_took h ss + weigh h rest
  bag_by ss ss' rest e b h = omega (
    arith,
    b h,
    all_put_by h ss,
    all_put_by h ss',
    all_took_by h ss,
    all_took_by h ss',
    ap (weigh (λ (d : Did). weigh h d.put)) e,
    ap (weigh (λ (d : Did). weigh h d.took)) e,
  )
