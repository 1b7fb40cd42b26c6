use Rattle.std.proofs.Common.{◌≡◌, ◌<◌, ◌+◌, ◌++◌, ◌∷◌, [], ◌∙◌, ℕ, List, arith, ap, sym, length, get_or, take, map}
use Rattle.std.specs.List.{count_by}
use Rattle.std.proofs.lemmas.List.{map-append, take_more}
use Rattle.std.proofs.lemmas.Option.{get_or_from_slice_get}
use Rattle.stow_data.specs.Shipment.{Cargo}
use Rattle.zero_one_rows.specs.Chains.{pairs_of}
use Rattle.zero_one_rows.specs.Crossing.{load_of, is_of_load}
use Rattle.zero_one_rows.proofs.crossing.loads.Goals as goal

pub loop-k-preserved : goal.loop-k-preserved
loop-k-preserved g c =
    let pairs : List (ℕ × ℕ) = pairs_of c.args.chain.now in
    let f : ℕ × ℕ → ℕ = λ p. load_of g.m c.args.long p.0 p.1 in
    let lt : c.loop-k.k < length pairs = omega (arith, c.loop-k-test.true, c.pair_count-k-end.ensures.number) in
    let here : get_or pairs c.loop-k.k c.pair_at-load.result ≡ c.pair_at-load.result = get_or_from_slice_get pairs c.loop-k.k c.pair_at-load.result c.pair_at-load.result c.pair_at-load.ensures in
    let load : c.count_load.result ≡ f c.pair_at-load.result = c.count_load.ensures ∙ ap (λ (k : Cargo). count_by (is_of_load c.args.long c.pair_at-load.result.0 c.pair_at-load.result.1) k.containers) c.requires in
    c.push.ensures.items
    ∙ ap (λ (xs : List ℕ). xs ++ c.count_load.result ∷ []) c.loop-k.invariant
    ∙ ap (λ (n : ℕ). map f (take c.loop-k.k pairs) ++ n ∷ []) (load ∙ ap f (sym here))
    ∙ sym (map-append f (take c.loop-k.k pairs) (get_or pairs c.loop-k.k c.pair_at-load.result ∷ []))
    ∙ ap (map f) (sym (take_more pairs c.loop-k.k c.pair_at-load.result lt))
