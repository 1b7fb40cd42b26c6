use Rattle.std.proofs.Common.{◌≡◌, ◌∙◌, ◌∷◌, ◌++◌, ◌+◌, ℕ, suc, List, [], ap, sym, arith, take, inl, inr}
use Rattle.std.specs.List.{zip}
use Rattle.std.proofs.lemmas.List.{append_assoc}
use Rattle.model_bridge.proofs.Lists.{take_zip, zip_all}
use Rattle.model_bridge.proofs.pairs.push_pairs.Goals as goal

pub loop-k-preserved : goal.loop-k-preserved
loop-k-preserved c =
    let k = c.loop-k.k in
    let xs = c.args.vars.now in
    let ys = c.args.boxes.now in
    let more : suc k ≡ k + 1 = omega arith in
    c.in_ok-push.ensures
    ∙ ap (λ (ps : List (ℕ × ℕ)). ps ++ (c.at.result.now, c.at-in-loop-k.result.now) ∷ []) c.loop-k.invariant
    ∙ append_assoc c.args.pairs.now (take k (zip xs ys)) ((c.at.result.now, c.at-in-loop-k.result.now) ∷ [])
    ∙ ap (λ (ps : List (ℕ × ℕ)). c.args.pairs.now ++ ps) (sym (take_zip xs ys k c.at.result.now c.at-in-loop-k.result.now c.at.ensures c.at-in-loop-k.ensures) ∙ ap (λ (n : ℕ). take n (zip xs ys)) more)

pub returns : goal.returns
returns c = c.loop-k.invariant ∙ ap (λ (ps : List (ℕ × ℕ)). c.args.pairs.now ++ ps) (zip_all c.args.vars.now c.args.boxes.now c.loop-k.k (inl (omega (arith, c.loop-k-test.false, c.len-k-end.ensures))))

pub returns-then-k-len : goal.returns-then-k-len
returns-then-k-len c = c.loop-k.invariant ∙ ap (λ (ps : List (ℕ × ℕ)). c.args.pairs.now ++ ps) (zip_all c.args.vars.now c.args.boxes.now c.loop-k.k (inr (omega (arith, c.if-k-len.true, c.len.ensures))))
