use Rattle.std.proofs.Common.{◌≡◌, ◌≤◌, ◌+◌, ◌-◌, ◌++◌, ℕ, List, length, take, arith, sym, ap, ◌∙◌}
use Rattle.std.proofs.Math.Seq.{take-append-add}
use Rattle.certificate.specs.declared.tree.Record.{Record}
use Rattle.certificate.proofs.trails.Trail.take_first.Goals as goal

-- the first of two lists joined, where the first list is among them
past : {A : Type 0} (xs ys zs : List A) (k n : ℕ) → k ≡ length xs → k ≤ n → zs ≡ take (n - k) ys → xs ++ zs ≡ take n (xs ++ ys)
past xs ys zs k n is le e =
    let m : length xs + (n - k) ≡ n = omega (arith, is, le) in
    ap (λ s. xs ++ s) e ∙ sym (take-append-add xs ys (n - k)) ∙ ap (λ i. take i (xs ++ ys)) m

pub returns-then-shared-count : goal.returns-then-shared-count
returns-then-shared-count c =
    past c.self.inside.front c.self.inside.back.items c.truncate.new.self.items c.len-shared.result c.args.count c.len-shared.ensures.length c.if-shared-count.true c.truncate.ensures.items
    ∙ ap (λ (rs : List Record). take c.args.count rs) c.self.view_is
