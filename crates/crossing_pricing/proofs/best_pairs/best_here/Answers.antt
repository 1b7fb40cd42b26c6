use Rattle.std.proofs.Common.{rules, arith, SFits, w64, ◌≡◌, ◌≤◌, ◌+◌, ◌^◌, ◌∙◌, ap, ℤ, pos, ◌+ℤ◌}
use Rattle.std.specs.Int.{int_max}
use Rattle.std.specs.Int.RustNames.{unsigned_abs}
use Rattle.std.proofs.lemmas.Int.{to_z-of_z}
use Rattle.crossing_pricing.proofs.best_pairs.best_here.Goals as goal

pub returns-clause-one : goal.returns-clause-one
returns-clause-one c =
    let s1 : SFits w64 c.larger.result = search rules in
    let s2 : SFits w64 c.larger-2.result = search rules in
    let s3 : SFits w64 c.joined.result = search rules in
    let s4 : SFits w64 c.larger-3.result = search rules in
    let s5 : SFits w64 c.args.right.one = search rules in
    let s6 : SFits w64 c.args.down.one = search rules in
    let s7 : SFits w64 c.args.diagonal.one = search rules in
    let s8 : SFits w64 c.args.worth = search rules in
    let v : c.larger.result ≡ int_max c.args.right.one c.args.down.one = simp to_z-of_z at c.larger.ensures.value in
    let u : c.larger-2.result ≡ int_max (pos 0) c.args.diagonal.one = simp to_z-of_z at c.larger-2.ensures.value in
    let j : c.joined.result ≡ c.args.worth +ℤ c.larger-2.result = simp to_z-of_z at c.joined.ensures.value in
    let t : c.larger-3.result ≡ int_max c.larger.result c.joined.result = simp to_z-of_z at c.larger-3.ensures.value in
    simp to_z-of_z (t ∙ ap (λ (x : ℤ). int_max x c.joined.result) v ∙ ap (λ (x : ℤ). int_max (int_max c.args.right.one c.args.down.one) x) (j ∙ ap (λ (z : ℤ). c.args.worth +ℤ z) u))

pub returns-clause-two : goal.returns-clause-two
returns-clause-two c =
    let s1 : SFits w64 c.larger-4.result = search rules in
    let s3 : SFits w64 c.joined-2.result = search rules in
    let s4 : SFits w64 c.larger-5.result = search rules in
    let s5 : SFits w64 c.args.right.two = search rules in
    let s6 : SFits w64 c.args.down.two = search rules in
    let s7 : SFits w64 c.args.diagonal.one = search rules in
    let s8 : SFits w64 c.args.worth = search rules in
    let v : c.larger-4.result ≡ int_max c.args.right.two c.args.down.two = simp to_z-of_z at c.larger-4.ensures.value in
    let j : c.joined-2.result ≡ c.args.worth +ℤ c.args.diagonal.one = simp to_z-of_z at c.joined-2.ensures.value in
    let t : c.larger-5.result ≡ int_max c.larger-4.result c.joined-2.result = simp to_z-of_z at c.larger-5.ensures.value in
    simp to_z-of_z (t ∙ ap (λ (x : ℤ). int_max x c.joined-2.result) v ∙ ap (λ (x : ℤ). int_max (int_max c.args.right.two c.args.down.two) x) j)

pub returns-clause-small : goal.returns-clause-small
returns-clause-small c = λ s r d g.
    let s1 : SFits w64 c.larger.result = search rules in
    let s2 : SFits w64 c.larger-2.result = search rules in
    let s3 : SFits w64 c.joined.result = search rules in
    let s4 : SFits w64 c.larger-3.result = search rules in
    let t1 : SFits w64 c.larger-4.result = search rules in
    let t3 : SFits w64 c.joined-2.result = search rules in
    let t4 : SFits w64 c.larger-5.result = search rules in
    let s5 : SFits w64 c.args.right.one = search rules in
    let s6 : SFits w64 c.args.down.one = search rules in
    let s7 : SFits w64 c.args.diagonal.one = search rules in
    let s5' : SFits w64 c.args.right.two = search rules in
    let s6' : SFits w64 c.args.down.two = search rules in
    let s8 : SFits w64 c.args.worth = search rules in
    let a = simp to_z-of_z at c.larger.ensures.size in
    let b = simp to_z-of_z at c.larger-2.ensures.size in
    let e = simp to_z-of_z at c.joined.ensures.size in
    let f = simp to_z-of_z at c.larger-3.ensures.size in
    let a' = simp to_z-of_z at c.larger-4.ensures.size in
    let e' = simp to_z-of_z at c.joined-2.ensures.size in
    let f' = simp to_z-of_z at c.larger-5.ensures.size in
    let left : unsigned_abs c.larger.result ≤ s + 2 ^ 38 = a (s + 2 ^ 38) r.one (omega (arith, d.one)) in
    let behind : unsigned_abs c.larger-2.result ≤ s = b s (omega arith) g.one in
    let here : unsigned_abs c.joined.result ≤ s + 2 ^ 38 = omega (arith, e, behind) in
    let left' : unsigned_abs c.larger-4.result ≤ s + 2 ^ 38 = a' (s + 2 ^ 38) r.two (omega (arith, d.two)) in
    let here' : unsigned_abs c.joined-2.result ≤ s + 2 ^ 38 = omega (arith, e', g.one) in
    simp to_z-of_z (record { one = f (s + 2 ^ 38) left here; two = f' (s + 2 ^ 38) left' here' })
