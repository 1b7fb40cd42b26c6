use Rattle.std.proofs.Common.{ℕ, ◌+◌, ◌*◌, ◌<◌, ◌≤◌, arith}
use Rattle.std.proofs.lemmas.Nat.{mul-add-lt}
use Rattle.std.proofs.Math.Nat.{mul-le-mul}
use Rattle.row_sums.proofs.numbering.number_at.Goals as goal

-- a call of a family is among all, and all fit
fits : (f c w i n all bound : ℕ) → n < w → (f * c + i) * w + n < all → all < bound → f * c + i < bound
fits f c w i n all bound l b k =
    let once : (f * c + i) * 1 ≤ (f * c + i) * w = mul-le-mul (let e : f * c + i ≤ f * c + i = omega arith in e) (let e : 1 ≤ w = omega (arith, l) in e) in
    omega (arith, once, b, k)

number_low : (f c w i n h : ℕ) → f < h → i < c → n < w → (f * c + i) * w + n < w * (c * h)
number_low f c w i n h a b d = mul-add-lt (f * c + i) w n (c * h) (mul-add-lt f c i h a b) d

pub overflow_mul-result : goal.overflow_mul-result
overflow_mul-result c =
    let low = number_low c.args.family c.args.z.calls c.args.z.width c.args.call c.args.item c.args.z.families c.requires.family c.requires.call c.requires.item in
    let fit = fits c.args.family c.args.z.calls c.args.z.width c.args.call c.args.item _ _ c.requires.item low c.requires.fits in
    omega (arith, fit)

pub overflow_add-result : goal.overflow_add-result
overflow_add-result c =
    let low = number_low c.args.family c.args.z.calls c.args.z.width c.args.call c.args.item c.args.z.families c.requires.family c.requires.call c.requires.item in
    let fit = fits c.args.family c.args.z.calls c.args.z.width c.args.call c.args.item _ _ c.requires.item low c.requires.fits in
    omega (arith, fit)
