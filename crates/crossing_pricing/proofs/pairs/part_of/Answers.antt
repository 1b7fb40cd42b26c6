use Rattle.std.proofs.Common.{rules, arith, SFits, w64, ◌≡◌, ◌<◌, ◌≤◌, ◌^◌, ◌*◌, ◌∙◌, ap, sym, subst, List, [], ◌∷◌, length, ℕ, ℤ, pos, ◌+ℤ◌}
use Rattle.std.specs.Int.RustNames.{unsigned_abs}
use Rattle.std.proofs.lemmas.Int.{to_z-of_z}
use Rattle.stow_data.specs.Shipment.{IsCargo}
use Rattle.zero_one_rows.specs.declared.program.Row.TheVariants.{Cross}
use Rattle.zero_one_rows.specs.Variables.{Voyage}
use Rattle.zero_one_rows.specs.Crossing.{crossing_side}
use Rattle.zero_one_rows.specs.Rows.{rhs}
use Rattle.crossing_pricing.specs.Pairs.{own_part}
use Rattle.crossing_pricing.proofs.PairSums.{own_low, side_low, voyage_is}
use Rattle.crossing_pricing.proofs.pairs.part_of.Goals as goal

side_is : (m v : Voyage) (length price load dest : ℕ) (chain : List ℕ) (side : ℤ) → v ≡ m → chain ≡ load ∷ dest ∷ [] → side ≡ rhs v (Cross length price chain) → side ≡ crossing_side m length price (load ∷ dest ∷ [])
side_is m v length price load dest chain side e f h = h ∙ ap (λ (w : Voyage). crossing_side w length price chain) e ∙ ap (λ (k : List ℕ). crossing_side m length price k) f

pub without_price-requires-clause-side : goal.without_price-requires-clause-side
without_price-requires-clause-side c =
    let m = c.args.model.now in
    let s : SFits w64 c.right_side-side.result = search rules in
    let v : Voyage = record { ship = c.ship.result.now; cargo = c.cargo-cargo.result.now } in
    let side = side_is m v c.args.length c.args.price c.args.load c.args.dest c.of-chain.result c.right_side-side.result (voyage_is m c.ship.result.now c.cargo-cargo.result.now c.ship.ensures c.cargo-cargo.ensures) c.of-chain.ensures c.right_side-side.ensures in
    let lawful : IsCargo m.cargo = subst IsCargo c.cargo-cargo.ensures c.obeys_rules.ensures in
    let few : length m.cargo.containers < 2 ^ 32 = omega (arith, lawful.few_containers) in
    let low : unsigned_abs c.right_side-side.result ≤ 2 ^ 36 = subst (λ (z : ℤ). unsigned_abs z ≤ 2 ^ 36) (sym side) (side_low m c.args.length c.args.price c.args.load c.args.dest c.args.columns few c.requires.columns c.requires.few c.requires.price) in
    simp to_z-of_z low

pub returns-clause-value : goal.returns-clause-value
returns-clause-value c =
    let m = c.args.model.now in
    let s : SFits w64 c.right_side-side.result = search rules in
    let t : SFits w64 c.without_price.result = search rules in
    let v : Voyage = record { ship = c.ship.result.now; cargo = c.cargo-cargo.result.now } in
    let side = side_is m v c.args.length c.args.price c.args.load c.args.dest c.of-chain.result c.right_side-side.result (voyage_is m c.ship.result.now c.cargo-cargo.result.now c.ship.ensures c.cargo-cargo.ensures) c.of-chain.ensures c.right_side-side.ensures in
    let e : c.without_price.result ≡ c.right_side-side.result +ℤ pos (c.args.price * c.args.columns) = simp to_z-of_z at c.without_price.ensures in
    simp to_z-of_z (e ∙ ap (λ (z : ℤ). z +ℤ pos (c.args.price * c.args.columns)) side ∙ ap (λ (n : ℕ). crossing_side m c.args.length c.args.price (c.args.load ∷ c.args.dest ∷ []) +ℤ pos (c.args.price * n)) c.requires.columns)

pub returns-clause-low : goal.returns-clause-low
returns-clause-low c =
    let m = c.args.model.now in
    let s : SFits w64 c.right_side-side.result = search rules in
    let t : SFits w64 c.without_price.result = search rules in
    let v : Voyage = record { ship = c.ship.result.now; cargo = c.cargo-cargo.result.now } in
    let side = side_is m v c.args.length c.args.price c.args.load c.args.dest c.of-chain.result c.right_side-side.result (voyage_is m c.ship.result.now c.cargo-cargo.result.now c.ship.ensures c.cargo-cargo.ensures) c.of-chain.ensures c.right_side-side.ensures in
    let e : c.without_price.result ≡ c.right_side-side.result +ℤ pos (c.args.price * c.args.columns) = simp to_z-of_z at c.without_price.ensures in
    let is : c.without_price.result ≡ own_part m c.args.length c.args.price c.args.load c.args.dest = e ∙ ap (λ (z : ℤ). z +ℤ pos (c.args.price * c.args.columns)) side ∙ ap (λ (n : ℕ). crossing_side m c.args.length c.args.price (c.args.load ∷ c.args.dest ∷ []) +ℤ pos (c.args.price * n)) c.requires.columns in
    let lawful : IsCargo m.cargo = subst IsCargo c.cargo-cargo.ensures c.obeys_rules.ensures in
    let few : length m.cargo.containers < 2 ^ 32 = omega (arith, lawful.few_containers) in
    let own : unsigned_abs (own_part m c.args.length c.args.price c.args.load c.args.dest) ≤ 2 ^ 32 = own_low m c.args.length c.args.price c.args.load c.args.dest few in
    let low : unsigned_abs c.without_price.result ≤ 2 ^ 37 = subst (λ (z : ℤ). unsigned_abs z ≤ 2 ^ 37) (sym is) (omega (arith, own)) in
    simp to_z-of_z low
