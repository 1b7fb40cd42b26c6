use Rattle.std.proofs.Common.{rules, arith, SFits, w64, refl, ◌≡◌, ◌≤◌, ◌∙◌, ap, sym, subst, List, ℕ, ◌-◌, ◌+◌, ◌^◌, ℤ, pos, negsuc, ◌+ℤ◌}
use Rattle.std.specs.Int.{int_max}
use Rattle.std.proofs.lemmas.Int.{to_z-of_z}
use Rattle.std.proofs.lemmas.List.{length-set}
use Rattle.crossing_pricing.specs.declared.best_pairs.Best.{Best}
use Rattle.crossing_pricing.specs.Climbs.{worth_at, best_at, IsSmall, room}
use Rattle.crossing_pricing.proofs.Climbing.{none_past, small_list, row_more, small_more, room_step}
use Rattle.crossing_pricing.proofs.best_pairs.best_row.Goals as goal

pub loop-count-init : goal.loop-count-init
loop-count-init c =
    let x : Best = record { one = negsuc 35184372088831; two = negsuc 35184372088831 } in
    record {
      len = refl;
      best = λ d h le. none_past (worth_at c.args.sides.now c.args.gaps.now c.args.from) c.args.last c.args.floor c.args.load d _ (omega arith);
      small = small_list (room c.args.load) x (record { one = omega arith; two = omega arith }) 14;
    }

pub loop-count-preserved : goal.loop-count-preserved
loop-count-preserved c =
    let i = c.loop-count.invariant in
    let w : ℕ → ℕ → ℤ = worth_at c.args.sides.now c.args.gaps.now c.args.from in
    let row : List Best = c.loop-count.row in
    let below : List Best = c.args.below.now in
    let new : Best = c.best_here.result in
    let dest : ℕ = c.args.last - c.loop-count.count in
    let s : SFits w64 c.worth-worth.result = search rules in
    let value : c.worth-worth.result ≡ w c.args.load dest = c.worth-worth.ensures.value in
    let one : new.one ≡ int_max (int_max (best_at row (dest + 1)).one (best_at below dest).one) (w c.args.load dest +ℤ int_max (pos 0) (best_at below (dest + 1)).one) =
    (simp to_z-of_z at c.best_here.ensures.one) ∙ ap (λ (z : ℤ). int_max (int_max (best_at row (dest + 1)).one (best_at below dest).one) (z +ℤ int_max (pos 0) (best_at below (dest + 1)).one)) value in
    let two : new.two ≡ int_max (int_max (best_at row (dest + 1)).two (best_at below dest).two) (w c.args.load dest +ℤ (best_at below (dest + 1)).one) =
    (simp to_z-of_z at c.best_here.ensures.two) ∙ ap (λ (z : ℤ). int_max (int_max (best_at row (dest + 1)).two (best_at below dest).two) (z +ℤ (best_at below (dest + 1)).one)) value in
    let step : room (c.args.load + 1) + 2 ^ 38 ≡ room c.args.load = room_step c.args.load (omega (arith, c.requires.load, c.requires.floor, c.requires.last)) in
    let low : dest + 1 ≤ 13 = omega (arith, c.requires.last) in
    let low' : dest ≤ 13 = omega (arith, c.requires.last) in
    let fresh : IsSmall (room c.args.load) new = subst (λ (n : ℕ). IsSmall n new) step
    (c.best_here.ensures.small (room (c.args.load + 1)) (subst (λ (n : ℕ). IsSmall n (best_at row (dest + 1))) (sym step) (i.small (dest + 1) low)) (c.requires.small dest low') (c.requires.small (dest + 1) low)) in
    record {
      len = length-set row dest new ∙ i.len;
      best = row_more w c.args.last c.args.floor c.args.load c.loop-count.count dest row below new i.len (omega (arith, c.loop-count-test.true, c.requires.floor)) c.requires.last (omega (arith, c.loop-count-test.true)) i.best c.requires.best one two;
      small = small_more w c.args.last c.args.floor c.args.load c.loop-count.count dest row below new (room c.args.load) i.len i.small fresh low';
    }
