use Rattle.std.proofs.Common.{◌≡◌, ◌∷◌, ◌++◌, [], map, ap, sym, subst, ◌∙◌, rules}
use Rattle.std.proofs.lemmas.List.{map-append}
use Rattle.search_core.specs.Bags.{Every}
use Rattle.shared_search.specs.Racks.{IsPassAt, number_of}
use Rattle.shared_search.specs.Tallies.{did_of, did_by}
use Rattle.shared_search.proofs.Backs.{every_snoc}
use Rattle.shared_search.proofs.Tallies.{map_moved, map_both}
use Rattle.shared_search.proofs.tally.tally_of.Goals as goal

pub loop-pass-preserved : goal.loop-pass-preserved
loop-pass-preserved g c =
    let i = c.loop-pass.invariant in
    let e : c.loop-pass.pass-iterator.rest.items ≡ c.in-Some.pass ∷ c.next.new.self.rest.items = search rules in
    let k = c.known_of-pass.ensures in
    let p = c.in_ok-push.ensures.items in
    let q = c.in_ok-push-2.ensures.items in
    record {
      out = every_snoc (IsPassAt c.args.rack.now) c.loop-pass.out.items c.known_of-pass.result.0 c.push.new.self.items p i.out k.pass;
      rest = (subst (Every (IsPassAt c.args.rack.now)) e i.rest).1;
      numbers = map_moved number_of c.loop-pass.out.items c.known_of-pass.result.0 c.push.new.self.items c.loop-pass.pass-iterator.rest.items c.in-Some.pass c.next.new.self.rest.items p e k.number ∙ i.numbers;
      same = map_moved did_of c.loop-pass.out.items c.known_of-pass.result.0 c.push.new.self.items c.loop-pass.pass-iterator.rest.items c.in-Some.pass c.next.new.self.rest.items p e k.same ∙ i.same;
      known = map_both did_by did_of c.loop-pass.workers.items c.known_of-pass.result.1 c.push-in-loop-pass.new.self.items c.loop-pass.out.items c.known_of-pass.result.0 c.push.new.self.items q p (k.known ∙ sym k.same) i.known;
    }
