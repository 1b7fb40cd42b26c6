use Rattle.std.proofs.Common.{◌≡◌, ◌+◌, ◌∷◌, ◌++◌, [], length, map, ap, sym, ◌∙◌, rules, arith}
use Rattle.std.specs.Vec.{vec_len}
use Rattle.std.proofs.lemmas.List.{map-append}
use Rattle.shared_search.specs.Racks.{count_from, number_of}
use Rattle.shared_search.specs.Rounds.{own_of, row_of, HasNoMiss}
use Rattle.shared_search.proofs.Backs.{snoc_shift, every_snoc}
use Rattle.shared_search.proofs.Dealing.{count_up, length_snoc}
use Rattle.shared_search.proofs.opening.passes_of.Goals as goal

pub loop-own-preserved : goal.loop-own-preserved
loop-own-preserved g c =
    let i = c.loop-own.invariant in
    let e : c.loop-own.own-iterator.rest.items ≡ c.in-Some.own ∷ c.next.new.self.rest.items = search rules in
    let t = c.next_row-tokens.ensures in
    let p = c.in_ok-push.ensures.items in
    let size : vec_len c.loop-own.passes ≡ length c.loop-own.passes.items = search rules in
    let longer : length c.loop-own.passes.items + 1 ≡ length c.push.new.self.items = sym (ap length p ∙ length_snoc c.loop-own.passes.items _) in
    record {
      owns = ap (λ l. map own_of l ++ c.next.new.self.rest.items) p
          ∙ (ap (λ l. l ++ c.next.new.self.rest.items) (map-append own_of c.loop-own.passes.items _)
          ∙ (snoc_shift (map own_of c.loop-own.passes.items) c.in-Some.own c.next.new.self.rest.items ∙ (ap (λ l. map own_of c.loop-own.passes.items ++ l) (sym e) ∙ i.owns)));
      rows = ap (λ l. map row_of l ++ map (λ row. row.items) c.next_row-tokens.new.rows.rest.items) p
          ∙ (ap (λ l. l ++ map (λ row. row.items) c.next_row-tokens.new.rows.rest.items) (map-append row_of c.loop-own.passes.items _)
          ∙ (snoc_shift (map row_of c.loop-own.passes.items) c.next_row-tokens.result.items (map (λ row. row.items) c.next_row-tokens.new.rows.rest.items)
          ∙ (ap (λ l. map row_of c.loop-own.passes.items ++ map (λ row. row.items) l) (sym t) ∙ i.rows)));
      numbers = ap (map number_of) p ∙ (map-append number_of c.loop-own.passes.items _ ∙ (ap (λ n. map number_of c.loop-own.passes.items ++ n ∷ []) (c.len-number.ensures ∙ size)
          ∙ (ap (λ l. l ++ length c.loop-own.passes.items ∷ []) i.numbers ∙ (sym (count_up (length c.loop-own.passes.items)) ∙ ap (count_from 0) longer))));
      counts = every_snoc (HasNoMiss (length c.args.dealt.owns.items)) c.loop-own.passes.items _ c.push.new.self.items p i.counts
          (let z = c.in_ok-misses.ensures in (z.0 ∙ i.workers, z.1));
      workers = i.workers;
      left = omega (arith, i.left, ap length e, ap length t);
    }
