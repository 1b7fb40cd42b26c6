use Rattle.std.proofs.Common.{◌≡◌, ◌∷◌, ◌++◌, map, ap, sym, ◌∙◌, rules}
use Rattle.std.proofs.lemmas.List.{map-append}
use Rattle.shared_search.specs.Rounds.{own_of, row_of}
use Rattle.shared_search.proofs.Backs.{snoc_shift}
use Rattle.shared_search.proofs.closing.parted.Goals as goal

pub loop-pass-preserved : goal.loop-pass-preserved
loop-pass-preserved g c =
    let i = c.loop-pass.invariant in
    let e : c.loop-pass.pass-iterator.rest.items ≡ c.in-Some.pass ∷ c.next.new.self.rest.items = search rules in
    let p = c.in_ok-push.ensures.items in
    let q = c.in_ok-push-2.ensures.items in
    record {
      owns = ap (λ l. l ++ map own_of c.next.new.self.rest.items) p
          ∙ (snoc_shift c.loop-pass.owns.items (own_of c.in-Some.pass) (map own_of c.next.new.self.rest.items) ∙ (ap (λ l. c.loop-pass.owns.items ++ map own_of l) (sym e) ∙ i.owns));
      rows = ap (λ l. map (λ row. row.items) l ++ map row_of c.next.new.self.rest.items) q
          ∙ (ap (λ l. l ++ map row_of c.next.new.self.rest.items) (map-append (λ row. row.items) c.loop-pass.rows.items _)
          ∙ (snoc_shift (map (λ row. row.items) c.loop-pass.rows.items) (row_of c.in-Some.pass) (map row_of c.next.new.self.rest.items)
          ∙ (ap (λ l. map (λ row. row.items) c.loop-pass.rows.items ++ map row_of l) (sym e) ∙ i.rows)));
    }
