use Rattle.search_core.specs.Bags.{weigh}
use Rattle.shared_search.specs.Rounds.{own_put, own_took}
use Rattle.shared_search.proofs.Dealing.{closes_few, closes_held, closes_fit, closes_bag, if_ok}
use Rattle.shared_search.proofs.racks.Rack.emptied.Goals as goal

pub absorb_all-requires-clause-held : goal.absorb_all-requires-clause-held
absorb_all-requires-clause-held g c = closes_held c.args.self c.args.passes.items c.requires.all c.requires.passes (λ row. row.items) c.in_ok-dealt.dealt.rows.items c.in_ok-dealt.dealt.owns.items c.in_ok-dealt.ensures.owns c.in_ok-dealt.ensures.rows

pub absorb_all-requires-clause-few : goal.absorb_all-requires-clause-few
absorb_all-requires-clause-few g c = closes_few c.args.self c.args.passes.items c.requires.all c.requires.passes (λ row. row.items) c.in_ok-dealt.dealt.rows.items c.in_ok-dealt.dealt.owns.items c.in_ok-dealt.ensures.owns c.in_ok-dealt.ensures.rows

pub absorb_all-requires-clause-fit : goal.absorb_all-requires-clause-fit
absorb_all-requires-clause-fit g c = closes_fit c.args.self c.args.passes.items c.requires.all c.requires.passes (λ row. row.items) c.in_ok-dealt.dealt.rows.items c.in_ok-dealt.dealt.owns.items c.in_ok-dealt.ensures.owns c.in_ok-dealt.ensures.rows

pub returns-clause-bag : goal.returns-clause-bag
returns-clause-bag g c = if_ok c.empty.result _ _
    (λ rest b h. closes_bag c.args.self c.args.passes.items c.requires.all c.requires.passes (λ row. row.items) c.in_ok-dealt.dealt.rows.items c.in_ok-dealt.dealt.owns.items c.in_ok-dealt.ensures.owns c.in_ok-dealt.ensures.rows
    h (own_put h c.in_ok-owns.owns.items) (own_took h c.in_ok-owns.owns.items) (weigh h rest.items) (c.in_ok-owns.ensures.bag h).0 (c.in_ok-owns.ensures.bag h).1 (b h)) c.empty.ensures.bag
