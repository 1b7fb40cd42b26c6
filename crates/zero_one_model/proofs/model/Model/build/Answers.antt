use Rattle.zero_one_model.proofs.model.Model.build.Goals as goal

pub invariant_of-result : goal.invariant_of-result
invariant_of-result c =
    let p = c.in-Ok.ensures in
    record {
      arrival = c.requires.arrival;
      kinds = c.in_ok-kinds.ensures;
      vars = p.0;
      lists = p.2.lists;
      base = p.2.counts.base;
      rows = p.2.counts.all;
      index = p.2.index;
      files = p.2.files;
      within = record { vars = p.1; rows = p.2.counts.few };
    }
