use Rattle.stow_cli.proofs.Complete.{complete}
use Rattle.stow_cli.proofs.Exact.{exact}
use Rattle.stow_cli.proofs.top.stow.Goals as goal

pub returns : goal.returns
returns g c =
    let only = exact _ c.obey.result _ _ c.obey.ensures.run c.obey.ensures.fault in
    record {
      run = c.obey.ensures.run;
      exact = only;
      complete = complete _ c.obey.result _ _ c.obey.ensures.run only c.obey.ensures.fault;
      not_taken = c.obey.ensures.not_taken;
      own = c.obey.ensures.own;
      fault = c.obey.ensures.fault;
      quiet = c.obey.ensures.quiet;
      sink_quiet = c.obey.ensures.sink_quiet;
      folder_later = c.obey.ensures.folder_later;
      sink_later = c.obey.ensures.sink_later;
    }
