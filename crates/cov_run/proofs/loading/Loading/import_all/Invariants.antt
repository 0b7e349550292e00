use Rattle.std.proofs.Common.{◌≡◌, ◌+◌, ◌-◌, ◌*◌, ◌<◌, ◌≤◌, length}
use Rattle.py_syntax.specs.Tree.{Text}
use Rattle.py_meaning.specs.Loading.{folder_of}
use Rattle.cov_run.specs.Loading.{most_total, most_modules}
use Rattle.cov_run.specs.State.{state_of}
use Rattle.cov_run.specs.Progress.{HasCome}
use Rattle.cov_run.proofs.loading.Loading.import_all.Given as goal

abbrev pub invariant-names : goal.invariant-names
invariant-names g l =
    let faults = g.H.Shelf.faults in
    record {
      come :
          (start : g.row.H.Denot) (script called : Text) → HasCome g.H.Shelf.reads start script called (state_of l.fn.self) 0 l.fn.shelf → l.folder ≡ folder_of script
          → HasCome g.H.Shelf.reads start script called (state_of l.self) l.at l.shelf;
      count : faults l.fn.shelf ≤ faults l.shelf;
      few : length l.self.sources.items ≤ most_modules;
      light : l.self.bytes ≤ most_total;
      last : l.count ≡ length l.self.names;
      high : l.count < 18446744073709551616;
    }

-- each name either adds a module, of which there are few, or is one name less
abbrev pub decreases-names : goal.decreases-names
decreases-names g l = (most_modules - length l.self.sources.items) * 18446744073709551616 + (l.count - l.at)
