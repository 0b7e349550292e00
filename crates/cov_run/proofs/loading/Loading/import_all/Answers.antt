use Rattle.std.proofs.Common.{◌≡◌, Err, sym, subst, arith, rules, add-one}
use Rattle.cov_run.specs.Loads.{EndsWith}
use Rattle.cov_run.specs.Progress.{HasCome}
use Rattle.cov_run.specs.State.{state_of}
use Rattle.cov_run.proofs.Answering.{refused-as, few-after, light-after}
use Rattle.cov_run.proofs.Coming.{unread-here, ends-memory, all-loaded}
use Rattle.cov_run.proofs.loading.Loading.import_all.Goals as goal

pub returns-in_default-clause-ends : goal.returns-in_default-clause-ends
returns-in_default-clause-ends g c = λ start script called h folder.
    ends-memory g.H.Shelf.reads start c.names.shelf script called (unread-here g.H.Shelf.reads start c.names.shelf script called (state_of c.names.self) c.names.at (c.names.invariant.come start script called h folder))

pub returns-in_err-import-clause-ends : goal.returns-in_err-import-clause-ends
returns-in_err-import-clause-ends g c = λ start script called h folder.
    let is : c.from_residual.result ≡ Err c.in_err-import.field-0.0 = search rules in
    refused-as c.from_residual.result c.in_err-import.field-0.0 (λ v. EndsWith g.H.Shelf.reads start script called v c.import.new.shelf) is
    (c.in_err-import.ensures.ends start script called c.names.at (c.names.invariant.come start script called h folder) folder c.in-Ok.ensures)

pub names-preserved : goal.names-preserved
names-preserved g c = record {
  come = λ start script called h folder.
      subst (λ n. HasCome g.H.Shelf.reads start script called (state_of c.import.new.self) n c.import.new.shelf) (sym (add-one c.names.at))
      (c.in_ok-import.ensures.come start script called c.names.at (c.names.invariant.come start script called h folder) folder c.in-Ok.ensures);
  count = let a = c.names.invariant.count in let b = c.in_ok-import.ensures.count in omega (arith, a, b);
  few = few-after c.names.self c.import.new.self c.in_ok-import.ensures.grows c.names.invariant.few;
  light = light-after c.names.self c.import.new.self c.in_ok-import.ensures.grows c.names.invariant.light;
  last = c.len-count-in-names.ensures.len;
  high = let s = c.len-count-in-names.ensures.small in omega (arith, s);
}

pub returns-clause-loads : goal.returns-clause-loads
returns-clause-loads g c = λ start script called h folder.
    let l = c.names.invariant.last in
    let f = c.names-test.false in
    all-loaded g.H.Shelf.reads start c.names.shelf script called (state_of c.names.self) c.names.at (c.names.invariant.come start script called h folder) (omega (arith, l, f))
