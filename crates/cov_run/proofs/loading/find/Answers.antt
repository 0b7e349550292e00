use Rattle.std.proofs.Common.{Err, ap, subst}
use Rattle.cov_run.specs.Loading.{most_bytes}
use Rattle.cov_run.specs.Loads.{faulted, starved}
use Rattle.cov_run.proofs.Answering.{memory-no-fault}
use Rattle.cov_run.proofs.loading.find.Goals as goal

pub returns-in-Err-Failed-clause-refused : goal.returns-in-Err-Failed-clause-refused
returns-in-Err-Failed-clause-refused g c = faulted

pub returns-in-Err-NoMemory-clause-refused : goal.returns-in-Err-NoMemory-clause-refused
returns-in-Err-NoMemory-clause-refused g c = starved

pub returns-in-Err-Failed-clause-found : goal.returns-in-Err-Failed-clause-found
returns-in-Err-Failed-clause-found g c = record {
  answer = Err c.in-Err-Failed.field-0;
  led = subst (λ n. g.H.Shelf.reads c.args.shelf.now n most_bytes (Err c.in-Err-Failed.field-0) c.read.new.self) c.as_str.ensures.bytes c.in-Err-Failed.ensures.moved;
  fits = tt;
  finds = λ content t. tt;
  failed = λ e. ap (λ v. Err v) c.in-Err-Failed.field-0-is;
}

pub returns-in-Err-NoMemory-clause-found : goal.returns-in-Err-NoMemory-clause-found
returns-in-Err-NoMemory-clause-found g c = record {
  answer = Err c.in-Err-NoMemory.field-0;
  led = subst (λ n. g.H.Shelf.reads c.args.shelf.now n most_bytes (Err c.in-Err-NoMemory.field-0) c.read.new.self) c.as_str.ensures.bytes c.in-Err-NoMemory.ensures.moved;
  fits = tt;
  finds = λ content t. tt;
  failed = λ e. absurd (memory-no-fault e);
}
