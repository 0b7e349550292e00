use Rattle.std.proofs.Common.{◌≡◌, ℕ, true, false, not, List, Option, Result, Ok, Err, inl, refl, sym, ap, ◌∙◌, subst, length, rules}
use Rattle.std.proofs.lemmas.List.{length-map}
use Rattle.cov_outside.specs.Reads.{IsTold}
use Rattle.py_meaning.specs.Loading.{file_of}
use Rattle.cov_why.specs.declared.why.Why.{Why}
use Rattle.cov_run.specs.Asking.{has_own_file}
use Rattle.cov_run.specs.Loading.{most_bytes}
use Rattle.cov_run.specs.Loads.{EndsWith}
use Rattle.cov_run.specs.State.{IsFound, Holds, state_of}
use Rattle.cov_run.specs.View.{plain_source}
use Rattle.cov_run.proofs.Answering.{sys-tested, there, settles-added, refused-as}
use Rattle.cov_run.proofs.Coming.{name-passed, unread-here, ends-memory, result-come, result-ends, failure-ends}
use Rattle.cov_run.proofs.loading.Loading.import.Goals as goal

pub returns-then-eq-clause-come : goal.returns-then-eq-clause-come
returns-then-eq-clause-come g c = λ start script called at h folder k.
    let own : has_own_file c.args.name ≡ false = ap not (sys-tested c.args.name c.as_str.result.now c.eq.result c.as_str.ensures.bytes c.eq.ensures ∙ c.if-eq.true) in
    name-passed g.H.Shelf.reads start c.args.shelf.now script called (state_of c.args.self.now) at c.args.name h k own

pub returns-in_default-clause-ends : goal.returns-in_default-clause-ends
returns-in_default-clause-ends g c = λ start script called at h folder k.
    ends-memory g.H.Shelf.reads start c.args.shelf.now script called (unread-here g.H.Shelf.reads start c.args.shelf.now script called (state_of c.args.self.now) at h)

pub returns-in_err-file-clause-ends : goal.returns-in_err-file-clause-ends
returns-in_err-file-clause-ends g c = λ start script called at h folder k.
    let own : has_own_file c.args.name ≡ true = ap not (sys-tested c.args.name c.as_str.result.now c.eq.result c.as_str.ensures.bytes c.eq.ensures ∙ c.if-eq.false) in
    let lies = c.in-Ok.ensures ∙ ap (λ d. file_of d c.args.name) folder in
    let f = c.in_err-file.ensures.found in
    let is : c.from_residual.result ≡ Err c.in_err-file.field-0.0 = search rules in
    refused-as c.from_residual.result c.in_err-file.field-0.0 (λ v. EndsWith g.H.Shelf.reads start script called v c.find.new.shelf) is
    (failure-ends g.H.Shelf.reads start c.args.shelf.now c.find.new.shelf script called (state_of c.args.self.now) at c.args.name c.in-Ok.path h k own lies f.answer f.led f.fits c.in_err-file.field-0.0 c.in_err-file.ensures.refused (λ e. f.failed (ap (λ v. Err v) e)))

pub returns-in-Some-clause-come : goal.returns-in-Some-clause-come
returns-in-Some-clause-come g c = λ start script called at h folder k.
    let own : has_own_file c.args.name ≡ true = ap not (sys-tested c.args.name c.as_str.result.now c.eq.result c.as_str.ensures.bytes c.eq.ensures ∙ c.if-eq.false) in
    let lies = c.in-Ok.ensures ∙ ap (λ d. file_of d c.args.name) folder in
    let f = c.in_ok-file.ensures.found in
    let holds : (content : Option (List ℕ)) → IsTold content most_bytes f.answer → Holds content c.in-Some.file = λ content told. subst (λ o. IsFound content o) c.in-Some.is (f.finds content told) in
    result-come g.H.Shelf.reads start c.args.shelf.now c.find.new.shelf script called (state_of c.args.self.now) at c.args.name c.in-Ok.path h k own lies f.answer f.led f.fits (state_of c.add.new.self) c.add.result
    (λ content told. settles-added content c.args.name c.in-Ok.path (state_of c.args.self.now) (state_of c.add.new.self) c.add.result (c.add.ensures.added content (holds content told)))

pub returns-in-Some-clause-ends : goal.returns-in-Some-clause-ends
returns-in-Some-clause-ends g c = λ start script called at h folder k.
    let own : has_own_file c.args.name ≡ true = ap not (sys-tested c.args.name c.as_str.result.now c.eq.result c.as_str.ensures.bytes c.eq.ensures ∙ c.if-eq.false) in
    let lies = c.in-Ok.ensures ∙ ap (λ d. file_of d c.args.name) folder in
    let f = c.in_ok-file.ensures.found in
    let holds : (content : Option (List ℕ)) → IsTold content most_bytes f.answer → Holds content c.in-Some.file = λ content told. subst (λ o. IsFound content o) c.in-Some.is (f.finds content told) in
    result-ends g.H.Shelf.reads start c.args.shelf.now c.find.new.shelf script called (state_of c.args.self.now) at c.args.name c.in-Ok.path h k own lies f.answer f.led f.fits (length c.args.self.now.sources.items) c.add.result
    (sym (length-map c.args.self.now.sources.items plain_source))
    (λ content told. (there content c.in-Some.file (holds content told), c.add.ensures.refused content (holds content told)))
    c.add.ensures.no_fault

pub returns-in-None-clause-come : goal.returns-in-None-clause-come
returns-in-None-clause-come g c = λ start script called at h folder k.
    let own : has_own_file c.args.name ≡ true = ap not (sys-tested c.args.name c.as_str.result.now c.eq.result c.as_str.ensures.bytes c.eq.ensures ∙ c.if-eq.false) in
    let lies = c.in-Ok.ensures ∙ ap (λ d. file_of d c.args.name) folder in
    let f = c.in_ok-file.ensures.found in
    let r : Result (Unit {0}) Why = Ok tt in
    result-come g.H.Shelf.reads start c.args.shelf.now c.find.new.shelf script called (state_of c.args.self.now) at c.args.name c.in-Ok.path h k own lies f.answer f.led f.fits (state_of c.args.self.now) r
    (λ content told. inl (subst (λ o. IsFound content o) c.in-None.is (f.finds content told), refl))
