use Rattle.std.proofs.Common.{◌≡◌, ◌≢◌, ℕ, List, Option, Err, sym, ap, ◌∙◌, subst, rules, length}
use Rattle.std.specs.Str.{chars}
use Rattle.std.proofs.lemmas.List.{length-map}
use Rattle.cov_outside.specs.Reads.{IsTold}
use Rattle.cov_why.specs.Answers.{no_memory}
use Rattle.cov_why.proofs.Refusing.{refused-map}
use Rattle.cov_run.specs.Loading.{most_bytes}
use Rattle.cov_run.specs.Refusals.{Refuses}
use Rattle.cov_run.specs.Loads.{EndsWith}
use Rattle.cov_run.specs.State.{State, IsFound, Holds, state_of}
use Rattle.cov_run.specs.View.{plain_source}
use Rattle.cov_run.proofs.Answering.{refused-as, script-refuses, script-added, absent-refuses, absent-no-fault}
use Rattle.cov_run.proofs.Coming.{nothing-read, ends-memory, script-result-come, script-result-ends, script-failure-ends}
use Rattle.cov_run.proofs.loading.begun.Goals as goal

pub returns-in_default-clause-ends : goal.returns-in_default-clause-ends
returns-in_default-clause-ends g c =
    let script = chars c.args.script.now in
    let name = chars c.args.name.now in
    ends-memory g.H.Shelf.reads c.args.shelf.now c.args.shelf.now script name (nothing-read g.H.Shelf.reads c.args.shelf.now script name)

pub returns-in_default-from_str-clause-ends : goal.returns-in_default-from_str-clause-ends
returns-in_default-from_str-clause-ends g c =
    let script = chars c.args.script.now in
    let name = chars c.args.name.now in
    ends-memory g.H.Shelf.reads c.args.shelf.now c.args.shelf.now script name (nothing-read g.H.Shelf.reads c.args.shelf.now script name)

pub returns-in_err-file-clause-ends : goal.returns-in_err-file-clause-ends
returns-in_err-file-clause-ends g c =
    let script = chars c.args.script.now in
    let name = chars c.args.name.now in
    let f = c.in_err-file.ensures.found in
    let w = c.in_err-file.field-0.0 in
    let is : c.from_residual.result ≡ Err c.in_err-file.field-0.0 = search rules in
    refused-as c.from_residual.result c.in_err-file.field-0.0 (λ v. EndsWith g.H.Shelf.reads c.args.shelf.now (chars c.args.script.now) (chars c.args.name.now) v c.find.new.shelf) is
    (script-failure-ends g.H.Shelf.reads c.args.shelf.now c.find.new.shelf script name c.in-Ok.path c.in-Ok.ensures f.answer f.led f.fits w c.in_err-file.ensures.refused (λ e. f.failed (ap (λ v. Err v) e)))

pub returns-in_err-add-in-Some-clause-ends : goal.returns-in_err-add-in-Some-clause-ends
returns-in_err-add-in-Some-clause-ends g c =
    let script = chars c.args.script.now in
    let name = chars c.args.name.now in
    let f = c.in_ok-file.ensures.found in
    let holds : (content : Option (List ℕ)) → IsTold content most_bytes f.answer → Holds content c.in-Some.file = λ content told. subst (λ o. IsFound content o) c.in-Some.is (f.finds content told) in
    let is : c.from_residual-in_err-add-in-Some.result ≡ Err c.in_err-add-in-Some.field-0.0 = search rules in
    let none = sym (length-map c.new-loading.result.sources.items plain_source) ∙ ap (λ (s : State). length s.modules) c.new-loading.ensures in
    refused-as c.from_residual-in_err-add-in-Some.result c.in_err-add-in-Some.field-0.0 (λ v. EndsWith g.H.Shelf.reads c.args.shelf.now (chars c.args.script.now) (chars c.args.name.now) v c.find.new.shelf) is
    (script-result-ends g.H.Shelf.reads c.args.shelf.now c.find.new.shelf script name c.in-Ok.path c.in-Ok.ensures f.answer f.led f.fits c.in_err-add-in-Some.field-0.0
    (λ content told. refused-map c.in_err-add-in-Some.field-0.0 (λ r. r ≢ no_memory → Refuses (length c.new-loading.result.sources.items) c.new-loading.result.bytes c.in-Ok.path content r) (λ r. r ≢ no_memory → Refuses 0 0 (chars c.args.script.now) content r)
    (λ r k m. script-refuses content (chars c.args.script.now) c.in-Ok.path (length c.new-loading.result.sources.items) c.new-loading.result.bytes r none (ap (λ (s : State). s.bytes) c.new-loading.ensures) c.in-Ok.ensures (k m))
    (c.in_err-add-in-Some.ensures.refused content (holds content told)))
    (λ e. c.in_err-add-in-Some.ensures.no_fault (ap (λ v. Err v) e)))

pub returns-in_ok-add-in-Some-clause-come : goal.returns-in_ok-add-in-Some-clause-come
returns-in_ok-add-in-Some-clause-come g c =
    let script = chars c.args.script.now in
    let name = chars c.args.name.now in
    let f = c.in_ok-file.ensures.found in
    let holds : (content : Option (List ℕ)) → IsTold content most_bytes f.answer → Holds content c.in-Some.file = λ content told. subst (λ o. IsFound content o) c.in-Some.is (f.finds content told) in
    script-result-come g.H.Shelf.reads c.args.shelf.now c.find.new.shelf script name c.in-Ok.path c.in-Ok.ensures f.answer f.led f.fits (state_of c.add.new.self)
    (λ content told. script-added content (chars c.args.script.now) (chars c.args.name.now) c.in-Ok.path c.in-Ok-from_str.name (state_of c.new-loading.result) (state_of c.add.new.self) c.in-Ok.ensures c.in-Ok-from_str.ensures c.new-loading.ensures
    (c.in_ok-add-in-Some.ensures.added content (holds content told)))

pub returns-in-None-clause-ends : goal.returns-in-None-clause-ends
returns-in-None-clause-ends g c =
    let script = chars c.args.script.now in
    let name = chars c.args.name.now in
    let f = c.in_ok-file.ensures.found in
    script-result-ends g.H.Shelf.reads c.args.shelf.now c.find.new.shelf script name c.in-Ok.path c.in-Ok.ensures f.answer f.led f.fits c.no_such_file.result
    (λ content told. absent-refuses content (chars c.args.script.now) c.in-Ok.path c.as_str.result.now c.no_such_file.result c.in-Ok.ensures c.as_str.ensures.bytes (subst (λ o. IsFound content o) c.in-None.is (f.finds content told)) c.no_such_file.ensures)
    (absent-no-fault c.as_str.result.now c.no_such_file.result c.no_such_file.ensures)
