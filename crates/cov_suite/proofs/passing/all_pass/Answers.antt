use Rattle.std.proofs.Common.{◌≡◌, ◌∙◌}
use Rattle.py_code.specs.Loaded.{modules_of}
use Rattle.cov_suite.specs.Passing.{all_pass, all_pass_in_code}
use Rattle.cov_suite.proofs.Passes.{if-ok, same-pass}
use Rattle.cov_suite.proofs.passing.all_pass.Goals as goal

pub returns-clause-meant : goal.returns-clause-meant
returns-clause-meant c = λ ms faithful well.
    if-ok (λ b. b ≡ all_pass_in_code (modules_of c.args.programs.now) c.args.budget c.args.names.now) (λ b. b ≡ all_pass ms c.args.budget c.args.names.now)
    (λ b h. h ∙ same-pass c.traces_kept.ensures c.units_are_faithful.ensures (modules_of c.args.programs.now) ms faithful well c.requires.some c.args.budget c.args.names.now) c.pass_in_code.result c.pass_in_code.ensures
