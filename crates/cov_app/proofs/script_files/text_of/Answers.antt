use Rattle.std.proofs.Common.{ap, refl, sym, ◌∙◌}
use Rattle.cov_programs.specs.Objects.{nobody}
use Rattle.cov_programs.specs.Programs.{give}
use Rattle.cov_programs.proofs.Composing.{followed-so}
use Rattle.cov_step.specs.Calls.{Call, Answer}
use Rattle.cov_app.proofs.ScriptFiles.{checked-text, checked-why}
use Rattle.cov_app.proofs.script_files.text_of.Goals as goal

pub returns-in-Ok : goal.returns-in-Ok
returns-in-Ok c =
    let so = checked-text c.args.name.now c.args.bytes.now c.in-Ok.text.now c.in-Ok.ensures in
    followed-so (nobody Call Answer) (ap give so.0 ∙ sym so.1) refl c.owned.ensures

pub returns-in-Err : goal.returns-in-Err
returns-in-Err c = checked-why c.args.name.now c.args.bytes.now c.in-Err.why c.in-Err.ensures
