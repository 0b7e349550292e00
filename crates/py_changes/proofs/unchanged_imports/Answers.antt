use Rattle.py_changes.proofs.Law.{unchanged_import}
use Rattle.py_changes.proofs.unchanged_imports.Goals as goal

pub returns : goal.returns
returns c = unchanged_import
