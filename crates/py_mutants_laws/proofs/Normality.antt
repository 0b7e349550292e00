-- Mutants of a normal module are normal: their parts are, and that settles their `match` headers.
use Rattle.std.proofs.lemmas.List.Elements.{All-from_recursion}
use Rattle.py_syntax.specs.Spelling.{IsNormal}
use Rattle.py_parse.proofs.Complete.Headers.{headers}
use Rattle.py_changes.specs.Mutants.{module_mutants}
use Rattle.py_changes.proofs.Lists.{all-weaker}
use Rattle.py_mutants_laws.specs.Sound.{MutantsAreNormal}
use Rattle.py_mutants_laws.proofs.Mutants.{rows-mutants}
use Rattle.py_mutants_laws.proofs.Versions.{Rows}
use Rattle.py_mutants_laws.proofs.Forms.{rows-end, rows-normal}

pub mutants_are_normal : MutantsAreNormal
mutants_are_normal a normal =
    All-from_recursion (λ x. IsNormal x.1) (module_mutants a)
    (all-weaker (λ x. Rows x.0.0 a x.1) (λ x. IsNormal x.1)
    (λ x h.
    let ends = rows-end x.0.0 a x.1 h normal.0 in
    let parts = rows-normal x.0.0 a x.1 h normal.1 in
    (ends, parts, headers x.1 ends parts))
    (module_mutants a) (rows-mutants a))
