use Rattle.std.proofs.Common.{◌≡◌, drop}
use Rattle.py_syntax.specs.Names.{add_names}
use Rattle.py_syntax.specs.View.{plain_aliases}
use Rattle.py_meaning.specs.Loading.{alias_modules}
use Rattle.cov_run.proofs.imports.aliases.Given as goal

abbrev pub invariant-loop-alias : goal.invariant-loop-alias
invariant-loop-alias l = add_names l.names (alias_modules (plain_aliases (drop l.alias-index l.items))) ≡ add_names l.initial.names (alias_modules (plain_aliases l.items))
