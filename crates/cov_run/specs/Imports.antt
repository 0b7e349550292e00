-- The names that the imports of a suite name.
use Rattle.std.specs.Prelude.{List}
use Rattle.py_syntax.specs.Tree.{Text, Suite, suite}
use Rattle.py_meaning.specs.Loading.{imported}

-- the modules that the statements of a suite import
abbrev pub suite_imported : Suite → List Text
suite_imported (suite first last inline body) = imported body
