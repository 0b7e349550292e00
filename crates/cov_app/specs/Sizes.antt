-- The sizes of made sources that words may have.
use Rattle.std.specs.Prelude.{◌≤◌}
use Rattle.cov_words.specs.Commands.{PlainCommand}
use Rattle.cov_words.specs.Commands as plain

-- a made source is no larger than words may ask for
abbrev pub HasSmallSize : PlainCommand → Type 0
HasSmallSize (plain.arcs budget script args) = Unit {0}
HasSmallSize (plain.run branch append context budget hook data_file rcfile script args) = Unit {0}
HasSmallSize (plain.combine append keep data_file rcfile names) = Unit {0}
HasSmallSize (plain.report show_missing fail_under data_file rcfile) = Unit {0}
HasSmallSize (plain.json name fail_under data_file rcfile) = Unit {0}
HasSmallSize (plain.lcov name fail_under data_file rcfile) = Unit {0}
HasSmallSize (plain.annotate data_file rcfile file) = Unit {0}
HasSmallSize (plain.erase data_file rcfile) = Unit {0}
HasSmallSize (plain.script file) = Unit {0}
HasSmallSize (plain.make seed size) = size ≤ 16000
HasSmallSize (plain.suite branch budget data_file rcfile file) = Unit {0}
HasSmallSize (plain.select budget old new) = Unit {0}
HasSmallSize (plain.mutate budget file) = Unit {0}
