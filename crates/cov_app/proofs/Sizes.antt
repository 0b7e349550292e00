-- Words ask for no larger a made source than they may.
use Rattle.std.proofs.Common.{List}
use Rattle.cov_complete_laws.proofs.Sizes.{small-size}
use Rattle.cov_words.specs.Commands.{PlainCommand, IsCommand}
use Rattle.cov_words.specs.Commands as plain
use Rattle.cov_words.specs.Values.{Word}
use Rattle.cov_app.specs.Sizes.{HasSmallSize}

pub has-small-size : (c : PlainCommand) (words : List Word) → IsCommand c words → HasSmallSize c
has-small-size (plain.arcs budget script args) words is = tt
has-small-size (plain.run branch append context budget hook data_file rcfile script args) words is = tt
has-small-size (plain.combine append keep data_file rcfile names) words is = tt
has-small-size (plain.report show_missing fail_under data_file rcfile) words is = tt
has-small-size (plain.json name fail_under data_file rcfile) words is = tt
has-small-size (plain.lcov name fail_under data_file rcfile) words is = tt
has-small-size (plain.annotate data_file rcfile file) words is = tt
has-small-size (plain.erase data_file rcfile) words is = tt
has-small-size (plain.script file) words is = tt
has-small-size (plain.make seed size) words is = small-size words seed size is
has-small-size (plain.suite branch budget data_file rcfile file) words is = tt
has-small-size (plain.select budget old new) words is = tt
has-small-size (plain.mutate budget file) words is = tt
