use Rattle.std.proofs.Common.{◌≡◌, drop}
use Rattle.cov_words.specs.Options.{value_in}
use Rattle.cov_words.specs.Plain.{given_of}
use Rattle.cov_words.proofs.given.value_in.Given as goal

abbrev pub invariant-loop-entry : goal.invariant-loop-entry
invariant-loop-entry l = value_in l.option (given_of (drop l.entry-index l.given)) ≡ value_in l.option (given_of l.given)
