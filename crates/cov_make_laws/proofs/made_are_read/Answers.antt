use Rattle.cov_make_laws.proofs.Readings.{made_read}
use Rattle.cov_make_laws.proofs.made_are_read.Goals as goal

pub returns : goal.returns
returns c =
    made_read c.one_spelling.ensures.one_list c.one_spelling.ensures.never_both
    c.one_tree.ensures.one_module
