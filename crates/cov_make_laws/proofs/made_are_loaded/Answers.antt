use Rattle.cov_make_laws.proofs.Loadings.{made_loaded}
use Rattle.cov_make_laws.proofs.made_are_loaded.Goals as goal

pub returns : goal.returns
returns c =
    made_loaded c.one_spelling.ensures.one_list c.one_spelling.ensures.never_both
    c.one_tree.ensures.one_module
