use Rattle.cov_load_laws.proofs.one_text.Goals as goal

pub returns : goal.returns
returns c = record {
  spelling = c.one_spelling.ensures.one_list;
  fault = c.one_spelling.ensures.one_fault;
  never_both = c.one_spelling.ensures.never_both;
  tree = c.one_tree.ensures.one_module;
}
