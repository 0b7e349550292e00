use Rattle.py_token.proofs.LongestSegments.{none_longer}
use Rattle.py_token.proofs.OneSpelling.{one_list, one_fault, never_both}
use Rattle.py_token.proofs.laws.one_spelling.Goals as goal

pub returns : goal.returns
returns c = record { one_list = one_list; one_fault = one_fault; never_both = never_both; longest = none_longer }
