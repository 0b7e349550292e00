-- What the laws of tokens and of trees say of a text, in one.
use Rattle.py_token.specs.Spelling.{OneSpelling, OneFault, NeverBoth}
use Rattle.py_parse.specs.Refusal.{OneTree}

-- a text has one list of tokens or one fault, and tokens have one tree
pub record OneText : Type 0 where
  pub spelling : OneSpelling
  pub fault : OneFault
  pub never_both : NeverBoth
  pub tree : OneTree
