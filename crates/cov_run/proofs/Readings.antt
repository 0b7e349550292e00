-- Bytes come to one tree at most.
use Rattle.std.proofs.Common.{subst}
use Rattle.py_syntax.specs.Spelling.{Spells}
use Rattle.py_token.proofs.OneSpelling.{one_list}
use Rattle.py_parse.proofs.Exact.WholeTokens.{one_tree}
use Rattle.std.specs.Str.{chars}
use Rattle.cov_run.proofs.Meaning.{OneReading}

pub one-reading : OneReading
one-reading bytes a b r s =
    one_tree a b r.0.tokens r.0.spelled (subst (Spells b) (one_list (chars bytes) s.0.tokens r.0.tokens s.0.read.spelled r.0.read.spelled) s.0.spelled)
