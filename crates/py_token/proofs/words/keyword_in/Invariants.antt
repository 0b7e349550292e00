use Rattle.std.proofs.Common.{◌≡◌, drop, map}
use Rattle.py_token.specs.Words.{keyword_in, view_row}
use Rattle.py_token.proofs.words.keyword_in.Given as goal

-- the rows up to here have other spellings
abbrev pub invariant-loop-spelling : goal.invariant-loop-spelling
invariant-loop-spelling l = keyword_in (map view_row (drop l.spelling-index l.rows)) l.word ≡ keyword_in (map view_row l.rows) l.word
