-- The `def`s of a text begin on lines of their own.
use Rattle.std.proofs.Common.{[]}
use Rattle.py_syntax.specs.Functions.{functions}
use Rattle.py_syntax.specs.Headers.{put}
use Rattle.py_syntax.specs.Kinds.{End}
use Rattle.std.specs.Prelude.{◌∷◌}
use Rattle.py_line_laws.specs.OwnLines.{OwnLinesLaw}
use Rattle.py_line_laws.proofs.Texts.{text_rises}
use Rattle.py_line_laws.proofs.Walks.{span_own}
use Rattle.py_line_laws.proofs.Walking.{module_walk}

pub law : OwnLinesLaw
law source ts m spelled spells =
    let w = module_walk m ts (put (End ∷ []) []) 1 spells.0.1 spells.2 spells.1 (text_rises source ts spelled) in
    span_own 1 w.high (functions m) w.span
