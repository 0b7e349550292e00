-- What the state of a search means.
--     seen                     how far it has come, or the token that it reached
use Rattle.py_changes.specs.Mutants.{Token}
use Rattle.cov_mutants_expr.specs.Search.{Reached, left, found}
use Rattle.cov_mutants_expr.specs.declared.search.Search.{Search}
use Rattle.cov_mutants_expr.specs.declared.search.Search.TheVariants.{Left, Found}
use Rattle.cov_places.specs.PlaceView.{token_of}

-- the state of a search
abbrev pub seen : Search → Reached Token
seen (Left n) = left n
seen (Found place) = found (token_of place)
