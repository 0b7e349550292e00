-- What a place means.
--     token_of                 its token, and the one that changes it
use Rattle.std.specs.Prelude.{not}
use Rattle.py_changes.specs.Mutants.{Token, other_operator, other_number, operator_text, augmented_text, comparison_text, truth_text}
use Rattle.std.specs.Fmt.{signed_decimal}
use Rattle.cov_places.specs.declared.place.Place.{Place}
use Rattle.cov_places.specs.declared.place.Place.TheVariants.{Operator, Augmented, Comparison, Number, Truth}

-- the token of a place, and the one that changes it
abbrev pub token_of : Place → Token
token_of (Operator op) = record { old = operator_text op; new = operator_text (other_operator op) }
token_of (Augmented op) =
    record { old = augmented_text op; new = augmented_text (other_operator op) }
token_of (Comparison op oq) = record { old = comparison_text op; new = comparison_text oq }
token_of (Number n) = record { old = signed_decimal n; new = signed_decimal (other_number n) }
token_of (Truth b) = record { old = truth_text b; new = truth_text (not b) }
