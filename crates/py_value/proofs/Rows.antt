-- Rows of the table, computed.
use Rattle.std.proofs.Common.{◌≡◌, refl, pos, negsuc, Ok, Err, [], ◌∷◌, true, false, codes}
use Rattle.py_operator.specs.declared.operator.BinOp.TheVariants.{Add, Floor, Mod}
use Rattle.py_operator.specs.declared.operator.CmpOp.TheVariants.{Eq, Lt}
use Rattle.py_value.specs.declared.cause.Cause.TheVariants.{IntegerTooLarge, TooDeep}
use Rattle.py_value.specs.Causes.{raised_by}
use Rattle.py_value.specs.Plain.{int_value, bool_value, str_value, list_at, dict_at, list_object, dict_object}
use Rattle.py_value.specs.Comparison.{equal_within, order_within}
use Rattle.py_value.specs.Operators.{binary_of, in_place_of, compare_of}

floor : binary_of Floor (int_value (negsuc 6)) (int_value (pos 2)) [] ≡ Ok (int_value (negsuc 3), [])
floor = refl

rest : binary_of Mod (int_value (pos 7)) (int_value (negsuc 1)) [] ≡ Ok (int_value (negsuc 0), [])
rest = refl

too_large : binary_of Add (int_value (pos 9223372036854775807)) (int_value (pos 1)) [] ≡ Err (raised_by IntegerTooLarge)
too_large = refl

least_quotient : binary_of Floor (int_value (negsuc 9223372036854775807)) (int_value (negsuc 0)) [] ≡ Err (raised_by IntegerTooLarge)
least_quotient = refl

appends_itself : in_place_of Add (list_at 0) (list_at 0) (list_object (int_value (pos 1) ∷ []) ∷ []) ≡ Ok (list_at 0, list_object (int_value (pos 1) ∷ int_value (pos 1) ∷ []) ∷ [])
appends_itself = refl

one_is_true : compare_of Eq (int_value (pos 1)) (bool_value true) [] ≡ Ok true
unfolding equal_within
one_is_true = refl

list_in_itself : compare_of Eq (list_at 0) (list_at 0) (list_object (list_at 0 ∷ []) ∷ []) ≡ Err (raised_by TooDeep)
unfolding equal_within
list_in_itself = refl

longer : compare_of Eq (list_at 0) (list_at 1) (list_object (list_at 0 ∷ []) ∷ list_object (list_at 0 ∷ list_at 0 ∷ []) ∷ []) ≡ Ok false
unfolding equal_within
longer = refl

more_keys : compare_of Eq (dict_at 0) (dict_at 1) (dict_object ((int_value (pos 1), list_at 2) ∷ []) ∷ dict_object ((int_value (pos 1), list_at 2) ∷ (int_value (pos 2), list_at 2) ∷ []) ∷ list_object (list_at 2 ∷ []) ∷ []) ≡ Ok false
unfolding equal_within
more_keys = refl

below : compare_of Lt (str_value (codes "ab")) (str_value (codes "abc")) [] ≡ Ok true
unfolding order_within
below = refl
