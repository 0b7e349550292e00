-- Rows of texts and displays, computed.
use Rattle.std.proofs.Common.{◌≡◌, refl, negsuc, Ok, [], ◌∷◌, true, codes}
use Rattle.std.specs.Fmt as F
use Rattle.py_value.specs.declared.builtin.Builtin.TheVariants.{Exit}
use Rattle.py_value.specs.declared.exception.ExcKind.TheVariants.{KeyError, ValueError}
use Rattle.py_value.specs.Plain.{none_value, bool_value, int_value, str_value, tuple_of, list_at, dict_at, kind_value, exc_value, builtin_value, no_argument, argument, list_object, dict_object}
use Rattle.py_builtins.specs.Texts as T
use Rattle.py_builtins.specs.Texts.{str_text, repr_text}

-- what has to unfold for a text to compute
unfoldable pub texts : Unit {0}
unfolding T.str_text T.repr_text T.text_within T.display_within F.digits
texts = tt

number : str_text (int_value (negsuc 119)) [] ≡ Ok (codes "-120")
unfolding texts
number = refl

itself : str_text (str_value (codes "a'b")) [] ≡ Ok (codes "a'b")
unfolding texts
itself = refl

-- 'a"' in single marks, "a'" in double ones, and both in single ones
marks_alone : repr_text (str_value (97 ∷ 39 ∷ [])) [] ≡ Ok (34 ∷ 97 ∷ 39 ∷ 34 ∷ [])
unfolding texts
marks_alone = refl

both_marks : repr_text (str_value (34 ∷ 39 ∷ [])) [] ≡ Ok (39 ∷ 34 ∷ 92 ∷ 39 ∷ 39 ∷ [])
unfolding texts
both_marks = refl

-- a line end, the character 127 and one past ASCII
escapes : repr_text (str_value (10 ∷ 127 ∷ 233 ∷ [])) [] ≡ Ok (39 ∷ 92 ∷ 110 ∷ 92 ∷ 120 ∷ 55 ∷ 102 ∷ 233 ∷ 39 ∷ [])
unfolding texts
escapes = refl

pair : repr_text (tuple_of (none_value ∷ bool_value true ∷ [])) [] ≡ Ok (codes "(None, True)")
unfolding texts
pair = refl

alone : repr_text (tuple_of (none_value ∷ [])) [] ≡ Ok (codes "(None,)")
unfolding texts
alone = refl

nothing : repr_text (tuple_of []) [] ≡ Ok (codes "()")
unfolding texts
nothing = refl

-- l = [None]; l.append(l)
list_in_itself : str_text (list_at 0) (list_object (none_value ∷ list_at 0 ∷ []) ∷ []) ≡ Ok (codes "[None, [...]]")
unfolding texts
list_in_itself = refl

-- d = {}; d['d'] = d
dict_in_itself : str_text (dict_at 0) (dict_object ((str_value (codes "d"), dict_at 0) ∷ []) ∷ []) ≡ Ok (codes "{'d': {...}}")
unfolding texts
dict_in_itself = refl

-- a list twice beside itself isn't inside itself
list_beside_itself : str_text (list_at 1) (list_object [] ∷ list_object (list_at 0 ∷ list_at 0 ∷ []) ∷ []) ≡ Ok (codes "[[], []]")
unfolding texts
list_beside_itself = refl

key_error : str_text (exc_value KeyError (argument (str_value (codes "a")))) [] ≡ Ok (codes "'a'")
unfolding texts
key_error = refl

value_error : str_text (exc_value ValueError (argument (str_value (codes "a")))) [] ≡ Ok (codes "a")
unfolding texts
value_error = refl

without_argument : str_text (exc_value ValueError no_argument) [] ≡ Ok []
unfolding texts
without_argument = refl

exception_in_list : str_text (list_at 0) (list_object (exc_value ValueError (argument (str_value (codes "a"))) ∷ exc_value KeyError no_argument ∷ []) ∷ []) ≡ Ok (codes "[ValueError('a'), KeyError()]")
unfolding texts
exception_in_list = refl

kind : str_text (kind_value KeyError) [] ≡ Ok (codes "<class 'KeyError'>")
unfolding texts
kind = refl

built_in : str_text (builtin_value Exit) [] ≡ Ok (codes "<built-in function exit>")
unfolding texts
built_in = refl
