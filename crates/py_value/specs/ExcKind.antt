-- The tree of kinds of exceptions.
use Rattle.std.specs.Prelude.{ℕ, zero, suc, Bool, false, ◌||◌, nat_eq, Option, Some, None}
use Rattle.py_value.specs.declared.exception.ExcKind.{ExcKind}
use Rattle.py_value.specs.declared.exception.ExcKind.TheVariants.{BaseException, SystemExit, Exception, ArithmeticError, ZeroDivisionError, OverflowError, AssertionError, AttributeError, EOFError, ImportError, ModuleNotFoundError, LookupError, IndexError, KeyError, MemoryError, NameError, UnboundLocalError, RuntimeError, RecursionError, TypeError, ValueError}

-- the kind directly above a kind
abbrev pub parent_of : ExcKind → Option ExcKind
parent_of BaseException = None
parent_of SystemExit = Some BaseException
parent_of Exception = Some BaseException
parent_of ArithmeticError = Some Exception
parent_of ZeroDivisionError = Some ArithmeticError
parent_of OverflowError = Some ArithmeticError
parent_of AssertionError = Some Exception
parent_of AttributeError = Some Exception
parent_of EOFError = Some Exception
parent_of ImportError = Some Exception
parent_of ModuleNotFoundError = Some ImportError
parent_of LookupError = Some Exception
parent_of IndexError = Some LookupError
parent_of KeyError = Some LookupError
parent_of MemoryError = Some Exception
parent_of NameError = Some Exception
parent_of UnboundLocalError = Some NameError
parent_of RuntimeError = Some Exception
parent_of RecursionError = Some RuntimeError
parent_of TypeError = Some Exception
parent_of ValueError = Some Exception

-- the number of a kind in the list of kinds
abbrev pub kind_number : ExcKind → ℕ
kind_number BaseException = 0
kind_number SystemExit = 1
kind_number Exception = 2
kind_number ArithmeticError = 3
kind_number ZeroDivisionError = 4
kind_number OverflowError = 5
kind_number AssertionError = 6
kind_number AttributeError = 7
kind_number EOFError = 8
kind_number ImportError = 9
kind_number ModuleNotFoundError = 10
kind_number LookupError = 11
kind_number IndexError = 12
kind_number KeyError = 13
kind_number MemoryError = 14
kind_number NameError = 15
kind_number UnboundLocalError = 16
kind_number RuntimeError = 17
kind_number RecursionError = 18
kind_number TypeError = 19
kind_number ValueError = 20

-- whether both are one kind
abbrev pub is_same_kind : ExcKind → ExcKind → Bool
is_same_kind a b = nat_eq (kind_number a) (kind_number b)

-- whether a kind meets the other on its way up the tree, in at most so many steps
abbrev pub is_met : ℕ → Option ExcKind → ExcKind → Bool
is_met steps None other = false
is_met zero (Some kind) other = false
is_met (suc steps) (Some kind) other =
    is_same_kind kind other || is_met steps (parent_of kind) other

-- whether the first kind is the second or stands under it; the tree is four kinds high
abbrev pub is_or_under : ExcKind → ExcKind → Bool
is_or_under kind other = is_met 4 (Some kind) other
