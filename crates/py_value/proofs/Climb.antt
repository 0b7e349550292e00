-- How many kinds stand above a kind of exceptions.
use Rattle.std.proofs.Common.{ℕ}
use Rattle.py_value.specs.declared.exception.ExcKind.{ExcKind}
use Rattle.py_value.specs.declared.exception.ExcKind.TheVariants.{BaseException, SystemExit, Exception, ZeroDivisionError, OverflowError, ModuleNotFoundError, IndexError, KeyError, UnboundLocalError, RecursionError}

abbrev pub height_of : ExcKind → ℕ
height_of BaseException = 0
height_of SystemExit = 1
height_of Exception = 1
height_of ZeroDivisionError = 3
height_of OverflowError = 3
height_of ModuleNotFoundError = 3
height_of IndexError = 3
height_of KeyError = 3
height_of UnboundLocalError = 3
height_of RecursionError = 3
height_of _ = 2
