-- Constants by their keys.
use Rattle.py_code.specs.declared.unit.Constant.{Constant}
use Rattle.py_code.specs.declared.unit.Constant.TheVariants as constant_
use Rattle.py_compile_unit.specs.declared.keys.Key.{Key}
use Rattle.py_compile_unit.specs.declared.keys.Key.TheVariants as key_

-- the constant that a key stands for
abbrev pub constant_of : Key → Constant
constant_of key_.None = constant_.None
constant_of (key_.Bool b) = constant_.Bool b
constant_of (key_.Int n) = constant_.Int n
constant_of (key_.Str x) = constant_.Str x
