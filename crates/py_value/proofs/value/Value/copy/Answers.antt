use Rattle.std.proofs.Common.{ap, sym, ◌∙◌}
use Rattle.py_value.specs.Plain.{str_value, tuple_value, exc_value}
use Rattle.py_value.specs.View.{plain}
use Rattle.py_value.proofs.value.Value.copy.Goals as goal

pub returns-in-None : goal.returns-in-None
returns-in-None c = sym (ap plain c.in-None.is)

pub returns-in-Bool : goal.returns-in-Bool
returns-in-Bool c = sym (ap plain c.in-Bool.is)

pub returns-in-List : goal.returns-in-List
returns-in-List c = sym (ap plain c.in-List.is)

pub returns-in-Dict : goal.returns-in-Dict
returns-in-Dict c = sym (ap plain c.in-Dict.is)

pub returns-in-Func : goal.returns-in-Func
returns-in-Func c = sym (ap plain c.in-Func.is)

pub returns-in-Module : goal.returns-in-Module
returns-in-Module c = sym (ap plain c.in-Module.is)

pub returns-in-Kind : goal.returns-in-Kind
returns-in-Kind c = sym (ap plain c.in-Kind.is)

pub returns-in-Builtin : goal.returns-in-Builtin
returns-in-Builtin c = sym (ap plain c.in-Builtin.is)

pub returns-in_ok-copy-in-Str : goal.returns-in_ok-copy-in-Str
returns-in_ok-copy-in-Str c = ap str_value c.in_ok-copy-in-Str.ensures ∙ sym (ap plain c.in-Str.is)

pub returns-in_ok-copy-in-Tuple : goal.returns-in_ok-copy-in-Tuple
returns-in_ok-copy-in-Tuple c = ap tuple_value c.in_ok-copy-in-Tuple.ensures ∙ sym (ap plain c.in-Tuple.is)

pub returns-in_ok-copy-in-Exc : goal.returns-in_ok-copy-in-Exc
returns-in_ok-copy-in-Exc c = ap (exc_value c.in-Exc.kind) c.in_ok-copy-in-Exc.ensures ∙ sym (ap plain c.in-Exc.is)
