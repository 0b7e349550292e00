use Rattle.std.proofs.Common.{◌≡◌, w64, of_z, to_z, rules, sym, ap, ◌∙◌, subst}
use Rattle.py_value.specs.Plain.{int_value}
use Rattle.py_instructions.specs.AtOnce.{PushedAtOnce}
use Rattle.std.specs.Prelude.{slice_get}
use Rattle.py_code.specs.declared.unit.Constant.TheVariants as constant
use Rattle.py_instructions.proofs.AtOnce.{constant_pushed}
use Rattle.py_instructions.proofs.frame.State.constant_at_once.Goals as goal

pub returns-in-None-constant : goal.returns-in-None-constant
returns-in-None-constant c = constant_pushed c.args.unit.now c.args.self.now c.push_at_once.new.self c.args.store.now c.push_at_once.result c.args.n c.in-Some.constant.now constant.None (ap (λ xs. slice_get xs c.args.n) (sym c.deref.ensures.value) ∙ c.in-Some.ensures) c.in-None-constant.is c.push_at_once.ensures

pub returns-in-Bool : goal.returns-in-Bool
returns-in-Bool c = constant_pushed c.args.unit.now c.args.self.now c.push_at_once-in-Bool.new.self c.args.store.now c.push_at_once-in-Bool.result c.args.n c.in-Some.constant.now (constant.Bool c.in-Bool.holds) (ap (λ xs. slice_get xs c.args.n) (sym c.deref.ensures.value) ∙ c.in-Some.ensures) c.in-Bool.is c.push_at_once-in-Bool.ensures

pub returns-in-Int : goal.returns-in-Int
returns-in-Int c =
    let l : to_z w64 (of_z w64 c.in-Int.k) ≡ c.in-Int.k = search rules in
    constant_pushed c.args.unit.now c.args.self.now c.push_at_once-in-Int.new.self c.args.store.now c.push_at_once-in-Int.result c.args.n c.in-Some.constant.now (constant.Int c.in-Int.k) (ap (λ xs. slice_get xs c.args.n) (sym c.deref.ensures.value) ∙ c.in-Some.ensures) c.in-Int.is (subst (λ z. PushedAtOnce c.push_at_once-in-Int.result (int_value z) c.args.self.now c.push_at_once-in-Int.new.self) l c.push_at_once-in-Int.ensures)
