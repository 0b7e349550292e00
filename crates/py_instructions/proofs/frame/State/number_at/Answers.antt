use Rattle.py_code.specs.declared.instr.Instr.TheVariants.{Constant as Const, LoadLocal, LoadGlobal}
use Rattle.py_instructions.proofs.Carrying.{whole_put_if}
use Rattle.py_instructions.proofs.frame.State.number_at.Goals as goal

pub returns-in-Constant : goal.returns-in-Constant
returns-in-Constant c = whole_put_if c.args.unit.now c.args.self.now c.args.store.now c.constant_number.result c.in-Some.instr (Const c.in-Constant.n) c.args.place c.in-Some.ensures.1 c.in-Constant.is (λ k h. h c.args.self.now c.args.store.now) c.constant_number.ensures

pub returns-in-LoadLocal : goal.returns-in-LoadLocal
returns-in-LoadLocal c = whole_put_if c.args.unit.now c.args.self.now c.args.store.now c.local_number.result c.in-Some.instr (LoadLocal c.in-LoadLocal.n) c.args.place c.in-Some.ensures.1 c.in-LoadLocal.is (λ k h. h c.args.store.now) c.local_number.ensures

pub returns-in-LoadGlobal : goal.returns-in-LoadGlobal
returns-in-LoadGlobal c = whole_put_if c.args.unit.now c.args.self.now c.args.store.now c.global_number.result c.in-Some.instr (LoadGlobal c.in-LoadGlobal.n) c.args.place c.in-Some.ensures.1 c.in-LoadGlobal.is (λ k h. h) c.global_number.ensures
