use Rattle.std.proofs.Common.{◌≡◌, ◌↔◌, IsTrue, List, ℕ, Bool, Ok, length, take, ap, sym, ◌∙◌, subst, arith, rules}
use Rattle.std.proofs.lemmas.Grind.{common_steps}
use Rattle.py_value.specs.HeapView.{plain_heap}
use Rattle.py_value.specs.Plain.{bool_value}
use Rattle.py_value.specs.View.{plain}
use Rattle.py_builtins.specs.Arguments.{Answer}
use Rattle.py_builtins.specs.Methods.{starts_with}
use Rattle.py_builtins.proofs.Starts.{same_front}
use Rattle.py_builtins.proofs.text_methods.starts_with.Goals as goal

pub returns-in_ok-begun-in-Str : goal.returns-in_ok-begun-in-Str
returns-in_ok-begun-in-Str c =
    let made : c.in_ok-begun-in-Str.begun ≡ take (length c.in-Str.front) c.args.text.now = c.in_ok-begun-in-Str.ensures ∙ ap (λ n. take n c.args.text.now) c.len.ensures in
    let P : List ℕ → Type 0 = λ v. IsTrue c.is_same.result ↔ (v ≡ c.in-Str.front) in
    ap (λ (b : Bool). let r : Answer = Ok (bool_value b, plain_heap c.args._heap.now) in r) (same_front c.in-Str.front c.args.text.now c.is_same.result (subst P made c.is_same.ensures))
    ∙ ap (λ v. starts_with c.args.text.now (plain v) (plain_heap c.args._heap.now)) (sym c.in-Str.is)

pub returns-in_default : goal.returns-in_default
returns-in_default c = c.raise.ensures.answer (plain_heap c.args._heap.now) _ (first_of (search rules, grind (arith, common_steps)))
