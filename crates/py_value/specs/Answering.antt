-- What the code of an operation answers, and what it leaves where it raises.
use Rattle.std.specs.Prelude.{◌≡◌, Result, IfOk, OnErr}
use Rattle.py_value.specs.declared.cause.Cause.{Cause}
use Rattle.py_value.specs.declared.heap.Heap.{Heap}
use Rattle.py_value.specs.declared.value.Raised.{Raised}
use Rattle.py_value.specs.declared.value.Value.{Value}
use Rattle.py_value.specs.HeapView.{plain_heap}
use Rattle.py_value.specs.Plain.{PlainValue, PlainHeap, PlainRaised}
use Rattle.py_value.specs.View.{plain_outcome, after_step}

-- a value and the heap after it, or what is raised
abbrev pub AnswerOr : Type 0 → Type 0
AnswerOr E = Result (PlainValue × PlainHeap) E

-- where memory was there, the code answers so, and this heap is the one after it
abbrev pub Answers : {E : Type 0} → Result (Result Value Raised) E → Heap → AnswerOr PlainRaised
    → Type 0
Answers result heap answer = IfOk result (λ given. plain_outcome given (plain_heap heap) ≡ answer)

-- the same with the cause in place of the exception
abbrev pub AnswersStep : {E : Type 0} → Result (Result Value Cause) E → Heap → AnswerOr Cause
    → Type 0
AnswersStep result heap answer = IfOk result (λ step. after_step step (plain_heap heap) ≡ answer)

-- what is raised leaves the heap as it was
abbrev pub RaiseKeeps : {A R E : Type 0} → Result (Result A R) E → Heap → Heap → Type 0
RaiseKeeps result before after =
    IfOk result (λ given. OnErr given (plain_heap after ≡ plain_heap before))
