-- How calls of built-ins and methods come out in the code.
use Rattle.std.specs.Prelude.{◌≡◌, ℕ, zero, suc, min, nat_lt, if◌then◌else◌, List, [], ◌∷◌, length, drop, Option, Some, None, Vec, Result, Ok, Err, IfOk}
use Rattle.std.specs.Global.{Global}
use Rattle.std.specs.Str.{chars, is_utf8}
use Rattle.py_value.specs.declared.cause.Cause.{Cause}
use Rattle.py_value.specs.declared.cause.Cause.TheVariants.{WrongArgumentCount, InputNotUtf8, NoInput, TooManyItems}
use Rattle.py_value.specs.declared.value.Raised.{Raised}
use Rattle.py_value.specs.declared.value.Value.{Value}
use Rattle.py_value.specs.Answers.{◌>>=◌, in_words}
use Rattle.py_value.specs.Causes.{raised_by}
use Rattle.py_value.specs.Plain.{PlainValue, str_value, PlainHeap, PlainRaised}
use Rattle.py_value.specs.Sequences.{most_items}
use Rattle.py_value.specs.View.{plain_outcome}
use Rattle.py_builtins.specs.Arguments.{Answer}
use Rattle.py_builtins.specs.Builtins.{str_texts, line_of, first_line, after_line}
use Rattle.py_builtins.specs.Texts.{str_text}

-- what `print` writes in front of the text at a place
abbrev pub gap : ℕ → List ℕ
gap zero = []
gap (suc i) = 32 ∷ []

-- the line that `print` writes
abbrev pub printed_text : List PlainValue → PlainHeap → Result (List ℕ) PlainRaised
printed_text args h = str_texts args h >>= λ ts. Ok (line_of ts)

-- a number as 64 bits hold it: the greatest of them in place of a greater one
abbrev pub capped : Option ℕ → Option ℕ
capped None = None
capped (Some n) = Some (min n 18446744073709551615)

-- the text of the prompt
abbrev pub prompt_of : List PlainValue → PlainHeap → Result (List ℕ) PlainRaised
prompt_of [] h = Ok []
prompt_of (p ∷ []) h = str_text p h
prompt_of _ h = Err (raised_by WrongArgumentCount)

-- the bytes of the line that a reading gives, and the input that it leaves
abbrev pub bytes_read : List ℕ → Result (List ℕ) Cause × List ℕ
bytes_read [] = (Err NoInput, [])
bytes_read (b ∷ bs) =
    if nat_lt most_items (length (first_line (b ∷ bs)))
    then (Err TooManyItems, drop (suc most_items) (b ∷ bs)) else
    (Ok (first_line (b ∷ bs)), after_line (b ∷ bs))

-- the characters that these bytes are
abbrev pub decoded : List ℕ → Result (List ℕ) Cause
decoded line = if is_utf8 line then Ok (chars line) else Err InputNotUtf8

-- the bytes of a line, or why there is none
abbrev pub line_bytes : Result (Vec ℕ Global) Cause → Result (List ℕ) Cause
line_bytes (Ok line) = Ok line.items
line_bytes (Err cause) = Err cause

-- the code answers so on whatever heap: it gives each answer that is this one
abbrev pub AnswersAnywhere : {E : Type 0} → Result (Result Value Raised) E → (PlainHeap → Answer)
    → Type 0
AnswersAnywhere result answer_on =
    (h : PlainHeap) (answer : Answer) → answer_on h ≡ answer
    → IfOk result (λ given. plain_outcome given h ≡ answer)

-- a text as an answer, or what its cause raises
abbrev pub text_answer : Result (List ℕ) Cause → PlainHeap → Answer
text_answer text h = in_words raised_by (text >>= λ s. Ok (str_value s, h))
