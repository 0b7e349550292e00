-- The line that `print` writes, text by text.
use Rattle.std.proofs.Common.{◌≡◌, ℕ, zero, suc, List, [], ◌∷◌, ◌++◌, Result, Ok, Err, ap, encode_utf8_all}
use Rattle.py_value.specs.declared.value.Value.{Value}
use Rattle.py_value.specs.Answers.{◌>>=◌}
use Rattle.py_value.specs.Plain.{PlainValue, none_value, PlainHeap, PlainRaised}
use Rattle.py_value.specs.View.{plains}
use Rattle.py_builtins.specs.Builtins.{Done, str_texts, line_of, printed}
use Rattle.py_builtins.specs.Methods.{each_after}

-- the line from the text at a place on
abbrev pub ending : ℕ → List (List ℕ) → List ℕ
ending zero ts = line_of ts
ending (suc i) ts = each_after (32 ∷ []) ts ++ 10 ∷ []

-- some of a line, and after it the texts from a place on
abbrev pub line_after : List ℕ → ℕ → List PlainValue → PlainHeap → Result (List ℕ) PlainRaised
line_after done i vs h = str_texts vs h >>= λ ts. Ok (done ++ ending i ts)

abbrev pub line_from : List ℕ → ℕ → List Value → PlainHeap → Result (List ℕ) PlainRaised
line_from done i vs h = line_after done i (plains vs) h

-- what `print` does, where the line is made
pub printed_line : (r : Result (List (List ℕ)) PlainRaised) (h : PlainHeap) (line : List ℕ) → Ok line ≡ (r >>= λ ts. Ok (line_of ts)) → record { answer = Ok (none_value, h); written = encode_utf8_all line; left = [] } ≡ printed r h []
printed_line (Ok ts) h line e =
    let same : line ≡ line_of ts = cc in
    ap (λ s. let d : Done = record { answer = Ok (none_value, h); written = encode_utf8_all s; left = [] } in d) same
printed_line (Err x) h line e = absurd (cc)
