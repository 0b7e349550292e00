-- A prompt, and the line after it.
use Rattle.std.proofs.Common.{◌≡◌, ◌≢◌, ℕ, List, [], ◌∷◌, ◌++◌, Result, Ok, Err, IfOk, OnOk, refl, ap, sym, ◌∙◌, subst, append-nil, encode_utf8_all}
use Rattle.cov_outside.specs.Prefixes.{GainsPrefix, LosesPrefix}
use Rattle.cov_outside.proofs.PrefixLemmas.{loses_nothing}
use Rattle.py_value.specs.declared.builtin.Builtin.{Builtin}
use Rattle.py_value.specs.declared.builtin.Builtin.TheVariants.{Print, Len, Range, Str, Repr, Int, Input, Exit}
use Rattle.py_value.specs.declared.cause.Cause.{Cause}
use Rattle.py_value.specs.declared.value.Raised.{Raised}
use Rattle.py_value.specs.declared.value.Value.{Value}
use Rattle.py_value.specs.Answers.{◌>>=◌, in_words}
use Rattle.py_value.specs.Causes.{raised_by}
use Rattle.py_value.specs.Plain.{PlainValue, str_value, PlainHeap, PlainRaised}
use Rattle.py_value.specs.View.{plain_outcome}
use Rattle.py_builtins.specs.declared.fault.RunFault.{RunFault}
use Rattle.py_builtins.specs.Arguments.{Answer}
use Rattle.py_builtins.specs.Builtins.{Done, quiet, str_texts, printed, print_of, line_read, asked, input_of, builtin_of}
use Rattle.py_builtins.specs.Calls.{prompt_of}
use Rattle.py_builtins.specs.Inputs.{OnReads, Gives, Wrote}
use Rattle.py_builtins.proofs.Feeding.{on_reads}
use Rattle.py_builtins.proofs.Turns.{still_line}

-- `input` asks with its prompt
pub asks : (args : List PlainValue) (h : PlainHeap) (input : List ℕ) → input_of args h input ≡ asked (prompt_of args h) h input
asks [] h input = refl
asks (p ∷ []) h input = refl
asks (p ∷ q ∷ ps) h input = refl

pub asks_with : (args : List PlainValue) (h : PlainHeap) (r : Result (List ℕ) PlainRaised) (input : List ℕ) → r ≡ prompt_of args h → asked r h input ≡ input_of args h input
asks_with args h r input e = ap (λ x. asked x h input) e ∙ sym (asks args h input)

still_asked_by : (r : Result (List ℕ) PlainRaised) (h : PlainHeap) (input : List ℕ) → LosesPrefix input (asked r h input).left
still_asked_by (Ok prompt) h input = still_line input
still_asked_by (Err x) h input = loses_nothing input input refl

pub still_asked : (args : List PlainValue) (h : PlainHeap) (input : List ℕ) → LosesPrefix input (input_of args h input).left
still_asked args h input = subst (λ (d : Done). LosesPrefix input d.left) (sym (asks args h input)) (still_asked_by (prompt_of args h) h input)

-- the same call in other words
pub gives_same : (r : Result (Result Value Raised) RunFault) (tells : Type 0) (before after : List ℕ) (h : PlainHeap) (wrote : List ℕ → Type 0) (F G : List ℕ → Done) → ((all : List ℕ) → F all ≡ G all)
    → IfOk r (λ answer. OnReads tells before after (λ all rest. Gives (F all) (plain_outcome answer h) wrote rest)) → IfOk r (λ answer. OnReads tells before after (λ all rest. Gives (G all) (plain_outcome answer h) wrote rest))
gives_same (Ok answer) tells before after h wrote F G e w =
    on_reads tells before after (λ all rest. Gives (F all) (plain_outcome answer h) wrote rest) (λ all rest. Gives (G all) (plain_outcome answer h) wrote rest)
    (λ all rest g. subst (λ (d : Done). Gives d (plain_outcome answer h) wrote rest) (e all) g) w
gives_same (Err fault) tells before after h wrote F G e w = tt

-- a call that reads nothing
pub reads_none : (tells : Type 0) (left : List ℕ) (answer : Answer) (wrote : List ℕ → Type 0) (F : List ℕ → Done) → ((all : List ℕ) → Gives (F all) answer wrote all) → OnReads tells left left (λ all rest. Gives (F all) answer wrote rest)
reads_none tells left answer wrote F e = record {
  heard = [];
  input = left;
  rest = left;
  once = tt;
  fed = refl;
  told = λ t. (refl, refl);
  holds = λ all rest f. let g = e all in (g.0, g.1, sym f ∙ g.2);
}

-- all of it was written
pub gains_all : (before after bytes : List ℕ) → after ≡ before ++ bytes → GainsPrefix before after bytes
gains_all before after bytes e = record { front = bytes; prefix = record { rest = []; is = sym (append-nil bytes) }; is = e }

-- the answer of a line that was read
pub line_gives : (tells : Type 0) (before after prompt : List ℕ) (h : PlainHeap) (text : Result (List ℕ) Cause) (answer : Answer) (wrote : List ℕ → Type 0) → answer ≡ in_words raised_by (text >>= λ s. Ok (str_value s, h)) → wrote (encode_utf8_all prompt)
    → OnReads tells before after (λ all rest. (text, rest) ≡ line_read all) → OnReads tells before after (λ all rest. Gives (asked (Ok prompt) h all) answer wrote rest)
line_gives tells before after prompt h text answer wrote e o w =
    on_reads tells before after (λ all rest. (text, rest) ≡ line_read all) (λ all rest. Gives (asked (Ok prompt) h all) answer wrote rest)
    (λ all rest f. (e ∙ ap (λ p. in_words raised_by (p.0 >>= λ s. Ok (str_value s, h))) f, o, ap (λ p. p.1) f)) w

-- ---- the other built-ins

-- they neither write nor read
is_quiet : (which : Builtin) (args : List PlainValue) (h : PlainHeap) (input : List ℕ) → which ≢ Print → which ≢ Input → quiet (builtin_of which args h []).answer input ≡ builtin_of which args h input
is_quiet Print args h input p i = absurd (p refl)
is_quiet Len args h input p i = refl
is_quiet Range args h input p i = refl
is_quiet Str args h input p i = refl
is_quiet Repr args h input p i = refl
is_quiet Int args h input p i = refl
is_quiet Input args h input p i = absurd (i refl)
is_quiet Exit args h input p i = refl

pub quiet_writes : (which : Builtin) (args : List PlainValue) (h : PlainHeap) (input before : List ℕ) → which ≢ Print → which ≢ Input → before ≡ before ++ (builtin_of which args h input).written
quiet_writes which args h input before p i = sym (append-nil before) ∙ ap (λ (d : Done). before ++ d.written) (is_quiet which args h input p i)

pub quiet_leaves : (which : Builtin) (args : List PlainValue) (h : PlainHeap) (input : List ℕ) → which ≢ Print → which ≢ Input → input ≡ (builtin_of which args h input).left
quiet_leaves which args h input p i = ap (λ (d : Done). d.left) (is_quiet which args h input p i)

pub for_quiet : (tells sink : Type 0) (left out : List ℕ) (which : Builtin) (args : List PlainValue) (h : PlainHeap) (answer : Answer) → which ≢ Print → which ≢ Input → answer ≡ (builtin_of which args h []).answer
    → OnReads tells left left (λ all rest. Gives (builtin_of which args h all) answer (Wrote sink out out) rest)
for_quiet tells sink left out which args h answer p i e =
    reads_none tells left answer (Wrote sink out out) (builtin_of which args h)
    (λ all. subst (λ (d : Done). Gives d answer (Wrote sink out out) all) (is_quiet which args h all p i) (e, (λ t. sym (append-nil out)), refl))

printed_gives : (r : Result (List (List ℕ)) PlainRaised) (h : PlainHeap) (answer : Answer) (wrote : List ℕ → Type 0) (all : List ℕ) → answer ≡ (printed r h []).answer → wrote (printed r h []).written → Gives (printed r h all) answer wrote all
printed_gives (Ok ts) h answer wrote all e o = (e, o, refl)
printed_gives (Err x) h answer wrote all e o = (e, o, refl)

pub for_print : (r : Result (Result Value Raised) RunFault) (tells sink : Type 0) (left before after : List ℕ) (which : Builtin) (args : List PlainValue) (h : PlainHeap) → which ≡ Print
    → IfOk r (λ answer. plain_outcome answer h ≡ (print_of args h []).answer) → (sink → OnOk r (after ≡ before ++ (print_of args h []).written))
    → IfOk r (λ answer. OnReads tells left left (λ all rest. Gives (builtin_of which args h all) (plain_outcome answer h) (Wrote sink before after) rest))
for_print (Ok answer) tells sink left before after which args h e w o =
    reads_none tells left (plain_outcome answer h) (Wrote sink before after) (builtin_of which args h)
    (λ all. subst (λ (b : Builtin). Gives (builtin_of b args h all) (plain_outcome answer h) (Wrote sink before after) all) (sym e) (printed_gives (str_texts args h) h (plain_outcome answer h) (Wrote sink before after) all w o))
for_print (Err fault) tells sink left before after which args h e w o = tt
