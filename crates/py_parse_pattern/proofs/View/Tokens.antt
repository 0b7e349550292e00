-- From the code's walk over the tokens to what it answers.
use Rattle.std.proofs.Common.{◌≡◌, ℕ, ◌+◌, ◌≤◌, ◌<◌, Bool, cond, List, ◌∷◌, length, drop, nat_le, get_or, Result, Ok, Err, sym, ap, subst, ◌∙◌, arith}
use Rattle.std.proofs.lemmas.Bool.{le-leb, lt-leb}
use Rattle.py_syntax.specs.Tree.{Pattern}
use Rattle.py_syntax.specs.Kinds.{Kind}
use Rattle.py_parse_pattern.specs.Machine.{State, Out, Next, Stuck, Left, inside, step, start, least, Ending, Unexpected, TooDeep, within}
use Rattle.std.proofs.lemmas.List.{drop_all}
use Rattle.py_token.specs.declared.token.Token.{Token}
use Rattle.py_syntax.specs.Spelling.{HEIGHT}
use Rattle.py_syntax.specs.View.{plain_pattern}
use Rattle.py_parse_pattern.specs.declared.reader.Reader.{Reader}
use Rattle.py_parse_pattern.specs.declared.patterns.PatternRead.{PatternRead}
use Rattle.py_grammar.specs.declared.error.ReadError.{ReadError}
use Rattle.py_grammar.specs.declared.error.ReadError.TheVariants as error
use Rattle.py_parse_pattern.specs.Machine as machine
use Rattle.py_parse_pattern.specs.declared.nodes.Measured.{Measured}
use Rattle.py_parse_pattern.specs.declared.reader.Turn.{Turn}
use Rattle.py_parse_pattern.specs.declared.reader.Turn.TheVariants as turn_
use Rattle.py_parse_pattern.specs.Views.{view_measured}
use Rattle.py_parse_pattern.specs.Rows.{view_reader, Valid, TurnsTo}
use Rattle.py_parse_pattern.specs.Reads.{EndsAt, FollowsMachine, IsRead}
use Rattle.py_parse_pattern.proofs.Exact.{exact}
use Rattle.py_grammar.proofs.View.Places.{kinds_of_all, kind_at, kinds_length, kind_there}

-- The reading has come so far.
pub record Reading (ts : List Kind) (at place : ℕ) (r : Reader) : Type 0 where
  pub forward : at ≤ place
  pub inside : place ≤ length ts
  pub same : within HEIGHT start (drop at ts) ≡ within HEIGHT (view_reader r) (drop place ts)
  pub valid : Valid HEIGHT r
  pub low : least (view_reader r) ≤ HEIGHT

abbrev ending : Out → Kind → List Kind → Ending
ending o t ts = elim o as (λ (w : Out). Ending) [ Next n ↦ cond (nat_le (least n) HEIGHT) (within HEIGHT n ts) (TooDeep (t ∷ ts)) | Stuck ↦ Unexpected (t ∷ ts) | Left p ↦ machine.Reads p (t ∷ ts) ]

stepped : (ts : List Kind) (at place : ℕ) (r : Reader) (t : Kind) (o : Out) → Reading ts at place r → drop place ts ≡ t ∷ drop (place + 1) ts → step (view_reader r) t ≡ o → within HEIGHT start (drop at ts) ≡ ending o t (drop (place + 1) ts)
stepped ts at place r t o h there is = h.same ∙ ap (within HEIGHT (view_reader r)) there ∙ ap (λ (w : Out). ending w t (drop (place + 1) ts)) is

pub goes_on : (ts : List Kind) (at place : ℕ) (r n : Reader) (t : Kind) → Reading ts at place r → place < length ts → drop place ts ≡ t ∷ drop (place + 1) ts → step (view_reader r) t ≡ Next (view_reader n) → Valid HEIGHT n → least (view_reader n) ≤ HEIGHT → Reading ts at (place + 1) n
goes_on ts at place r n t h lt there is valid low =
    let forward = h.forward in
    record {
      forward = omega arith;
      inside = omega arith;
      same = stepped ts at place r t (Next (view_reader n)) h there is ∙ ap (λ (b : Bool). cond b (within HEIGHT (view_reader n) (drop (place + 1) ts)) (TooDeep (t ∷ drop (place + 1) ts))) (le-leb (least (view_reader n)) HEIGHT low);
      valid = valid;
      low = low;
    }

pub is_stuck : (ts : List Kind) (at place : ℕ) (r : Reader) (t : Kind) → Reading ts at place r → place < length ts → drop place ts ≡ t ∷ drop (place + 1) ts → step (view_reader r) t ≡ Stuck → EndsAt ts at place Unexpected
is_stuck ts at place r t h lt there is = record { forward = h.forward; inside = h.inside; ends = stepped ts at place r t Stuck h there is ∙ ap Unexpected (sym there) }

pub is_deep : (ts : List Kind) (at place : ℕ) (r : Reader) (t : Kind) (n : State) → Reading ts at place r → place < length ts → drop place ts ≡ t ∷ drop (place + 1) ts → step (view_reader r) t ≡ Next n → HEIGHT < least n → EndsAt ts at place TooDeep
is_deep ts at place r t n h lt there is high = record { forward = h.forward; inside = h.inside; ends = stepped ts at place r t (Next n) h there is ∙ ap (λ (b : Bool). cond b (within HEIGHT n (drop (place + 1) ts)) (TooDeep (t ∷ drop (place + 1) ts))) (lt-leb (least n) HEIGHT high) ∙ ap TooDeep (sym there) }

pub is_left : (ts : List Kind) (at place : ℕ) (r : Reader) (t : Kind) (p : Pattern) → Reading ts at place r → place < length ts → drop place ts ≡ t ∷ drop (place + 1) ts → step (view_reader r) t ≡ Left p → EndsAt ts at place (machine.Reads p)
is_left ts at place r t p h lt there is = record { forward = h.forward; inside = h.inside; ends = stepped ts at place r t (Left p) h there is ∙ ap (machine.Reads p) (sym there) }

pub is_over : (ts : List Kind) (at place : ℕ) (r : Reader) → Reading ts at place r → length ts ≤ place → EndsAt ts at place Unexpected
is_over ts at place r h le =
    let none = drop_all place ts le in
    record { forward = h.forward; inside = h.inside; ends = h.same ∙ ap (within HEIGHT (view_reader r)) none ∙ ap Unexpected (sym none) }

-- The same, said of trees alone.
pub reads : (ts : List Kind) (at : ℕ) (r : Result PatternRead ReadError) → FollowsMachine ts at r → IsRead ts at r
reads ts at (Ok r) h = exact HEIGHT (drop at ts) (machine.Reads (plain_pattern r.pattern) (drop r.next ts)) (omega arith) h.ends
reads ts at (Err (error.Unexpected place)) h = exact HEIGHT (drop at ts) (Unexpected (drop place ts)) (omega arith) h.ends
reads ts at (Err (error.TooDeep place)) h = exact HEIGHT (drop at ts) (TooDeep (drop place ts)) (omega arith) h.ends
reads ts at (Err error.NoMemory) h = tt

-- ---- what each turn of the walk answers

module _ (tokens : List Token) (at place : ℕ) (r : Reader) (t : Token) (turn : Turn) (h : Reading (kinds_of_all tokens) at place r) (lt : place < length tokens) (turns : TurnsTo (step (view_reader r) (kind_at (get_or tokens place t))) turn) where
  there : drop place (kinds_of_all tokens) ≡ kind_at (get_or tokens place t) ∷ drop (place + 1) (kinds_of_all tokens)
  there = kind_there tokens place t lt

  before_end : place < length (kinds_of_all tokens)
  before_end = let e = kinds_length tokens in omega arith

  pub turn_stuck : turn ≡ turn_.Stuck → EndsAt (kinds_of_all tokens) at place Unexpected
  turn_stuck same = is_stuck (kinds_of_all tokens) at place r (kind_at (get_or tokens place t)) h before_end there (subst (TurnsTo (step (view_reader r) (kind_at (get_or tokens place t)))) same turns)

  pub turn_deep : turn ≡ turn_.Deep → EndsAt (kinds_of_all tokens) at place TooDeep
  turn_deep same = let d = subst (TurnsTo (step (view_reader r) (kind_at (get_or tokens place t)))) same turns in is_deep (kinds_of_all tokens) at place r (kind_at (get_or tokens place t)) d.0 h before_end there d.1 d.2

  pub turn_left : (p : Measured) → turn ≡ turn_.Left p → EndsAt (kinds_of_all tokens) at place (machine.Reads (view_measured p))
  turn_left p same = is_left (kinds_of_all tokens) at place r (kind_at (get_or tokens place t)) (view_measured p) h before_end there (subst (TurnsTo (step (view_reader r) (kind_at (get_or tokens place t)))) same turns)

  pub turn_next : (n : Reader) → turn ≡ turn_.Next n → Reading (kinds_of_all tokens) at (place + 1) n
  turn_next n same = let d = subst (TurnsTo (step (view_reader r) (kind_at (get_or tokens place t)))) same turns in goes_on (kinds_of_all tokens) at place r n (kind_at (get_or tokens place t)) h before_end there d.0 d.1 d.2

pub over_there : (tokens : List Token) (at place : ℕ) (r : Reader) → Reading (kinds_of_all tokens) at place r → length tokens ≤ place → EndsAt (kinds_of_all tokens) at place Unexpected
over_there tokens at place r h le = let e = kinds_length tokens in is_over (kinds_of_all tokens) at place r h (omega arith)
