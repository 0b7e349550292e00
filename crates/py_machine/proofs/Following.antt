-- What built-in functions write and read: what may follow, and when no input was left.
use Rattle.std.proofs.Common.{◌≡◌, ℕ, zero, suc, ◌≤◌, nat_eq, nat_le, nat_lt, Bool, true, false, if◌then◌else◌, List, [], ◌∷◌, ◌++◌, take, drop, length, Option, Some, None, inl, inr, Result, Ok, Err, refl, sym, ap, ◌∙◌, subst, append_assoc, arith}
use Rattle.std.proofs.lemmas.Bool.Decides.{nat_tests}
use Rattle.std.proofs.lemmas.List.{length-take-le}
use Rattle.std.specs.Str.{chars, is_utf8}
use Rattle.py_value.specs.declared.builtin.Builtin.{Builtin}
use Rattle.py_value.specs.declared.builtin.Builtin.TheVariants.{Print, Len, Range, Str, Repr, Int, Input, Exit}
use Rattle.py_value.specs.declared.cause.Cause.{Cause}
use Rattle.py_value.specs.declared.cause.Cause.TheVariants.{InputNotUtf8, TooManyItems, TooDeep}
use Rattle.py_value.specs.declared.exception.ExcKind.TheVariants.{EOFError}
use Rattle.py_value.specs.Answers.{◌>>=◌, in_words}
use Rattle.py_value.specs.Causes.{raised_by}
use Rattle.py_value.specs.Comparison.{most_levels}
use Rattle.py_value.specs.ExcKind.{is_same_kind}
use Rattle.py_value.specs.Plain.{PlainValue, PlainHeap, PlainRaised, str_value}
use Rattle.py_value.specs.Sequences.{most_items}
use Rattle.py_builtins.specs.Arguments.{Answer}
use Rattle.py_builtins.specs.Builtins.{Done, builtin_of, printed, asked, str_texts, first_line, after_line, line_read}
use Rattle.py_builtins.specs.Inputs.{Fed, AreBytes, AsksOnce, OnReads, Gives}
use Rattle.py_builtins.specs.Texts.{str_text, text_within}
use Rattle.py_builtins.specs.Writing.{Writing, whole, broken, answer_of}
use Rattle.py_builtins.proofs.Reading.{IsOpen, read_ended, read_too_many, made_text, text_read}
use Rattle.py_machine.specs.Ends.{finds_end, is_end}
use Rattle.py_machine.specs.Told.{Opens, PartOnInput, IsAtEnd}
use Rattle.py_machine.proofs.Hearing.{of_reads}

-- what a built-in function writes doesn't depend on the input
same_printed : (r : Result (List (List ℕ)) PlainRaised) (h : PlainHeap) (a b : List ℕ) → (printed r h a).written ≡ (printed r h b).written
same_printed (Ok ts) h a b = refl
same_printed (Err raised) h a b = refl

same_asked : (r : Result (List ℕ) PlainRaised) (h : PlainHeap) (a b : List ℕ) → (asked r h a).written ≡ (asked r h b).written
same_asked (Ok prompt) h a b = refl
same_asked (Err raised) h a b = refl

pub same_written : (which : Builtin) (vs : List PlainValue) (h : PlainHeap) (a b : List ℕ) → (builtin_of which vs h a).written ≡ (builtin_of which vs h b).written
same_written Print vs h a b = same_printed (str_texts vs h) h a b
same_written Len vs h a b = refl
same_written Range vs h a b = refl
same_written Str vs h a b = refl
same_written Repr vs h a b = refl
same_written Int vs h a b = refl
same_written Input [] h a b = refl
same_written Input (p ∷ []) h a b = same_asked (str_text p h) h a b
same_written Input (p ∷ (q ∷ ps)) h a b = refl
same_written Exit vs h a b = refl

-- ---- no input was left

-- the text of a value is refused for other reasons
abbrev IsOther : Result (List ℕ) PlainRaised → Type 0
IsOther (Ok s) = Unit {0}
IsOther (Err raised) = is_same_kind raised.kind EOFError ≡ false

other_whole : (s : List ℕ) (t : Bool) → let r : Result (List ℕ) Cause = if t then Ok s else Err TooManyItems in IsOther (in_words raised_by r)
other_whole s true = tt
other_whole s false = refl

other_broken : (s : List ℕ) (t : Bool) → let r : Result (List ℕ) Cause = if t then Ok s else Err TooManyItems in let q : Result (List ℕ) Cause = (r >>= λ x. Err TooDeep) in IsOther (in_words raised_by q)
other_broken s true = refl
other_broken s false = refl

other_writing : (w : Writing) → IsOther (in_words raised_by (answer_of w))
other_writing (whole s) = other_whole s (nat_le (length s) most_items)
other_writing (broken s) = other_broken s (nat_le (length s) most_items)

other_text : (v : PlainValue) (h : PlainHeap) → IsOther (str_text v h)
unfolding str_text
other_text v h = other_writing (text_within most_levels h v)

-- a line that is read
abbrev line_answer : PlainHeap → Result (List ℕ) Cause → Answer
line_answer h r = in_words raised_by (r >>= λ s. Ok (str_value s, h))

abbrev line_at : List ℕ → List ℕ → Bool → Bool → Result (List ℕ) Cause × List ℕ
line_at line bs long utf8 = if long then (Err TooManyItems, drop (suc most_items) bs) else ((if utf8 then Ok (chars line) else Err InputNotUtf8), after_line bs)

no_end_at : (h : PlainHeap) (line bs : List ℕ) (long utf8 : Bool) → is_end (line_answer h (line_at line bs long utf8).0) ≡ false
no_end_at h line bs true utf8 = refl
no_end_at h line bs false true = refl
no_end_at h line bs false false = refl

asked_end : (r : Result (List ℕ) PlainRaised) → IsOther r → (h : PlainHeap) (all : List ℕ) → is_end (asked r h all).answer ≡ true → (asked r h all).left ≡ []
asked_end (Ok prompt) o h [] e = refl
asked_end (Ok prompt) o h (b ∷ bs) e =
    let line = first_line (b ∷ bs) in
    let n : is_end (asked (Ok prompt) h (b ∷ bs)).answer ≡ false = no_end_at h line (b ∷ bs) (nat_lt most_items (length line)) (is_utf8 line) in
    absurd (cc)
asked_end (Err raised) o h all e = absurd (cc)

-- where a built-in function found no input, none is left
pub end_left : (which : Builtin) (vs : List PlainValue) (h : PlainHeap) (all : List ℕ) → finds_end which (builtin_of which vs h all).answer ≡ true → (builtin_of which vs h all).left ≡ []
end_left Print vs h all e = let k : false ≡ true = e in absurd (cc)
end_left Len vs h all e = let k : false ≡ true = e in absurd (cc)
end_left Range vs h all e = let k : false ≡ true = e in absurd (cc)
end_left Str vs h all e = let k : false ≡ true = e in absurd (cc)
end_left Repr vs h all e = let k : false ≡ true = e in absurd (cc)
end_left Int vs h all e = let k : false ≡ true = e in absurd (cc)
end_left Input [] h all e = asked_end (Ok []) tt h all e
end_left Input (p ∷ []) h all e = asked_end (str_text p h) (other_text p h) h all e
end_left Input (p ∷ (q ∷ ps)) h all e = let k : false ≡ true = e in absurd (cc)
end_left Exit vs h all e = let k : false ≡ true = e in absurd (cc)

-- ---- what may follow

open_after : (b : ℕ) (bs : List ℕ) → nat_eq b 10 ≡ false → IsOpen bs → IsOpen (b ∷ bs)
open_after b bs e h = ap (λ xs. b ∷ xs) h ∙ ap (λ t. if t then [] else b ∷ first_line bs) (sym e)

-- the bytes of a line have no line end
open_line : (bs : List ℕ) → IsOpen (first_line bs)
open_line [] = refl
open_line (b ∷ bs) = by_test (nat_eq b 10) refl (open_line bs)
  where
    by_test : (t : Bool) → nat_eq b 10 ≡ t → IsOpen (first_line bs) → IsOpen (if t then [] else b ∷ first_line bs)
    by_test true e h = refl
    by_test false e h = open_after b (first_line bs) e h

open_taken : (n : ℕ) (bs : List ℕ) → IsOpen (take n (first_line bs))
open_taken zero bs = refl
open_taken (suc n) [] = refl
open_taken (suc n) (b ∷ bs) = by_test (nat_eq b 10) refl (open_taken n bs)
  where
    by_test : (t : Bool) → nat_eq b 10 ≡ t → IsOpen (take n (first_line bs)) → IsOpen (take (suc n) (if t then [] else b ∷ first_line bs))
    by_test true e h = refl
    by_test false e h = open_after b (take n (first_line bs)) e h

-- what is read first is read so whatever follows
abbrev IsFollowed : List ℕ → Type 0
IsFollowed all = (bytes : List ℕ) × ((more : List ℕ) → line_read (bytes ++ more) ≡ ((line_read all).0, more))

line_follows : (b : ℕ) (bs : List ℕ) → IsFollowed (b ∷ bs)
line_follows b bs = by_test (first_line (b ∷ bs)) refl (nat_lt most_items (length (first_line (b ∷ bs)))) refl
  where
    by_test : (line : List ℕ) → line ≡ first_line (b ∷ bs) → (t : Bool) → nat_lt most_items (length line) ≡ t
        → (bytes : List ℕ) × ((more : List ℕ) → line_read (bytes ++ more) ≡ ((line_at line (b ∷ bs) t (is_utf8 line)).0, more))
    by_test line is true e =
        let long : suc most_items ≤ length line = grind (arith, nat_tests) in (
          take (suc most_items) line,
          λ more. text_read (take (suc most_items) line ++ more)
              ∙ ap made_text (read_too_many (take (suc most_items) line) more (subst (λ l. IsOpen (take (suc most_items) l)) (sym is) (open_taken (suc most_items) (b ∷ bs))) (length-take-le (suc most_items) line long)),
        )
    by_test line is false e =
        let short : length line ≤ most_items = grind (arith, nat_tests) in (
          line ++ 10 ∷ [],
          λ more. ap line_read (append_assoc line (10 ∷ []) more) ∙ text_read (line ++ 10 ∷ more) ∙ ap made_text (read_ended line 10 more (subst IsOpen (sym is) (open_line (b ∷ bs))) short refl),
        )

abbrev DoesAgain : (List ℕ → Done) → List ℕ → Type 0
DoesAgain f all = (bytes : List ℕ) × ((more : List ℕ) → ((f (bytes ++ more)).answer ≡ (f all).answer) × ((f (bytes ++ more)).left ≡ more))

printed_again : (r : Result (List (List ℕ)) PlainRaised) (h : PlainHeap) (all : List ℕ) → DoesAgain (printed r h) all
printed_again (Ok ts) h all = ([], λ more. (refl, refl))
printed_again (Err raised) h all = ([], λ more. (refl, refl))

asked_again : (r : Result (List ℕ) PlainRaised) (h : PlainHeap) (all : List ℕ) → is_end (asked r h all).answer ≡ false → DoesAgain (asked r h) all
asked_again (Ok prompt) h [] e = let k : true ≡ false = e in absurd (cc)
asked_again (Ok prompt) h (b ∷ bs) e =
    let q = line_follows b bs in
    (q.0, λ more. (ap (λ p. line_answer h p.0) (q.1 more), ap (λ p. p.1) (q.1 more)))
asked_again (Err raised) h all e = ([], λ more. (refl, refl))

-- a built-in function that found input does the same before any other
pub again : (which : Builtin) (vs : List PlainValue) (h : PlainHeap) (all : List ℕ) → finds_end which (builtin_of which vs h all).answer ≡ false → DoesAgain (builtin_of which vs h) all
again Print vs h all e = printed_again (str_texts vs h) h all
again Len vs h all e = ([], λ more. (refl, refl))
again Range vs h all e = ([], λ more. (refl, refl))
again Str vs h all e = ([], λ more. (refl, refl))
again Repr vs h all e = ([], λ more. (refl, refl))
again Int vs h all e = ([], λ more. (refl, refl))
again Input [] h all e = asked_again (Ok []) h all e
again Input (p ∷ []) h all e = asked_again (str_text p h) h all e
again Input (p ∷ (q ∷ ps)) h all e = ([], λ more. (refl, refl))
again Exit vs h all e = ([], λ more. (refl, refl))

-- answers that are all bytes
pub bytes_heard : (heard : List (Option ℕ)) → AreBytes heard → (bytes : List ℕ) × ((all rest : List ℕ) → Fed heard all rest → all ≡ bytes ++ rest) × ((rest : List ℕ) → Fed heard (bytes ++ rest) rest)
bytes_heard [] k = ([], λ all rest f. f, λ rest. refl)
bytes_heard (Some b ∷ heard) k =
    let t = bytes_heard heard k in (
      t.0 ++ b ∷ [],
      λ all rest f. t.1 all (b ∷ rest) f ∙ sym (append_assoc t.0 (b ∷ []) rest),
      λ rest. subst (λ z. Fed heard z (b ∷ rest)) (sym (append_assoc t.0 (b ∷ []) rest)) (t.2 (b ∷ rest)),
    )
bytes_heard (None ∷ heard) k = absurd k

-- ---- calls of built-in functions

module _ (tells : Type 0) (i0 i1 : List ℕ) (which : Builtin) (vs : List PlainValue) (h : PlainHeap) (answer : Answer) (wrote : List ℕ → Type 0) where
  abbrev Answered : List ℕ → List ℕ → Type 0
  Answered all rest = Gives (builtin_of which vs h all) answer wrote rest

  module _ (r : OnReads tells i0 i1 Answered) where
    gives : Answered r.input r.rest
    gives = r.holds r.input r.rest r.fed

    at_end : finds_end which answer ≡ true → r.rest ≡ []
    at_end e = gives.2 ∙ end_left which vs h r.input (ap (finds_end which) (sym gives.0) ∙ e)

    opens : finds_end which answer ≡ false → Opens Answered r.input r.rest
    opens e = by_heard r.heard r.once r.fed r.holds
      where
        by_bytes : (heard : List (Option ℕ)) → AreBytes heard → Fed heard r.input r.rest → ((all rest : List ℕ) → Fed heard all rest → Answered all rest) → Opens Answered r.input r.rest
        by_bytes heard k f holds =
            let t = bytes_heard heard k in
            record { bytes = t.0; holds = λ more. holds (t.0 ++ more) more (t.2 more); shape = inl (t.1 r.input r.rest f) }

        by_heard : (heard : List (Option ℕ)) → AsksOnce heard → Fed heard r.input r.rest → ((all rest : List ℕ) → Fed heard all rest → Answered all rest) → Opens Answered r.input r.rest
        by_heard [] k f holds = by_bytes [] tt f holds
        by_heard (Some b ∷ heard) k f holds = by_bytes (Some b ∷ heard) k f holds
        by_heard (None ∷ heard) k f holds =
            let q = again which vs h r.input (ap (finds_end which) (sym gives.0) ∙ e) in
            record {
              bytes = q.0;
              holds = λ more. (gives.0 ∙ sym (q.1 more).0, subst wrote (same_written which vs h r.input (q.0 ++ more)) gives.1, sym (q.1 more).1);
              shape = inr f.0;
            }

    -- before the end
    pub call_reads : (was is : Bool) → was ≡ false → is ≡ finds_end which answer → PartOnInput tells i0 i1 was is Answered
    call_reads was is before same = record {
      hears = of_reads tells i0 i1 Answered r;
      stays = λ e. absurd (cc);
      closes = λ e. at_end (sym same ∙ e);
      opens = λ e. opens (sym same ∙ e);
    }

  -- at the end
  pub call_ended : (was : Bool) → was ≡ true → IsAtEnd was tells i0 → (telling : Type 0) → telling → OnReads telling [] [] Answered → PartOnInput tells i0 i0 was was Answered
  call_ended was ended over telling t r = record {
    hears = record { heard = r.heard; input = r.input; rest = r.rest; fed = r.fed; told = λ x. ((r.told t).0 ∙ sym (over ended x), (r.told t).1 ∙ sym (over ended x)); holds = r.holds };
    stays = λ e. ((r.told t).0, ended);
    closes = λ e. (r.told t).1;
    opens = λ e. absurd (cc);
  }
