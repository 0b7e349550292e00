-- The turns of a reading: bytes of an open line, then what the source has left.
use Rattle.std.proofs.Common.{◌≡◌, ℕ, suc, ◌≤◌, nat_eq, true, false, List, [], ◌∷◌, ◌++◌, length, MatchOption, Option, Some, None, Result, Ok, Err, OnErr, refl, ap, sym, ◌∙◌, subst, append_assoc, append-nil, length-append, arith}
use Rattle.std.proofs.lemmas.Bool.Decides.{nat_tests}
use Rattle.cov_outside.specs.Prefixes.{LosesPrefix}
use Rattle.py_value.specs.declared.cause.Cause.{Cause}
use Rattle.py_value.specs.declared.cause.Cause.TheVariants.{TooManyItems}
use Rattle.py_value.specs.Answers.{◌>>=◌}
use Rattle.py_value.specs.Sequences.{most_items}
use Rattle.py_builtins.specs.Builtins.{line_read}
use Rattle.py_builtins.specs.Calls.{bytes_read, decoded}
use Rattle.py_builtins.specs.Inputs.{OnReads}
use Rattle.py_builtins.proofs.Feeding.{after_bytes, fed_bytes, bytes_fed, all_bytes, asks_once, on_reads}
use Rattle.py_builtins.proofs.Reading.{IsOpen, open_more, read_ended, read_too_many, still_read, made_text, text_read}

-- after a refusal
pub on_err : {T E P : Type 0} (r : Result T E) → P → OnErr r P
on_err (Ok x) p = tt
on_err (Err e) p = p

-- what a reading of one byte leaves
abbrev pub NextByte : List ℕ → List ℕ → Option ℕ → Type 0
NextByte mid after o = MatchOption o ((mid ≡ []) × (after ≡ [])) (λ b. mid ≡ b ∷ after)

next_some : (mid after : List ℕ) (o : Option ℕ) (b : ℕ) → o ≡ Some b → NextByte mid after o → mid ≡ b ∷ after
next_some mid after None b e h = absurd (cc)
next_some mid after (Some c) b e h = let same : c ≡ b = cc in h ∙ ap (λ x. x ∷ after) same

next_none : (mid after : List ℕ) (o : Option ℕ) → o ≡ None → NextByte mid after o → (mid ≡ []) × (after ≡ [])
next_none mid after None e h = h
next_none mid after (Some c) e h = absurd (cc)

-- the bytes so far, and those after the next one
with_next : (line before mid after : List ℕ) (o : Option ℕ) (b : ℕ) → o ≡ Some b → NextByte mid after o → line ++ mid ≡ before → line ++ b ∷ after ≡ before
with_next line before mid after o b e h w = ap (λ xs. line ++ xs) (sym (next_some mid after o b e h)) ∙ w

pub after_next : (line before mid after : List ℕ) (o : Option ℕ) (b : ℕ) → o ≡ Some b → NextByte mid after o → line ++ mid ≡ before → (line ++ b ∷ []) ++ after ≡ before
after_next line before mid after o b e h w = append_assoc line (b ∷ []) after ∙ with_next line before mid after o b e h w

-- the reading of a byte failed
pub failed_lost : (line before mid after : List ℕ) → line ++ mid ≡ before → after ≡ mid → LosesPrefix before after
failed_lost line before mid after w k = record { front = line; is = sym w ∙ ap (λ xs. line ++ xs) (sym k) }

pub failed_further : (line before mid after : List ℕ) → IsOpen line → length line ≤ suc most_items → line ++ mid ≡ before → after ≡ mid → LosesPrefix after (bytes_read before).1
failed_further line before mid after h l w k =
    subst (λ xs. LosesPrefix xs (bytes_read before).1) (sym k) (subst (λ xs. LosesPrefix mid (bytes_read xs).1) w (still_read line mid h l))

-- there was no byte
pub none_line : (tells : Type 0) (line before mid after : List ℕ) (o : Option ℕ) (got : Result (List ℕ) Cause) → o ≡ None → got ≡ (bytes_read line).0 → [] ≡ (bytes_read line).1 → (tells → NextByte mid after o) → (tells → line ++ mid ≡ before)
    → OnReads tells before after (λ all rest. (got, rest) ≡ bytes_read all)
none_line tells line before mid after o got e f g n w = record {
  heard = None ∷ after_bytes [] line;
  input = line;
  rest = [];
  once = all_bytes [] line tt;
  fed = (refl, fed_bytes [] line line [] (sym (append-nil line)));
  told = λ t.
      let both : (mid ≡ []) × (after ≡ []) = next_none mid after o e (n t) in
      (sym (append-nil line) ∙ ap (λ xs. line ++ xs) (sym both.0) ∙ w t, sym both.1);
  holds = λ all rest h.
      let whole : line ≡ all = sym (append-nil line) ∙ ap (λ xs. line ++ xs) (sym h.0) ∙ sym (bytes_fed [] line all rest h.1) in
      ap (λ r. (r, rest)) f ∙ ap (λ xs. ((bytes_read line).0, xs)) (h.0 ∙ g) ∙ ap bytes_read whole;
}

ends : (b : ℕ) → b ≡ 10 → nat_eq b 10 ≡ true
ends b e = ap (λ x. nat_eq x 10) e

pub goes_on : (b : ℕ) → (b ≡ 10 → ⊥) → nat_eq b 10 ≡ false
goes_on b e = grind (arith, nat_tests)

-- the byte ended the line
pub ended_line : (tells : Type 0) (line before mid after : List ℕ) (o : Option ℕ) (b : ℕ) → IsOpen line → length line ≤ most_items → o ≡ Some b → b ≡ 10 → (tells → NextByte mid after o) → (tells → line ++ mid ≡ before)
    → OnReads tells before after (λ all rest. (Ok line, rest) ≡ bytes_read all)
ended_line tells line before mid after o b h l e t n w = record {
  heard = Some b ∷ after_bytes [] line;
  input = line ++ b ∷ after;
  rest = after;
  once = all_bytes [] line tt;
  fed = fed_bytes [] line (line ++ b ∷ after) (b ∷ after) refl;
  told = λ s. (with_next line before mid after o b e (n s) (w s), refl);
  holds = λ all rest f. sym (ap bytes_read (bytes_fed [] line all (b ∷ rest) f) ∙ read_ended line b rest h l (ends b t));
}

-- there was no memory for the byte
pub dropped_lost : (line before mid after : List ℕ) (o : Option ℕ) (b : ℕ) → o ≡ Some b → NextByte mid after o → line ++ mid ≡ before → LosesPrefix before after
dropped_lost line before mid after o b e n w = record { front = line ++ b ∷ []; is = sym (after_next line before mid after o b e n w) }

pub dropped_further : (line before mid after : List ℕ) (o : Option ℕ) (b : ℕ) → IsOpen line → length line ≤ most_items → o ≡ Some b → (b ≡ 10 → ⊥) → NextByte mid after o → line ++ mid ≡ before → LosesPrefix after (bytes_read before).1
dropped_further line before mid after o b h l e t n w =
    let one : length (line ++ b ∷ []) ≤ suc most_items = omega (arith, length-append line (b ∷ [])) in
    subst (λ xs. LosesPrefix after (bytes_read xs).1) (after_next line before mid after o b e n w) (still_read (line ++ b ∷ []) after (open_more line b h (goes_on b t)) one)

-- too many bytes were read
pub many_line : (tells : Type 0) (line before mid : List ℕ) → IsOpen line → length line ≡ suc most_items → (tells → line ++ mid ≡ before) → OnReads tells before mid (λ all rest. (Err TooManyItems, rest) ≡ bytes_read all)
many_line tells line before mid h l w = record {
  heard = after_bytes [] line;
  input = line ++ mid;
  rest = mid;
  once = asks_once (after_bytes [] line) (all_bytes [] line tt);
  fed = fed_bytes [] line (line ++ mid) mid refl;
  told = λ t. (w t, refl);
  holds = λ all rest f. sym (ap bytes_read (bytes_fed [] line all rest f) ∙ read_too_many line rest h l);
}

-- ---- the text of the line

pub left_same : (bs : List ℕ) → (bytes_read bs).1 ≡ (line_read bs).1
left_same bs = sym (ap (λ p. p.1) (text_read bs))

pub still_line : (bs : List ℕ) → LosesPrefix bs (line_read bs).1
still_line bs = subst (λ xs. LosesPrefix bs xs) (left_same bs) (still_read [] bs refl (omega arith))

-- all of it is read
pub all_lost : (before after : List ℕ) → after ≡ (line_read before).1 → LosesPrefix before after
all_lost before after e = subst (λ xs. LosesPrefix before xs) (sym e) (still_line before)

pub further_same : (before after : List ℕ) → LosesPrefix after (bytes_read before).1 → LosesPrefix after (line_read before).1
further_same before after h = subst (λ xs. LosesPrefix after xs) (left_same before) h

-- what is left after the line
pub line_kept : (tells : Type 0) (before after : List ℕ) (got : Result (List ℕ) Cause) → OnReads tells before after (λ all rest. (got, rest) ≡ bytes_read all) → tells → after ≡ (line_read before).1
line_kept tells before after got h t =
    let told = h.told t in
    sym told.1 ∙ ap (λ p. p.1) (h.holds h.input h.rest h.fed) ∙ ap (λ xs. (bytes_read xs).1) told.0 ∙ left_same before

-- the text of the bytes, where there are some
pub text_got : (tells : Type 0) (before after : List ℕ) (got text : Result (List ℕ) Cause) → text ≡ (got >>= decoded) → OnReads tells before after (λ all rest. (got, rest) ≡ bytes_read all)
    → OnReads tells before after (λ all rest. (text, rest) ≡ line_read all)
text_got tells before after got text e h =
    on_reads tells before after (λ all rest. (got, rest) ≡ bytes_read all) (λ all rest. (text, rest) ≡ line_read all)
    (λ all rest f. ap (λ r. (r, rest)) e ∙ ap made_text f ∙ sym (text_read all)) h
