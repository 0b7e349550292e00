-- What the loop over the items of a string keeps.
use Rattle.std.proofs.Common.{◌≡◌, ◌≤◌, ◌+◌, ◌-◌, ℕ, suc, Bool, List, [], ◌∷◌, ◌++◌, length, drop, Result, Ok, Err, refl, sym, ap, subst, ◌∙◌, arith, append_assoc, append-nil, length-drop}
use Rattle.py_token.specs.declared.error.TokenError.{TokenError}
use Rattle.py_token.specs.declared.error.TokenError.TheVariants.{OpenString}
use Rattle.py_token.specs.Rules.{joined}
use Rattle.py_token.proofs.Lines.{line_count-cons}
use Rattle.py_token.specs.Source.{line_count, most_lines}
use Rattle.py_token.specs.Strings.{◌>>=◌, StringItem, holds, closing, fault, Body, more_of, after_of, text_item, body_of, text_body}
use Rattle.py_token.specs.StringItems.{text_of}
use Rattle.py_token.proofs.Bodies.{body_step, body_end, bounded}
use Rattle.py_token.proofs.Fair.{Fair, text_fair}

-- characters before what is still read
abbrev pub with_text : List ℕ → Result (List ℕ × ℕ × ℕ) TokenError → Result (List ℕ × ℕ × ℕ) TokenError
with_text text read = read >>= λ x. Ok (text ++ x.0, x.1, x.2)

pub record Reads (raw : Bool) (quote : ℕ) (triple : Bool) (first : ℕ) (chars text : List ℕ) (line : ℕ) (rest : List ℕ) : Type 0 where
  pub same : with_text text (text_of (body_of (text_item raw quote triple first) first 0 line rest)) ≡ text_of (text_body raw quote triple first chars)
  pub lines : line + line_count rest ≤ suc most_lines
  pub long : length rest ≤ length chars

no_text : (r : Result (List ℕ × ℕ × ℕ) TokenError) → with_text [] r ≡ r
no_text (Ok x) = refl
no_text (Err e) = refl

more_text : (text xs : List ℕ) (body : Result (Body (List ℕ)) TokenError) → with_text text (text_of (more_of xs body)) ≡ with_text (text ++ xs) (text_of body)
more_text text xs (Ok b) = ap (λ (t : List ℕ). Ok (t, length b.rest, b.next)) (sym (append_assoc text xs (joined b.values)))
more_text text xs (Err e) = refl

pub starts : (raw : Bool) (quote : ℕ) (triple : Bool) (first : ℕ) (chars text : List ℕ) → text ≡ [] → first + line_count chars ≤ suc most_lines → Reads raw quote triple first chars text first chars
unfolding text_body
starts raw quote triple first chars text is few = record {
  same = ap (λ t. with_text t (text_of (body_of (text_item raw quote triple first) first 0 first chars))) is ∙ no_text (text_of (body_of (text_item raw quote triple first) first 0 first chars));
  lines = few;
  long = omega arith;
}

-- a line on which characters are left
pub on_a_line : {raw : Bool} {quote : ℕ} {triple : Bool} {first : ℕ} {chars text : List ℕ} {line : ℕ} (rest cs : List ℕ) (c : ℕ) → Reads raw quote triple first chars text line rest → rest ≡ c ∷ cs → line ≤ most_lines
on_a_line rest cs c h is = let lines = h.lines in let e = ap line_count is in let some = (line_count-cons c cs).1 in omega (arith, lines, e, some)

pub fits : (raw : Bool) (quote : ℕ) (triple : Bool) (first line c : ℕ) (cs : List ℕ) (b : StringItem (List ℕ)) → b ≡ text_item raw quote triple first line c cs → after_of b ≤ length cs
fits raw quote triple first line c cs b is = let h = (text_fair raw quote triple first line c cs).within in let e = ap after_of is in omega (arith, h, e)

pub faulty : {raw : Bool} {quote : ℕ} {triple : Bool} {first : ℕ} {chars text : List ℕ} {line : ℕ} {rest : List ℕ} (c : ℕ) (cs : List ℕ) (e : TokenError) → Reads raw quote triple first chars text line rest → rest ≡ c ∷ cs → fault e ≡ text_item raw quote triple first line c cs → text_of (text_body raw quote triple first chars) ≡ Err e
faulty {raw} {quote} {triple} {first} {chars} {text} {line} {rest} c cs e h is stands = sym h.same ∙ ap (λ b. with_text text (text_of b)) (body_step (text_item raw quote triple first) first line c rest cs (fault e) is stands)

pub open_end : {raw : Bool} {quote : ℕ} {triple : Bool} {first : ℕ} {chars text : List ℕ} {line : ℕ} {rest : List ℕ} → Reads raw quote triple first chars text line rest → rest ≡ [] → text_of (text_body raw quote triple first chars) ≡ Err (OpenString first)
open_end {raw} {quote} {triple} {first} {chars} {text} {line} {rest} h is = sym h.same ∙ ap (λ b. with_text text (text_of b)) (body_end (text_item raw quote triple first) first line rest is)

pub closed : {raw : Bool} {quote : ℕ} {triple : Bool} {first : ℕ} {chars text : List ℕ} {line : ℕ} {rest : List ℕ} (c : ℕ) (cs : List ℕ) (n : ℕ) → Reads raw quote triple first chars text line rest → rest ≡ c ∷ cs → closing n ≡ text_item raw quote triple first line c cs → text_of (text_body raw quote triple first chars) ≡ Ok (text, length cs - n, line)
closed {raw} {quote} {triple} {first} {chars} {text} {line} {rest} c cs n h is stands =
    sym h.same ∙ ap (λ b. with_text text (text_of b)) (body_step (text_item raw quote triple first) first line c rest cs (closing n) is stands)
    ∙ ap (λ (t : List ℕ). Ok (t, length (drop n cs), line)) (append-nil text)
    ∙ ap (λ (k : ℕ). Ok (text, k, line)) (length-drop n cs)

pub goes_on : {raw : Bool} {quote : ℕ} {triple : Bool} {first : ℕ} {chars text : List ℕ} {line : ℕ} {rest : List ℕ} (c : ℕ) (cs xs new : List ℕ) (n next : ℕ) → Reads raw quote triple first chars text line rest → rest ≡ c ∷ cs → holds xs n next ≡ text_item raw quote triple first line c cs → new ≡ text ++ xs → Reads raw quote triple first chars new next (drop n cs)
goes_on {raw} {quote} {triple} {first} {chars} {text} {line} {rest} c cs xs new n next h is stands new_is =
    let fair = subst (λ b. Fair line c cs b) (sym stands) (text_fair raw quote triple first line c cs) in
    let within = fair.within in
    let passed = fair.lines in
    let lines = h.lines in
    let long = h.long in
    let e = ap line_count is in
    let l = ap length is in
    record {
      same = ap (λ t. with_text t (text_of (body_of (text_item raw quote triple first) first 0 next (drop n cs)))) new_is
          ∙ sym (more_text text xs (body_of (text_item raw quote triple first) first 0 next (drop n cs)))
          ∙ ap (λ b. with_text text (text_of b)) (sym (body_step (text_item raw quote triple first) first line c rest cs (holds xs n next) is stands))
          ∙ h.same;
      lines = omega (arith, passed, lines, e);
      long = let d = length-drop n cs in omega (arith, d, l, long);
    }

abbrev the_text : List ℕ × ℕ × ℕ → Result (List ℕ × ℕ × ℕ) TokenError
the_text x = Ok x

text_is : (x y : List ℕ × ℕ × ℕ) → the_text x ≡ the_text y → x ≡ y
text_is x y h = cc

-- how many characters a string leaves
pub text_left : (raw : Bool) (quote : ℕ) (triple : Bool) (first : ℕ) (chars text : List ℕ) (left next : ℕ) → text_of (text_body raw quote triple first chars) ≡ Ok (text, left, next) → left ≤ length chars
unfolding text_body
text_left raw quote triple first chars text left next is = go (body_of (text_item raw quote triple first) first 0 first chars) refl is
  where
    go : (r : Result (Body (List ℕ)) TokenError) → body_of (text_item raw quote triple first) first 0 first chars ≡ r → text_of r ≡ Ok (text, left, next) → left ≤ length chars
    go (Ok b) reads e = let h = (bounded (text_item raw quote triple first) (text_fair raw quote triple first) first 0 first chars b reads).within in let same = ap (λ (x : List ℕ × ℕ × ℕ). x.1) (text_is (joined b.values, length b.rest, b.next) (text, left, next) e) in omega (arith, h, same)
    go (Err e) reads is = absurd cc
