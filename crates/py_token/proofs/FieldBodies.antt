-- What the loop over the tokens of a field keeps.
use Rattle.std.proofs.Common.{◌≡◌, ◌≤◌, ◌+◌, ℕ, zero, suc, Bool, true, false, cond, ◌&&◌, eqb, List, [], ◌∷◌, ◌++◌, length, drop, Result, Ok, Err, refl, sym, ap, subst, ◌∙◌, arith, append_assoc, append-nil, length-drop}
use Rattle.py_token.specs.declared.error.TokenError.{TokenError}
use Rattle.py_token.specs.declared.error.TokenError.TheVariants.{BadCharacter, BadIndent, OpenString, OpenBracket, WideNumber, NoMemory}
use Rattle.py_token.specs.Source.{line_count, most_lines}
use Rattle.py_token.specs.Answers.{Gives}
use Rattle.py_token.proofs.Answering.{gives_error}
use Rattle.py_token.proofs.Lines.{line_count-cons, line_count-drop}
use Rattle.py_token.proofs.FairTokens.{FairToken, the_match, plain_fair}
use Rattle.py_token.specs.Plain.{PToken, token}
use Rattle.py_token.specs.Strings.{◌>>=◌, Body, more_of}
use Rattle.py_token.specs.Rules.{Match, begins_quote, plain_token}
use Rattle.py_token.specs.Fields.{BracketChange, opening, shutting, neither, is_blank, is_format_prefix, field_token, field_fault, change_of, depth_after, after_match, change_of_match, with_match, field_tokens}
use Rattle.py_token.specs.ViewMatch.{view_match, field_token_of, tokens_of, view_field}

abbrev pub with_tokens : List PToken → Result (List PToken × ℕ) TokenError → Result (List PToken × ℕ) TokenError
with_tokens ts read = read >>= λ x. Ok (ts ++ x.0, x.1)

pub record Reads (limit : TokenError) (line : ℕ) (chars : List ℕ) (ts : List PToken) (depth : ℕ) (rest : List ℕ) : Type 0 where
  pub same : with_tokens ts (tokens_of (field_tokens limit line 0 depth rest)) ≡ tokens_of (field_tokens limit line 0 0 chars)
  pub lines : line + line_count rest ≤ suc most_lines
  pub deep : depth + length rest ≤ length chars

field_skip : (limit : TokenError) (line n depth : ℕ) (cs : List ℕ) → field_tokens limit line n depth cs ≡ field_tokens limit line 0 depth (drop n cs)
unfolding field_tokens
field_skip limit line zero depth cs = refl
field_skip limit line (suc n) depth [] = refl
field_skip limit line (suc n) depth (c ∷ cs) = field_skip limit line n depth cs

pub field_closing : (limit : TokenError) (line depth c : ℕ) (rest cs : List ℕ) → rest ≡ c ∷ cs → true ≡ ((eqb c 125) && (eqb depth 0)) → field_tokens limit line 0 depth rest ≡ Ok (record { values = []; rest = cs; next = line })
unfolding field_tokens
field_closing limit line depth c rest cs is ends = rw (is, ← ends) refl

pub field_blank : (limit : TokenError) (line depth c : ℕ) (rest cs : List ℕ) → rest ≡ c ∷ cs → false ≡ ((eqb c 125) && (eqb depth 0)) → true ≡ is_blank c → field_tokens limit line 0 depth rest ≡ field_tokens limit line 0 depth cs
unfolding field_tokens
field_blank limit line depth c rest cs is ends blank = rw (is, ← ends, ← blank) refl

pub field_takes : (limit : TokenError) (line depth c : ℕ) (rest cs : List ℕ) (r : Result Match TokenError) → rest ≡ c ∷ cs → false ≡ ((eqb c 125) && (eqb depth 0)) → false ≡ is_blank c → field_token line c cs ≡ r
    → field_tokens limit line 0 depth rest ≡ with_match limit line r (field_tokens limit line 0 (depth_after (change_of_match r) depth) (drop (after_match r) cs))
unfolding field_tokens
field_takes limit line depth c rest cs r is ends blank takes =
    ap (field_tokens limit line 0 depth) is
    ∙ ap (λ b. cond b (Ok (record { values = []; rest = cs; next = line })) (cond (is_blank c) (field_tokens limit line 0 depth cs) (with_match limit line (field_token line c cs) (field_tokens limit line (after_match (field_token line c cs)) (depth_after (change_of_match (field_token line c cs)) depth) cs)))) (sym ends)
    ∙ ap (λ b. cond b (field_tokens limit line 0 depth cs) (with_match limit line (field_token line c cs) (field_tokens limit line (after_match (field_token line c cs)) (depth_after (change_of_match (field_token line c cs)) depth) cs))) (sym blank)
    ∙ ap (λ x. with_match limit line x (field_tokens limit line (after_match x) (depth_after (change_of_match x) depth) cs)) takes
    ∙ ap (with_match limit line r) (field_skip limit line (after_match r) (depth_after (change_of_match r) depth) cs)

pub field_fair : (line c : ℕ) (cs : List ℕ) (t : Match) → field_token line c cs ≡ the_match t → FairToken line c cs t
field_fair line c cs t is = go (is_format_prefix c && begins_quote cs) is
  where
    go : (b : Bool) → cond b (Err (BadCharacter line)) (plain_token line c cs) ≡ the_match t → FairToken line c cs t
    go true is = absurd cc
    go false is = plain_fair line c cs t is

-- the same, as the code speaks of it
pub fits : (line c : ℕ) (rest cs : List ℕ) (t : Match) → rest ≡ c ∷ cs → field_token_of line rest ≡ the_match t → t.after ≤ length cs
fits line c rest cs t is takes = (field_fair line c cs t (sym (ap (field_token_of line) is) ∙ takes)).within

pub closed : {limit : TokenError} {line : ℕ} {chars : List ℕ} {ts : List PToken} {depth : ℕ} {rest : List ℕ} (c : ℕ) (cs : List ℕ) → Reads limit line chars ts depth rest → rest ≡ c ∷ cs → true ≡ ((eqb c 125) && (eqb depth 0)) → tokens_of (field_tokens limit line 0 0 chars) ≡ Ok (ts, length cs)
closed {limit} {line} {chars} {ts} {depth} {rest} c cs h is ends =
    sym h.same ∙ ap (λ b. with_tokens ts (tokens_of b)) (field_closing limit line depth c rest cs is ends) ∙ ap (λ (x : List PToken). Ok (x, length cs)) (append-nil ts)

pub over_blank : {limit : TokenError} {line : ℕ} {chars : List ℕ} {ts : List PToken} {depth : ℕ} {rest : List ℕ} (c : ℕ) (cs : List ℕ) → Reads limit line chars ts depth rest → rest ≡ c ∷ cs → false ≡ ((eqb c 125) && (eqb depth 0)) → true ≡ is_blank c → Reads limit line chars ts depth cs
over_blank {limit} {line} {chars} {ts} {depth} {rest} c cs h is ends blank = record {
  same = ap (λ b. with_tokens ts (tokens_of b)) (sym (field_blank limit line depth c rest cs is ends blank)) ∙ h.same;
  lines = let lines = h.lines in let e = ap line_count is in let m = (line_count-cons c cs).0 in omega (arith, lines, e, m);
  deep = let deep = h.deep in let l = ap length is in omega (arith, deep, l);
}

pub open_end : {limit : TokenError} {line : ℕ} {chars : List ℕ} {ts : List PToken} {depth : ℕ} {rest : List ℕ} → Reads limit line chars ts depth rest → rest ≡ [] → tokens_of (field_tokens limit line 0 0 chars) ≡ Err limit
unfolding field_tokens
open_end {limit} {line} {chars} {ts} {depth} {rest} h is = sym h.same ∙ ap (λ cs. with_tokens ts (tokens_of (field_tokens limit line 0 depth cs))) is

faulty : {limit : TokenError} {line : ℕ} {chars : List ℕ} {ts : List PToken} {depth : ℕ} {rest : List ℕ} (c : ℕ) (cs : List ℕ) (e : TokenError) → Reads limit line chars ts depth rest → rest ≡ c ∷ cs → false ≡ ((eqb c 125) && (eqb depth 0)) → false ≡ is_blank c → field_token_of line rest ≡ Err e → tokens_of (field_tokens limit line 0 0 chars) ≡ Err (field_fault limit e)
faulty {limit} {line} {chars} {ts} {depth} {rest} c cs e h is ends blank fails =
    sym h.same ∙ ap (λ b. with_tokens ts (tokens_of b)) (field_takes limit line depth c rest cs (Err e) is ends blank (sym (ap (field_token_of line) is) ∙ fails))

pub fails_as : {limit : TokenError} {line : ℕ} {chars : List ℕ} {ts : List PToken} {depth : ℕ} {rest : List ℕ} (c : ℕ) (cs : List ℕ) (e f : TokenError) → Reads limit line chars ts depth rest → rest ≡ c ∷ cs → false ≡ ((eqb c 125) && (eqb depth 0)) → false ≡ is_blank c
    → f ≡ field_fault limit e → Gives view_match (Err e) (field_token_of line rest) → Gives view_field (Err f) (tokens_of (field_tokens limit line 0 0 chars))
fails_as {limit} {line} {chars} {rest = rest} c cs e f h is ends blank same told = subst (λ g. Gives view_field (Err g) (tokens_of (field_tokens limit line 0 0 chars))) (sym same) (go e told (λ fails. faulty c cs e h is ends blank fails))
  where
    go : (e : TokenError) → Gives view_match (Err e) (field_token_of line rest) → (field_token_of line rest ≡ Err e → tokens_of (field_tokens limit line 0 0 chars) ≡ Err (field_fault limit e)) → Gives view_field (Err (field_fault limit e)) (tokens_of (field_tokens limit line 0 0 chars))
    go NoMemory told on = tt
    go (BadCharacter l) told on = on told
    go (BadIndent l) told on = on told
    go (OpenString l) told on = gives_error view_field _ limit (on told)
    go (OpenBracket l) told on = on told
    go (WideNumber l) told on = on told

more_tokens : (ts : List PToken) (t : PToken) (body : Result (Body PToken) TokenError) → with_tokens ts (tokens_of (more_of t body)) ≡ with_tokens (ts ++ t ∷ []) (tokens_of body)
more_tokens ts t (Ok b) = ap (λ (x : List PToken). Ok (x, length b.rest)) (sym (append_assoc ts (t ∷ []) b.values))
more_tokens ts t (Err e) = refl

depth_grows : (change : BracketChange) (depth : ℕ) → depth_after change depth ≤ depth + 1
depth_grows opening depth = omega arith
depth_grows shutting depth = omega arith
depth_grows neither depth = omega arith

pub goes_on : {limit : TokenError} {line : ℕ} {chars : List ℕ} {ts : List PToken} {depth : ℕ} {rest : List ℕ} (c : ℕ) (cs : List ℕ) (t : Match) (new : List PToken) (deeper : ℕ) → Reads limit line chars ts depth rest → rest ≡ c ∷ cs → false ≡ ((eqb c 125) && (eqb depth 0)) → false ≡ is_blank c → field_token_of line rest ≡ Ok t
    → new ≡ ts ++ token t.kind line line ∷ [] → deeper ≡ depth_after (change_of t.kind) depth → Reads limit line chars new deeper (drop t.after cs)
goes_on {limit} {line} {chars} {ts} {depth} {rest} c cs t new deeper h is ends blank takes new_is deeper_is =
    let e = ap line_count is in
    let m = (line_count-cons c cs).0 in
    let d = line_count-drop t.after cs in
    let l = ap length is in
    let s = length-drop t.after cs in
    let g = depth_grows (change_of t.kind) depth in
    let lines = h.lines in
    let deep = h.deep in
    record {
      same = ap (λ x. with_tokens x (tokens_of (field_tokens limit line 0 deeper (drop t.after cs)))) new_is
          ∙ ap (λ k. with_tokens (ts ++ token t.kind line line ∷ []) (tokens_of (field_tokens limit line 0 k (drop t.after cs)))) deeper_is
          ∙ sym (more_tokens ts (token t.kind line line) (field_tokens limit line 0 (depth_after (change_of t.kind) depth) (drop t.after cs)))
          ∙ ap (λ b. with_tokens ts (tokens_of b)) (sym (field_takes limit line depth c rest cs (Ok t) is ends blank (sym (ap (field_token_of line) is) ∙ takes)))
          ∙ h.same;
      lines = omega (arith, lines, e, m, d);
      deep = omega (arith, deep, l, s, g, deeper_is);
    }
