-- A field as an item of an f-string.
use Rattle.std.proofs.Common.{◌≡◌, ◌≤◌, ◌-◌, ℕ, zero, suc, Bool, true, false, cond, ◌&&◌, eqb, List, [], ◌∷◌, ◌++◌, length, take, drop, Result, Ok, Err, refl, sym, ap, ◌∙◌, arith, append_assoc}
use Rattle.std.proofs.lemmas.List.{length-take, length-take-le}
use Rattle.py_token.specs.declared.error.TokenError.{TokenError}
use Rattle.py_token.specs.declared.error.TokenError.TheVariants.{BadCharacter, BadIndent, OpenString, OpenBracket, WideNumber, NoMemory}
use Rattle.py_token.specs.Source.{begins}
use Rattle.py_token.specs.Plain.{PToken, token, token_row, PPiece, chars, field}
use Rattle.py_token.specs.Strings.{StringItem, holds, closing, fault, Body, text_item}
use Rattle.py_token.specs.Rules.{Match}
use Rattle.py_token.specs.Fields.{is_blank, field_token, depth_after, after_match, change_of_match, with_match, field_tokens, reach, limit_fault, field_of, field_item, chars_item, fstring_item}
use Rattle.py_token.specs.ViewMatch.{tokens_of, view_field}
use Rattle.py_token.specs.ViewPieces.{field_at, ended, PushesField}
use Rattle.py_token.specs.Answers.{Gives}
use Rattle.py_token.proofs.Fair.{Fair, on_line, text_fair}
use Rattle.py_token.proofs.Reaches.{reach_within}

abbrev the_tokens : Body PToken → Result (Body PToken) TokenError
the_tokens b = Ok b

tokens_is : (a b : Body PToken) → the_tokens a ≡ the_tokens b → a ≡ b
tokens_is a b h = cc

match_within : (limit : TokenError) (line c : ℕ) (cs : List ℕ) (r : Result Match TokenError) (body : Result (Body PToken) TokenError) (b : Body PToken) → ((b' : Body PToken) → body ≡ Ok b' → length b'.rest ≤ length cs) → with_match limit line r body ≡ the_tokens b → length b.rest ≤ length (c ∷ cs)
match_within limit line c cs (Ok t) (Ok b') b more is = let h = more b' refl in let e = ap (λ (w : Body PToken). length w.rest) (tokens_is (record b' { values = token t.kind line line ∷ b'.values }) b is) in omega (arith, h, e)
match_within limit line c cs (Ok t) (Err e) b more is = absurd cc
match_within limit line c cs (Err e) body b more is = absurd cc

field_within : (limit : TokenError) (line skip depth : ℕ) (cs : List ℕ) (b : Body PToken) → field_tokens limit line skip depth cs ≡ the_tokens b → length b.rest ≤ length cs
unfolding field_tokens
field_within limit line zero depth [] b is = absurd cc
field_within limit line (suc skip) depth [] b is = absurd cc
field_within limit line (suc skip) depth (c ∷ cs) b is = let h = field_within limit line skip depth cs b is in omega (arith, h)
field_within limit line zero depth (c ∷ cs) b is =
    go ((eqb c 125) && (eqb depth 0)) (is_blank c) (λ e. field_within limit line 0 depth cs b e) (λ b' e. field_within limit line (after_match (field_token line c cs)) (depth_after (change_of_match (field_token line c cs)) depth) cs b' e) is
  where
    go : (ends blank : Bool) → (field_tokens limit line 0 depth cs ≡ the_tokens b → length b.rest ≤ length cs)
        → ((b' : Body PToken) → field_tokens limit line (after_match (field_token line c cs)) (depth_after (change_of_match (field_token line c cs)) depth) cs ≡ Ok b' → length b'.rest ≤ length cs)
        → cond ends (the_tokens (record { values = []; rest = cs; next = line })) (cond blank (field_tokens limit line 0 depth cs) (with_match limit line (field_token line c cs) (field_tokens limit line (after_match (field_token line c cs)) (depth_after (change_of_match (field_token line c cs)) depth) cs))) ≡ the_tokens b
        → length b.rest ≤ length (c ∷ cs)
    go true blank over more is = let e = ap (λ (w : Body PToken). length w.rest) (tokens_is (record { values = []; rest = cs; next = line }) b is) in omega (arith, e)
    go false true over more is = let h = over is in omega (arith, h)
    go false false over more is = match_within limit line c cs (field_token line c cs) (field_tokens limit line (after_match (field_token line c cs)) (depth_after (change_of_match (field_token line c cs)) depth) cs) b more is

abbrev the_read : List PToken × ℕ → Result (List PToken × ℕ) TokenError
the_read x = Ok x

read_is : (a b : List PToken × ℕ) → the_read a ≡ the_read b → a ≡ b
read_is a b h = cc

-- how many characters of its reach a field leaves
pub field_left : (quote : ℕ) (triple : Bool) (first line n : ℕ) (cs : List ℕ) (ts : List PToken) (left : ℕ) → n ≡ reach quote triple cs → field_at quote triple first line cs ≡ Ok (ts, left) → left ≤ n
field_left quote triple first line n cs ts left len is = go (field_tokens (limit_fault triple first line (drop (reach quote triple cs) cs)) line 0 0 (take (reach quote triple cs) cs)) refl is
  where
    go : (r : Result (Body PToken) TokenError) → field_tokens (limit_fault triple first line (drop (reach quote triple cs) cs)) line 0 0 (take (reach quote triple cs) cs) ≡ r → tokens_of r ≡ Ok (ts, left) → left ≤ n
    go (Ok b) reads e =
        let h = field_within (limit_fault triple first line (drop (reach quote triple cs) cs)) line 0 0 (take (reach quote triple cs) cs) b reads in
        let l = length-take (reach quote triple cs) cs in
        let same = ap (λ (x : List PToken × ℕ). x.1) (read_is (b.values, length b.rest) (ts, left) e) in
        omega (arith, h, l, same, len)
    go (Err e) reads is = absurd cc

pub field_found : (quote : ℕ) (triple : Bool) (first line n : ℕ) (cs : List ℕ) (ts : List PToken) (left : ℕ) → n ≡ reach quote triple cs → field_at quote triple first line cs ≡ Ok (ts, left) → field_item quote triple first line cs ≡ holds (field (token_row ts)) (n - left) line
unfolding field_item
field_found quote triple first line n cs ts left len is =
    go (field_tokens (limit_fault triple first line (drop (reach quote triple cs) cs)) line 0 0 (take (reach quote triple cs) cs)) is
    ∙ ap (λ k. holds (field (token_row ts)) (k - left) line) (length-take-le (reach quote triple cs) cs (reach_within quote triple cs) ∙ sym len)
  where
    go : (r : Result (Body PToken) TokenError) → tokens_of r ≡ Ok (ts, left) → field_of line (take (reach quote triple cs) cs) r ≡ holds (field (token_row ts)) (length (take (reach quote triple cs) cs) - left) line
    go (Ok b) e = ap (λ (x : List PToken × ℕ). holds (field (token_row x.0)) (length (take (reach quote triple cs) cs) - x.1) line) (read_is (b.values, length b.rest) (ts, left) e)
    go (Err e) is = absurd cc

field_fails : (quote : ℕ) (triple : Bool) (first line : ℕ) (cs : List ℕ) (e : TokenError) → field_at quote triple first line cs ≡ Err e → field_item quote triple first line cs ≡ fault e
unfolding field_item
field_fails quote triple first line cs e is = go (field_tokens (limit_fault triple first line (drop (reach quote triple cs) cs)) line 0 0 (take (reach quote triple cs) cs)) is
  where
    go : (r : Result (Body PToken) TokenError) → tokens_of r ≡ Err e → field_of line (take (reach quote triple cs) cs) r ≡ fault e
    go (Ok b) is = absurd cc
    go (Err f) is = let same : f ≡ e = cc in ap (λ x. fault x) same

-- a field that is faulty is a fault of the f-string
pub field_refused : (quote : ℕ) (triple : Bool) (first line : ℕ) (cs held : List ℕ) (old new : List PPiece) (e : TokenError) → Gives view_field (Err e) (field_at quote triple first line cs) → PushesField (Err e) (field_item quote triple first line cs) line held old new
field_refused quote triple first line cs held old new NoMemory told = tt
field_refused quote triple first line cs held old new (BadCharacter l) told = field_fails quote triple first line cs (BadCharacter l) told
field_refused quote triple first line cs held old new (BadIndent l) told = field_fails quote triple first line cs (BadIndent l) told
field_refused quote triple first line cs held old new (OpenString l) told = field_fails quote triple first line cs (OpenString l) told
field_refused quote triple first line cs held old new (OpenBracket l) told = field_fails quote triple first line cs (OpenBracket l) told
field_refused quote triple first line cs held old new (WideNumber l) told = field_fails quote triple first line cs (WideNumber l) told

pub field_pushed : (quote : ℕ) (triple : Bool) (first line n : ℕ) (cs held : List ℕ) (ts : List PToken) (left : ℕ) (old mid new : List PPiece) (p : PPiece) → n ≡ reach quote triple cs → field_at quote triple first line cs ≡ Ok (ts, left) → mid ≡ old ++ ended held → new ≡ mid ++ p ∷ [] → p ≡ field (token_row ts)
    → PushesField (Ok (n - left)) (field_item quote triple first line cs) line held old new
field_pushed quote triple first line n cs held ts left old mid new p len is mid_is new_is p_is =
    (token_row ts, field_found quote triple first line n cs ts left len is, new_is ∙ ap (λ x. x ++ p ∷ []) mid_is ∙ ap (λ x. (old ++ ended held) ++ x ∷ []) p_is ∙ append_assoc old (ended held) (field (token_row ts) ∷ []))

-- fairness
field_item_fair : (quote : ℕ) (triple : Bool) (first line c : ℕ) (cs : List ℕ) → Fair line c cs (field_item quote triple first line cs)
unfolding field_item
field_item_fair quote triple first line c cs = go (field_tokens (limit_fault triple first line (drop (reach quote triple cs) cs)) line 0 0 (take (reach quote triple cs) cs))
  where
    go : (r : Result (Body PToken) TokenError) → Fair line c cs (field_of line (take (reach quote triple cs) cs) r)
    go (Ok b) = on_line line c cs (holds (field (token_row b.values)) (length (take (reach quote triple cs) cs) - length b.rest) line) (let l = length-take (reach quote triple cs) cs in omega (arith, l)) refl
    go (Err e) = on_line line c cs (fault e) (omega arith) refl

chars_fair : (line c : ℕ) (cs : List ℕ) (b : StringItem (List ℕ)) → Fair line c cs b → Fair line c cs (chars_item b)
chars_fair line c cs (holds x n next) h = record { within = h.within; lines = h.lines; later = h.later }
chars_fair line c cs (closing n) h = record { within = h.within; lines = h.lines; later = h.later }
chars_fair line c cs (fault e) h = record { within = h.within; lines = h.lines; later = h.later }

begins_long : (c : ℕ) (cs : List ℕ) → begins c cs ≡ true → 1 ≤ length cs
begins_long c [] is = absurd cc
begins_long c (d ∷ cs) is = omega arith

pub fstring_fair : (quote : ℕ) (triple : Bool) (first line c : ℕ) (cs : List ℕ) → Fair line c cs (fstring_item quote triple first line c cs)
unfolding fstring_item
fstring_fair quote triple first line c cs = go (eqb c 123) (begins 123 cs) (eqb c 125) (begins 125 cs) refl refl
  where
    go : (a b d e : Bool) → begins 123 cs ≡ b → begins 125 cs ≡ e
        → Fair line c cs (cond a (cond b (holds (chars (123 ∷ [])) 1 line) (field_item quote triple first line cs)) (cond d (cond e (holds (chars (125 ∷ [])) 1 line) (fault (BadCharacter line))) (chars_item (text_item false quote triple first line c cs))))
    go true true d e opens shuts = on_line line c cs (holds (chars (123 ∷ [])) 1 line) (begins_long 123 cs opens) refl
    go true false d e opens shuts = field_item_fair quote triple first line c cs
    go false b true true opens shuts = on_line line c cs (holds (chars (125 ∷ [])) 1 line) (begins_long 125 cs shuts) refl
    go false b true false opens shuts = on_line line c cs (fault (BadCharacter line)) (omega arith) refl
    go false b false e opens shuts = chars_fair line c cs (text_item false quote triple first line c cs) (text_fair false quote triple first line c cs)
