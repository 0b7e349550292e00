-- The segments of a text one by one, and what the loop over them keeps.
use Rattle.std.proofs.Common.{◌≡◌, ◌≤◌, ◌<◌, ◌+◌, ℕ, zero, suc, Bool, true, false, cond, ◌&&◌, eqb, List, [], ◌∷◌, ◌++◌, length, drop, Result, Ok, Err, refl, sym, ap, ◌∙◌, arith, append_assoc, add-one, length-drop}
use Rattle.std.specs.List.{prefix_len}
use Rattle.std.proofs.lemmas.Bool.{eqb-true}
use Rattle.std.proofs.lemmas.List.Sums.{prefix_len-le-length}
use Rattle.py_token.specs.declared.error.TokenError.{TokenError}
use Rattle.py_token.specs.declared.error.TokenError.TheVariants.{BadCharacter, BadIndent, OpenString, OpenBracket, WideNumber, NoMemory}
use Rattle.py_token.specs.Source.{begins, line_count, last_line, most_lines}
use Rattle.py_token.specs.Plain.{PToken}
use Rattle.py_token.specs.Strings.{◌>>=◌}
use Rattle.py_token.specs.Rules.{Match}
use Rattle.py_token.specs.Fields.{is_blank, token_at}
use Rattle.py_token.specs.Segments.{Lexeme, blank, comment, line_end, joined_end, stuck, Segment, in_comment, token_segment, segment_at, segments}
use Rattle.py_token.specs.Layout.{State, outermost, put, ends, layout}
use Rattle.py_token.specs.Spelling.{spelling}
use Rattle.py_token.specs.Answers.{Gives}
use Rattle.py_token.specs.ViewSegments.{segment_of}
use Rattle.py_token.specs.ViewLayout.{Adds, ended}
use Rattle.py_token.proofs.Lines.{line_count-cons, line_count-drop, line_count-end}
use Rattle.py_token.proofs.FStringBodies.{token_fair}

-- a segment lies within the text, and passes as many lines as it has line ends
pub record FairSegment (line c : ℕ) (cs : List ℕ) (segment : Segment) : Type 0 where
  pub within : segment.after ≤ length cs
  pub lines : segment.next + line_count (drop segment.after cs) ≤ line + line_count (c ∷ cs)
  pub later : line ≤ segment.next

on_line : (line c : ℕ) (cs : List ℕ) (lexeme : Lexeme) (after : ℕ) → after ≤ length cs → FairSegment line c cs (record { lexeme = lexeme; after = after; next = line })
on_line line c cs lexeme after within = record { within = within; lines = let d = line_count-drop after cs in let h = (line_count-cons c cs).0 in omega (arith, d, h); later = omega arith }

token_segment_fair : (line c : ℕ) (cs : List ℕ) (r : Result Match TokenError) → token_at line c cs ≡ r → FairSegment line c cs (token_segment line r)
token_segment_fair line c cs (Ok t) is = let h = token_fair line c cs t is in record { within = h.within; lines = h.lines; later = h.later }
token_segment_fair line c cs (Err e) is = on_line line c cs (stuck e) 0 (omega arith)

joined_fair : (line c : ℕ) (cs : List ℕ) → begins 10 cs ≡ true → FairSegment line c cs (record { lexeme = joined_end; after = 1; next = line + 1 })
joined_fair line c [] is = absurd cc
joined_fair line c (d ∷ ds) is = record { within = omega arith; lines = let e = line_count-end d ds (eqb-true d 10 is) in let h = (line_count-cons c (d ∷ ds)).0 in omega (arith, e, h); later = omega arith }

pub segment_fair : (line c : ℕ) (cs : List ℕ) → FairSegment line c cs (segment_at line c cs)
unfolding segment_at
segment_fair line c cs = go (is_blank c) (eqb c 10) (eqb c 35) (eqb c 92) (begins 10 cs) refl refl
  where
    go : (a b d e f : Bool) → eqb c 10 ≡ b → begins 10 cs ≡ f
        → FairSegment line c cs (cond a (record { lexeme = blank c; after = 0; next = line }) (cond b (record { lexeme = line_end; after = 0; next = line + 1 }) (cond d (record { lexeme = comment; after = prefix_len in_comment cs; next = line }) (cond (e && f) (record { lexeme = joined_end; after = 1; next = line + 1 }) (token_segment line (token_at line c cs))))))
    go true b d e f is joins = on_line line c cs (blank c) 0 (omega arith)
    go false true d e f is joins = record { within = omega arith; lines = let h = line_count-end c cs (eqb-true c 10 is) in omega (arith, h); later = omega arith }
    go false false true e f is joins = on_line line c cs comment (prefix_len in_comment cs) (prefix_len-le-length in_comment cs)
    go false false false true true is joins = joined_fair line c cs joins
    go false false false true false is joins = token_segment_fair line c cs (token_at line c cs) refl
    go false false false false f is joins = token_segment_fair line c cs (token_at line c cs) refl

segments_skip : (n line : ℕ) (cs : List ℕ) → segments n line cs ≡ segments 0 line (drop n cs)
unfolding segments
segments_skip zero line cs = refl
segments_skip (suc n) line [] = refl
segments_skip (suc n) line (c ∷ cs) = segments_skip n line cs

abbrev the_segment : Segment → Result Segment TokenError
the_segment c = Ok c

segment_is : (a b : Segment) → the_segment a ≡ the_segment b → a ≡ b
segment_is a b h = cc

segments_step : (line : ℕ) (rest : List ℕ) (segment : Segment) → 0 < length rest → segment_of line rest ≡ the_segment segment → segments 0 line rest ≡ record { lexeme = segment.lexeme; line = line; next = segment.next } ∷ segments 0 segment.next (drop (segment.after + 1) rest)
unfolding segments
segments_step line [] segment some is = absurd (omega arith)
segments_step line (c ∷ cs) segment some is =
    ap (λ (x : Segment). record { lexeme = x.lexeme; line = line; next = x.next } ∷ segments x.after x.next cs) (segment_is (segment_at line c cs) segment is)
    ∙ ap (λ x. record { lexeme = segment.lexeme; line = line; next = segment.next } ∷ x) (segments_skip segment.after segment.next cs ∙ ap (λ k. segments 0 segment.next (drop k (c ∷ cs))) (sym (add-one segment.after)))

pub fits : (line : ℕ) (rest : List ℕ) (segment : Segment) → 0 < length rest → segment_of line rest ≡ the_segment segment → segment.after + 1 ≤ length rest
fits line [] segment some is = absurd (omega arith)
fits line (c ∷ cs) segment some is = let h = (segment_fair line c cs).within in let e = ap (λ (x : Segment). x.after) (segment_is (segment_at line c cs) segment is) in omega (arith, h, e)

passes : (line : ℕ) (rest : List ℕ) (segment : Segment) → 0 < length rest → segment_of line rest ≡ the_segment segment → segment.next + line_count (drop (segment.after + 1) rest) ≤ line + line_count rest
passes line [] segment some is = absurd (omega arith)
passes line (c ∷ cs) segment some is =
    let h = (segment_fair line c cs).lines in
    let same = segment_is (segment_at line c cs) segment is in
    let e = ap (λ (x : Segment). x.next + line_count (drop x.after cs)) same in
    let f = ap (λ k. line_count (drop k (c ∷ cs))) (add-one segment.after) in
    omega (arith, h, e, f)

abbrev pub with_front : List PToken → Result (List PToken) TokenError → Result (List PToken) TokenError
with_front front read = read >>= λ ts. Ok (front ++ ts)

pub record Reads (chars : List ℕ) (last : ℕ) (out : List PToken) (state : State) (line : ℕ) (rest : List ℕ) : Type 0 where
  pub same : with_front out (layout state last (segments 0 line rest)) ≡ spelling chars
  pub lines : line + line_count rest ≤ suc most_lines
  pub long : length rest ≤ length chars

none_before : (r : Result (List PToken) TokenError) → with_front [] r ≡ r
none_before (Ok ts) = refl
none_before (Err e) = refl

pub starts : (chars : List ℕ) (last : ℕ) (out : List PToken) (state : State) → last ≡ last_line chars → out ≡ [] → state ≡ outermost → line_count chars ≤ most_lines → Reads chars last out state 1 chars
unfolding spelling
starts chars last out state last_is out_is state_is few = record {
  same = ap (λ x. with_front x (layout state last (segments 0 1 chars))) out_is ∙ none_before (layout state last (segments 0 1 chars)) ∙ ap (λ x. layout x last (segments 0 1 chars)) state_is ∙ ap (λ x. layout outermost x (segments 0 1 chars)) last_is;
  lines = omega (arith, few);
  long = omega arith;
}

regroup : (out added : List PToken) (r : Result (List PToken) TokenError) → with_front out (r >>= λ ts. Ok (added ++ ts)) ≡ with_front (out ++ added) r
regroup out added (Ok ts) = ap (λ (x : List PToken). Ok x) (sym (append_assoc out added ts))
regroup out added (Err e) = refl

pub goes_on : {chars : List ℕ} {last : ℕ} {out : List PToken} {state : State} {line : ℕ} {rest : List ℕ} (segment : Segment) (added new : List PToken) (after : State) → Reads chars last out state line rest → 0 < length rest → segment_of line rest ≡ Ok segment → put state segment.lexeme line segment.next ≡ Ok (added, after) → new ≡ out ++ added
    → Reads chars last new after segment.next (drop (segment.after + 1) rest)
unfolding layout
goes_on {chars} {last} {out} {state} {line} {rest} segment added new after h some segments_it puts is =
    let one : layout state last (segments 0 line rest) ≡ (layout after last (segments 0 segment.next (drop (segment.after + 1) rest)) >>= λ ts. Ok (added ++ ts)) = ap (layout state last) (segments_step line rest segment some segments_it) ∙ ap (λ (r : Result (List PToken × State) TokenError). r >>= λ here. layout here.1 last (segments 0 segment.next (drop (segment.after + 1) rest)) >>= λ ts. Ok (here.0 ++ ts)) puts in
    let passed = passes line rest segment some segments_it in
    let lines = h.lines in
    let long = h.long in
    let d = length-drop (segment.after + 1) rest in
    record {
      same = ap (λ x. with_front x (layout after last (segments 0 segment.next (drop (segment.after + 1) rest)))) is ∙ sym (regroup out added (layout after last (segments 0 segment.next (drop (segment.after + 1) rest)))) ∙ ap (with_front out) (sym one) ∙ h.same;
      lines = omega (arith, passed, lines);
      long = omega (arith, d, long);
    }

fails : {chars : List ℕ} {last : ℕ} {out : List PToken} {state : State} {line : ℕ} {rest : List ℕ} (segment : Segment) (e : TokenError) → Reads chars last out state line rest → 0 < length rest → segment_of line rest ≡ Ok segment → put state segment.lexeme line segment.next ≡ Err e → spelling chars ≡ Err e
unfolding layout
fails {last = last} {out} {state} {line} {rest} segment e h some segments_it puts =
    let one : layout state last (segments 0 line rest) ≡ Err e = ap (layout state last) (segments_step line rest segment some segments_it) ∙ ap (λ (r : Result (List PToken × State) TokenError). r >>= λ here. layout here.1 last (segments 0 segment.next (drop (segment.after + 1) rest)) >>= λ ts. Ok (here.0 ++ ts)) puts in
    sym h.same ∙ ap (with_front out) one

-- one segment more that is refused
pub put_fails : {A : Type 0} (view : A → List PToken) → {chars : List ℕ} {last : ℕ} {out : List PToken} {state : State} {line : ℕ} {rest : List ℕ} (segment : Segment) (e : TokenError) (after : State) (new : List PToken) → Reads chars last out state line rest → 0 < length rest → segment_of line rest ≡ Ok segment
    → Adds (put state segment.lexeme line segment.next) (Err e) after out new → Gives view (Err e) (spelling chars)
put_fails view segment NoMemory after new h some segments_it p = tt
put_fails view segment (BadCharacter l) after new h some segments_it p = fails segment (BadCharacter l) h some segments_it p
put_fails view segment (BadIndent l) after new h some segments_it p = fails segment (BadIndent l) h some segments_it p
put_fails view segment (OpenString l) after new h some segments_it p = fails segment (OpenString l) h some segments_it p
put_fails view segment (OpenBracket l) after new h some segments_it p = fails segment (OpenBracket l) h some segments_it p
put_fails view segment (WideNumber l) after new h some segments_it p = fails segment (WideNumber l) h some segments_it p

at_end : {chars : List ℕ} {last : ℕ} {out : List PToken} {state : State} {line : ℕ} (rest : List ℕ) → length rest ≡ 0 → Reads chars last out state line rest → with_front out (ends state last) ≡ spelling chars
unfolding layout segments
at_end [] none h = h.same
at_end (c ∷ cs) none h = absurd (omega arith)

abbrev the_end : (List PToken × Unit {0}) → Result (List PToken × Unit {0}) TokenError
the_end x = Ok x

end_is : (a b : List PToken × Unit {0}) → the_end a ≡ the_end b → a ≡ b
end_is a b h = cc

pub finished : {chars : List ℕ} {last : ℕ} {out : List PToken} {state : State} {line : ℕ} (rest : List ℕ) (added new : List PToken) → length rest ≡ 0 → Reads chars last out state line rest → ended state last ≡ Ok (added, tt) → new ≡ out ++ added → spelling chars ≡ Ok new
finished {last = last} {out} {state} rest added new none h is new_is = sym (at_end rest none h) ∙ go (ends state last) is ∙ ap (λ (x : List PToken). Ok x) (sym new_is)
  where
    go : (r : Result (List PToken) TokenError) → (r >>= λ ts. the_end (ts, tt)) ≡ the_end (added, tt) → with_front out r ≡ Ok (out ++ added)
    go (Ok ts) h = ap (λ (x : List PToken). Ok (out ++ x)) (ap (λ (w : List PToken × Unit {0}). w.0) (end_is (ts, tt) (added, tt) h))
    go (Err e) h = absurd cc

end_fails : {chars : List ℕ} {last : ℕ} {out : List PToken} {state : State} {line : ℕ} (rest : List ℕ) (e : TokenError) → length rest ≡ 0 → Reads chars last out state line rest → ended state last ≡ Err e → spelling chars ≡ Err e
end_fails {last = last} {out} {state} rest e none h is = sym (at_end rest none h) ∙ go (ends state last) is
  where
    go : (r : Result (List PToken) TokenError) → (r >>= λ ts. the_end (ts, tt)) ≡ Err e → with_front out r ≡ Err e
    go (Ok ts) h = absurd cc
    go (Err f) h = let same : f ≡ e = cc in ap (λ (x : TokenError). Err x) same

pub finish_fails : {A : Type 0} (view : A → List PToken) → {chars : List ℕ} {last : ℕ} {out : List PToken} {state : State} {line : ℕ} (rest : List ℕ) (e : TokenError) (new : List PToken) → length rest ≡ 0 → Reads chars last out state line rest → Adds (ended state last) (Err e) tt out new → Gives view (Err e) (spelling chars)
finish_fails view rest NoMemory new none h p = tt
finish_fails view rest (BadCharacter l) new none h p = end_fails rest (BadCharacter l) none h p
finish_fails view rest (BadIndent l) new none h p = end_fails rest (BadIndent l) none h p
finish_fails view rest (OpenString l) new none h p = end_fails rest (OpenString l) none h p
finish_fails view rest (OpenBracket l) new none h p = end_fails rest (OpenBracket l) none h p
finish_fails view rest (WideNumber l) new none h p = end_fails rest (WideNumber l) none h p
