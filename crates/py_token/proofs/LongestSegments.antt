-- No rule of words, numbers, operators and comments takes a longer segment than the one that is cut.
use Rattle.std.proofs.Common.{◌≡◌, ◌≤◌, ◌+◌, ℕ, zero, suc, Bool, true, false, cond, ◌&&◌, eqb, List, [], ◌∷◌, length, take, Option, Some, None, Result, Ok, Err, refl, sym, ap, subst, ◌∙◌, arith}
use Rattle.std.specs.List.{list_all, prefix_len, take_while}
use Rattle.std.specs.Char.{is_ascii_digit}
use Rattle.std.proofs.lemmas.Bool.Decides.{nat_tests}
use Rattle.py_token.specs.declared.error.TokenError.{TokenError}
use Rattle.py_token.specs.declared.token.Mark.{Mark}
use Rattle.py_token.specs.declared.token.Mark.TheVariants as marks
use Rattle.py_token.specs.Plain.{PKind, mark}
use Rattle.py_token.specs.Source.{begins}
use Rattle.py_token.specs.Strings.{◌>>=◌}
use Rattle.py_token.proofs.FairTokens.{the_match, match_is}
use Rattle.std.proofs.lemmas.Bool.{eqb-true}
use Rattle.py_token.specs.Words.{begins_name, in_name, word_kind}
use Rattle.py_token.specs.Numbers.{in_number, number_of, kind_of_number}
use Rattle.py_token.specs.Marks.{mark_of_one, mark_with_equal, mark_of_two, mark_of_three, sized, else_try, mark_at}
use Rattle.py_token.specs.Rules.{Match, is_quote, begins_quote, is_raw_prefix, string_at, raw_string, word_at, number_at, marked, plain_token}
use Rattle.py_token.specs.Fields.{is_blank, is_format_prefix, fstring_at, token_at}
use Rattle.py_token.specs.Segments.{Segment, in_comment, token_segment, segment_at}
use Rattle.py_token.specs.Longest.{mark_of_text, word, number, operator, note, IsMatch, NoneLonger}

prefix_ge : (p : ℕ → Bool) (m : ℕ) (cs : List ℕ) → m ≤ length cs → list_all p (take m cs) ≡ true → m ≤ prefix_len p cs
prefix_ge p zero cs le h = omega arith
prefix_ge p (suc m) [] le h = absurd (omega arith)
prefix_ge p (suc m) (c ∷ cs) le h = go (p c) (λ k. prefix_ge p m cs (omega arith) k) h
  where
    go : (b : Bool) → (list_all p (take m cs) ≡ true → m ≤ prefix_len p cs) → b && list_all p (take m cs) ≡ true → suc m ≤ cond b (1 + prefix_len p cs) 0
    go true more h = let k = more h in omega (arith, k)
    go false more h = absurd cc

-- nothing that goes on with a word stands before a quote
none_before_quote : (m : ℕ) (cs : List ℕ) → list_all in_name (take m cs) ≡ true → begins_quote cs ≡ true → m ≤ length cs → m ≡ 0
none_before_quote zero cs h q le = refl
none_before_quote (suc m) [] h q le = absurd (omega arith)
none_before_quote (suc m) (c ∷ cs) h q le = absurd (go (in_name c) refl h)
  where
    quoted : in_name c ≡ true → is_quote c ≡ true → ⊥
    quoted a b = grind (arith, nat_tests)

    go : (b : Bool) → in_name c ≡ b → b && list_all in_name (take m cs) ≡ true → ⊥
    go true is h = quoted is q
    go false is h = cc

abbrev Longer : ℕ → Segment → Type 0
Longer m segment = IsMatch segment.lexeme → m ≤ segment.after

of_token : (m line : ℕ) (r : Result Match TokenError) → ((t : Match) → r ≡ Ok t → m ≤ t.after) → Longer m (token_segment line r)
of_token m line (Ok t) h matched = h t refl
of_token m line (Err e) h matched = absurd matched

record Plain (c : ℕ) : Type 0 where
  no_blank : is_blank c ≡ false
  no_end : eqb c 10 ≡ false
  no_note : eqb c 35 ≡ false
  no_slash : eqb c 92 ≡ false

-- a place where a token begins
at_token : (m line c : ℕ) (cs : List ℕ) → Plain c → Longer m (token_segment line (token_at line c cs)) → Longer m (segment_at line c cs)
unfolding segment_at
at_token m line c cs p h = rw (p.no_blank, p.no_end, p.no_note, p.no_slash) h

word_plain : (c : ℕ) → begins_name c ≡ true → Plain c
word_plain c is = record { no_blank = grind (arith, nat_tests); no_end = grind (arith, nat_tests); no_note = grind (arith, nat_tests); no_slash = grind (arith, nat_tests) }

digit_plain : (c : ℕ) → is_ascii_digit c ≡ true → Plain c
digit_plain c is = record { no_blank = grind (arith, nat_tests); no_end = grind (arith, nat_tests); no_note = grind (arith, nat_tests); no_slash = grind (arith, nat_tests) }

both : (a b : Bool) → a && b ≡ true → b ≡ true
both true b h = h
both false b h = absurd cc

word_inside : (line c m : ℕ) (cs : List ℕ) → m ≤ length cs → begins_name c ≡ true → list_all in_name (take m cs) ≡ true → (t : Match) → token_at line c cs ≡ the_match t → m ≤ t.after
unfolding token_at plain_token
word_inside line c m cs le begins all t is = go (is_format_prefix c && begins_quote cs) (is_quote c) (is_raw_prefix c && begins_quote cs) (begins_name c) refl refl refl begins is
  where
    quoted : is_quote c ≡ true → ⊥
    quoted q = grind (arith, nat_tests)

    go : (f q r n : Bool) → is_format_prefix c && begins_quote cs ≡ f → is_quote c ≡ q → is_raw_prefix c && begins_quote cs ≡ r → n ≡ true
        → cond f (fstring_at line cs) (cond q (string_at false line c cs) (cond r (raw_string line cs) (cond n (word_at line c cs) (cond (is_ascii_digit c) (number_at line c cs) (marked line (mark_at c cs)))))) ≡ the_match t → m ≤ t.after
    go true q r n hf hq hr hn is = let none = none_before_quote m cs all (both (is_format_prefix c) (begins_quote cs) hf) le in omega (arith, none)
    go false true r n hf hq hr hn is = absurd (quoted hq)
    go false false true n hf hq hr hn is = let none = none_before_quote m cs all (both (is_raw_prefix c) (begins_quote cs) hr) le in omega (arith, none)
    go false false false true hf hq hr hn is = let e = ap (λ (w : Match). w.after) (match_is (record { kind = word_kind (c ∷ take_while in_name cs); after = prefix_len in_name cs; next = line }) t is) in let g = prefix_ge in_name m cs le all in omega (arith, e, g)
    go false false false false hf hq hr hn is = absurd cc

number_inside : (line c m : ℕ) (cs : List ℕ) → m ≤ length cs → is_ascii_digit c ≡ true → list_all in_number (take m cs) ≡ true → (t : Match) → token_at line c cs ≡ the_match t → m ≤ t.after
unfolding token_at plain_token
number_inside line c m cs le digit all t is = go (is_format_prefix c) (is_quote c) (is_raw_prefix c) (begins_name c) (is_ascii_digit c) refl refl refl refl digit is
  where
    formats : is_format_prefix c ≡ true → ⊥
    formats q = grind (arith, nat_tests)

    quoted : is_quote c ≡ true → ⊥
    quoted q = grind (arith, nat_tests)

    raws : is_raw_prefix c ≡ true → ⊥
    raws q = grind (arith, nat_tests)

    names : begins_name c ≡ true → ⊥
    names q = grind (arith, nat_tests)

    matched : (r : Result PKind TokenError) → (r >>= λ k. the_match (record { kind = k; after = prefix_len in_number cs; next = line })) ≡ the_match t → m ≤ t.after
    matched (Ok k) is = let e = ap (λ (w : Match). w.after) (match_is (record { kind = k; after = prefix_len in_number cs; next = line }) t is) in let g = prefix_ge in_number m cs le all in omega (arith, e, g)
    matched (Err e) is = absurd cc

    go : (f q r n d : Bool) → is_format_prefix c ≡ f → is_quote c ≡ q → is_raw_prefix c ≡ r → begins_name c ≡ n → d ≡ true
        → cond (f && begins_quote cs) (fstring_at line cs) (cond q (string_at false line c cs) (cond (r && begins_quote cs) (raw_string line cs) (cond n (word_at line c cs) (cond d (number_at line c cs) (marked line (mark_at c cs)))))) ≡ the_match t → m ≤ t.after
    go true q r n d hf hq hr hn hd is = absurd (formats hf)
    go false true r n d hf hq hr hn hd is = absurd (quoted hq)
    go false false true n d hf hq hr hn hd is = absurd (raws hr)
    go false false false true d hf hq hr hn hd is = absurd (names hn)
    go false false false false true hf hq hr hn hd is = matched (kind_of_number line (number_of c (take_while in_number cs))) is
    go false false false false false hf hq hr hn hd is = absurd cc

-- a character that begins an operator of more than one
record Operates (c : ℕ) : Type 0 where
  plain : Plain c
  no_format : is_format_prefix c ≡ false
  no_quote : is_quote c ≡ false
  no_raw : is_raw_prefix c ≡ false
  no_word : begins_name c ≡ false
  no_digit : is_ascii_digit c ≡ false

operates_at : (c n : ℕ) → eqb c n ≡ true → Operates n → Operates c
operates_at c n is h = subst (λ x. Operates x) (sym (eqb-true c n is)) h

with_equal_operates : (c : ℕ) (k : Mark) → mark_with_equal c ≡ Some k → Operates c
with_equal_operates c k h = go (eqb c 61) (eqb c 33) (eqb c 60) (eqb c 62) (eqb c 43) (eqb c 45) (eqb c 42) (eqb c 37) refl refl refl refl refl refl refl refl h
  where
    go : (a1 a2 a3 a4 a5 a6 a7 a8 : Bool) → eqb c 61 ≡ a1 → eqb c 33 ≡ a2 → eqb c 60 ≡ a3 → eqb c 62 ≡ a4 → eqb c 43 ≡ a5 → eqb c 45 ≡ a6 → eqb c 42 ≡ a7 → eqb c 37 ≡ a8
        → cond a1 (Some marks.EqualEqual) (cond a2 (Some marks.NotEqual) (cond a3 (Some marks.LessEqual) (cond a4 (Some marks.GreaterEqual) (cond a5 (Some marks.PlusEqual) (cond a6 (Some marks.MinusEqual) (cond a7 (Some marks.StarEqual) (cond a8 (Some marks.PercentEqual) None))))))) ≡ Some k → Operates c
    go true a2 a3 a4 a5 a6 a7 a8 e1 e2 e3 e4 e5 e6 e7 e8 h = operates_at c 61 e1 (record { plain = record { no_blank = refl; no_end = refl; no_note = refl; no_slash = refl }; no_format = refl; no_quote = refl; no_raw = refl; no_word = refl; no_digit = refl })
    go false true a3 a4 a5 a6 a7 a8 e1 e2 e3 e4 e5 e6 e7 e8 h = operates_at c 33 e2 (record { plain = record { no_blank = refl; no_end = refl; no_note = refl; no_slash = refl }; no_format = refl; no_quote = refl; no_raw = refl; no_word = refl; no_digit = refl })
    go false false true a4 a5 a6 a7 a8 e1 e2 e3 e4 e5 e6 e7 e8 h = operates_at c 60 e3 (record { plain = record { no_blank = refl; no_end = refl; no_note = refl; no_slash = refl }; no_format = refl; no_quote = refl; no_raw = refl; no_word = refl; no_digit = refl })
    go false false false true a5 a6 a7 a8 e1 e2 e3 e4 e5 e6 e7 e8 h = operates_at c 62 e4 (record { plain = record { no_blank = refl; no_end = refl; no_note = refl; no_slash = refl }; no_format = refl; no_quote = refl; no_raw = refl; no_word = refl; no_digit = refl })
    go false false false false true a6 a7 a8 e1 e2 e3 e4 e5 e6 e7 e8 h = operates_at c 43 e5 (record { plain = record { no_blank = refl; no_end = refl; no_note = refl; no_slash = refl }; no_format = refl; no_quote = refl; no_raw = refl; no_word = refl; no_digit = refl })
    go false false false false false true a7 a8 e1 e2 e3 e4 e5 e6 e7 e8 h = operates_at c 45 e6 (record { plain = record { no_blank = refl; no_end = refl; no_note = refl; no_slash = refl }; no_format = refl; no_quote = refl; no_raw = refl; no_word = refl; no_digit = refl })
    go false false false false false false true a8 e1 e2 e3 e4 e5 e6 e7 e8 h = operates_at c 42 e7 (record { plain = record { no_blank = refl; no_end = refl; no_note = refl; no_slash = refl }; no_format = refl; no_quote = refl; no_raw = refl; no_word = refl; no_digit = refl })
    go false false false false false false false true e1 e2 e3 e4 e5 e6 e7 e8 h = operates_at c 37 e8 (record { plain = record { no_blank = refl; no_end = refl; no_note = refl; no_slash = refl }; no_format = refl; no_quote = refl; no_raw = refl; no_word = refl; no_digit = refl })
    go false false false false false false false false e1 e2 e3 e4 e5 e6 e7 e8 h = absurd cc

slash_operates : (c : ℕ) → eqb c 47 ≡ true → Operates c
slash_operates c is = operates_at c 47 is (record { plain = record { no_blank = refl; no_end = refl; no_note = refl; no_slash = refl }; no_format = refl; no_quote = refl; no_raw = refl; no_word = refl; no_digit = refl })

two_operates : (c d : ℕ) (k : Mark) → mark_of_two c d ≡ Some k → Operates c
two_operates c d k h = go (eqb d 61) (eqb c 47) (eqb d 47) refl h
  where
    go : (a b e : Bool) → eqb c 47 ≡ b → cond a (mark_with_equal c) (cond (b && e) (Some marks.DoubleSlash) None) ≡ Some k → Operates c
    go true b e is h = with_equal_operates c k h
    go false true e is h = slash_operates c is
    go false false e is h = absurd cc

three_operates : (c d e : ℕ) (k : Mark) → mark_of_three c d e ≡ Some k → Operates c
three_operates c d e k h = go (eqb c 47) (eqb d 47) (eqb e 61) refl h
  where
    go : (a b f : Bool) → eqb c 47 ≡ a → cond (a && b && f) (Some marks.DoubleSlashEqual) None ≡ Some k → Operates c
    go true b f is h = slash_operates c is
    go false b f is h = absurd cc

operator_token : (line c : ℕ) (cs : List ℕ) → Operates c → token_at line c cs ≡ marked line (mark_at c cs)
unfolding token_at plain_token
operator_token line c cs h = rw (h.no_format, h.no_quote, h.no_raw, h.no_word, h.no_digit) refl

abbrev AfterLeast : ℕ → Option (Mark × ℕ) → Type 0
AfterLeast m None = Unit {0}
AfterLeast m (Some x) = m ≤ x.1

marked_least : (m line : ℕ) (o : Option (Mark × ℕ)) (t : Match) → AfterLeast m o → marked line o ≡ the_match t → m ≤ t.after
marked_least m line None t h is = absurd cc
marked_least m line (Some x) t h is = let e = ap (λ (w : Match). w.after) (match_is (record { kind = mark x.0; after = x.1; next = line }) t is) in omega (arith, h, e)

two_least : (c d : ℕ) (cs : List ℕ) (k : Mark) → mark_of_two c d ≡ Some k → AfterLeast 1 (mark_at c (d ∷ cs))
unfolding mark_at
two_least c d [] k is = rw is (omega arith)
two_least c d (e ∷ cs) k is = go (mark_of_three c d e)
  where
    go : (o : Option Mark) → AfterLeast 1 (else_try (sized 2 o) (else_try (sized 1 (mark_of_two c d)) (sized 0 (mark_of_one c))))
    go (Some m) = omega arith
    go None = rw is (omega arith)

three_least : (c d e : ℕ) (cs : List ℕ) (k : Mark) → mark_of_three c d e ≡ Some k → AfterLeast 2 (mark_at c (d ∷ e ∷ cs))
unfolding mark_at
three_least c d e cs k is = rw is (omega arith)

operator_longest : (line c m : ℕ) (cs : List ℕ) (k : Mark) → m ≤ length cs → mark_of_text c (take m cs) ≡ Some k → Longer m (segment_at line c cs)
operator_longest line c zero cs k le is matched = omega arith
operator_longest line c (suc m) [] k le is matched = absurd (omega arith)
operator_longest line c (suc zero) (d ∷ cs) k le is matched =
    let ops = two_operates c d k is in
    at_token 1 line c (d ∷ cs) ops.plain (of_token 1 line (token_at line c (d ∷ cs)) (λ t e. marked_least 1 line (mark_at c (d ∷ cs)) t (two_least c d cs k is) (sym (operator_token line c (d ∷ cs) ops) ∙ e))) matched
operator_longest line c (suc (suc m)) (d ∷ []) k le is matched = absurd (omega arith)
operator_longest line c (suc (suc zero)) (d ∷ e ∷ cs) k le is matched =
    let ops = three_operates c d e k is in
    at_token 2 line c (d ∷ e ∷ cs) ops.plain (of_token 2 line (token_at line c (d ∷ e ∷ cs)) (λ t f. marked_least 2 line (mark_at c (d ∷ e ∷ cs)) t (three_least c d e cs k is) (sym (operator_token line c (d ∷ e ∷ cs) ops) ∙ f))) matched
operator_longest line c (suc (suc (suc m))) (d ∷ e ∷ []) k le is matched = absurd (omega arith)
operator_longest line c (suc (suc (suc m))) (d ∷ e ∷ f ∷ cs) k le is matched = absurd cc

note_longest : (line c m : ℕ) (cs : List ℕ) → m ≤ length cs → c ≡ 35 → list_all in_comment (take m cs) ≡ true → Longer m (segment_at line c cs)
unfolding segment_at
note_longest line c m cs le is all = subst (λ x. Longer m (segment_at line x cs)) (sym is) (λ matched. prefix_ge in_comment m cs le all)

pub none_longer : NoneLonger
none_longer word line c m cs le h matched = at_token m line c cs (word_plain c h.0) (of_token m line (token_at line c cs) (λ t e. word_inside line c m cs le h.0 h.1 t e)) matched
none_longer number line c m cs le h matched = at_token m line c cs (digit_plain c h.0) (of_token m line (token_at line c cs) (λ t e. number_inside line c m cs le h.0 h.1 t e)) matched
none_longer operator line c m cs le h matched = operator_longest line c m cs h.0 le h.1 matched
none_longer note line c m cs le h matched = note_longest line c m cs le h.0 h.1 matched
