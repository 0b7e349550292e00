-- A token lies within the text, and its last line is one of the text's.
use Rattle.std.proofs.Common.{◌≡◌, ◌≤◌, ◌<◌, ◌+◌, ◌-◌, ℕ, zero, suc, Bool, true, false, cond, ◌&&◌, List, [], ◌∷◌, length, drop, Option, Some, None, Result, Ok, Err, refl, ap, subst, ◌∙◌, arith, length-drop, add-one}
use Rattle.std.specs.List.{prefix_len, take_while}
use Rattle.std.specs.Char.{is_ascii_digit}
use Rattle.std.proofs.lemmas.List.Sums.{prefix_len-le-length}
use Rattle.py_token.specs.declared.error.TokenError.{TokenError}
use Rattle.py_token.specs.declared.token.Mark.{Mark}
use Rattle.py_token.specs.Plain.{PKind, str, mark}
use Rattle.py_token.specs.Source.{line_count}
use Rattle.py_token.specs.Words.{begins_name, in_name, word_kind}
use Rattle.py_token.specs.Numbers.{in_number, number_of, kind_of_number}
use Rattle.py_token.specs.Marks.{mark_of_one, mark_of_two, mark_of_three, sized, else_try, mark_at}
use Rattle.py_token.specs.Strings.{◌>>=◌, doubled, Body, text_item, body_of, text_body}
use Rattle.py_token.specs.Rules.{Match, is_quote, begins_quote, is_raw_prefix, joined, match_text, string_at, after_prefix, raw_string, word_at, number_at, marked, plain_token}
use Rattle.std.proofs.lemmas.List.{drop-drop}
use Rattle.py_token.proofs.Lines.{line_count-cons, line_count-drop}
use Rattle.py_token.proofs.Fair.{text_fair}
use Rattle.py_token.proofs.Bodies.{Bounded, bounded}

pub record FairToken (line c : ℕ) (cs : List ℕ) (t : Match) : Type 0 where
  pub within : t.after ≤ length cs
  pub lines : t.next + line_count (drop t.after cs) ≤ line + line_count (c ∷ cs)
  pub on_line : t.next < line + line_count (c ∷ cs)
  pub later : line ≤ t.next

abbrev pub the_match : Match → Result Match TokenError
the_match t = Ok t

pub match_is : (a b : Match) → the_match a ≡ the_match b → a ≡ b
match_is a b h = cc

-- a token on one line
pub one_line : (line c : ℕ) (cs : List ℕ) (kind : PKind) (after : ℕ) → after ≤ length cs → FairToken line c cs (record { kind = kind; after = after; next = line })
one_line line c cs kind after within = record {
  within = within;
  lines = let d = line_count-drop after cs in let h = (line_count-cons c cs).0 in omega (arith, d, h);
  on_line = let h = (line_count-cons c cs).1 in omega (arith, h);
  later = omega arith;
}

suffix_place : (k : ℕ) (cs rest : List ℕ) → rest ≡ drop k cs → rest ≡ drop (length cs - length rest) cs
suffix_place zero cs rest is = let l = ap length is in let e : zero ≡ length cs - length rest = omega (arith, l) in is ∙ ap (λ n. drop n cs) e
suffix_place (suc k) [] rest is = is ∙ empty (length {A = ℕ} [] - length rest)
  where
    empty : (n : ℕ) → drop {A = ℕ} (suc k) [] ≡ drop n []
    empty zero = refl
    empty (suc n) = refl
suffix_place (suc k) (c ∷ cs) rest is =
    let l = ap length is in let d = length-drop k cs in
    let e : suc (length cs - length rest) ≡ length (c ∷ cs) - length rest = omega (arith, l, d) in
    suffix_place k cs rest is ∙ ap (λ n. drop n (c ∷ cs)) e

-- a string that was read from a place in the text
pub string_fair : {A : Type 0} (line c j : ℕ) (cs : List ℕ) (kind : PKind) (b : Body A) → Bounded line (drop j cs) b → FairToken line c cs (record { kind = kind; after = length cs - length b.rest; next = b.next })
string_fair line c j cs kind b h =
    let within = h.within in
    let lines = h.lines in
    let on = h.on_line in
    let later = h.later in
    let d = line_count-drop j cs in
    let more = (line_count-cons c cs).0 in
    let same : b.rest ≡ drop (length cs - length b.rest) cs = suffix_place (j + h.suffix.0) cs b.rest (h.suffix.1 ∙ drop-drop h.suffix.0 j cs) in
    let e = ap line_count same in
    record { within = omega arith; lines = omega (arith, lines, d, more, e); on_line = omega (arith, on, d, more); later = later }

text_match_fair : (raw triple : Bool) (quote line c j : ℕ) (cs : List ℕ) (t : Match) → match_text cs (text_body raw quote triple line (drop j cs)) ≡ the_match t → FairToken line c cs t
unfolding text_body
text_match_fair raw triple quote line c j cs t is = go (body_of (text_item raw quote triple line) line 0 line (drop j cs)) refl is
  where
    go : (r : Result (Body (List ℕ)) TokenError) → body_of (text_item raw quote triple line) line 0 line (drop j cs) ≡ r → match_text cs r ≡ the_match t → FairToken line c cs t
    go (Ok b) reads is = subst (λ w. FairToken line c cs w) (match_is (record { kind = str (joined b.values); after = length cs - length b.rest; next = b.next }) t is) (string_fair line c j cs (str (joined b.values)) b (bounded (text_item raw quote triple line) (text_fair raw quote triple line) line 0 line (drop j cs) b reads))
    go (Err e) reads is = absurd cc

string_at_fair : (raw : Bool) (line c quote : ℕ) (cs : List ℕ) (t : Match) → string_at raw line quote cs ≡ the_match t → FairToken line c cs t
string_at_fair raw line c quote cs t is = go (doubled quote cs) is
  where
    go : (b : Bool) → cond b (match_text cs (text_body raw quote true line (drop 2 cs))) (match_text cs (text_body raw quote false line cs)) ≡ the_match t → FairToken line c cs t
    go true is = text_match_fair raw true quote line c 2 cs t is
    go false is = text_match_fair raw false quote line c 0 cs t is

-- a string after its prefix
pub prefix_fair : (line c d : ℕ) (ds : List ℕ) (r : Result Match TokenError) (t : Match) → ((u : Match) → r ≡ the_match u → FairToken line d ds u) → after_prefix r ≡ the_match t → FairToken line c (d ∷ ds) t
prefix_fair line c d ds (Ok u) t fair is =
    let h = fair u refl in
    let within = h.within in
    let lines = h.lines in
    let on = h.on_line in
    let later = h.later in
    let more = (line_count-cons c (d ∷ ds)).0 in
    let e = ap (λ k. line_count (drop k (d ∷ ds))) (add-one u.after) in
    let there : FairToken line c (d ∷ ds) (record u { after = u.after + 1 }) = record { within = omega (arith, within); lines = omega (arith, lines, more, e); on_line = omega (arith, on, more); later = later } in
    subst (λ w. FairToken line c (d ∷ ds) w) (match_is (record u { after = u.after + 1 }) t is) there
prefix_fair line c d ds (Err e) t fair is = absurd cc

raw_string_fair : (line c : ℕ) (cs : List ℕ) (t : Match) → raw_string line cs ≡ the_match t → FairToken line c cs t
raw_string_fair line c [] t is = absurd cc
raw_string_fair line c (d ∷ ds) t is = prefix_fair line c d ds (string_at true line d ds) t (λ u e. string_at_fair true line d d ds u e) is

abbrev MarkWithin : List ℕ → Option (Mark × ℕ) → Type 0
MarkWithin cs None = Unit {0}
MarkWithin cs (Some m) = m.1 ≤ length cs

sized_within : (cs : List ℕ) (n : ℕ) (o : Option Mark) → n ≤ length cs → MarkWithin cs (sized n o)
sized_within cs n None h = tt
sized_within cs n (Some m) h = h

either_within : (cs : List ℕ) (a b : Option (Mark × ℕ)) → MarkWithin cs a → MarkWithin cs b → MarkWithin cs (else_try a b)
either_within cs None b ha hb = hb
either_within cs (Some m) b ha hb = ha

mark_within : (c : ℕ) (cs : List ℕ) → MarkWithin cs (mark_at c cs)
unfolding mark_at
mark_within c [] = sized_within [] 0 (mark_of_one c) (omega arith)
mark_within c (d ∷ []) = either_within (d ∷ []) (sized 1 (mark_of_two c d)) (sized 0 (mark_of_one c)) (sized_within (d ∷ []) 1 (mark_of_two c d) (omega arith)) (sized_within (d ∷ []) 0 (mark_of_one c) (omega arith))
mark_within c (d ∷ e ∷ cs) =
    either_within (d ∷ e ∷ cs) (sized 2 (mark_of_three c d e)) (else_try (sized 1 (mark_of_two c d)) (sized 0 (mark_of_one c)))
    (sized_within (d ∷ e ∷ cs) 2 (mark_of_three c d e) (omega arith))
    (either_within (d ∷ e ∷ cs) (sized 1 (mark_of_two c d)) (sized 0 (mark_of_one c)) (sized_within (d ∷ e ∷ cs) 1 (mark_of_two c d) (omega arith)) (sized_within (d ∷ e ∷ cs) 0 (mark_of_one c) (omega arith)))

marked_fair : (line c : ℕ) (cs : List ℕ) (o : Option (Mark × ℕ)) (t : Match) → MarkWithin cs o → marked line o ≡ the_match t → FairToken line c cs t
marked_fair line c cs None t within is = absurd cc
marked_fair line c cs (Some m) t within is = subst (λ w. FairToken line c cs w) (match_is (record { kind = mark m.0; after = m.1; next = line }) t is) (one_line line c cs (mark m.0) m.1 within)

word_fair : (line c : ℕ) (cs : List ℕ) (t : Match) → word_at line c cs ≡ the_match t → FairToken line c cs t
word_fair line c cs t is = subst (λ w. FairToken line c cs w) (match_is (record { kind = word_kind (c ∷ take_while in_name cs); after = prefix_len in_name cs; next = line }) t is) (one_line line c cs (word_kind (c ∷ take_while in_name cs)) (prefix_len in_name cs) (prefix_len-le-length in_name cs))

number_fair : (line c : ℕ) (cs : List ℕ) (r : Result PKind TokenError) (t : Match) → (r >>= λ k. the_match (record { kind = k; after = prefix_len in_number cs; next = line })) ≡ the_match t → FairToken line c cs t
number_fair line c cs (Ok k) t is = subst (λ w. FairToken line c cs w) (match_is (record { kind = k; after = prefix_len in_number cs; next = line }) t is) (one_line line c cs k (prefix_len in_number cs) (prefix_len-le-length in_number cs))
number_fair line c cs (Err e) t is = absurd cc

pub plain_fair : (line c : ℕ) (cs : List ℕ) (t : Match) → plain_token line c cs ≡ the_match t → FairToken line c cs t
unfolding plain_token
plain_fair line c cs t is = go (is_quote c) (is_raw_prefix c && begins_quote cs) (begins_name c) (is_ascii_digit c) is
  where
    go : (q r n d : Bool) → cond q (string_at false line c cs) (cond r (raw_string line cs) (cond n (word_at line c cs) (cond d (number_at line c cs) (marked line (mark_at c cs))))) ≡ the_match t → FairToken line c cs t
    go true r n d is = string_at_fair false line c c cs t is
    go false true n d is = raw_string_fair line c cs t is
    go false false true d is = word_fair line c cs t is
    go false false false true is = number_fair line c cs (kind_of_number line (number_of c (take_while in_number cs))) t is
    go false false false false is = marked_fair line c cs (mark_at c cs) t (mark_within c cs) is
