-- A text that is cut at each place of a separator, by bytes and by characters.
use Rattle.std.proofs.Common.{◌≡◌, ◌≢◌, ℕ, zero, suc, ◌+◌, ◌-◌, ◌<◌, ◌≤◌, Bool, true, false, cond, List, [], ◌∷◌, ◌++◌, length, get_or, take, drop, Some, None, refl, ap, sym, ◌∙◌, subst, arith, append_assoc, append-nil, length-append}
use Rattle.std.specs.Str.{chars, IsUtf8, IsCharBoundary, encode_utf8_all}
use Rattle.std.specs.Str.Pattern.{FindsText, LacksTextAt}
use Rattle.std.proofs.lemmas.Str.{encodes-append, encodes-chars, length-le-encodes, IsCharBoundary-start, IsUtf8-take, chars-nil}
use Rattle.std.proofs.lemmas.List.{take-append-drop}
use Rattle.std.proofs.Math.Seq.{take-append_seam, drop-append_seam}
use Rattle.py_value.specs.Plain.{PlainValue, str_value}
use Rattle.py_text.proofs.Parts.{seam_byte, front_byte, chars-part}
use Rattle.py_value.specs.Sequences.{begins}
use Rattle.py_builtins.specs.Methods.{before_first, parts_between, texts}
use Rattle.py_builtins.proofs.Starts.{begins_itself, begun, not_begun}

-- no separator begins in the front of a text with this after it
abbrev pub Clear : List ℕ → List ℕ → List ℕ → Type 0
Clear t [] after = Unit {0}
Clear t (c ∷ cs) after = (begins t (c ∷ cs ++ after) ≡ false) × Clear t cs after

cut_at : (t cs : List ℕ) (c : ℕ) (b : Bool) → begins t (c ∷ cs) ≡ b → parts_between t zero (c ∷ cs) ≡ cond b ([] ∷ parts_between t (length t - 1) cs) (before_first c (parts_between t zero cs))
cut_at t cs c b e = ap (λ x. cond x ([] ∷ parts_between t (length t - 1) cs) (before_first c (parts_between t zero cs))) e

passed : (t xs post : List ℕ) → parts_between t (length xs) (xs ++ post) ≡ parts_between t zero post
passed t [] post = refl
passed t (x ∷ xs) post = passed t xs post

-- the first part ends where the separator first stands
pub cut_first : (t pre post : List ℕ) → 0 < length t → Clear t pre (t ++ post) → parts_between t zero (pre ++ (t ++ post)) ≡ pre ∷ parts_between t zero post
cut_first [] [] post l h = absurd (omega arith)
cut_first (c ∷ t) [] post l h =
    let less : length (c ∷ t) - 1 ≡ length t = omega arith in
    cut_at (c ∷ t) (t ++ post) c true (begins_itself (c ∷ t) post) ∙ ap (λ k. [] ∷ parts_between (c ∷ t) k (t ++ post)) less ∙ ap (λ ps. [] ∷ ps) (passed (c ∷ t) t post)
cut_first t (c ∷ pre) post l h =
    cut_at t (pre ++ (t ++ post)) c false h.0 ∙ ap (before_first c) (cut_first t pre post l h.1)

-- a text in which it stands nowhere is one part
pub cut_nowhere : (t cs : List ℕ) → Clear t cs [] → parts_between t zero cs ≡ cs ∷ []
cut_nowhere t [] h = refl
cut_nowhere t (c ∷ cs) h =
    cut_at t cs c false (ap (λ xs. begins t (c ∷ xs)) (sym (append-nil cs)) ∙ h.0) ∙ ap (before_first c) (cut_nowhere t cs h.1)

-- bytes that don't stand in a text before a place, and the characters
pub clear_before : (t done pre after bs p : List ℕ) (n : ℕ) → ((i : ℕ) → i < n → LacksTextAt p bs i) → p ≡ encode_utf8_all t → bs ≡ encode_utf8_all (done ++ (pre ++ after)) → length (encode_utf8_all (done ++ pre)) ≤ n → Clear t pre after
clear_before t done [] after bs p n lacks e f l = tt
clear_before t done (c ∷ pre) after bs p n lacks e f l = (
  not_begun (begins t (c ∷ pre ++ after)) stands,
  clear_before t (done ++ c ∷ []) pre after bs p n lacks e (f ∙ ap encode_utf8_all (sym (append_assoc done (c ∷ []) (pre ++ after)))) (omega (arith, l, ap (λ xs. length (encode_utf8_all xs)) (append_assoc done (c ∷ []) pre))),
)
  where
    stands : begins t (c ∷ pre ++ after) ≡ true → ⊥
    stands h =
        let w : (post : List ℕ) × (c ∷ pre ++ after ≡ t ++ post) = begun t (c ∷ pre ++ after) h in
        let k : length (encode_utf8_all done) < n = omega (arith, l, ap length (encodes-append done (c ∷ pre)), length-append (encode_utf8_all done) (encode_utf8_all (c ∷ pre)), length-le-encodes (c ∷ pre)) in
        lacks (length (encode_utf8_all done)) k (encode_utf8_all w.0)
        (ap (drop (length (encode_utf8_all done))) (f ∙ encodes-append done (c ∷ pre ++ after)) ∙ drop-append_seam (encode_utf8_all done) (encode_utf8_all (c ∷ pre ++ after))
        ∙ ap encode_utf8_all w.1 ∙ encodes-append t w.0 ∙ ap (λ xs. xs ++ encode_utf8_all w.0) (sym e))

-- ---- by bytes

boundary : (a x b : List ℕ) → IsUtf8 x → 0 < length x → IsCharBoundary (a ++ (x ++ b)) (length a)
boundary a x b u l =
    let e : get_or (a ++ (x ++ b)) (length a) 0 ≡ get_or x 0 0 = seam_byte a (x ++ b) ∙ front_byte x b l in
    let start : IsCharBoundary x 0 = IsCharBoundary-start x u in
    (omega (arith, length-append a (x ++ b)), λ inside high. omega (arith, e, start.1 l (omega (arith, e))))

front_spelled : (bs a x b : List ℕ) → IsUtf8 bs → IsUtf8 x → bs ≡ a ++ (x ++ b) → 0 < length x → encode_utf8_all (chars a) ≡ a
front_spelled bs a x b u v e l =
    let whole : IsUtf8 (a ++ (x ++ b)) = let P : List ℕ → Type 0 = IsUtf8 in subst P e u in
    encodes-chars a (let P : List ℕ → Type 0 = IsUtf8 in subst P (take-append_seam a (x ++ b)) (IsUtf8-take (a ++ (x ++ b)) (length a) whole (boundary a x b v l)))

some_byte : (p : List ℕ) → chars p ≢ [] → 0 < length p
some_byte [] h = absurd (h chars-nil)
some_byte (b ∷ p) h = omega arith

some_character : (cs : List ℕ) → cs ≢ [] → 0 < length cs
some_character [] h = absurd (h refl)
some_character (c ∷ cs) h = omega arith

-- the separator was found
pub cut_found : (p bs a b : List ℕ) (i j : ℕ) → IsUtf8 p → IsUtf8 bs → chars p ≢ [] → FindsText p bs (Some (i, j)) → a ≡ take i bs → b ≡ drop j bs → length a ≡ i
    → parts_between (chars p) 0 (chars bs) ≡ chars a ∷ parts_between (chars p) 0 (chars b)
cut_found p bs a b i j v u h f e g n =
    let some : 0 < length p = some_byte p h in
    let spelled : p ≡ encode_utf8_all (chars p) = sym (encodes-chars p v) in
    let whole : bs ≡ a ++ (p ++ b) = sym (take-append-drop i bs) ∙ ap (λ xs. take i bs ++ xs) f.1.split ∙ ap (λ xs. xs ++ (p ++ drop j bs)) (sym e) ∙ ap (λ xs. a ++ (p ++ xs)) (sym g) in
    let all : chars bs ≡ chars a ++ (chars p ++ chars b) = chars-part bs a p b u v whole some in
    let front : encode_utf8_all (chars a) ≡ a = front_spelled bs a p b u v whole some in
    ap (parts_between (chars p) 0) all
    ∙ cut_first (chars p) (chars a) (chars b) (some_character (chars p) h)
    (clear_before (chars p) [] (chars a) (chars p ++ chars b) bs p i f.0 spelled (sym (encodes-chars bs u) ∙ ap encode_utf8_all all) (omega (arith, ap length front, n)))

-- it stands nowhere
pub cut_lacking : (p bs : List ℕ) → IsUtf8 p → IsUtf8 bs → FindsText p bs None → parts_between (chars p) 0 (chars bs) ≡ chars bs ∷ []
cut_lacking p bs v u f =
    let spelled : encode_utf8_all (chars bs) ≡ bs = encodes-chars bs u in
    cut_nowhere (chars p) (chars bs)
    (clear_before (chars p) [] (chars bs) [] bs p (suc (length bs)) (λ i l. f i (omega arith)) (sym (encodes-chars p v)) (sym spelled ∙ ap encode_utf8_all (sym (append-nil (chars bs)))) (omega (arith, ap length spelled)))

-- ---- the loop

pub parts_on : (p bs a b : List ℕ) (now next want : List PlainValue) → parts_between p 0 bs ≡ a ∷ parts_between p 0 b → next ≡ now ++ str_value a ∷ [] → now ++ texts (parts_between p 0 bs) ≡ want → next ++ texts (parts_between p 0 b) ≡ want
parts_on p bs a b now next want e n h =
    ap (λ vs. vs ++ texts (parts_between p 0 b)) n ∙ append_assoc now (str_value a ∷ []) (texts (parts_between p 0 b)) ∙ ap (λ ps. now ++ texts ps) (sym e) ∙ h

pub parts_end : (p bs : List ℕ) (now next want : List PlainValue) → parts_between p 0 bs ≡ bs ∷ [] → next ≡ now ++ str_value bs ∷ [] → now ++ texts (parts_between p 0 bs) ≡ want → next ≡ want
parts_end p bs now next want e n h = n ∙ ap (λ ps. now ++ texts ps) (sym e) ∙ h

-- less is left
pub cut_shorter : (p b bs : List ℕ) (i j : ℕ) → chars p ≢ [] → j ≡ i + length p → length b + j ≡ length bs → length b < length bs
cut_shorter p b bs i j h e f = omega (arith, e, f, some_byte p h)
