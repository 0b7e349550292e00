-- The characters of a text's bytes.
use Rattle.std.proofs.Common.{◌≡◌, ◌≤◌, Some, None, ◌<◌, ◌+◌, ◌-◌, min, take, drop, ℕ, zero, suc, subst, length-append, Bool, true, false, IsTrue, ◌==◌, ◌&&◌, List, [], ◌∷◌, ◌++◌, refl, sym, ◌∙◌, ap, append-nil, length, arith}
use Rattle.std.specs.Str.{chars, IsUtf8, IsAscii, encode_utf8_all}
use Rattle.std.specs.List.{slice_index, slice_get}
use Rattle.std.proofs.Math.Dec.{ltb}
use Rattle.std.proofs.lemmas.Str.Ascii.{IsAscii-nil}
use Rattle.std.proofs.lemmas.Bool.{eqb-true, ltb-true}
use Rattle.std.specs.Char.{encode_utf8, len_utf8}
use Rattle.std.proofs.lemmas.Str.{chars-append, chars-encodes, chars-nil, length-encode, len_utf8_bounds, length-le-encodes, encode_ascii, IsAscii-append, IsAscii-take, IsAscii-drop, chars-IsAscii}
use Rattle.std.proofs.lemmas.Option.{slice_get-get_or, slice_get_past}
use Rattle.std.proofs.lemmas.List.{take_min, drop_min, length-drop}
use lib.Utf8.{scalars, scalar}

one_scalar : (c : ℕ) → scalar c ≡ true → scalars (c ∷ []) ≡ true
one_scalar c s = ap (λ b. b && true) s

-- one more character
pub chars-push : (bs : List ℕ) (c : ℕ) → IsUtf8 bs → scalar c ≡ true → chars (bs ++ encode_utf8 c) ≡ chars bs ++ c ∷ []
chars-push bs c u s =
    chars-append bs (encode_utf8 c) u
    ∙ ap (λ cs. chars bs ++ cs) (ap chars (sym (append-nil (encode_utf8 c))) ∙ chars-encodes (c ∷ []) (one_scalar c s))

-- a text is empty where its bytes are
pub empty_text : (bs cs : List ℕ) → bs ≡ encode_utf8_all cs → chars bs ≡ cs → (IsTrue (length bs == 0) → cs ≡ []) × (cs ≡ [] → IsTrue (length bs == 0))
empty_text [] cs e f = ((λ _. sym f ∙ chars-nil), (λ _. refl))
empty_text (b ∷ bs) [] e f = ((λ _. refl), (λ _. cc))
empty_text (b ∷ bs) (c ∷ cs) e f = ((λ h. absurd (omega (arith, eqb-true (length (b ∷ bs)) 0 h))), (λ h. cc))

-- a text of as many bytes as characters is ASCII
long : (c : ℕ) → ltb c 128 ≡ false → 1 < len_utf8 c
long c e = either (ltb c 0x800) (ltb c 0x1_0000) refl refl
  where
    either : (a b : Bool) → ltb c 0x800 ≡ a → ltb c 0x1_0000 ≡ b → 1 < len_utf8 c
    either true b f g = rw (e, f) (omega arith)
    either false true f g = rw (e, f, g) (omega arith)
    either false false f g = rw (e, f, g) (omega arith)

one_byte : (c : ℕ) → length (encode_utf8 c) ≡ 1 → c < 128
one_byte c h = either (ltb c 128) refl
  where
    either : (b : Bool) → ltb c 128 ≡ b → c < 128
    either true e = ltb-true c 128 e
    either false e = absurd (omega (arith, long c e, sym (length-encode c) ∙ h))

one_small : (c i : ℕ) → c < 128 → slice_index (c ∷ []) i < 128
one_small c zero l = l
one_small c (suc i) l = omega arith

pub ascii_by_length : (cs : List ℕ) → length (encode_utf8_all cs) ≡ length cs → IsAscii (encode_utf8_all cs)
ascii_by_length [] e = IsAscii-nil
ascii_by_length (c ∷ cs) e =
    let l = length-append (encode_utf8 c) (encode_utf8_all cs) in
    let b = (len_utf8_bounds c).0 in
    let w = length-encode c in
    let m = length-le-encodes cs in
    let o : length (encode_utf8 c) ≡ 1 = omega (arith, e, l, b, w, m) in
    let s = encode_ascii c (one_byte c o) in
    let P : List ℕ → Type 0 = IsAscii in
    IsAscii-append (encode_utf8 c) (encode_utf8_all cs) (subst P (sym s) (λ i. one_small c i (one_byte c o))) (ascii_by_length cs (omega (arith, e, l, o)))

-- a part of an ASCII text, by bytes
pub ascii_part : (bs rs : List ℕ) (from m first count : ℕ) → IsAscii bs → from ≡ min first (length bs) → m ≡ min count (length bs - from) → rs ≡ take ((from + m) - from) (drop from bs)
    → chars rs ≡ take count (drop first (chars bs))
ascii_part bs rs from m first count a e f g =
    let n : (from + m) - from ≡ m = omega arith in
    let k : m ≡ min count (length (drop from bs)) = f ∙ ap (min count) (sym (length-drop from bs)) in
    let d : drop from bs ≡ drop first bs = ap (λ i. drop i bs) e ∙ drop_min first bs in
    let t : rs ≡ take count (drop first bs) = g ∙ ap (λ i. take i (drop from bs)) (n ∙ k) ∙ take_min count (drop from bs) ∙ ap (take count) d in
    ap chars t ∙ chars-IsAscii (take count (drop first bs)) (IsAscii-take (drop first bs) count (IsAscii-drop bs first a)) ∙ ap (λ cs. take count (drop first cs)) (sym (chars-IsAscii bs a))

-- a character of an ASCII text, by bytes
pub ascii_item : (ds bs : List ℕ) (i : ℕ) → ds ≡ bs → IsAscii bs → i < length bs → Some (slice_index ds i) ≡ slice_get (chars bs) i
ascii_item ds bs i e a l = ap (λ cs. Some (slice_index cs i)) e ∙ sym (ap (λ cs. slice_get cs i) (chars-IsAscii bs a) ∙ slice_get-get_or bs i 0 l)

pub no_ascii_item : (bs : List ℕ) (i : ℕ) → IsAscii bs → length bs ≤ i → None ≡ slice_get (chars bs) i
no_ascii_item bs i a l = sym (ap (λ cs. slice_get cs i) (chars-IsAscii bs a) ∙ slice_get_past bs i l)
