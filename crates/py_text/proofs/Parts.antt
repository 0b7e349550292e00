-- A text that is a part of another: by bytes and by characters.
use Rattle.std.proofs.Common.{◌≡◌, ℕ, ◌<◌, Bool, true, false, ◌||◌, IsTrue, List, [], ◌∷◌, ◌++◌, length, get_or, refl, ap, sym, ◌∙◌, arith, nat_eq, length-append, subst}
use Rattle.std.proofs.lemmas.Bool.{eqb-true, eq-eqb}
use Rattle.std.proofs.Math.Seq.{take-append_seam}
use Rattle.std.specs.Str.{chars, IsUtf8, IsCharBoundary, encode_utf8_all}
use Rattle.std.specs.Str.Iter.{HasSubslice}
use Rattle.std.proofs.lemmas.Str.{chars-append, encodes-append, IsCharBoundary-start, IsUtf8-take, chars-nil}
use Rattle.py_text.specs.Parts.{begins, is_part}
use Rattle.py_text.proofs.TestLaws.{both_true, first_true, second_true}

-- the first byte after a front
pub seam_byte : (a ys : List ℕ) → get_or (a ++ ys) (length a) 0 ≡ get_or ys 0 0
seam_byte [] ys = refl
seam_byte (x ∷ a) ys = seam_byte a ys

pub front_byte : (x b : List ℕ) → 0 < length x → get_or (x ++ b) 0 0 ≡ get_or x 0 0
front_byte [] b l = absurd (omega arith)
front_byte (y ∷ x) b l = refl

boundary : (a x b : List ℕ) → IsUtf8 x → 0 < length x → IsCharBoundary (a ++ (x ++ b)) (length a)
boundary a x b u l =
    let e : get_or (a ++ (x ++ b)) (length a) 0 ≡ get_or x 0 0 = seam_byte a (x ++ b) ∙ front_byte x b l in
    let start : IsCharBoundary x 0 = IsCharBoundary-start x u in
    (omega (arith, length-append a (x ++ b)), λ inside high. omega (arith, e, start.1 l (omega (arith, e))))

-- the characters of a text with a part in it
pub chars-part : (bs a x b : List ℕ) → IsUtf8 bs → IsUtf8 x → bs ≡ a ++ (x ++ b) → 0 < length x → chars bs ≡ chars a ++ (chars x ++ chars b)
chars-part bs a x b u v e l =
    let whole : IsUtf8 (a ++ (x ++ b)) = let P : List ℕ → Type 0 = IsUtf8 in subst P e u in
    let at : IsCharBoundary (a ++ (x ++ b)) (length a) = boundary a x b v l in
    let front : IsUtf8 a = let P : List ℕ → Type 0 = IsUtf8 in subst P (take-append_seam a (x ++ b)) (IsUtf8-take (a ++ (x ++ b)) (length a) whole at) in
    ap chars e ∙ chars-append a (x ++ b) front ∙ ap (λ cs. chars a ++ cs) (chars-append x b v)

-- a part is found where it stands
begins_itself : (cs post : List ℕ) → IsTrue (begins cs (cs ++ post))
begins_itself [] post = refl
begins_itself (c ∷ cs) post = both_true (nat_eq c c) _ (eq-eqb c c refl) (begins_itself cs post)

either_left : (a b : Bool) → IsTrue a → IsTrue (a || b)
either_left true b h = refl
either_left false b h = absurd (cc)

either_right : (a b : Bool) → IsTrue b → IsTrue (a || b)
either_right true b h = refl
either_right false b h = h

part_here : (cs ds : List ℕ) → IsTrue (begins cs ds) → IsTrue (is_part cs ds)
part_here cs [] h = h
part_here cs (d ∷ ds) h = either_left (begins cs (d ∷ ds)) (is_part cs ds) h

pub part_found : (cs pre post : List ℕ) → IsTrue (is_part cs (pre ++ (cs ++ post)))
part_found cs [] post = part_here cs (cs ++ post) (begins_itself cs post)
part_found cs (p ∷ pre) post = either_right (begins cs (p ∷ (pre ++ (cs ++ post)))) (is_part cs (pre ++ (cs ++ post))) (part_found cs pre post)

-- what is found is a part
begins_split : (cs ds : List ℕ) → IsTrue (begins cs ds) → (post : List ℕ) × (ds ≡ cs ++ post)
begins_split [] ds h = (ds, refl)
begins_split (c ∷ cs) [] h = absurd (cc)
begins_split (c ∷ cs) (d ∷ ds) h =
    let e : c ≡ d = eqb-true c d (first_true (nat_eq c d) (begins cs ds) h) in
    let w : (post : List ℕ) × (ds ≡ cs ++ post) = begins_split cs ds (second_true (nat_eq c d) (begins cs ds) h) in
    let f : ds ≡ cs ++ w.0 = w.1 in
    (w.0, ap (λ x. x ∷ ds) (sym e) ∙ ap (λ xs. c ∷ xs) f)

pub part_split : (cs ds : List ℕ) → IsTrue (is_part cs ds) → (pre : List ℕ) × (post : List ℕ) × (ds ≡ pre ++ (cs ++ post))
part_split cs [] h = let w : (post : List ℕ) × ([] ≡ cs ++ post) = begins_split cs [] h in ([], w.0, w.1)
part_split cs (d ∷ ds) h = either (λ r. part_split cs ds r) (begins cs (d ∷ ds)) refl
  where
    either : (IsTrue (is_part cs ds) → (pre : List ℕ) × (post : List ℕ) × (ds ≡ pre ++ (cs ++ post))) → (b : Bool) → begins cs (d ∷ ds) ≡ b → (pre : List ℕ) × (post : List ℕ) × (d ∷ ds ≡ pre ++ (cs ++ post))
    either later true e = let w : (post : List ℕ) × (d ∷ ds ≡ cs ++ post) = begins_split cs (d ∷ ds) e in ([], w.0, w.1)
    either later false e =
        let rest : IsTrue (is_part cs ds) = sym (ap (λ b. b || is_part cs ds) e) ∙ h in
        let w : (pre : List ℕ) × (post : List ℕ) × (ds ≡ pre ++ (cs ++ post)) = later rest in
        (d ∷ w.0, w.1, ap (λ xs. d ∷ xs) w.2)

nothing_is_part : (ds : List ℕ) → IsTrue (is_part [] ds)
nothing_is_part [] = refl
nothing_is_part (d ∷ ds) = refl

-- by bytes and by characters
pub part_from_bytes : (bs x cs ds : List ℕ) → IsUtf8 bs → IsUtf8 x → chars bs ≡ ds → chars x ≡ cs → x ≡ encode_utf8_all cs → HasSubslice bs x → IsTrue (is_part cs ds)
part_from_bytes bs [] cs ds u v e f g h = ap (λ k. is_part k ds) (sym f ∙ chars-nil) ∙ nothing_is_part ds
part_from_bytes bs (y ∷ x) cs ds u v e f g h =
    ap (is_part cs) (sym e ∙ chars-part bs h.0 (y ∷ x) h.1 u v h.2 (omega arith) ∙ ap (λ k. chars h.0 ++ (k ++ chars h.1)) f) ∙ part_found cs (chars h.0) (chars h.1)

pub bytes_from_part : (bs x cs ds : List ℕ) → bs ≡ encode_utf8_all ds → x ≡ encode_utf8_all cs → IsTrue (is_part cs ds) → HasSubslice bs x
bytes_from_part bs x cs ds e f h =
    let w : (pre : List ℕ) × (post : List ℕ) × (ds ≡ pre ++ (cs ++ post)) = part_split cs ds h in (
      encode_utf8_all w.0,
      encode_utf8_all w.1,
      e ∙ ap encode_utf8_all w.2 ∙ encodes-append w.0 (cs ++ w.1) ∙ ap (λ ys. encode_utf8_all w.0 ++ ys) (encodes-append cs w.1 ∙ ap (λ ys. ys ++ encode_utf8_all w.1) (sym f)),
    )
