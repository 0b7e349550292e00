-- The table of keywords, row by row.
use Rattle.std.proofs.Common.{◌≡◌, ℕ, Bool, true, false, cond, List, [], ◌∷◌, Option, Some, refl, sym, ap, ◌∙◌}
use Rattle.std.proofs.lemmas.Slice.Eq.{bytes_eq-Decides}
use Rattle.std.proofs.lemmas.Str.{encodes_same}
use Rattle.std.specs.Prelude.{encode_utf8_all}
use Rattle.py_token.specs.declared.token.Keyword.{Keyword}
use Rattle.py_token.specs.Words.{same_text, keyword_in, keyword_table, keyword_of, kind_of_word, word_kind}

-- each row is spelled by one byte a character
abbrev pub ArePlain : List (List ℕ × Keyword) → Type 0
ArePlain [] = Unit {0}
ArePlain (row ∷ rows) = (encode_utf8_all row.0 ≡ row.0) × ArePlain rows

plain_test : (word spelling : List ℕ) → encode_utf8_all spelling ≡ spelling → same_text (encode_utf8_all word) spelling ≡ same_text word spelling
plain_test word spelling plain = go (same_text (encode_utf8_all word) spelling) (same_text word spelling) refl refl
  where
    go : (a b : Bool) → same_text (encode_utf8_all word) spelling ≡ a → same_text word spelling ≡ b → a ≡ b
    go true true is same = refl
    go false false is same = refl
    go false true is same = sym is ∙ (bytes_eq-Decides (encode_utf8_all word) spelling).1 (ap encode_utf8_all ((bytes_eq-Decides word spelling).0 same) ∙ plain)
    go true false is same = sym ((bytes_eq-Decides word spelling).1 (encodes_same word spelling ((bytes_eq-Decides (encode_utf8_all word) spelling).0 is ∙ sym plain))) ∙ same

plain_rows : (rows : List (List ℕ × Keyword)) (word : List ℕ) → ArePlain rows → keyword_in rows (encode_utf8_all word) ≡ keyword_in rows word
plain_rows [] word plain = refl
plain_rows (row ∷ rows) word plain = ap (λ b. cond b (Some row.1) (keyword_in rows (encode_utf8_all word))) (plain_test word row.0 plain.0) ∙ ap (λ k. cond (same_text word row.0) (Some row.1) k) (plain_rows rows word plain.1)

-- a word's keyword is that of its bytes
pub keyword_of-bytes : (word : List ℕ) → keyword_of (encode_utf8_all word) ≡ keyword_of word
unfolding keyword_of lib.Utf8.encode
keyword_of-bytes word = plain_rows keyword_table word (refl, (refl, (refl, (refl, (refl, (refl, (refl, (refl, (refl, (refl, (refl, (refl, (refl, (refl, (refl, (refl, (refl, (refl, (refl, (refl, (refl, (refl, (refl, (refl, (refl, (refl, (refl, (refl, (refl, (refl, (refl, (refl, (refl, (refl, (refl, tt)))))))))))))))))))))))))))))))))))

-- the kind of a word, by the bytes of its text
pub kind_found : (word text bytes : List ℕ) (k : Option Keyword) → text ≡ word → bytes ≡ encode_utf8_all text → k ≡ keyword_of bytes → word_kind word ≡ kind_of_word k text
kind_found word text bytes k same encoded is =
    ap (λ o. kind_of_word o word) (sym (keyword_of-bytes word) ∙ ap (λ t. keyword_of (encode_utf8_all t)) (sym same) ∙ ap keyword_of (sym encoded) ∙ sym is)
    ∙ ap (kind_of_word k) (sym same)
