-- Comparing piece by piece gives what parts give, put together.
use Rattle.std.proofs.Common.{◌≡◌, ℕ, zero, suc, Bool, true, false, List, [], ◌∷◌, ◌++◌, refl, ap, sym, ◌∙◌, append_assoc}
use Rattle.std.proofs.lemmas.List.{append-nil}
use Rattle.py_syntax.specs.Functions.{Function}
use Rattle.py_syntax.specs.Tree.{Text}
use Rattle.py_changes.specs.Changed.{Lines, also, where_not, by_parts}
use Rattle.cov_pieces.specs.Words.{Word}
use Rattle.cov_pieces.specs.Pieces.{Piece, word, open_part, inside, close, mark, declared, defined, words, node, header, marks, declaring}
use Rattle.cov_changed.specs.Compared.{same_word, same_words, skipped, compared}
use Rattle.cov_changed.proofs.Words.{Tells, entire}

-- ---- laws of lines

pub also_assoc : (a b c : Lines) → also (also a b) c ≡ also a (also b c)
also_assoc a b c = ap (λ x. (x, (a.1 ++ b.1) ++ c.1)) (append_assoc a.0 b.0 c.0) ∙ ap (λ y. (a.0 ++ (b.0 ++ c.0), y)) (append_assoc a.1 b.1 c.1)

pub also_none : (a : Lines) → also a ([], []) ≡ a
also_none a = ap (λ x. (x, a.1 ++ [])) (append-nil a.0) ∙ ap (λ y. (a.0, y)) (append-nil a.1)

-- ---- pieces that are left out

-- pieces with these marks, in which as many parts begin as end
pub record IsWhole (us : List Piece) (ms : List ℕ) : Type 0 where
  pub old : (d : ℕ) (xs ys : List Piece) → compared (suc d) (us ++ xs) ys ≡ also (ms, []) (compared (suc d) xs ys)
  pub new : (d : ℕ) (ys : List Piece) → skipped (suc d) (us ++ ys) ≡ (ms ++ (skipped (suc d) ys).0, (skipped (suc d) ys).1)

pub old-of : {us : List Piece} {ms : List ℕ} → IsWhole us ms → (d : ℕ) (xs ys : List Piece) → compared (suc d) (us ++ xs) ys ≡ also (ms, []) (compared (suc d) xs ys)
old-of h d xs ys = h.old d xs ys

pub new-of : {us : List Piece} {ms : List ℕ} → IsWhole us ms → (d : ℕ) (ys : List Piece) → skipped (suc d) (us ++ ys) ≡ (ms ++ (skipped (suc d) ys).0, (skipped (suc d) ys).1)
new-of h d ys = h.new d ys

pub whole-none : IsWhole [] []
whole-none = record { old = λ d xs ys. refl; new = λ d ys. refl }

pub whole-mark : (l : ℕ) → IsWhole (mark l ∷ []) (l ∷ [])
whole-mark l = record { old = λ d xs ys. refl; new = λ d ys. refl }

pub whole-defined : (f : Function) → IsWhole (defined f ∷ []) []
whole-defined f = record { old = λ d xs ys. refl; new = λ d ys. refl }

pub whole-word : (w : Word) → IsWhole (word w ∷ []) []
whole-word w = record { old = λ d xs ys. refl; new = λ d ys. refl }

pub whole-inside : IsWhole (inside ∷ []) []
whole-inside = record { old = λ d xs ys. refl; new = λ d ys. refl }

-- one after another
pub whole-both : {us vs : List Piece} {ms ns : List ℕ} → IsWhole us ms → IsWhole vs ns → IsWhole (us ++ vs) (ms ++ ns)
whole-both {us = us} {vs = vs} {ms = ms} {ns = ns} h k = record {
  old = λ d xs ys.
      ap (λ l. compared (suc d) l ys) (append_assoc us vs xs) ∙ old-of h d (vs ++ xs) ys
      ∙ ap (λ z. also (ms, []) z) (old-of k d xs ys) ∙ sym (also_assoc (ms, []) (ns, []) (compared (suc d) xs ys));
  new = λ d ys.
      ap (λ l. skipped (suc d) l) (append_assoc us vs ys) ∙ new-of h d (vs ++ ys)
      ∙ ap (λ z. (ms ++ z.0, z.1)) (new-of k d ys)
      ∙ ap (λ z. (z, (skipped (suc d) ys).1)) (sym (append_assoc ms ns (skipped (suc d) ys).0));
}

pub whole-words : (ws : List Word) → IsWhole (words ws) []
whole-words [] = whole-none
whole-words (w ∷ ws) = whole-both (whole-word w) (whole-words ws)

pub whole-marks : (ls : List ℕ) → IsWhole (marks ls) ls
whole-marks [] = whole-none
whole-marks (l ∷ ls) = whole-both (whole-mark l) (whole-marks ls)

whole-declared : (x : Text) → IsWhole (declared x ∷ []) []
whole-declared x = record { old = λ d xs ys. refl; new = λ d ys. refl }

pub whole-declaring : (xs : List Text) → IsWhole (declaring xs) []
whole-declaring [] = whole-none
whole-declaring (x ∷ xs) = whole-both (whole-declared x) (whole-declaring xs)

-- what stands in a part, with its words in front
whole-within : (ws : List Word) {us : List Piece} {ms : List ℕ} → IsWhole us ms → IsWhole (words ws ++ inside ∷ us) ms
whole-within ws h = whole-both (whole-words ws) (whole-both whole-inside h)

-- the same pieces, as they stand in a part
within-is : (ws : List Word) (us xs : List Piece) → (words ws ++ inside ∷ (us ++ close ∷ [])) ++ xs ≡ (words ws ++ inside ∷ us) ++ (close ∷ xs)
within-is ws us xs =
    append_assoc (words ws) (inside ∷ (us ++ close ∷ [])) xs
    ∙ ap (λ l. words ws ++ inside ∷ l) (append_assoc us (close ∷ []) xs)
    ∙ sym (append_assoc (words ws) (inside ∷ us) (close ∷ xs))

pub whole-node : (ws : List Word) {us : List Piece} {ms : List ℕ} → IsWhole us ms → IsWhole (node ws us) ms
whole-node ws {us = us} {ms = ms} h = record {
  old = λ d xs ys.
      ap (λ l. compared (suc (suc d)) l ys) (within-is ws us xs)
      ∙ old-of (whole-within ws h) (suc d) (close ∷ xs) ys;
  new = λ d ys.
      ap (λ l. skipped (suc (suc d)) l) (within-is ws us ys)
      ∙ new-of (whole-within ws h) (suc d) (close ∷ ys);
}

-- ---- pieces that are compared

-- pieces of both texts that give these changed lines, whatever follows
pub record Follows (us vs : List Piece) (c : Lines) : Type 0 where
  pub follows : (xs ys : List Piece) → compared zero (us ++ xs) (vs ++ ys) ≡ also c (compared zero xs ys)

pub follows-at : {us vs : List Piece} {c : Lines} → Follows us vs c → (xs ys : List Piece) → compared zero (us ++ xs) (vs ++ ys) ≡ also c (compared zero xs ys)
follows-at h xs ys = h.follows xs ys

pub follows-none : Follows [] [] ([], [])
follows-none = record { follows = λ xs ys. refl }

pub follows-both : {us vs ws zs : List Piece} {c e : Lines} → Follows us vs c → Follows ws zs e → Follows (us ++ ws) (vs ++ zs) (also c e)
follows-both {us = us} {vs = vs} {ws = ws} {zs = zs} {c = c} {e = e} h k = record {
  follows = λ xs ys.
      ap (λ l. compared zero l ((vs ++ zs) ++ ys)) (append_assoc us ws xs)
      ∙ ap (λ l. compared zero (us ++ (ws ++ xs)) l) (append_assoc vs zs ys)
      ∙ follows-at h (ws ++ xs) (zs ++ ys) ∙ ap (λ z. also c z) (follows-at k xs ys)
      ∙ sym (also_assoc c e (compared zero xs ys));
}

-- by other lines that are the same
pub follows-as : {us vs : List Piece} {c e : Lines} → c ≡ e → Follows us vs c → Follows us vs e
follows-as p h = record { follows = λ xs ys. follows-at h xs ys ∙ ap (λ z. also z (compared zero xs ys)) p }

-- what isn't compared of the new text
mark-after : (l : ℕ) (xs ys : List Piece) → compared zero xs (mark l ∷ ys) ≡ compared zero xs ys
mark-after l [] ys = refl
mark-after l (word w ∷ xs) ys = refl
mark-after l (open_part ∷ xs) ys = refl
mark-after l (inside ∷ xs) ys = refl
mark-after l (close ∷ xs) ys = refl
mark-after l (mark k ∷ xs) ys = mark-after l xs ys
mark-after l (declared x ∷ xs) ys = mark-after l xs ys
mark-after l (defined f ∷ xs) ys = mark-after l xs ys

declared-after : (x : Text) (xs ys : List Piece) → compared zero xs (declared x ∷ ys) ≡ compared zero xs ys
declared-after l [] ys = refl
declared-after l (word w ∷ xs) ys = refl
declared-after l (open_part ∷ xs) ys = refl
declared-after l (inside ∷ xs) ys = refl
declared-after l (close ∷ xs) ys = refl
declared-after l (mark k ∷ xs) ys = declared-after l xs ys
declared-after l (declared x ∷ xs) ys = declared-after l xs ys
declared-after l (defined f ∷ xs) ys = declared-after l xs ys

defined-after : (g : Function) (xs ys : List Piece) → compared zero xs (defined g ∷ ys) ≡ compared zero xs ys
defined-after l [] ys = refl
defined-after l (word w ∷ xs) ys = refl
defined-after l (open_part ∷ xs) ys = refl
defined-after l (inside ∷ xs) ys = refl
defined-after l (close ∷ xs) ys = refl
defined-after l (mark k ∷ xs) ys = defined-after l xs ys
defined-after l (declared x ∷ xs) ys = defined-after l xs ys
defined-after l (defined f ∷ xs) ys = defined-after l xs ys

pub follows-mark : (l m : ℕ) → Follows (mark l ∷ []) (mark m ∷ []) ([], [])
follows-mark l m = record { follows = λ xs ys. mark-after m xs ys }

pub follows-defined : (f g : Function) → Follows (defined f ∷ []) (defined g ∷ []) ([], [])
follows-defined f g = record { follows = λ xs ys. defined-after g xs ys }

marks-after : (ms : List ℕ) (xs ys : List Piece) → compared zero xs (marks ms ++ ys) ≡ compared zero xs ys
marks-after [] xs ys = refl
marks-after (m ∷ ms) xs ys = mark-after m xs (marks ms ++ ys) ∙ marks-after ms xs ys

pub follows-marks : (ls ms : List ℕ) → Follows (marks ls) (marks ms) ([], [])
follows-marks ls ms = record { follows = go ls } where
  go : (ls : List ℕ) (xs ys : List Piece) → compared zero (marks ls ++ xs) (marks ms ++ ys) ≡ compared zero xs ys
  go [] xs ys = marks-after ms xs ys
  go (l ∷ ls) xs ys = go ls xs ys

declaring-after : (zs : List Text) (xs ys : List Piece) → compared zero xs (declaring zs ++ ys) ≡ compared zero xs ys
declaring-after [] xs ys = refl
declaring-after (z ∷ zs) xs ys = declared-after z xs (declaring zs ++ ys) ∙ declaring-after zs xs ys

pub follows-declaring : (ws zs : List Text) → Follows (declaring ws) (declaring zs) ([], [])
follows-declaring ws zs = record { follows = go ws } where
  go : (ws : List Text) (xs ys : List Piece) → compared zero (declaring ws ++ xs) (declaring zs ++ ys) ≡ compared zero xs ys
  go [] xs ys = declaring-after zs xs ys
  go (w ∷ ws) xs ys = go ws xs ys

-- ---- parts

-- what follows where the words of a part differ
abbrev left_out : List Piece → List Piece → Lines
left_out xs ys = also ([], (skipped 1 ys).0) (compared 1 xs (skipped 1 ys).1)

words-old : (ks : List Word) (xs ys : List Piece) → compared 1 (words ks ++ inside ∷ xs) ys ≡ compared 1 xs ys
words-old ks xs ys = old-of (whole-words ks) 0 (inside ∷ xs) ys

words-new : (js : List Word) (ys : List Piece) → skipped 1 (words js ++ inside ∷ ys) ≡ skipped 1 ys
words-new js ys = new-of (whole-words js) 0 (inside ∷ ys)

differ : (ks js : List Word) (xs ys : List Piece) → left_out (words ks ++ inside ∷ xs) (words js ++ inside ∷ ys) ≡ left_out xs ys
differ ks js xs ys =
    ap (λ r. also ([], r.0) (compared 1 (words ks ++ inside ∷ xs) r.1)) (words-new js ys)
    ∙ ap (λ z. also ([], (skipped 1 ys).0) z) (words-old ks xs (skipped 1 ys).1)

-- the words of two parts
by_words : (ks js : List Word) (xs ys : List Piece) → compared zero (words ks ++ inside ∷ xs) (words js ++ inside ∷ ys) ≡ by_parts (same_words ks js) (compared zero xs ys) (left_out xs ys)
by_words [] [] xs ys = refl
by_words [] (j ∷ js) xs ys = differ [] js xs ys
by_words (k ∷ ks) [] xs ys = differ ks [] xs ys
by_words (k ∷ ks) (j ∷ js) xs ys = by_word (same_word k j) refl (by_words ks js xs ys) where
  by_word : (b : Bool) → same_word k j ≡ b → compared zero (words ks ++ inside ∷ xs) (words js ++ inside ∷ ys) ≡ by_parts (same_words ks js) (compared zero xs ys) (left_out xs ys) → compared zero (words (k ∷ ks) ++ inside ∷ xs) (words (j ∷ js) ++ inside ∷ ys) ≡ by_parts (same_words (k ∷ ks) (j ∷ js)) (compared zero xs ys) (left_out xs ys)
  by_word true e h = rw e h
  by_word false e h = rw e (differ ks js xs ys)

-- the same pieces, as they stand in a part
part-is : (ws : List Word) (us xs : List Piece) → (words ws ++ inside ∷ (us ++ close ∷ [])) ++ xs ≡ words ws ++ inside ∷ (us ++ (close ∷ xs))
part-is ws us xs =
    append_assoc (words ws) (inside ∷ (us ++ close ∷ [])) xs
    ∙ ap (λ l. words ws ++ inside ∷ l) (append_assoc us (close ∷ []) xs)

-- a part of which words differ
all_left : {us vs : List Piece} {ms ns : List ℕ} → IsWhole us ms → IsWhole vs ns → (xs ys : List Piece) → left_out (us ++ (close ∷ xs)) (vs ++ (close ∷ ys)) ≡ also (ms, ns) (compared zero xs ys)
all_left {us = us} {ms = ms} {ns = ns} h k xs ys =
    ap (λ r. also ([], r.0) (compared 1 (us ++ (close ∷ xs)) r.1)) (new-of k 0 (close ∷ ys))
    ∙ ap (λ z. also ([], ns ++ []) z) (old-of h 0 (close ∷ xs) ys)
    ∙ ap (λ z. also (ms, z) (compared zero xs ys)) (append-nil ns)

-- two parts, by what stands in them
pub follows-node : (ks js : List Word) {b : Bool} {us vs : List Piece} {c : Lines} {ms ns : List ℕ} → same_words ks js ≡ b → (b ≡ true → Follows us vs c) → IsWhole us ms → IsWhole vs ns
    → Follows (node ks us) (node js vs) (by_parts b c (ms, ns))
follows-node ks js {b = b} {us = us} {vs = vs} {c = c} {ms = ms} {ns = ns} e within h k = record {
  follows = λ xs ys.
      ap (λ l. compared zero l ((words js ++ inside ∷ (vs ++ close ∷ [])) ++ ys)) (part-is ks us xs)
      ∙ ap (λ l. compared zero (words ks ++ inside ∷ (us ++ (close ∷ xs))) l) (part-is js vs ys)
      ∙ by_words ks js (us ++ (close ∷ xs)) (vs ++ (close ∷ ys))
      ∙ ap (λ t. by_parts t (compared zero (us ++ (close ∷ xs)) (vs ++ (close ∷ ys))) (left_out (us ++ (close ∷ xs)) (vs ++ (close ∷ ys)))) e
      ∙ by_case b within xs ys;
} where
  by_case : (b : Bool) → (b ≡ true → Follows us vs c) → (xs ys : List Piece) → by_parts b (compared zero (us ++ (close ∷ xs)) (vs ++ (close ∷ ys))) (left_out (us ++ (close ∷ xs)) (vs ++ (close ∷ ys))) ≡ also (by_parts b c (ms, ns)) (compared zero xs ys)
  by_case true within xs ys = follows-at (within refl) (close ∷ xs) (close ∷ ys)
  by_case false within xs ys = all_left h k xs ys

-- the same, where words tell whether parts are the same
pub follows-part : {ks js : List Word} {b : Bool} {us vs : List Piece} {c : Lines} {ms ns : List ℕ} → Tells ks js b → (b ≡ true → Follows us vs c) → IsWhole us ms → IsWhole vs ns
    → Follows (node ks us) (node js vs) (by_parts b c (ms, ns))
follows-part {ks = ks} {js = js} t within h k = follows-node ks js (entire t) within h k

-- two parts with a mark each
pub follows-header : {ks js : List Word} {b : Bool} (l m : ℕ) → Tells ks js b → Follows (header ks l) (header js m) (where_not b (l ∷ [], m ∷ []))
follows-header {ks = ks} {js = js} {b = b} l m e =
    follows-as (by_case b) (follows-node ks js (entire e) (λ t. follows-mark l m) (whole-mark l) (whole-mark m)) where
      by_case : (b : Bool) → by_parts b ([], []) (l ∷ [], m ∷ []) ≡ where_not b (l ∷ [], m ∷ [])
      by_case true = refl
      by_case false = refl
