-- Outlines that are written down, one piece after another and in loops.
use Rattle.std.proofs.Common.{◌≡◌, ℕ, suc, ◌+◌, ◌<◌, ◌≤◌, Bool, true, false, List, [], ◌∷◌, ◌++◌, if◌then◌else◌, length, get_or, drop, refl, ap, sym, ◌∙◌, append_assoc, drop-cons, add-one, subst}
use Rattle.std.proofs.Math.ListN.{drop_of_length-le}
use Rattle.std.proofs.lemmas.List.{append-nil}
use Rattle.cov_pieces.specs.declared.outline.Outline.{Outline}
use Rattle.cov_pieces.specs.Pieces.{Piece, words, node, word, marks, mark, picked, mark_of, open_part, inside, close, declared, defined}
use Rattle.cov_pieces.specs.Views.{pieces_of, is_mark, kept, Adds, AddsFirst, Completes, KeepsMarksAlone, Restores}
use Rattle.cov_pieces.specs.Words.{Word, a_number}
use Rattle.cov_pieces.proofs.Gathered.{words-both}

pub kept-both : (b : Bool) (us vs : List Piece) → kept b (us ++ vs) ≡ kept b us ++ kept b vs
kept-both false us vs = refl
kept-both true [] vs = refl
kept-both true (u ∷ us) vs = by_mark (is_mark u) (kept-both true us vs) where
  by_mark : (m : Bool) → kept true (us ++ vs) ≡ kept true us ++ kept true vs → (if m then u ∷ kept true (us ++ vs) else kept true (us ++ vs)) ≡ (if m then u ∷ kept true us else kept true us) ++ kept true vs
  by_mark true e = ap (λ l. u ∷ l) e
  by_mark false e = e

-- ---- one after another

same-of : {a b : Outline} {us : List Piece} → Adds a b us → b.marks_alone ≡ a.marks_alone
same-of h = h.same

added-of : {a b : Outline} {us : List Piece} → Adds a b us → b.full ≡ false → (a.full ≡ false) × (pieces_of b.pieces.items ≡ pieces_of a.pieces.items ++ kept a.marks_alone us)
added-of h = h.added

pub nothing_more : {a : Outline} → Adds a a []
nothing_more {a = a} = record {
  same = refl;
  added = λ e. (e, sym (ap (λ l. pieces_of a.pieces.items ++ l) (nothing_kept a.marks_alone) ∙ append-nil (pieces_of a.pieces.items)));
} where
  nothing_kept : (b : Bool) → kept b [] ≡ []
  nothing_kept true = refl
  nothing_kept false = refl

pub next : {a b c : Outline} {us vs : List Piece} → Adds a b us → Adds b c vs → Adds a c (us ++ vs)
next {a = a} {b = b} {c = c} {us = us} {vs = vs} h k = record {
  same = same-of k ∙ same-of h;
  added = λ e. let x = added-of k e in let y = added-of h x.0 in (
    y.0,
    x.1 ∙ ap (λ l. l ++ kept b.marks_alone vs) y.1
        ∙ ap (λ m. (pieces_of a.pieces.items ++ kept a.marks_alone us) ++ kept m vs) (same-of h)
        ∙ append_assoc (pieces_of a.pieces.items) (kept a.marks_alone us) (kept a.marks_alone vs)
        ∙ ap (λ l. pieces_of a.pieces.items ++ l) (sym (kept-both a.marks_alone us vs)),
  );
}

-- the same pieces by another name
pub as_pieces : {a b : Outline} {us vs : List Piece} → us ≡ vs → Adds a b us → Adds a b vs
as_pieces {a = a} e h = record {
  same = same-of h;
  added = λ f. let x = added-of h f in (x.0, x.1 ∙ ap (λ l. pieces_of a.pieces.items ++ kept a.marks_alone l) e);
}

-- words, one after another
pub both_words : {a b c : Outline} (us vs : List Word) → Adds a b (words us) → Adds b c (words vs) → Adds a c (words (us ++ vs))
both_words us vs h k = as_pieces (sym (words-both us vs)) (next h k)

-- words, and one more
pub and_word : {a b c : Outline} (us : List Word) {v : Word} → Adds a b (words us) → Adds b c (word v ∷ []) → Adds a c (words (us ++ v ∷ []))
and_word us {v = v} h k = both_words us (v ∷ []) h k

-- a number by another name
pub number_is : {a b : Outline} {m n : ℕ} → m ≡ n → Adds a b (word (a_number m) ∷ []) → Adds a b (word (a_number n) ∷ [])
number_is e h = as_pieces (ap (λ k. word (a_number k) ∷ []) e) h

-- the words of a node, as they are those of what it stands for
pub said : {X : Type 0} (F : X → List Word) {x y : X} {a b : Outline} → x ≡ y → Adds a b (words (F y)) → Adds a b (words (F x))
said F e h = as_pieces (ap (λ z. words (F z)) (sym e)) h

-- the same of pieces
pub told : {X : Type 0} (F : X → List Piece) {x y : X} {a b : Outline} → x ≡ y → Adds a b (F y) → Adds a b (F x)
told F e h = as_pieces (ap F (sym e)) h

-- a part, from its beginning to its end
pub in_node : {a b c d : Outline} (ws : List Word) (us : List Piece) → Adds a b (open_part ∷ (words ws ++ inside ∷ [])) → Adds b c us → Adds c d (close ∷ []) → Adds a d (node ws us)
in_node ws us h k m = as_pieces (ap (λ l. open_part ∷ l) (append_assoc (words ws) (inside ∷ []) (us ++ close ∷ []))) (next h (next k m))

-- a `try`, whose mark comes first
pub in_try : {a b c d : Outline} (ws : List Word) (l : ℕ) (us : List Piece) → Adds a b (open_part ∷ (words ws ++ inside ∷ mark l ∷ [])) → Adds b c us → Adds c d (close ∷ []) → Adds a d (node ws (mark l ∷ us))
in_try ws l us h k m = as_pieces (ap (λ p. open_part ∷ p) (append_assoc (words ws) (inside ∷ mark l ∷ []) (us ++ close ∷ []))) (next h (next k m))

-- ---- loops

still-of : {a b : Outline} {us vs : List Piece} → Completes a b us vs → b.marks_alone ≡ a.marks_alone
still-of h = h.same

completed-of : {a b : Outline} {us vs : List Piece} → Completes a b us vs → b.full ≡ false → (a.full ≡ false) × (pieces_of b.pieces.items ++ kept a.marks_alone us ≡ pieces_of a.pieces.items ++ kept a.marks_alone vs)
completed-of h = h.completed

-- a loop begins
pub begun : {a : Outline} {us vs : List Piece} → us ≡ vs → Completes a a us vs
begun {a = a} e = record { same = refl; completed = λ f. (f, ap (λ l. pieces_of a.pieces.items ++ kept a.marks_alone l) e) }

-- what is left begins with what is written
pays : {a b c : Outline} {us vs ws zs : List Piece} → us ≡ ws ++ vs → Adds b c ws → Completes a b us zs → Completes a c vs zs
pays {a = a} {b = b} {us = us} {vs = vs} {ws = ws} e k h = record {
  same = same-of k ∙ still-of h;
  completed = λ f. let x = added-of k f in let y = completed-of h x.0 in (
    y.0,
    ap (λ l. l ++ kept a.marks_alone vs) (x.1 ∙ ap (λ m. pieces_of b.pieces.items ++ kept m ws) (still-of h))
        ∙ append_assoc (pieces_of b.pieces.items) (kept a.marks_alone ws) (kept a.marks_alone vs)
        ∙ ap (λ l. pieces_of b.pieces.items ++ l) (sym (kept-both a.marks_alone ws vs) ∙ ap (kept a.marks_alone) (sym e)) ∙ y.1,
  );
}

the_drop : {X : Type 0} (xs : List X) (i : ℕ) (x : X) → i < length xs → x ≡ get_or xs i x → drop i xs ≡ x ∷ drop (i + 1) xs
the_drop xs i x lt is = drop-cons xs i x lt ∙ ap (λ y. y ∷ drop (suc i) xs) (sym is) ∙ ap (λ k. x ∷ drop k xs) (sym (add-one i))

-- a turn of a loop
pub turns : {X : Type 0} (F G : List X → List Piece) (one : X → List Piece) → ((x : X) (xs : List X) → F (x ∷ xs) ≡ one x ++ G xs)
    → (xs : List X) (i : ℕ) (x : X) → i < length xs → x ≡ get_or xs i x → {a b c : Outline} {zs : List Piece} → Adds b c (one x) → Completes a b (F (drop i xs)) zs → Completes a c (G (drop (i + 1) xs)) zs
turns F G one step xs i x lt is k h = pays (ap F (the_drop xs i x lt is) ∙ step x (drop (i + 1) xs)) k h

-- a turn of a loop over items whose pieces are told with those after them
pub turns_first : {X : Type 0} (F : List X → List Piece) (xs : List X) (i : ℕ) (x : X) → i < length xs → x ≡ get_or xs i x → {a b c : Outline} {zs : List Piece} → AddsFirst F b c x → Completes a b (F (drop i xs)) zs → Completes a c (F (drop (i + 1) xs)) zs
turns_first F xs i x lt is k h = pays (ap F (the_drop xs i x lt is) ∙ k.2 (drop (i + 1) xs)) k.1 h

-- the end of a loop, and what is written after it
pub ends_with : {X : Type 0} (F : List X → List Piece) (xs : List X) (i : ℕ) → length xs ≤ i → {a b c : Outline} {ws zs : List Piece} → F [] ≡ ws → Adds b c ws → Completes a b (F (drop i xs)) zs → Adds a c zs
ends_with F xs i le {a = a} {c = c} {ws = ws} {zs = zs} e k h =
    whole (pays (ap F (drop_of_length-le xs le) ∙ e ∙ sym (append-nil ws)) k h) where
      whole : Completes a c [] zs → Adds a c zs
      whole h = record { same = still-of h; added = λ f. let y = completed-of h f in (y.0, sym (append-nil (pieces_of c.pieces.items)) ∙ ap (λ l. pieces_of c.pieces.items ++ l) (sym (nothing_kept a.marks_alone)) ∙ y.1) } where
        nothing_kept : (b : Bool) → kept b [] ≡ []
        nothing_kept true = refl
        nothing_kept false = refl

pub ends : {X : Type 0} (F : List X → List Piece) (xs : List X) (i : ℕ) → length xs ≤ i → F [] ≡ [] → {a b : Outline} {zs : List Piece} → Completes a b (F (drop i xs)) zs → Adds a b zs
ends F xs i le e h = ends_with F xs i le e nothing_more h

-- ---- marks alone

kept-marks : (b : Bool) (ls : List ℕ) → kept b (marks ls) ≡ marks ls
kept-marks false ls = refl
kept-marks true [] = refl
kept-marks true (l ∷ ls) = ap (λ k. mark l ∷ k) (kept-marks true ls)

-- of pieces, their marks are kept
pub marks_kept : (us : List Piece) → kept true us ≡ marks (picked mark_of us)
marks_kept [] = refl
marks_kept (word w ∷ us) = marks_kept us
marks_kept (open_part ∷ us) = marks_kept us
marks_kept (inside ∷ us) = marks_kept us
marks_kept (close ∷ us) = marks_kept us
marks_kept (mark l ∷ us) = ap (λ k. mark l ∷ k) (marks_kept us)
marks_kept (declared x ∷ us) = marks_kept us
marks_kept (defined f ∷ us) = marks_kept us

pub of_marks_alone : {a b c d : Outline} {us : List Piece} (alone : Bool) (ls : List ℕ) → picked mark_of us ≡ ls → KeepsMarksAlone a b alone → Adds b c us → Restores c d alone → Adds a d (marks ls)
of_marks_alone {a = a} {b = b} {c = c} {d = d} {us = us} alone ls p h k r =
    subst (λ x. Adds a x (marks ls)) (sym r) (record {
      same = h.0;
      added = λ f. let x = added-of (subst (λ x. Adds x c us) h.1 k) f in (x.0, x.1 ∙ ap (λ l. pieces_of a.pieces.items ++ l) (marks_kept us ∙ ap marks p ∙ sym (kept-marks a.marks_alone ls)));
    })
