-- Loops that compare pieces.
use Rattle.std.proofs.Common.{◌≡◌, ℕ, zero, suc, ◌+◌, ◌<◌, ◌≤◌, Bool, true, false, List, [], ◌∷◌, ◌++◌, if◌then◌else◌, length, get_or, drop, refl, ap, sym, ◌∙◌, append_assoc, arith}
use Rattle.py_changes.specs.Changed.{Lines, also}
use Rattle.cov_pieces.specs.declared.piece.Piece.{Piece as PieceNode}
use Rattle.cov_pieces.specs.Pieces.{Piece, word, open_part, inside, close, mark, declared, defined, mark_of}
use Rattle.cov_pieces.specs.Views.{plain_piece, pieces_of}
use Rattle.cov_changed.specs.declared.changes.Changes.{Changes}
use Rattle.cov_changed.specs.declared.comparing.Left.{Left}
use Rattle.cov_changed.specs.Compared.{depth_after, skipped, is_aside, past_asides, is_alike, meets, turn, compared}
use Rattle.cov_changed.specs.Views.{lines_of, Turns}
use Rattle.cov_changed.proofs.Compared.{also_assoc}
use Rattle.cov_changed.proofs.Pairs.{the_drop}

-- ---- depths

pub depth-bound : (d : ℕ) (p : Piece) → depth_after d p ≤ d + 1
depth-bound d (word w) = omega arith
depth-bound d open_part = grind arith
depth-bound d inside = omega arith
depth-bound zero close = omega arith
depth-bound (suc d) close = grind arith
depth-bound d (mark l) = omega arith
depth-bound d (declared x) = omega arith
depth-bound d (defined f) = omega arith

meets-bound : (p : Piece) (qs : List Piece) → (meets p qs).depth ≤ 2
meets-bound p [] = depth-bound 1 p
meets-bound p (q ∷ qs) = by_case (is_alike p q) refl where
  by_case : (b : Bool) → is_alike p q ≡ b → (meets p (q ∷ qs)).depth ≤ 2
  by_case true e = rw e (omega arith)
  by_case false e = rw e (depth-bound 1 p)

pub turn-bound : (d : ℕ) (p : Piece) (qs : List Piece) (i r : ℕ) → d ≤ i + 1 → r ≡ (turn d p qs).depth → r ≤ i + 1 + 1
turn-bound zero p qs i r le e = by_case (is_aside p) refl where
  by_case : (b : Bool) → is_aside p ≡ b → r ≤ i + 1 + 1
  by_case true f = omega (arith, e ∙ ap (λ b. (if b then record { depth = zero; lines = ([], []); rest = qs } else meets p (past_asides qs)).depth) f)
  by_case false f = let h : (meets p (past_asides qs)).depth ≤ 2 = meets-bound p (past_asides qs) in
      omega (arith, h, e ∙ ap (λ b. (if b then record { depth = zero; lines = ([], []); rest = qs } else meets p (past_asides qs)).depth) f)
turn-bound (suc d) p qs i r le e = let h : depth_after (suc d) p ≤ suc d + 1 = depth-bound (suc d) p in omega (arith, h, e, le)

pub depth-next : (d : ℕ) (p : Piece) (i r : ℕ) → d ≤ i + 1 → r ≡ depth_after d p → r ≤ i + 1 + 1
depth-next d p i r le e = let h : depth_after d p ≤ d + 1 = depth-bound d p in omega (arith, h, e, le)

-- ---- what is left of a part

-- marks in front of what is skipped
pub skips_one : (d : ℕ) (p : Piece) (ps : List Piece) → 0 < d → skipped d (p ∷ ps) ≡ (mark_of p ++ (skipped (depth_after d p) ps).0, (skipped (depth_after d p) ps).1)
skips_one zero p ps lt = absurd (omega arith)
skips_one (suc d) p ps lt = refl

-- a loop that skips: its lines with those that are skipped from now on, and what follows
abbrev pub Skipping : List ℕ → List ℕ → ℕ → List Piece → List Piece → Type 0
Skipping before now d ps all =
    (now ++ (skipped d ps).0 ≡ before ++ (skipped 1 all).0) × ((skipped d ps).1 ≡ (skipped 1 all).1)

pub skips_on : (ps : List PieceNode) (i : ℕ) (x : PieceNode) → i < length ps → x ≡ get_or ps i x → (before now next : List ℕ) (d e : ℕ) (all : List Piece) → 0 < d → e ≡ depth_after d (plain_piece x)
    → next ≡ now ++ mark_of (plain_piece x) → Skipping before now d (pieces_of (drop i ps)) all → Skipping before next e (pieces_of (drop (i + 1) ps)) all
skips_on ps i x lt is before now next d e all pos f g h =
    let rest = pieces_of (drop (i + 1) ps) in
    let one : skipped d (pieces_of (drop i ps)) ≡ (mark_of (plain_piece x) ++ (skipped e rest).0, (skipped e rest).1) =
    ap (λ l. skipped d (pieces_of l)) (the_drop ps i x lt is) ∙ skips_one d (plain_piece x) rest pos
    ∙ ap (λ n. (mark_of (plain_piece x) ++ (skipped n rest).0, (skipped n rest).1)) (sym f) in (
      ap (λ l. l ++ (skipped e rest).0) g ∙ append_assoc now (mark_of (plain_piece x)) (skipped e rest).0 ∙ ap (λ r. now ++ r.0) (sym one) ∙ h.0,
      ap (λ r. r.1) (sym one) ∙ h.1,
    )

-- ---- the whole comparison

-- a turn of the loop
pub compares : (before after : List PieceNode) (i : ℕ) (x : PieceNode) → i < length before → x ≡ get_or before i x → (found next : Changes) (d at : ℕ) (left : Left) (total : Lines)
    → Turns found next after (turn d (plain_piece x) (pieces_of (drop at after))) left
    → also (lines_of found) (compared d (pieces_of (drop i before)) (pieces_of (drop at after))) ≡ total
    → also (lines_of next) (compared left.depth (pieces_of (drop (i + 1) before)) (pieces_of (drop left.at after))) ≡ total
compares before after i x lt is found next d at left total t h =
    let ps = pieces_of (drop (i + 1) before) in let s = turn d (plain_piece x) (pieces_of (drop at after)) in
    ap (λ l. also l (compared left.depth ps (pieces_of (drop left.at after)))) t.0
    ∙ ap (λ n. also (also (lines_of found) s.lines) (compared n ps (pieces_of (drop left.at after)))) t.1
    ∙ ap (λ q. also (also (lines_of found) s.lines) (compared s.depth ps q)) t.3
    ∙ also_assoc (lines_of found) s.lines (compared s.depth ps s.rest)
    ∙ ap (λ l. also (lines_of found) (compared d (pieces_of l) (pieces_of (drop at after)))) (sym (the_drop before i x lt is)) ∙ h
