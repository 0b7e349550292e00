-- What a counted step is in the numbers of the code.
use Rattle.std.proofs.Common.{◌≡◌, ℕ, zero, suc, ◌≤◌, Bool, true, false, pos, negsuc, List, [], length, Option, Some, refl, inl, ap, sym, subst, w32, rules, arith}
use Rattle.std.specs.Prelude.{slice_get, neg_ℤ, IfSome, ◌≤ℤ◌}
use Rattle.std.specs.Option.{unwrap_or}
use Rattle.std.proofs.lemmas.Int.{ints}
use Rattle.std.proofs.lemmas.Option.{slice_get_past}
use mir.Val.{SFits}
use Rattle.py_syntax.specs.Prediction.{Arc}
use Rattle.cov_recorder.specs.declared.frames.Frame.{Frame}
use Rattle.cov_recorder.specs.declared.frames.Seat.{Seat}
use Rattle.cov_recorder.specs.Plan.{set_at}
use Rattle.cov_recorder.specs.Recording.{end_of, step, has_arc}
use Rattle.cov_recorder.specs.Counters.{Row}
use Rattle.cov_recorder.specs.Steps.{CountsArc, CountsAt}

-- ---- numbers of 32 bits

fits_pos : (n : ℕ) → n ≤ 65535 → SFits w32 (pos n)
fits_pos n h = let high : pos n ≤ℤ pos 65535 = omega (arith, ints) in search (rules, high)

fits_outside : (n : ℕ) → n ≤ 65535 → SFits w32 (neg_ℤ (pos n))
fits_outside zero h = fits_pos zero h
fits_outside (suc n) h = let low : negsuc 65534 ≤ℤ negsuc n = omega (arith, ints) in search (rules, low)

fits_end : (first line : ℕ) → first ≤ 65535 → line ≤ 65535 → SFits w32 (end_of first line)
fits_end first zero f l = fits_outside first f
fits_end first (suc line) f l = fits_pos (suc line) l

fits_from : (arcs : Bool) (first from to : ℕ) → first ≤ 65535 → from ≤ 65535 → to ≤ 65535 → SFits w32 (step arcs first from to).0
fits_from true first from to f l m = fits_end first from f l
fits_from false first from to f l m = fits_pos to m

fits_to : (arcs : Bool) (first from to : ℕ) → first ≤ 65535 → from ≤ 65535 → to ≤ 65535 → SFits w32 (step arcs first from to).1
fits_to true first from to f l m = fits_end first to f m
fits_to false first from to f l m = fits_pos to m

-- a step that is read back from 32 bits
pub read_back : (arcs : Bool) (first from to : ℕ) → first ≤ 65535 → from ≤ 65535 → to ≤ 65535 → (a : Arc) → a ≡ step arcs first from to → (SFits w32 a.0) × (SFits w32 a.1)
read_back arcs first from to f l m a is = (
  subst (λ (b : Arc). SFits w32 b.0) (sym is) (fits_from arcs first from to f l m),
  subst (λ (b : Arc). SFits w32 b.1) (sym is) (fits_to arcs first from to f l m),
)

pub first_of : (o : Option Seat) (seat : Seat) → o ≡ Some seat → IfSome o (λ s. s.first ≤ 65535) → seat.first ≤ 65535
first_of o seat e h = let P : Option Seat → Type 0 = λ x. IfSome x (λ s. s.first ≤ 65535) in subst P e h

-- ---- with the set of the module, and without one

pub counted_in : (sets : List (List Arc)) (arcs : Bool) (frame : Frame) (o : Option Seat) (seat : Seat) (line : ℕ) (old new : List Row) (set : List Arc) (a : Arc)
    → o ≡ Some seat → slice_get sets frame.code.module ≡ Some set → a ≡ step arcs seat.first frame.line line → CountsArc set a old seat.row new → CountsAt sets arcs frame o line old new
counted_in sets arcs frame o seat line old new set a e at is h =
    subst (λ x. CountsAt sets arcs frame x line old new) (sym e)
    (subst (λ s. CountsArc s (step arcs seat.first frame.line line) old seat.row new) (sym (ap (λ x. unwrap_or x []) at))
    (subst (λ b. CountsArc set b old seat.row new) is h))

pub counted_nowhere : (sets : List (List Arc)) (arcs : Bool) (frame : Frame) (o : Option Seat) (seat : Seat) (line : ℕ) (old : List Row)
    → o ≡ Some seat → length sets ≤ frame.code.module → CountsAt sets arcs frame o line old old
counted_nowhere sets arcs frame o seat line old e past =
    let none : set_at sets frame.code.module ≡ [] = ap (λ x. unwrap_or x []) (slice_get_past sets frame.code.module past) in
    subst (λ x. CountsAt sets arcs frame x line old old) (sym e)
    (inl (ap (λ s. has_arc s (step arcs seat.first frame.line line)) none, refl))
