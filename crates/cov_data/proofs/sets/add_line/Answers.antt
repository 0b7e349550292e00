use Rattle.std.proofs.Common.{◌≡◌, ℤ, pos, negsuc, suc, zero, true, false, [], ◌∷◌, refl, ap, sym, ◌∙◌, arith}
use Rattle.std.specs.List.{fold}
use Rattle.std.specs.Ordering.{nat_cmp}
use Rattle.std.specs.BTreeSet.{insert_key}
use Rattle.std.proofs.lemmas.Int.{ints, to_z-of_z}
use lib.Signed.{lt_z}
use lib.IntN.{nat_abs}
use mir.Syntax.{w32}
use lib.Dec.{eqb-suc-zero}
use Rattle.cov_data.specs.Rows.{lines_in}
use Rattle.cov_data.proofs.sets.add_line.Goals as goal

-- a positive number is one line
lines_in-positive : (z : ℤ) → lt_z (pos 0) z ≡ true → lines_in z ≡ nat_abs z ∷ []
lines_in-positive (pos zero) h = cc
lines_in-positive (pos (suc n)) h = rw eqb-suc-zero refl
lines_in-positive (negsuc n) h = cc

-- no other number is a line
lines_in-others : (z : ℤ) → lt_z (pos 0) z ≡ false → lines_in z ≡ []
lines_in-others (pos zero) h = refl
lines_in-others (pos (suc n)) h = absurd (omega (arith, ints, h))
lines_in-others (negsuc n) h = refl

pub returns-in_ok-insert : goal.returns-in_ok-insert
returns-in_ok-insert c =
    let z = c.args.number in
    let read = to_z-of_z w32 z c.ranges.number in
    c.in_ok-insert.ensures.keys ∙ ap (λ n. insert_key nat_cmp c.args.lines.now.keys (nat_abs n)) read
    ∙ ap (fold (insert_key nat_cmp) c.args.lines.now.keys) (sym (lines_in-positive z (ap (lt_z (pos 0)) (sym read) ∙ c.if-number-gt0.true)))

pub returns-else-number-gt0 : goal.returns-else-number-gt0
returns-else-number-gt0 c =
    let z = c.args.number in
    ap (fold (insert_key nat_cmp) c.args.lines.now.keys) (sym (lines_in-others z (ap (lt_z (pos 0)) (sym (to_z-of_z w32 z c.ranges.number)) ∙ c.if-number-gt0.false)))
