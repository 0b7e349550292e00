use Rattle.std.proofs.Common.{[], ◌∷◌, w64, rules, sym, ◌∙◌}
use mir.Val.{SFits}
use Rattle.std.proofs.lemmas.Int.{to_z-of_z}
use Rattle.sqlite_value.specs.declared.value.Value.TheVariants.{Int}
use Rattle.cov_sql.proofs.NumbersInPlace.{five_are}
use Rattle.cov_sql.proofs.values.five_numbers.Goals as goal

pub returns : goal.returns
returns c =
    let first-fits : SFits w64 c.in_ok-first.first = search rules in
    let second-fits : SFits w64 c.in_ok-second.second = search rules in
    let third-fits : SFits w64 c.in_ok-third.third = search rules in
    let fourth-fits : SFits w64 c.in_ok-fourth.fourth = search rules in
    let fifth-fits : SFits w64 c.in_ok-fifth.fifth = search rules in
    five_are c.args.row.now c.in_ok-first.first c.in_ok-second.second c.in_ok-third.third c.in_ok-fourth.fourth c.in_ok-fifth.fifth c.requires c.in_ok-first.ensures c.in_ok-second.ensures c.in_ok-third.ensures c.in_ok-fourth.ensures c.in_ok-fifth.ensures
    ∙ (λ i. Int (sym (to_z-of_z w64 c.in_ok-first.first first-fits) i) ∷ Int (sym (to_z-of_z w64 c.in_ok-second.second second-fits) i) ∷ Int (sym (to_z-of_z w64 c.in_ok-third.third third-fits) i) ∷ Int (sym (to_z-of_z w64 c.in_ok-fourth.fourth fourth-fits) i) ∷ Int (sym (to_z-of_z w64 c.in_ok-fifth.fifth fifth-fits) i) ∷ [])
