use Rattle.std.proofs.Common.{◌≡◌, [], ◌∷◌, w64, to_z, of_z, rules, ap, ◌∙◌}
use mir.Val.{SFits}
use Rattle.std.specs.Prelude.{slice_get}
use Rattle.std.proofs.lemmas.Int.{to_z-of_z}
use Rattle.cov_tables.proofs.InPlace.{whole_in_place}
use Rattle.cov_tables.proofs.cells.whole_at.Goals as goal

pub returns-in-Four : goal.returns-in-Four
returns-in-Four k =
    let a-fits : SFits w64 k.in-Four.a = search rules in
    let b-fits : SFits w64 k.in-Four.b = search rules in
    let c-fits : SFits w64 k.in-Four.c = search rules in
    let d-fits : SFits w64 k.in-Four.d = search rules in
    let all : to_z w64 (of_z w64 k.in-Four.a) ∷ to_z w64 (of_z w64 k.in-Four.b) ∷ to_z w64 (of_z w64 k.in-Four.c) ∷ to_z w64 (of_z w64 k.in-Four.d) ∷ [] ≡ k.in-Four.a ∷ k.in-Four.b ∷ k.in-Four.c ∷ k.in-Four.d ∷ [] = λ i. to_z-of_z w64 k.in-Four.a a-fits i ∷ to_z-of_z w64 k.in-Four.b b-fits i ∷ to_z-of_z w64 k.in-Four.c c-fits i ∷ to_z-of_z w64 k.in-Four.d d-fits i ∷ [] in
    rw k.in-Four.is (k.number_in.ensures ∙ ap (λ ns. slice_get ns k.args.at) all ∙ whole_in_place (k.in-Four.a ∷ k.in-Four.b ∷ k.in-Four.c ∷ k.in-Four.d ∷ []) k.args.at)

pub returns-in-Five : goal.returns-in-Five
returns-in-Five k =
    let a-fits : SFits w64 k.in-Five.a = search rules in
    let b-fits : SFits w64 k.in-Five.b = search rules in
    let c-fits : SFits w64 k.in-Five.c = search rules in
    let d-fits : SFits w64 k.in-Five.d = search rules in
    let e-fits : SFits w64 k.in-Five.e = search rules in
    let all : to_z w64 (of_z w64 k.in-Five.a) ∷ to_z w64 (of_z w64 k.in-Five.b) ∷ to_z w64 (of_z w64 k.in-Five.c) ∷ to_z w64 (of_z w64 k.in-Five.d) ∷ to_z w64 (of_z w64 k.in-Five.e) ∷ [] ≡ k.in-Five.a ∷ k.in-Five.b ∷ k.in-Five.c ∷ k.in-Five.d ∷ k.in-Five.e ∷ [] = λ i. to_z-of_z w64 k.in-Five.a a-fits i ∷ to_z-of_z w64 k.in-Five.b b-fits i ∷ to_z-of_z w64 k.in-Five.c c-fits i ∷ to_z-of_z w64 k.in-Five.d d-fits i ∷ to_z-of_z w64 k.in-Five.e e-fits i ∷ [] in
    rw k.in-Five.is (k.number_in-in-Five.ensures ∙ ap (λ ns. slice_get ns k.args.at) all ∙ whole_in_place (k.in-Five.a ∷ k.in-Five.b ∷ k.in-Five.c ∷ k.in-Five.d ∷ k.in-Five.e ∷ []) k.args.at)
