-- Memory may be wanting where the parts of `combine` begin.
use Rattle.std.proofs.Common.{Bool, true, false, if◌then◌else◌, List, [], ◌∷◌, ◌++◌}
use Rattle.cov_combine.specs.Combined.{has_both_kinds}
use Rattle.cov_data.specs.DataSet.{DataSet}
use Rattle.cov_file_names.specs.Forms.{Text}
use Rattle.cov_programs.specs.Ends.{IsOpen}
use Rattle.cov_programs.specs.Programs.{give, bind, each}
use Rattle.cov_programs.proofs.Each.{each-open, then-open}
use Rattle.cov_step.specs.Answers.{Before, nothing, there, bad_row}
use Rattle.cov_step.specs.Calls.{refuse}
use Rattle.cov_step.specs.Phases.{needed, inputs, has_own, own_input, some_input, same_kind, removing}
use Rattle.cov_step.specs.Names.{removable}
use Rattle.cov_why.specs.Answers.{Refusal}
use Rattle.cov_joins.specs.Parts.{Rules, finishing, joining, gathering}

pub some_input-open : (name : Text) (own : Bool) (names : List Text) → IsOpen (some_input name own names)
some_input-open name own (n ∷ ns) = tt
some_input-open name true [] = tt
some_input-open name false [] = tt

pub own_input-open : (append : Bool) (name : Text) (was : Before) → IsOpen (own_input append name was)
own_input-open false name was = tt
own_input-open true name nothing = tt
own_input-open true name (there d) = tt
own_input-open true name (bad_row i) = tt

pub inputs-open : (own : Text) (names : List Text) → IsOpen (inputs own names)
inputs-open own (n ∷ ns) = tt
inputs-open own [] = tt

kind-open : (b : Bool) (r : Refusal) (ds : List DataSet) → IsOpen (if b then refuse r else give ds)
kind-open true r ds = tt
kind-open false r ds = tt

pub joining-open : (keep : Bool) (own : Text) (paths : Rules) (others : List Text) (ds : List DataSet) → IsOpen (joining keep own paths others ds)
joining-open keep own paths others ds = then-open (same_kind ds) _ (kind-open (has_both_kinds ds) _ ds) (λ all. tt)

-- the inputs, after the data file's own data
pub loading-open : (keep : Bool) (own : Text) (paths : Rules) (others : List Text) (first : List DataSet) → IsOpen (bind (each needed others) (λ rest. joining keep own paths others (first ++ rest)))
loading-open keep own paths others first = then-open (each needed others) _ (each-open needed (λ n. tt) others) (λ rest. joining-open keep own paths others (first ++ rest))

pub own-open : (append keep : Bool) (own : Text) (paths : Rules) (was : Before) (others : List Text) → IsOpen (bind (own_input append own was) (λ first. bind (each needed others) (λ rest. joining keep own paths others (first ++ rest))))
own-open append keep own paths was others = then-open (own_input append own was) _ (own_input-open append own was) (λ first. loading-open keep own paths others first)

pub gathering-open : (append keep : Bool) (own : Text) (paths : Rules) (was : Before) (others : List Text) → IsOpen (gathering append keep own paths was others)
gathering-open append keep own paths was others = then-open (some_input own (has_own append was) others) _ (some_input-open own (has_own append was) others) (λ a. own-open append keep own paths was others)

pub finishing-open : (keep : Bool) (own : Text) (others : List Text) → IsOpen (finishing keep own others)
finishing-open true own others = tt
finishing-open false own others = then-open (each removing (removable own [] others)) _ (each-open removing (λ n. tt) (removable own [] others)) (λ ys. tt)
