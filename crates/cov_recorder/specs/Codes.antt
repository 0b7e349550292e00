-- Recordings, coded by their parts.
use Rattle.std.specs.Prelude.{ℕ, Bool, List, Option, refl}
use Rattle.std.specs.Coded.{Coded, code_by, coded×, coded_list, coded_option, coded_ℕ, coded_ℤ, coded_bool}
use Rattle.cov_data.specs.DataSet.{Text, DataSet, data_code}
use Rattle.py_syntax.specs.Prediction.{Arc}
use Rattle.cov_recorder.specs.Plan.{Named, Plan}
use Rattle.cov_recorder.specs.Recording.{Open, Recording}

-- a text
abbrev pub text_code : Coded Text
text_code = coded_list coded_ℕ

-- a name, by its three texts and its first line
abbrev pub named_code : Coded Named
named_code =
    code_by (Text × (Text × (Text × ℕ)))
    (coded× text_code (coded× text_code (coded× text_code coded_ℕ)))
    (λ n. (n.path, (n.module, (n.function, n.first))))
    (λ p. record { path = p.0; «module» = p.1.0; function = p.1.1.0; first = p.1.1.1 }) (λ _. refl)

-- a plan, by its units, sets, kind and static context
abbrev pub plan_code : Coded Plan
plan_code =
    code_by (List (List Named) × (List (List Arc) × (Bool × Text)))
    (coded× (coded_list (coded_list named_code))
    (coded× (coded_list (coded_list (coded× coded_ℤ coded_ℤ))) (coded× coded_bool text_code)))
    (λ p. (p.units, (p.sets, (p.arcs, p.fixed))))
    (λ t. record { units = t.0; sets = t.1.0; arcs = t.1.1.0; fixed = t.1.1.1 }) (λ _. refl)

-- a frame, by its code, its line and its label
abbrev pub open_code : Coded Open
open_code =
    code_by ((ℕ × ℕ) × (ℕ × Option (List ℕ)))
    (coded× (coded× coded_ℕ coded_ℕ) (coded× coded_ℕ (coded_option text_code)))
    (λ f. ((f.code.module, f.code.unit), (f.line, f.label)))
    (λ t. record {
      code = record { «module» = t.0.0; unit = t.0.1 };
      line = t.1.0;
      label = t.1.1;
    }) (λ _. refl)

-- a recording, by its plan, frames and data
abbrev pub recording_code : Coded Recording
recording_code =
    code_by (Plan × (List Open × DataSet))
    (coded× plan_code (coded× (coded_list open_code) data_code))
    (λ r. (r.plan, (r.frames, r.data)))
    (λ t. record { plan = t.0; frames = t.1.0; «data» = t.1.1 }) (λ _. refl)
