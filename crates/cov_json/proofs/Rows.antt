-- Reports, computed.
use Rattle.std.proofs.Common.{◌≡◌, true, false, List, ℕ, [], ◌∷◌, pos, negsuc, codes, refl}
use Rattle.std.specs.Fmt.{digits}
use Rattle.serde_json.proofs.OnLiterals.{serde_json_on_literals}
use Rattle.cov_analysis.specs.Analyses.{AnalysisView}
use Rattle.cov_json.specs.Json.{json_bytes}

-- of a.py: line 5 never ran
abbrev first_run : AnalysisView
first_run = record {
  path = codes "a.py";
  statements = 1 ∷ 2 ∷ 3 ∷ 5 ∷ [];
  excluded = [];
  missing = 5 ∷ [];
  branches = (2, pos 3) ∷ (2, pos 5) ∷ [];
  missing_branches = (2, pos 5) ∷ [];
  hits = 1 ∷ 1 ∷ 1 ∷ 0 ∷ [];
  branch_hits = 1 ∷ 0 ∷ [];
  numbers = record { statements = 4; missing = 1; excluded = 0; branches = 2; missing_branches = 1; partial = 1 };
}

-- "JSON of it"
json_of_it : json_bytes (first_run ∷ []) true
    ≡ codes "{\"files\":{\"a.py\":{\"excluded_lines\":[],\"executed_branches\":[[2,3]],\"executed_lines\":[1,2,3],\"missing_branches\":[[2,5]],\"missing_lines\":[5],\"summary\":{\"covered_branches\":1,\"covered_lines\":3,\"excluded_lines\":0,\"missing_branches\":1,\"missing_lines\":1,\"num_branches\":2,\"num_partial_branches\":1,\"num_statements\":4,\"percent_covered_display\":\"67\"}}},\"meta\":{\"branch_coverage\":true},\"totals\":{\"covered_branches\":1,\"covered_lines\":3,\"excluded_lines\":0,\"missing_branches\":1,\"missing_lines\":1,\"num_branches\":2,\"num_partial_branches\":1,\"num_statements\":4,\"percent_covered_display\":\"67\"}}"
unfolding serde_json_on_literals digits
json_of_it = refl

-- the same with data of lines
lines_alone : json_bytes (record first_run { branches = []; missing_branches = []; branch_hits = []; numbers = record { statements = 4; missing = 1; excluded = 0; branches = 0; missing_branches = 0; partial = 0 } } ∷ []) false
    ≡ codes "{\"files\":{\"a.py\":{\"excluded_lines\":[],\"executed_lines\":[1,2,3],\"missing_lines\":[5],\"summary\":{\"covered_lines\":3,\"excluded_lines\":0,\"missing_lines\":1,\"num_statements\":4,\"percent_covered_display\":\"75\"}}},\"meta\":{\"branch_coverage\":false},\"totals\":{\"covered_lines\":3,\"excluded_lines\":0,\"missing_lines\":1,\"num_statements\":4,\"percent_covered_display\":\"75\"}}"
unfolding serde_json_on_literals digits
lines_alone = refl

no_file : json_bytes [] true
    ≡ codes "{\"files\":{},\"meta\":{\"branch_coverage\":true},\"totals\":{\"covered_branches\":0,\"covered_lines\":0,\"excluded_lines\":0,\"missing_branches\":0,\"missing_lines\":0,\"num_branches\":0,\"num_partial_branches\":0,\"num_statements\":0,\"percent_covered_display\":\"100\"}}"
unfolding serde_json_on_literals digits
no_file = refl

abbrev empty : List ℕ → AnalysisView
empty path = record {
  path = path;
  statements = [];
  excluded = [];
  missing = [];
  branches = [];
  missing_branches = [];
  hits = [];
  branch_hits = [];
  numbers = record { statements = 0; missing = 0; excluded = 0; branches = 0; missing_branches = 0; partial = 0 };
}

-- files by their paths, of which one has a quote and one a letter past ASCII, and of two of one path the later
in_order : json_bytes (empty (codes "é.py") ∷ record (empty (codes "b\"c.py")) { excluded = 7 ∷ [] } ∷ empty (codes "b.py") ∷ empty (codes "b\"c.py") ∷ []) false
    ≡ codes "{\"files\":{\"b\\\"c.py\":{\"excluded_lines\":[],\"executed_lines\":[],\"missing_lines\":[],\"summary\":{\"covered_lines\":0,\"excluded_lines\":0,\"missing_lines\":0,\"num_statements\":0,\"percent_covered_display\":\"100\"}},\"b.py\":{\"excluded_lines\":[],\"executed_lines\":[],\"missing_lines\":[],\"summary\":{\"covered_lines\":0,\"excluded_lines\":0,\"missing_lines\":0,\"num_statements\":0,\"percent_covered_display\":\"100\"}},\"é.py\":{\"excluded_lines\":[],\"executed_lines\":[],\"missing_lines\":[],\"summary\":{\"covered_lines\":0,\"excluded_lines\":0,\"missing_lines\":0,\"num_statements\":0,\"percent_covered_display\":\"100\"}}},\"meta\":{\"branch_coverage\":false},\"totals\":{\"covered_lines\":0,\"excluded_lines\":0,\"missing_lines\":0,\"num_statements\":0,\"percent_covered_display\":\"100\"}}"
unfolding serde_json_on_literals digits
in_order = refl

-- a branch out of the module, of a line with one that is executed
way_out : json_bytes (record (empty (codes "w.py")) {
  statements = 6 ∷ 7 ∷ [];
  branches = (6, negsuc 0) ∷ (6, pos 7) ∷ [];
  missing_branches = (6, negsuc 0) ∷ [];
  numbers = record { statements = 2; missing = 0; excluded = 0; branches = 2; missing_branches = 1; partial = 1 };
} ∷ []) true
    ≡ codes "{\"files\":{\"w.py\":{\"excluded_lines\":[],\"executed_branches\":[[6,7]],\"executed_lines\":[6,7],\"missing_branches\":[[6,-1]],\"missing_lines\":[],\"summary\":{\"covered_branches\":1,\"covered_lines\":2,\"excluded_lines\":0,\"missing_branches\":1,\"missing_lines\":0,\"num_branches\":2,\"num_partial_branches\":1,\"num_statements\":2,\"percent_covered_display\":\"75\"}}},\"meta\":{\"branch_coverage\":true},\"totals\":{\"covered_branches\":1,\"covered_lines\":2,\"excluded_lines\":0,\"missing_branches\":1,\"missing_lines\":0,\"num_branches\":2,\"num_partial_branches\":1,\"num_statements\":2,\"percent_covered_display\":\"75\"}}"
unfolding serde_json_on_literals digits
way_out = refl
