use Rattle.std.proofs.Common.{◌≡◌, false, not, take, All}
use Rattle.std.specs.Bool.{beq}
use Rattle.std.specs.List.{fold, list_any}
use Rattle.cov_data.specs.DataSet.{no_data, IsSound}
use Rattle.cov_combine.specs.Aliases.{alias_of}
use Rattle.cov_combine.specs.Combined.{with_renamed, flag_of}
use Rattle.cov_combine.proofs.combining.combine.Given as goal

abbrev pub invariant-loop-input : goal.invariant-loop-input
invariant-loop-input l = record {
  first : l.first ≡ flag_of l.inputs;
  alike : list_any (λ d. not (beq d.arcs l.first)) (take l.input-index l.inputs) ≡ false;
  sound : All IsSound (take l.input-index l.inputs);
}

abbrev pub invariant-loop-input-2 : goal.invariant-loop-input-2
invariant-loop-input-2 l = record {
  first : l.first ≡ flag_of l.inputs;
  alike : list_any (λ d. not (beq d.arcs l.first)) l.inputs ≡ false;
  sound : All IsSound l.inputs;
  flag : l.all.arcs ≡ l.first;
  so_far : l.all ≡ fold (with_renamed (alias_of l.rules)) (no_data l.first) (take l.input-index l.inputs);
}
