-- The total of what may be counted may be counted.
use Rattle.std.proofs.Common.{◌≤◌, ℕ, ◌+◌, List, [], ◌∷◌, map, fold, All, arith}
use Rattle.std.proofs.lemmas.List.Elements.{All-map, All-tail}
use Rattle.cov_analysis.specs.declared.analysis.Analysis.{Analysis}
use Rattle.cov_analysis.specs.declared.numbers.Numbers.{Numbers}
use Rattle.cov_analysis.specs.Counts.{IsCounted, numbers_of, total_of}

-- what is less in each of some numbers is less in their sum
less_in_sum : (f g : Numbers → ℕ) (a b : ℕ) (all : List Numbers) → a ≤ b → ((n : Numbers) → IsCounted n → f n ≤ g n) → All IsCounted all → fold (λ s x. s + x) a (map f all) ≤ fold (λ s x. s + x) b (map g all)
less_in_sum f g a b [] before each counted = before
less_in_sum f g a b (n ∷ rest) before each counted =
    let here : f n ≤ g n = each n (counted 0 n (omega arith)) in
    less_in_sum f g (a + f n) (b + g n) rest (omega (arith, here, before)) each (All-tail IsCounted n rest counted)

pub counted_total : (files : List Analysis) → All (λ file. IsCounted (numbers_of file)) files → IsCounted (total_of (map numbers_of files))
counted_total files counted =
    let all = map numbers_of files in
    let each : All IsCounted all = All-map IsCounted numbers_of files counted in
    let lines = less_in_sum (λ n. n.missing) (λ n. n.statements) 0 0 all (omega arith) (λ n h. h.missing) each in
    let branches = less_in_sum (λ n. n.missing_branches) (λ n. n.branches) 0 0 all (omega arith) (λ n h. h.missing_branches) each in
    record {
      missing = omega (arith, lines);
      missing_branches = omega (arith, branches);
      statements = omega arith;
      branches = omega arith;
    }
