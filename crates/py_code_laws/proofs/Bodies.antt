-- The cells of a body are a piece of code that is whole, so that its unit is valid.
use Rattle.std.proofs.Common.{◌≡◌, ℕ, suc, ◌+◌, false, List, [], ◌∷◌, length, None, refl, sym, ◌∙◌, arith}
use Rattle.py_syntax.specs.Functions.{Function}
use Rattle.py_syntax.specs.Tree.{Stmts}
use Rattle.py_code.specs.declared.instr.Instr.TheVariants.{Return}
use Rattle.py_code.specs.declared.unit.Constant.TheVariants.{None as NoneConstant}
use Rattle.py_code.specs.Units.{Code}
use Rattle.py_code.specs.Valid.{IsValid}
use Rattle.py_compile_expr.specs.Cells.{constant, plain, Cell, cell}
use Rattle.py_compile_expr.specs.Stands.{HasAt}
use Rattle.py_compile.specs.Statements.{stmts_size}
use Rattle.py_compile.specs.Units.{handlers_of, body_cells}
use Rattle.py_compile.specs.Ways.{outermost}
use Rattle.py_code_laws.proofs.Blocks.{Block, front, none}
use Rattle.py_code_laws.proofs.Pieces.{At, Any, goes, next_place, fits_by, only, placed}
use Rattle.py_code_laws.proofs.Suites.{Way}
use Rattle.py_code_laws.proofs.Forms.{StmtsFit}
use Rattle.py_code_laws.proofs.Layouts.{layout_of, stands_here, marks_here, fits_at}
use Rattle.py_code_laws.proofs.Tables.{table}

-- code that needs nothing around it
abbrev pub Whole : (units n : ℕ) → List Cell → Type 0
Whole units n cs = Block units Any (At 0 0 Any) 0 n cs

-- the value on top is returned
returned : {units : ℕ} (p : ℕ) → Block units Any (At p 1 Any) p 1 (cell None (plain Return) ∷ [])
returned {units} p =
    let nothing : Block units Any Any (p + 1) 0 [] = none (λ l h. tt) in
    front 1 (cell None (plain Return)) nothing (λ l h. h)
    (λ l here mark there h. fits_by l units p 1 0 None (plain Return) _ refl (omega arith) (omega arith) tt tt tt tt)
    (λ l here mark there h. (here, tt))

none_returned : {units : ℕ} (p : ℕ) → Block units Any (At p 0 (At (p + 1) 1 Any)) p 2 (cell None (constant NoneConstant) ∷ cell None (plain Return) ∷ [])
none_returned {units} p =
    front 0 (cell None (constant NoneConstant)) (returned (p + 1)) (λ l h. h)
    (λ l here mark there h. fits_by l units p 0 0 None (constant NoneConstant) _ refl (omega arith) (omega arith) (goes l p (suc p) 1 (1 + 0) (next_place l p 1 there.0) (omega arith) (omega arith), tt) tt tt tt)
    (λ l here mark there h. (here, there))

pub body_whole : {units : ℕ} (fs : List Function) (ss : Stmts) → StmtsFit units fs ss → Whole units (stmts_size false ss + 2) (body_cells fs ss)
body_whole fs ss b =
    let n = stmts_size false ss in
    only (placed (omega arith) (b (outermost n) 0 n tt (omega arith)) (none_returned n)
    (λ l there h.
    let way : Way 0 0 n n 0 l = record { below = 0; split = omega arith; stands = there.0; ahead = omega arith } in
    record { ends = there.0; handles = tt; also = record { breaks = way; continues = way; returns = tt } }))

-- a unit with numbers of operands at which it is valid
pub record HasDepths (u : Code) (units : ℕ) : Type 0 where
  pub depths : List ℕ
  pub valid : IsValid u units depths

pub unit_valid : (u : Code) (units n : ℕ) (cs : List Cell) → HasAt u 0 cs → length u.instrs ≡ length cs → u.handlers ≡ handlers_of cs → Whole units n cs → HasDepths u units
unit_valid u units n cs has whole is b =
    let ds = b.depths in
    let long = b.long ∙ sym b.size in
    let stand = stands_here cs ds in
    let marks = marks_here cs ds in
    let all = b.fits (layout_of cs ds) stand marks tt in
    record {
      depths = ds;
      valid = record {
        table = table u units cs ds all whole is;
        begins = (b.gives (layout_of cs ds) stand marks tt).0;
        long = long ∙ sym whole;
        fits = λ p depth i e at. fits_at u units cs ds has all long p depth i e at;
      };
    }
