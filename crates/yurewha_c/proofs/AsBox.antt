-- What a handle owns is what a box of the same type owns, in memory of the global allocator.
use mathlib.Core.List.{[]}
use mir.Syntax.{impl, tnil, dnil}
use denote.RattleType.{RattleType}
use denote.Param.Laws.{Laws}
use Rattle.std_alloc.proofs.BoxSteps.Form.{Bx}
use Rattle.std_heap.specs.contracts.Global as global
use Rattle.std_heap.specs.contracts.GlobalAllocator.TheImpl.{ghosts, dict}
use Rattle.std_heap.proofs.Global.TheLaws as global_laws
use Rattle.yurewha_c.specs.contracts.parts.Parts as parts

abbrev pub global_row : RattleType
global_row = global.the_row

abbrev pub box_of : (R : RattleType) → Laws R → Bx
box_of R laws = record {
  row = R;
  laws = laws;
  al = record { row = global_row; laws = global_laws.the_row_laws; g = ghosts; d = dict; drops = impl [] tnil dnil };
}

-- the parts of a box
abbrev pub parts_row : RattleType → RattleType
parts_row R = parts.the_row R global_row ghosts
