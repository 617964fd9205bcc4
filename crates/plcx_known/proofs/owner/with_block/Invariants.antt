use Rattle.std.proofs.Common.{◌≡◌, ◌++◌, drop, map}
use Rattle.plcx_st.specs.Meant.{class_meant, mark_meant}
use Rattle.plcx_conditions.specs.Placed.{Declaration, Declared}
use Rattle.plcx_conditions.specs.Places.{placed_declaration}
use Rattle.plcx_known.specs.Unit.{bare_of}
use Rattle.plcx_known.specs.Owned.{typed, shown_own}
use Rattle.plcx_known.proofs.owner.with_block.Given as goal

abbrev pub invariant-loop-decl : goal.invariant-loop-decl
invariant-loop-decl l =
    let made = λ (d : Declaration). let v : Declared = record { class = class_meant l.block.class; mark = mark_meant l.block.mark; declaration = d } in v in
    map shown_own l.found.items ++ map (typed (bare_of l.pous)) (map made (map placed_declaration (drop l.decl-index l.decls)))
    ≡ map shown_own l.initial.found.items ++ map (typed (bare_of l.pous)) (map made (map placed_declaration l.decls))
