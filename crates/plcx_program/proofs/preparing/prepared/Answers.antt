use Rattle.std.proofs.Common.{◌∙◌, List, [], map, sym, subst}
use Rattle.std.specs.List.{AllZip}
use Rattle.std.proofs.lemmas.List.{append-nil}
use Rattle.plcx_types.specs.Lists.{Each}
use Rattle.plcx_meaning.specs.Diagram.{Pou}
use Rattle.plcx_drawn.specs.Pous.{shown_pou}
use Rattle.plcx_prepare.specs.Literals.{ElementHasLiterals}
use Rattle.plcx_bodies.specs.Made.{Begins}
use Rattle.plcx_tables.specs.declared.own.Own.{Own}
use Rattle.plcx_tables.specs.Tabled.{ArePlaced}
use Rattle.plcx_steps.specs.declared.program.Program.{Program}
use Rattle.plcx_program.specs.Bodies.{AreTablesOf, IsUnframed}
use Rattle.plcx_program.proofs.Zips.{each_unmapped}
use Rattle.plcx_program.proofs.Programs.{is_program}
use Rattle.plcx_program.proofs.preparing.prepared.Goals as goal

pub bodies_of-requires : goal.bodies_of-requires
bodies_of-requires c = each_unmapped (λ (p : Pou). Each (Each ElementHasLiterals) p.networks) (shown_pou c.args.pous.now) c.args.drawings.now c.requires.literals

pub returns : goal.returns
returns c =
    let pous = c.args.pous.now in
    let project = map (shown_pou pous) c.args.drawings.now in
    let all = c.in_ok-all.all in
    let program : Program = record { bodies = c.in_ok-bodies.bodies; bindings = all.shared.bindings; arguments = all.shared.arguments } in
    let begins : Begins all.shared program = record {
      more_arguments = [];
      more_bindings = [];
      arguments = sym (append-nil all.shared.arguments.items);
      bindings = sym (append-nil all.shared.bindings.items);
    } in
    let placed : ArePlaced c.in_ok-owns.owns.items c.in_ok-list.list.items = subst (λ (os : List Own). ArePlaced os c.in_ok-list.list.items) c.deref.ensures.value c.in_ok-list.ensures in
    let same = c.in_ok-tables.ensures ∙ c.deref-2.ensures.value in
    let told : AreTablesOf project c.in_ok-tables.tables.tables.now = record { owns = c.in_ok-owns.owns.items; own = c.in_ok-owns.ensures; placed = subst (ArePlaced c.in_ok-owns.owns.items) (sym same) placed } in
    let are : AllZip (IsUnframed project program) project all.items.items = c.in_ok-all.ensures pous told program begins in
    is_program project program c.requires.fits all.items.items are c.in_ok-bodies.ensures
