use Rattle.std.proofs.Common.{◌∙◌, List, sym, ap, subst}
use Rattle.std.specs.List.{AllZip}
use Rattle.plcx_types.specs.Lists.{Each}
use Rattle.plcx_meaning.specs.Diagram.{DiagramElement, has_jump}
use Rattle.plcx_steps.specs.declared.program.Network.{Network}
use Rattle.plcx_numbered.specs.Programs.{IsNetworkOf}
use Rattle.plcx_bodies.specs.Framed.{IsWithin}
use Rattle.plcx_program.proofs.Tables.{counted}
use Rattle.plcx_program.proofs.bodies.with_body.Goals as goal

pub returns-in_ok-push-in-Some : goal.returns-in_ok-push-in-Some
returns-in_ok-push-in-Some c = λ project p drawn.
    let made = c.in_ok-made.made in
    let has = c.in_ok-made.ensures project p drawn in
    let table = c.in-Some.table.now in
    let counts = counted project c.args.tables.now.tables.now c.args.place c.args.drawing.now p drawn table (sym c.in-Some.ensures) in
    record {
      body = record {
        level = table.level;
        leaves = table.leaves;
        memories = table.memories;
        in_outs = c.in_outs.result;
        first_wire = 0;
        first_in_out = 0;
        width = c.width.result;
        jumps = c.has_jump.result;
        networks = made.items;
      };
      more = c.in_ok-push-in-Some.ensures.items;
      is = λ program b. record {
        plain = record {
          level = counts.level;
          leaves = counts.leaves;
          memories = counts.memories;
          in_outs = c.in_outs.ensures ∙ counts.in_outs;
          width = subst (λ (ns : List Network). Each (IsWithin c.width.result) ns) c.deref.ensures.value c.width.ensures;
          jumps = c.has_jump.ensures ∙ ap has_jump (sym drawn.networks);
        };
        networks = subst (λ (ns : List (List DiagramElement)). AllZip (IsNetworkOf project program p) ns made.items.items) (sym drawn.networks) (has.are program b);
      };
      continues = has.continues;
    }
