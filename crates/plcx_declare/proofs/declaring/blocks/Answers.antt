use Rattle.std.proofs.Common.{map}
use Rattle.std.specs.List.{flat_map}
use Rattle.plcx_meaning.specs.Tree.{Local, Temp, Plain}
use Rattle.plcx_meaning.specs.Templates.{block, list_text, element_memories, element_wires}
use Rattle.plcx_view.specs.Declared.{lists_of}
use Rattle.plcx_drawn.specs.Shown.{shown_element}
use Rattle.plcx_declare.specs.Named.{IsNamed, BlockIsNamed}
use Rattle.plcx_rules.proofs.Lists.{each_split}
use Rattle.plcx_declare.specs.Texts.{temporaries}
use Rattle.plcx_declare.proofs.Declared.{declared}
use Rattle.plcx_declare.proofs.declaring.blocks.Goals as goal

pub list_blocks-requires : goal.list_blocks-requires
list_blocks-requires c = (each_split BlockIsNamed (flat_map list_text (lists_of c.args.pous.now c.args.pou.now)) _ c.requires).0

pub memory_decls-requires : goal.memory_decls-requires
memory_decls-requires c =
    let elements = map shown_element c.args.elements.now in
    let own = (each_split BlockIsNamed (flat_map list_text (lists_of c.args.pous.now c.args.pou.now)) _ c.requires).1 in
    declared Local Plain (flat_map element_memories elements) (each_split BlockIsNamed (block Local Plain (flat_map element_memories elements)) _ own).0

pub temporary_decls-requires : goal.temporary_decls-requires
temporary_decls-requires c =
    let elements = map shown_element c.args.elements.now in
    let own = (each_split BlockIsNamed (flat_map list_text (lists_of c.args.pous.now c.args.pou.now)) _ c.requires).1 in
    let all = declared Temp Plain (temporaries c.args.jumps elements) (each_split BlockIsNamed (block Local Plain (flat_map element_memories elements)) _ own).1 in
    (each_split IsNamed (flat_map element_wires elements) _ all).0
