-- What the law says of pieces.
use Rattle.std.specs.Prelude.{ℕ, ◌≤◌, List, map, length}
use Rattle.plcx_meaning.specs.Tree.{Statement, statements}
use Rattle.plcx_meaning.specs.Layout.{variables_of}
use Rattle.plcx_meaning.specs.Ready.{StatementsAreReady}
use Rattle.plcx_numbered.specs.Right.{HasAt}
use Rattle.plcx_text_steps.specs.declared.text.Section.{Section}
use Rattle.plcx_text_numbered.specs.Numbers.{temporary_names}
use Rattle.plcx_text_numbered.specs.Texts.{Owner, num, Parts, AreLinesOf}
use Rattle.plcx_text_pieces.specs.Called.{numbers_of}
use Rattle.plcx_text_pieces.specs.Pieces.{Part, Piece, Start, after, statements_piece}

-- a part stands in a list from a place on that lies within it
pub record StandsIn {A : Type 0} (whole : List A) (first : ℕ) (part : List A) : Type 0 where
  pub begins : first ≤ length whole
  pub has : HasAt whole first part

-- a section that was prepared
abbrev pub part_of : Section → Part
part_of s = (s.pou, s.lines.items)

-- what a piece adds stands among what is prepared, from this start on
pub record Has (c : Parts) (s : Start) (p : Piece) : Type 0 where
  pub arguments : StandsIn c.arguments s.arguments p.arguments
  pub bindings : StandsIn c.bindings s.bindings p.bindings
  pub sections : StandsIn (map part_of c.sections) s.sections p.sections
  pub arms : StandsIn c.arms s.arms p.arms
  pub wires : StandsIn c.wires s.wires p.wires

-- Where the piece of the statements of a POU stands among what is prepared, its lines stand for these statements.
abbrev pub PiecesStand : Type 0
PiecesStand =
    (o : Owner) (c : Parts) (s : Start) (body : List Statement) → StatementsAreReady (num o).scope (statements body)
    → Has c s (statements_piece (numbers_of o) (statements body) s) → length (temporary_names (variables_of o.pou.blocks)) ≤ s.wires
    → AreLinesOf o c s.sections (after s (statements_piece (numbers_of o) (statements body) s)).sections body (statements_piece (numbers_of o) (statements body) s).lines
