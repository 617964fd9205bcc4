-- Short words to write a unit down, each word with its place.
use Rattle.std.specs.Prelude.{ℕ, ℤ, List, [], Some, None}
use Rattle.plcx_types.specs.declared.ty.Ty.{Ty}
use Rattle.plcx_meaning.specs.Tree.{PouKind, Class, Mark}
use Rattle.plcx_conditions.specs.Placed.{Word, Literal, Expression, Argument, Statement, Labelled, Declaration, Block, Pou}

abbrev pub word : List ℕ → ℕ → Word
word name at = record { name = name; at = at }

abbrev pub literal : Ty → ℤ → ℕ → Literal
literal t n at = record { value = record { ty = t; n = n }; at = at }

abbrev pub argument : Word → Expression → Argument
argument formal e = record { formal = formal; value = e }

-- a label without statements
abbrev pub labelled : ℕ → ℕ → Labelled
labelled label at = record { label = label; at = at; body = [] }

abbrev pub of_type : Word → Word → Declaration
of_type name type = record { name = name; address = None; ty = type; initial = None }

abbrev pub with_initial : Word → Word → Literal → Declaration
with_initial name type v = record { name = name; address = None; ty = type; initial = Some v }

abbrev pub block : Class → Mark → List Declaration → Block
block class mark ds = record { class = class; mark = mark; declarations = ds }

abbrev pub pou : PouKind → Word → List Block → List Statement → Pou
pou kind name blocks body = record { kind = kind; name = name; blocks = blocks; body = body }
