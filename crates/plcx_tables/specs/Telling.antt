-- What the code keeps of a variable, as the definitions see it.
use Rattle.std.specs.Prelude.{ℕ, Bool, not, List, Option, Some, None, is_some, map, if◌then◌else◌}
use Rattle.plcx_types.specs.TypeName.{type_named}
use Rattle.plcx_std.specs.declared.kind.StdKind.{StdKind}
use Rattle.plcx_std.specs.Kind.{kind_named}
use Rattle.plcx_meaning.specs.Diagram as diagram
use Rattle.plcx_meaning.specs.Diagram.{Project, is_program}
use Rattle.plcx_meaning.specs.Evaluate.{is_in_out, place_named}
use Rattle.plcx_meaning.specs.Layout.{Variable, is_kept}
use Rattle.plcx_model.specs.declared.project.Pou.{Pou}
use Rattle.plcx_model.specs.declared.project.PouKind.TheVariants.{Program, FunctionBlock}
use Rattle.plcx_rules.specs.Texts.{same_name}
use Rattle.plcx_drawn.specs.declared.drawing.Drawing.{Drawing}
use Rattle.plcx_tables.specs.declared.variables.Declared.{Declared}
use Rattle.plcx_tables.specs.declared.variables.Pous.{Pous}
use Rattle.plcx_tables.specs.Tables.{first_place}
use Rattle.plcx_tables.specs.Named.{NamesTold}

-- ---- POUs

-- the name of a drawn POU
abbrev pub pou_name : Drawing → Option (List ℕ)
pou_name d = Some d.pou.now.name

-- the name of a function block
abbrev pub block_name : Pou → Option (List ℕ)
block_name p = elim p.kind [ Program ↦ None | FunctionBlock ↦ Some p.name ]

-- the names of all POUs, and those of the function blocks among them, each at its place
abbrev pub pou_names : Project → List (Option (List ℕ))
pou_names project = map (λ (p : diagram.Pou). Some p.name) project

abbrev pub block_names : Project → List (Option (List ℕ))
block_names project = map (λ (p : diagram.Pou). if is_program p.kind then None else Some p.name) project

-- the tables of their names
pub record AreNamed (project : Project) (named : Pous) : Type 0 where
  pub all : NamesTold named.all.numbers.entries named.all.count (pou_names project)
  pub blocks : NamesTold named.blocks.numbers.entries named.blocks.count (block_names project)

-- ---- variables

-- a variable by its name, whether it is an in-out, whether it has leaves of its own, and what the name of its type stands for
pub record Told : Type 0 where
  pub name : List ℕ
  pub in_out : Bool
  pub kept : Bool
  pub elementary : Bool
  pub standard : Option StdKind
  pub block : Option ℕ
  pub pou : ℕ

-- what is told of a variable
abbrev pub told : Project → Variable → Told
told project v = record {
  name = v.name;
  in_out = is_in_out (Some v);
  kept = is_kept v.class;
  elementary = is_some (type_named v.ty);
  standard = kind_named v.ty;
  block = first_place same_name (block_names project) v.ty;
  pou = place_named v.ty project;
}

-- what the code tells
abbrev pub shown : Declared → Told
shown d = record { name = d.name.now; in_out = d.in_out; kept = not d.in_out; elementary = d.elementary; standard = d.standard; block = d.block; pou = d.pou }
