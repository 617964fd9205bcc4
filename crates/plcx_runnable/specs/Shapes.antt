-- The types of an instance's leaves, memories and in-outs, by what is declared.
use Rattle.std.specs.Prelude.{List, Some, map, filter, unwrap_or}
use Rattle.plcx_types.specs.declared.ty.Ty.{Ty}
use Rattle.plcx_types.specs.declared.ty.Ty.TheVariants as ty
use Rattle.plcx_types.specs.TypeName.{type_named}
use Rattle.plcx_meaning.specs.Diagram.{Pou, Project}
use Rattle.plcx_meaning.specs.Layout.{Variable, variables_of}
use Rattle.plcx_meaning.specs.Evaluate.{is_in_out}
use Rattle.plcx_steps.specs.Typed.{Shape}
use Rattle.plcx_numbered.specs.Numbers.{Place, places_of, depth, cell_types}

-- the type of an in-out; in a project that fits it is elementary
abbrev pub in_out_type : Variable → Ty
in_out_type v = unwrap_or (type_named v.ty) ty.Bool

-- the types of the in-outs among variables, in order
abbrev pub in_out_types : List Variable → List Ty
in_out_types vs = map in_out_type (filter (λ v. is_in_out (Some v)) vs)

-- the types of the leaves and memories of an instance of a POU, and of its in-outs
abbrev pub types_of : Project → Pou → Shape
types_of project p = record {
  leaves = map (λ (x : Place). x.1) (places_of project (variables_of p.lists));
  memories = cell_types depth project p;
  in_outs = in_out_types (variables_of p.lists);
}
