use Rattle.std.proofs.Common.{◌≡◌, ℕ, List, Bool, not, Some, Option, unwrap_or, is_some, refl, ap, ap₂, ◌∙◌}
use Rattle.plcx_types.specs.TypeName.{type_named}
use Rattle.plcx_std.specs.declared.kind.StdKind.{StdKind}
use Rattle.plcx_std.specs.Kind.{kind_named}
use Rattle.plcx_rules.specs.Texts.{same_name}
use Rattle.plcx_meaning.specs.Evaluate.{place_named, is_in_out}
use Rattle.plcx_meaning.specs.Layout.{variable, is_kept}
use Rattle.plcx_meaning.specs.Tree.{Plain, Declaration}
use Rattle.plcx_model.specs.declared.project.ListClass.{ListClass}
use Rattle.plcx_model.specs.declared.project.ListClass.TheVariants.{Local, Input, Output, InOut}
use Rattle.plcx_view.specs.Declared.{class_of, declaration_of}
use Rattle.plcx_tables.specs.Tables.{first_place}
use Rattle.plcx_tables.specs.Telling.{Told, block_names}
use Rattle.plcx_tables.proofs.Drawn.{place_is}
use Rattle.plcx_tables.proofs.variables.variable_of.Goals as goal

told_by : (name name' : List ℕ) (in_out in_out' kept kept' elementary elementary' : Bool) (standard standard' : Option StdKind) (block block' : Option ℕ) (pou pou' : ℕ)
    → name ≡ name' → in_out ≡ in_out' → kept ≡ kept' → elementary ≡ elementary' → standard ≡ standard' → block ≡ block' → pou ≡ pou'
    → (let t : Told = record { name = name; in_out = in_out; kept = kept; elementary = elementary; standard = standard; block = block; pou = pou } in t)
    ≡ record { name = name'; in_out = in_out'; kept = kept'; elementary = elementary'; standard = standard'; block = block'; pou = pou' }
told_by name name' in_out in_out' kept kept' elementary elementary' standard standard' block block' pou pou' a b k c d e f = rw (a, b, k, c, d, e, f) refl

kept_is : (class : ListClass) (d : Declaration) → not (is_in_out (Some (variable (class_of class) Plain d))) ≡ is_kept (class_of class)
kept_is Local d = refl
kept_is Input d = refl
kept_is Output d = refl
kept_is InOut d = refl

pub returns : goal.returns
returns c = λ project mark named.
    let ty = c.spelled-ty.result.now in
    let is = c.spelled-ty.ensures in
    told_by _ _ _ _ _ _ _ _ _ _ _ _ _ _
    c.text.ensures.text
    (c.is_in_out.ensures mark (declaration_of c.args.pous.now c.args.one.now))
    (ap not (c.is_in_out.ensures Plain (declaration_of c.args.pous.now c.args.one.now)) ∙ kept_is c.args.class (declaration_of c.args.pous.now c.args.one.now))
    (c.is_some.ensures ∙ ap is_some c.named.ensures ∙ ap (λ (t : List ℕ). is_some (type_named t)) is)
    (c.std_lookup.ensures.found ∙ ap kind_named is)
    (c.number_of_name.ensures ∙ named.blocks.numbers ty ∙ ap (first_place same_name (block_names project)) is)
    (c.place_of_name.ensures ∙ ap₂ unwrap_or (named.all.numbers ty) named.all.long ∙ place_is ty project ∙ ap (λ t. place_named t project) is)
