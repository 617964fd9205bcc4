-- What a block calls is an instance of it, and what its formal parameters lead to stands within the instance.
use Rattle.std.proofs.Common.{◌≡◌, ℕ, Bool, true, false, not, List, [], ◌∷◌, map, get_or, Option, Some, None, refl, sym, ap, ◌∙◌, subst}
use Rattle.std.specs.List.{find}
use Rattle.std.proofs.lemmas.Bool.{eqb-true}
use Rattle.plcx_types.specs.Lists.{Each}
use Rattle.plcx_types.specs.Name.{in_lower_case}
use Rattle.plcx_std.specs.declared.kind.StdKind.{StdKind}
use Rattle.plcx_std.specs.declared.kind.StdKind.TheVariants as kind
use Rattle.plcx_meaning.specs.Layout as layout
use Rattle.plcx_meaning.specs.Tree as tree
use Rattle.plcx_meaning.proofs.Names.{bytes_same}
use Rattle.plcx_model.specs.declared.plan.Links.{Links}
use Rattle.plcx_model.specs.declared.plan.Types.{Types}
use Rattle.plcx_model.specs.declared.plan.Plan.{Plan}
use Rattle.plcx_model.specs.declared.project.ListClass.TheVariants as list
use Rattle.plcx_model.specs.declared.project.VarTy.{VarTy}
use Rattle.plcx_model.specs.declared.project.VarTy.TheVariants.{Plain, Std, Block}
use Rattle.plcx_model.specs.declared.project.Pou.{Pou}
use Rattle.plcx_model.specs.declared.project.Project.{Project}
use Rattle.plcx_model.specs.Sound.{IsKnown, Sound}
use Rattle.plcx_rules.specs.declared.callee.Callee.{Callee}
use Rattle.plcx_rules.specs.declared.callee.Callee.TheVariants as callee
use Rattle.plcx_rules.specs.Texts.{same_name}
use Rattle.plcx_rules.specs.Declarations.{Declaration, declaration_named, kind_place, same_kind}
use Rattle.plcx_rules.specs.Callees.{BlockPin, Formal, fixed, inputs_of, in_outs_of, outputs_of, outputs_of_type, is_function, is_instance_of}
use Rattle.plcx_rules.specs.LinkRules.{leads_to, instance_suits, instance_fails}
use Rattle.plcx_view.specs.Blocks.{variable_name, instance_of}
use Rattle.plcx_fits.proofs.Named.{IsPinOf, within, IsBlockType, pins_there, outputs_there, inputs_there}
use Rattle.plcx_fits.proofs.Ports.{found_one}

-- the standard block at a place
abbrev kind_at : ℕ → StdKind
kind_at n = get_or (kind.Ton ∷ kind.Tof ∷ kind.Tp ∷ kind.Ctu ∷ kind.Ctd ∷ kind.Ctud ∷ kind.Sr ∷ kind.Rs ∷ kind.RTrig ∷ kind.FTrig ∷ []) n kind.FTrig

kind_again : (k : StdKind) → kind_at (kind_place k) ≡ k
kind_again kind.Ton = refl
kind_again kind.Tof = refl
kind_again kind.Tp = refl
kind_again kind.Ctu = refl
kind_again kind.Ctd = refl
kind_again kind.Ctud = refl
kind_again kind.Sr = refl
kind_again kind.Rs = refl
kind_again kind.RTrig = refl
kind_again kind.FTrig = refl

one_kind : (k j : StdKind) → same_kind k j ≡ true → k ≡ j
one_kind k j h = sym (kind_again k) ∙ ap kind_at (eqb-true (kind_place k) (kind_place j) h) ∙ kind_again j

-- the type of an instance
pub data TypeOf : Callee → VarTy → Type 0 where
  OfStandard : {k : StdKind} → TypeOf (callee.Standard k) (Std k)
  OfBlock : {place : ℕ} → TypeOf (callee.Block place) (Block place)

type_of : (c : Callee) (t : VarTy) → is_instance_of c t ≡ true → TypeOf c t
unfolding is_instance_of
type_of (callee.Function f) t h = absurd (cc)
type_of (callee.Standard k) (Plain t) h = absurd (cc)
type_of (callee.Standard k) (Std j) h = subst (λ i. TypeOf (callee.Standard k) (Std i)) (one_kind k j h) OfStandard
type_of (callee.Standard k) (Block place) h = absurd (cc)
type_of (callee.Block place) (Plain t) h = absurd (cc)
type_of (callee.Block place) (Std j) h = absurd (cc)
type_of (callee.Block place) (Block other) h = subst (λ n. TypeOf (callee.Block place) (Block n)) (eqb-true place other h) OfBlock

-- the instance of a block
pub record InstanceIs (p : Pou) (c : Callee) (instance : Option (List ℕ)) : Type 0 where
  pub name : List ℕ
  pub d : Declaration
  pub found : declaration_named p name ≡ Some d
  pub typed : TypeOf c d.variable.ty
  pub spelled : instance_of p instance ≡ d.variable.name

leads_is : (p : Pou) (c : Callee) (name : List ℕ) (o : Option Declaration) → declaration_named p name ≡ o → leads_to c o ≡ true → InstanceIs p c (Some name)
leads_is p c name None is h = absurd (cc)
leads_is p c name (Some d) is h = record { name = name; d = d; found = is; typed = type_of c d.variable.ty h; spelled = ap variable_name is }

suits : (p : Pou) (c : Callee) (instance : Option (List ℕ)) → is_function c ≡ false → instance_suits p c instance ≡ true → InstanceIs p c instance
suits p (callee.Function f) instance block h = absurd (cc)
suits p (callee.Standard k) None block h = absurd (cc)
suits p (callee.Standard k) (Some name) block h = leads_is p (callee.Standard k) name (declaration_named p name) refl h
suits p (callee.Block place) None block h = absurd (cc)
suits p (callee.Block place) (Some name) block h = leads_is p (callee.Block place) name (declaration_named p name) refl h

pub instance_is : (p : Pou) (c : Callee) (instance : Option (List ℕ)) → is_function c ≡ false → instance_fails p (Some c) instance ≡ false → InstanceIs p c instance
instance_is p c instance block h = suits p c instance block (not_fails (instance_suits p c instance) h)
  where
    not_fails : (b : Bool) → not b ≡ false → b ≡ true
    not_fails true k = refl
    not_fails false k = cc

-- a formal parameter is a pin within the instance
pub record IsWithin (vs : List layout.Variable) (c : tree.Class) (f : Formal) : Type 0 where
  pub pin : BlockPin
  pub is : f ≡ fixed pin
  pub there : IsPinOf vs c pin

fixed_within : (vs : List layout.Variable) (c : tree.Class) (pins : List BlockPin) → Each (IsPinOf vs c) pins → Each (IsWithin vs c) (map fixed pins)
fixed_within vs c [] all = tt
fixed_within vs c (b ∷ bs) all = (record { pin = b; is = refl; there = all.0 }, fixed_within vs c bs all.1)

module _ (project : Project) (links : Links) (types : Types) (plan : Plan) (sound : Sound project) where
  abbrev pous : List Pou
  pous = project.pous

  abbrev inner : VarTy → List layout.Variable
  inner t = within project links types plan sound t

  pub block_type : (c : Callee) (t : VarTy) → TypeOf c t → IsBlockType project links types plan sound t
  block_type _ _ OfStandard = tt
  block_type _ _ OfBlock = tt

  pub inputs_within : (c : Callee) (t : VarTy) (n : ℕ) → TypeOf c t → IsKnown pous t → Each (IsWithin (inner t) tree.Input) (inputs_of pous c n)
  unfolding inputs_of
  inputs_within _ _ n (OfStandard {k = k}) known = fixed_within (inner (Std k)) tree.Input _ (inputs_there project links types plan sound k)
  inputs_within _ _ n (OfBlock {place = place}) known = fixed_within (inner (Block place)) tree.Input _ (pins_there project links types plan sound list.Input place known)

  pub in_outs_within : (c : Callee) (t : VarTy) → TypeOf c t → IsKnown pous t → Each (IsWithin (inner t) tree.InOut) (in_outs_of pous c)
  unfolding in_outs_of
  in_outs_within _ _ (OfStandard {k = k}) known = tt
  in_outs_within _ _ (OfBlock {place = place}) known = fixed_within (inner (Block place)) tree.InOut _ (pins_there project links types plan sound list.InOut place known)

  pub outputs_within : (c : Callee) (t : VarTy) → TypeOf c t → IsKnown pous t → Each (IsWithin (inner t) tree.Output) (outputs_of pous c)
  unfolding outputs_of outputs_of_type
  outputs_within _ _ (OfStandard {k = k}) known = fixed_within (inner (Std k)) tree.Output _ (outputs_there project links types plan sound (Std k) known)
  outputs_within _ _ (OfBlock {place = place}) known = fixed_within (inner (Block place)) tree.Output _ (outputs_there project links types plan sound (Block place) known)

  -- the formal parameter that a name leads to
  pub formal_within : (vs : List layout.Variable) (c : tree.Class) (name : List ℕ) (fs : List Formal) (f : Formal) → Each (IsWithin vs c) fs → find (λ (x : Formal). same_name name x.name) fs ≡ Some f
      → IsWithin vs c f × (in_lower_case f.name ≡ in_lower_case name)
  formal_within vs c name fs f all is = let r = found_one (IsWithin vs c) (λ (x : Formal). same_name name x.name) fs f all is in (r.0, sym (bytes_same (in_lower_case name) (in_lower_case f.name) r.1))
