-- What a declaration that breaks no rule gives to its variable.
use Rattle.std.proofs.Common.{◌≡◌, ℕ, ◌+◌, ◌^◌, ◌≤◌, Bool, true, false, ◌&&◌, ◌||◌, not, cond, nat_lt, List, [], ◌∷◌, length, map, Option, Some, None, option_map, is_none, is_some, slice_get, refl, ap, subst, ◌∙◌, arith, suc}
use Rattle.std.specs.List.{position_from}
use Rattle.std.specs.Str.{bytes_eq}
use Rattle.std.proofs.lemmas.Bool.Decides.{nat_tests}
use Rattle.std.proofs.lemmas.Option.{slice_get-map}
use Rattle.plcx_types.specs.Name.{is_identifier, in_lower_case}
use Rattle.plcx_types.specs.Limits.{max_declared_name_bytes}
use Rattle.plcx_types.specs.Reserved.{is_reserved}
use Rattle.plcx_types.specs.Value.{Value}
use Rattle.plcx_types.specs.ReadLiteral.{value_of}
use Rattle.plcx_types.specs.declared.ty.Ty.{Ty}
use Rattle.plcx_std.specs.Kind.{kind_named}
use Rattle.plcx_std.specs.declared.kind.StdKind.{StdKind}
use Rattle.plcx_model.specs.Sound.{IsDeclarable, IsKnown, MayHold, InitialSuits}
use Rattle.plcx_model.specs.declared.project.PouKind.{PouKind}
use Rattle.plcx_model.specs.declared.project.PouKind.TheVariants.{Program, FunctionBlock}
use Rattle.plcx_model.specs.declared.project.ListClass.{ListClass}
use Rattle.plcx_model.specs.declared.project.ListClass.TheVariants.{Local, InOut}
use Rattle.plcx_model.specs.declared.project.VarTy.{VarTy}
use Rattle.plcx_model.specs.declared.project.VarTy.TheVariants as var
use Rattle.plcx_draft.specs.BodyIn.{nonempty}
use Rattle.plcx_draft.specs.declared.draft.DraftType.{DraftType}
use Rattle.plcx_draft.specs.declared.draft.DraftType.TheVariants.{Plain, Derived}
use Rattle.plcx_draft.specs.declared.draft.DraftVariable.{DraftVariable}
use Rattle.plcx_draft.specs.declared.draft.DraftList.{DraftList}
use Rattle.plcx_draft.specs.declared.draft.DraftPou.{DraftPou}
use Rattle.plcx_profile.specs.Blocks.{is_block, is_block_named, block_named}
use Rattle.plcx_profile.specs.Names.{is_bad_name}
use Rattle.plcx_profile.specs.Types.{type_meant, standard_or, block_at, is_local, is_in_out, may_hold, breaks_in_out}
use Rattle.plcx_profile.specs.ProjectIn.{type_or, initial_as, list_of, pou_of}
use Rattle.plcx_sound.proofs.Values.{value_within}

pub or_false : (a b : Bool) → (a || b) ≡ false → (a ≡ false) × (b ≡ false)
or_false true b h = absurd (cc)
or_false false b h = (refl, h)

pub and_true : (a b : Bool) → (a && b) ≡ true → (a ≡ true) × (b ≡ true)
and_true true b h = (refl, h)
and_true false b h = absurd (cc)

pub not_false : (b : Bool) → not b ≡ false → b ≡ true
not_false true h = refl
not_false false h = absurd (cc)

not_true : (b : Bool) → not b ≡ true → b ≡ false
not_true true h = absurd (cc)
not_true false h = refl

pub at_most : (n m : ℕ) → nat_lt n m ≡ false → m ≤ n
at_most n m h = grind (arith, nat_tests)

-- names
pub declarable : (name : List ℕ) → is_bad_name name ≡ false → IsDeclarable name
unfolding is_bad_name
declarable name h =
    let outer = or_false (not (is_identifier name) || nat_lt max_declared_name_bytes (length name)) (is_reserved name) h in
    let inner = or_false (not (is_identifier name)) (nat_lt max_declared_name_bytes (length name)) outer.0 in
    record { identifier = not_false (is_identifier name) inner.0; short = at_most max_declared_name_bytes (length name) inner.1; free = outer.1 }

-- types
is_block_kind : (k : PouKind) → is_block k ≡ true → k ≡ FunctionBlock
is_block_kind Program h = absurd (cc)
is_block_kind FunctionBlock h = refl

record Stands (test : DraftPou → Bool) (pous : List DraftPou) (place : ℕ) : Type 0 where
  pou : DraftPou
  at : slice_get pous place ≡ Some pou
  passes : test pou ≡ true

later : (test : DraftPou → Bool) (p : DraftPou) (ps : List DraftPou) (n place : ℕ) → (k : ℕ) × (place ≡ n + 1 + k) × Stands test ps k → (k : ℕ) × (place ≡ n + k) × Stands test (p ∷ ps) k
later test p ps n place found = (suc found.0, omega (arith, found.1), record { pou = found.2.pou; at = found.2.at; passes = found.2.passes })

position_step : (test : DraftPou → Bool) (n : ℕ) (p : DraftPou) (ps : List DraftPou) (place : ℕ) (b : Bool) → test p ≡ b → (position_from test (n + 1) ps ≡ Some place → (k : ℕ) × (place ≡ n + 1 + k) × Stands test ps k)
    → cond b (Some n) (position_from test (n + 1) ps) ≡ Some place → (k : ℕ) × (place ≡ n + k) × Stands test (p ∷ ps) k
position_step test n p ps place true is more found = (0, (let same : n ≡ place = cc in omega (arith, same)), record { pou = p; at = refl; passes = is })
position_step test n p ps place false is more found = later test p ps n place (more found)

position_stands : (test : DraftPou → Bool) (n : ℕ) (pous : List DraftPou) (place : ℕ) → position_from test n pous ≡ Some place → (k : ℕ) × (place ≡ n + k) × Stands test pous k
position_stands test n [] place h = absurd (cc)
position_stands test n (p ∷ ps) place h = position_step test n p ps place (test p) refl (position_stands test (n + 1) ps place) h

block_known : (pous : List DraftPou) (name : List ℕ) (place : ℕ) → block_named pous name ≡ Some place → IsKnown (map (pou_of pous) pous) (var.Block place)
unfolding block_named pou_of
block_known pous name place h =
    let found = position_stands (is_block_named name) 0 pous place h in
    let stands = found.2 in
    let same : found.0 ≡ place = omega (arith, found.1) in
    let kind = and_true (is_block stands.pou.kind) (bytes_eq name (in_lower_case stands.pou.name)) stands.passes in
    (pou_of pous stands.pou, subst (λ (k : ℕ). slice_get (map (pou_of pous) pous) k ≡ Some (pou_of pous stands.pou)) same (slice_get-map (pou_of pous) pous found.0 ∙ ap (option_map (pou_of pous)) stands.at), is_block_kind stands.pou.kind kind.0)

pub known : (pous : List DraftPou) (t : DraftType) → is_none (type_meant pous t) ≡ false → IsKnown (map (pou_of pous) pous) (type_or (type_meant pous t))
known pous (Plain t) h = tt
known pous (Derived name) h = go (kind_named name) (block_named pous (in_lower_case name)) refl h
  where
    placed : (place : ℕ) (small : Bool) → block_named pous (in_lower_case name) ≡ Some place → is_none (cond small (Some (var.Block place)) None) ≡ false → IsKnown (map (pou_of pous) pous) (type_or (cond small (Some (var.Block place)) None))
    placed place true is some = block_known pous (in_lower_case name) place is
    placed place false is some = absurd (cc)

    go : (k : Option StdKind) (place : Option ℕ) → block_named pous (in_lower_case name) ≡ place → is_none (standard_or (block_at place) k) ≡ false → IsKnown (map (pou_of pous) pous) (type_or (standard_or (block_at place) k))
    go (Some k) place is some = tt
    go None None is some = absurd (cc)
    go None (Some place) is some = placed place (nat_lt place (2 ^ 32)) is some

local_is : (c : ListClass) → is_local c ≡ true → c ≡ Local
local_is Local h = refl
local_is _ h = absurd (cc)

holds : (pous : List DraftPou) (list : DraftList) (t : VarTy) → (list.class ≡ Local) × (list.constant ≡ false) → MayHold (list_of pous list) t
unfolding list_of
holds pous list (var.Plain t) h = tt
holds pous list (var.Std k) h = h
holds pous list (var.Block place) h = h

pub held : (pous : List DraftPou) (list : DraftList) (t : DraftType) → may_hold list t ≡ true → MayHold (list_of pous list) (type_or (type_meant pous t))
held pous list (Plain t) h = tt
held pous list (Derived name) h =
    let both = and_true (is_local list.class) (not list.constant) h in
    holds pous list (type_or (type_meant pous (Derived name))) (local_is list.class both.0, not_true list.constant both.1)

-- initial values
literal_suits : (t : Ty) (text : List ℕ) (v : Option Value) → value_of t text ≡ v → InitialSuits (var.Plain t) v
literal_suits t text None is = tt
literal_suits t text (Some v) is = value_within t text v is

pub suits : (pous : List DraftPou) (t : DraftType) (initial : Option (List ℕ)) → InitialSuits (type_or (type_meant pous t)) (initial_as t initial)
suits pous (Plain t) None = tt
suits pous (Plain t) (Some text) = literal_suits t text (value_of t text) refl
suits pous (Derived name) initial = nothing (type_or (type_meant pous (Derived name)))
  where
    nothing : (t : VarTy) → InitialSuits t None
    nothing (var.Plain t) = tt
    nothing (var.Std k) = tt
    nothing (var.Block place) = tt

-- in-outs
in_out_is : (c : ListClass) → c ≡ InOut → is_in_out c ≡ true
in_out_is c h = ap is_in_out h

no_initial : (t : DraftType) (initial : Option (List ℕ)) → is_some initial ≡ false → initial_as t initial ≡ None
no_initial (Plain t) None h = refl
no_initial (Derived name) None h = refl
no_initial t (Some text) h = absurd (cc)

pub bare : (list : DraftList) (v : DraftVariable) → breaks_in_out list.class v ≡ false → list.class ≡ InOut → (nonempty v.address ≡ None) × (initial_as v.ty v.initial ≡ None)
bare list v h is =
    let none : (is_some v.initial || not (bytes_eq v.address [])) ≡ false = rw (in_out_is list.class is) at h in
    let both = or_false (is_some v.initial) (not (bytes_eq v.address [])) none in
    (rw (not_false (bytes_eq v.address []) both.1) refl, no_initial v.ty v.initial both.0)
