-- A block that is called has a lower level.
use Rattle.std.proofs.Common.{◌≡◌, ℕ, suc, ◌<◌, ◌≤◌, Option, Some, None, sym, ap, ◌∙◌, arith}
use Rattle.std.specs.Prelude.{slice_get}
use Rattle.std.specs.List.{Contains}
use Rattle.std.specs.Coded.{le_prop}
use Rattle.std.proofs.Math.Logic.{∥∥₁_elim}
use Rattle.std.proofs.lemmas.Option.{same_Some}
use Rattle.plcx_types.specs.Name.{in_lower_case}
use Rattle.plcx_meaning.specs.Layout.{Variable, variables_of, variable_named}
use Rattle.plcx_meaning.specs.Diagram.{Pou, Project}
use Rattle.plcx_meaning.specs.Evaluate.{place_named}
use Rattle.plcx_meaning.specs.Fits.{PouFits, PouNests, ProjectFits}
use Rattle.plcx_meaning.proofs.Lists.{each_at}
use Rattle.plcx_meaning.proofs.ReadyUnits.{named_each}
use Rattle.plcx_numbered.specs.Numbers.{user_of, level, instance_level, inner_depth}
use Rattle.plcx_numbered.proofs.Nested.{user_is, nests_below, levels_steady, highest_of}
use Rattle.plcx_numbered.proofs.Sources.{distinct_of}
use Rattle.plcx_numbered.proofs.Callees.{place_block}

-- the POU that stands at the place of an instance's type
lower : (project : Project) → ProjectFits project → (p : Pou) → Contains project p → (v : Variable) → Contains (variables_of p.lists) v → (q : Pou) → user_of project v ≡ Some q
    → (r : Pou) → slice_get project (place_named v.ty project) ≡ Some r → suc (level inner_depth project r) ≤ level inner_depth project p
lower project fits p own v declared q user r there =
    let one : PouFits project p = each_at (PouFits project) project p fits.pous own in
    let nests : PouNests 16 project p = each_at (PouNests 16 project) project p fits.nests own in
    let u = user_is project v q user in
    let found = each_at (λ (w : Variable). variable_named (in_lower_case w.name) (variables_of p.lists) ≡ Some w) (variables_of p.lists) v (named_each (variables_of p.lists) one.distinct) declared in
    let below = nests_below project 15 p nests v found q user in
    let steady = levels_steady project (distinct_of project fits) 15 q (distinct_of project fits v.ty q u.block) below 16 17 (omega arith) (omega arith) in
    let higher = highest_of project (distinct_of project fits) (instance_level (level 16 project) project) (variables_of p.lists) v declared in
    let lower = ap (λ o. elim o as (λ (x : Option Pou). ℕ) [ Some r ↦ suc (level 16 project r) | None ↦ 0 ]) user in
    let same : r ≡ q = same_Some r q (sym there ∙ place_block project fits.names v.ty q u.block) in
    let same_level = ap (level inner_depth project) same in
    omega arith

pub is_lower : (project : Project) → ∥ ProjectFits project ∥₁ → (p : Pou) → Contains project p → (v : Variable) → Contains (variables_of p.lists) v → (q : Pou) → user_of project v ≡ Some q
    → (r : Pou) → slice_get project (place_named v.ty project) ≡ Some r → level inner_depth project r < level inner_depth project p
is_lower project fits p own v declared q user r there =
    let h : suc (level inner_depth project r) ≤ level inner_depth project p = ∥∥₁_elim fits le_prop (λ fit. lower project fit p own v declared q user r there) in
    omega arith
