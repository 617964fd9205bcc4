-- Blocks within blocks, by an induction on how deep they lie.
use Rattle.std.proofs.Common.{◌≡◌, ℕ, zero, suc, false, List, Option, Some, None, refl, sym, ap, ◌∙◌, true≢false}
use Rattle.std.specs.List.{Contains}
use Rattle.std.specs.Option.{option_map}
use Rattle.plcx_types.specs.Name.{in_lower_case}
use Rattle.plcx_types.specs.TypeName.{type_named}
use Rattle.plcx_std.specs.declared.kind.StdKind.{StdKind}
use Rattle.plcx_std.specs.Kind.{kind_named}
use Rattle.plcx_meaning.specs.Base.{Site, top, Ended, then_do, found}
use Rattle.plcx_meaning.specs.Layout.{Variable, variables_of, variable_named}
use Rattle.plcx_meaning.specs.Standard.{called}
use Rattle.plcx_meaning.specs.Diagram.{DiagramElement, Pou, Project, block_named}
use Rattle.plcx_meaning.specs.Evaluate.{DiagramState, DiagramCalls, body_does, with_standard, place_named, pou_does, blocks_do, program_does}
use Rattle.plcx_meaning.specs.Execute.{TextState, Frame, fresh, TextSetting, TextCalls, list_runs, pou_runs, blocks_run, program_runs, world_of}
use Rattle.plcx_meaning.specs.Execute as text
use Rattle.plcx_meaning.specs.Templates.{body_text, pou_text, unit_of}
use Rattle.plcx_meaning.specs.Same.{Agree, IsDeclared}
use Rattle.plcx_meaning.specs.Fits.{project_knows, VariableFits, PouFits, PouNests, ProjectFits}
use Rattle.plcx_meaning.proofs.Alike.{Alike, Nothing, both_end, alike_then, alike_as, alike_from}
use Rattle.plcx_meaning.proofs.Asked.{BodyAsked, CallsAlike, ElementsAlike}
use Rattle.plcx_meaning.proofs.Lists.{each_at}
use Rattle.plcx_meaning.proofs.BodiesSteps.{then_ended}
use Rattle.plcx_meaning.proofs.Elements.{elements_alike}
use Rattle.plcx_meaning.proofs.Bodies.{body_alike}
use Rattle.plcx_meaning.proofs.Blocks.{agree_called}
use Rattle.plcx_meaning.proofs.Units.{block_there, variable_there}
use Rattle.plcx_meaning.proofs.StaticsWorlds.{block_text}
use Rattle.plcx_meaning.proofs.Statics.{here}
use Rattle.plcx_meaning.proofs.StaticsBodies.{ask_body}

-- a body as an instance
pub pou_alike : (c : TextSetting) (pou : ℕ) (vs : List Variable) (does : DiagramCalls) (call : TextCalls) (networks : List (List DiagramElement)) → ElementsAlike c pou vs does call → BodyAsked c vs networks
    → (d : DiagramState) (g : TextState) (f : Frame) → Agree d g
    → Alike Nothing (body_does networks (record { pou = pou; variables = vs; site = c.site; called = does }) d) (then_do (list_runs (body_text networks) c call g f) (λ h l. Ended h tt))
pou_alike c pou vs does call networks elements asked d g f a =
    alike_from _ _ (sym (then_ended (body_does networks (record { pou = pou; variables = vs; site = c.site; called = does }) d)))
    (alike_then (body_does networks (record { pou = pou; variables = vs; site = c.site; called = does }) d) (list_runs (body_text networks) c call g f) (λ d' u. Ended d' u) (λ h l. Ended h tt)
    (body_alike c pou vs does call networks elements asked d g f a) (λ d' u g' f' a' same. both_end a' tt))

-- the same of blocks that are no standard ones
abbrev pub UsersAlike : List Variable → DiagramCalls → TextCalls → Type 0
UsersAlike vs does call = (i : List ℕ) (v : Variable) → variable_named (in_lower_case i) vs ≡ Some v → type_named v.ty ≡ None → kind_named v.ty ≡ None
    → (site : Site) → IsDeclared site → (d : DiagramState) (g : TextState) → Agree d g → Alike Nothing (does v.ty site d) (call v.ty site g)

-- with the standard ones
standard_alike : (time : ℕ) (vs : List Variable) (does : DiagramCalls) (call : TextCalls) → UsersAlike vs does call → CallsAlike vs (with_standard time does) (text.with_standard time call)
standard_alike time vs does call users i v named composite site declared d g a = by_kind (kind_named v.ty) refl
  where
    by_kind : (o : Option StdKind) → kind_named v.ty ≡ o
        → Alike Nothing (elim o [ Some k ↦ Ended (record d { store = called k time site.path d.store }) tt | None ↦ does v.ty site d ])
        (elim o [ Some k ↦ Ended (record g { store = called k time site.path g.store }) tt | None ↦ call v.ty site g ])
    by_kind (Some k) e = both_end (agree_called k time site.path declared.path d g a) tt
    by_kind None e = users i v named composite e site declared d g a

-- a type that is none of the project's is no type of a variable
unknown : (project : Project) (name : List ℕ) → type_named name ≡ None → kind_named name ≡ None → block_named name project ≡ None → project_knows project name ≡ false
unknown project name t k b = rw (t, k, b) refl

module _ (project : Project) (fits : ProjectFits project) (time : ℕ) where
  -- a POU of the project, where the blocks of its instances do the same
  pub user_alike : (q : Pou) → Contains project q → (does : DiagramCalls) (call : TextCalls) → CallsAlike (variables_of q.lists) does call
      → (site : Site) → IsDeclared site → (d : DiagramState) (g : TextState) → Agree d g
      → Alike Nothing (pou_does project does q site d) (pou_runs (pou_text q) (world_of (unit_of project)) call site g)
  user_alike q there does call calls site declared d g a =
      pou_alike (here project q site) (place_named q.name project) (variables_of q.lists) does call q.networks (elements_alike (here project q site) (place_named q.name project) (variables_of q.lists) does call declared calls) (ask_body project q fits there site declared)
      d g (fresh (variables_of (pou_text q).blocks)) a

  users_alike : (n : ℕ) (p : Pou) → Contains project p → PouNests n project p → UsersAlike (variables_of p.lists) (blocks_do n time project) (blocks_run n time (unit_of project))
  users_alike zero p there nests i v named composite user site declared d g a =
      let variable = each_at (VariableFits project) (variables_of p.lists) v (each_at (PouFits project) project p fits.pous there).variables (variable_there (in_lower_case i) (variables_of p.lists) v named) in
      absurd (true≢false (sym variable.known ∙ unknown project v.ty composite user (nests (in_lower_case i) v named composite user)))
  users_alike (suc n) p there nests i v named composite user site declared d g a =
      let below = nests (in_lower_case i) v named composite user in
      let q : Pou = below.0 in
      let within = block_there v.ty project q below.1 in
      let in_text : text.block_named v.ty (unit_of project) ≡ Some (pou_text q) = block_text v.ty project ∙ ap (option_map pou_text) below.1 in
      let calls = standard_alike time (variables_of q.lists) (blocks_do n time project) (blocks_run n time (unit_of project)) (users_alike n q within below.2) in
      alike_from _ _ (ap (λ o. found o (λ r. pou_does project (with_standard time (blocks_do n time project)) r site d)) below.1)
      (alike_as _ _ (ap (λ o. found o (λ r. pou_runs r (world_of (unit_of project)) (text.with_standard time (blocks_run n time (unit_of project))) site g)) in_text)
      (user_alike q within (with_standard time (blocks_do n time project)) (text.with_standard time (blocks_run n time (unit_of project))) calls site declared d g a))

  -- the blocks of the instances of a POU, with so many levels of them below
  pub blocks_alike : (n : ℕ) (p : Pou) → Contains project p → PouNests n project p
      → CallsAlike (variables_of p.lists) (with_standard time (blocks_do n time project)) (text.with_standard time (blocks_run n time (unit_of project)))
  blocks_alike n p there nests = standard_alike time (variables_of p.lists) (blocks_do n time project) (blocks_run n time (unit_of project)) (users_alike n p there nests)

  -- a scan of a program
  pub program_alike : (p : Pou) → Contains project p → (d : DiagramState) (g : TextState) → Agree d g → Alike Nothing (program_does time project p d) (program_runs time (unit_of project) (pou_text p) g)
  program_alike p there d g a =
      user_alike p there (with_standard time (blocks_do 16 time project)) (text.with_standard time (blocks_run 16 time (unit_of project)))
      (blocks_alike 16 p there (each_at (PouNests 16 project) project p fits.nests there)) top (record { path = refl; bound = λ key. refl }) d g a
