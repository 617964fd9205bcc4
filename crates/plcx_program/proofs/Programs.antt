-- Bodies with their places are a program.
use Rattle.std.proofs.Common.{◌≡◌, ℕ, zero, suc, ◌<◌, List, [], ◌∷◌, Some, sym, ap, ◌∙◌, subst, arith}
use Rattle.std.specs.Prelude.{slice_get}
use Rattle.std.specs.List.{AllZip, Contains}
use Rattle.std.proofs.lemmas.Option.{same_Some}
use Rattle.plcx_types.specs.Lists.{Each}
use Rattle.plcx_meaning.specs.Diagram.{Pou, Project}
use Rattle.plcx_meaning.specs.Evaluate.{place_named}
use Rattle.plcx_meaning.specs.Fits.{ProjectFits}
use Rattle.plcx_meaning.proofs.Lists.{each_at, each_from}
use Rattle.plcx_steps.specs.declared.program.Network.{Network}
use Rattle.plcx_steps.specs.declared.program.Body.{Body}
use Rattle.plcx_steps.specs.declared.program.Program.{Program}
use Rattle.plcx_numbered.specs.Numbers.{level, inner_depth}
use Rattle.plcx_numbered.specs.Programs.{IsNetworkOf, IsBodyOf, IsProgramOf}
use Rattle.plcx_bodies.specs.Framed.{IsWithin, IsFramed, StandsBehind, AreFramed}
use Rattle.plcx_program.specs.Bodies.{IsUnframed}
use Rattle.plcx_program.proofs.Zips.{zip_there, zip_through}
use Rattle.plcx_program.proofs.Callees.{is_lower}

each_here : {A : Type 0} (P : A → Type 0) (xs : List A) → Each P xs → (i : ℕ) (x : A) → slice_get xs i ≡ Some x → P x
each_here P [] all i x there = absurd (let no : ⊥ = cc in no)
each_here P (y ∷ ys) all zero x there = subst P (same_Some y x there) all.0
each_here P (y ∷ ys) all (suc i) x there = each_here P ys all.1 i x there

module _ (project : Project) (program : Program) (fits : ∥ ProjectFits project ∥₁) (unframed : List Body) (are : AllZip (IsUnframed project program) project unframed) (framed : AreFramed unframed program.bodies.items) where
  -- the level of a body is that of its POU
  level_at : (place : ℕ) (callee : Body) → slice_get program.bodies.items place ≡ Some callee → (r : Pou) × (slice_get project place ≡ Some r) × (callee.level ≡ level inner_depth project r)
  level_at place callee there =
      let b = zip_there IsFramed unframed program.bodies.items framed.same place callee there in
      let r = zip_there (IsUnframed project program) project unframed are place b.0 b.1 in
      (r.0, r.1, ap (λ (x : Body). x.level) b.2 ∙ r.2.plain.level)

  one : (p : Pou) (before body : Body) → Contains project p → Contains program.bodies.items body → IsUnframed project program p before → IsFramed before body → IsBodyOf project program p body
  one p before body own there is same = record {
    frame = record {
      level = ap (λ (x : Body). x.level) same ∙ is.plain.level;
      leaves = ap (λ (x : Body). x.leaves) same ∙ is.plain.leaves;
      memories = ap (λ (x : Body). x.memories) same ∙ is.plain.memories;
      in_outs = ap (λ (x : Body). x.in_outs) same ∙ is.plain.in_outs;
      width = subst (λ (w : ℕ). Each (IsWithin w) body.networks.items) (sym (ap (λ (x : Body). x.width) same)) (subst (λ (ns : List Network). Each (IsWithin before.width) ns) (sym networks) is.plain.width);
      behind = λ v q callee declared user at.
          let r = level_at (place_named v.ty project) callee at in
          let low = is_lower project fits p own v declared q user r.0 r.1 in
          let mine : body.level ≡ level inner_depth project p = ap (λ (x : Body). x.level) same ∙ is.plain.level in
          let its = r.2 in
          let less : callee.level < body.level = omega arith in
          each_at (StandsBehind callee) program.bodies.items body (each_here (λ (lower : Body). Each (StandsBehind lower) program.bodies.items) program.bodies.items framed.behind (place_named v.ty project) callee at) there less;
    };
    jumps = ap (λ (x : Body). x.jumps) same ∙ is.plain.jumps;
    networks = subst (AllZip (IsNetworkOf project program p) p.networks) (sym networks) is.networks;
  }
    where
      networks : body.networks.items ≡ before.networks.items
      networks = ap (λ (x : Body). x.networks.items) same

  pub is_program : IsProgramOf project program
  is_program = record {
    bodies = zip_through (IsUnframed project program) IsFramed (IsBodyOf project program) (Contains project) (Contains program.bodies.items) project unframed program.bodies.items
        (λ p before body own there is same. one p before body own there is same)
        (each_from (Contains project) project (λ p there. there))
        (each_from (Contains program.bodies.items) program.bodies.items (λ body there. there))
        are framed.same;
  }
