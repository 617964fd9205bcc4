-- The program of an instance is among the diagrams, where it is among the POUs of the project.
use Rattle.std.proofs.Common.{◌≡◌, ◌∙◌, ◌∷◌, ◌⊎◌, inl, inr, Bool, true, false, true≢false, List, [], Some, refl, sym, ap}
use Rattle.std.specs.Prelude.{find, if◌then◌else◌}
use Rattle.std.specs.List.{Contains}
use Rattle.std.specs.Str.{bytes_eq}
use Rattle.std.proofs.lemmas.Bool.{and_from}
use Rattle.std.proofs.lemmas.Slice.Eq.{bytes_eq-Decides}
use Rattle.plcx_types.specs.Name.{in_lower_case}
use Rattle.plcx_types.specs.Lists.{Each}
use Rattle.plcx_meaning.specs.Tree as tree
use Rattle.plcx_meaning.proofs.Lists.{contains_cases, contains_none}
use Rattle.plcx_model.specs.declared.project.PouKind.TheVariants.{Program}
use Rattle.plcx_model.specs.declared.project.Pou.{Pou}
use Rattle.plcx_model.specs.declared.project.Project.{Project}
use Rattle.plcx_model.specs.declared.plan.Links.{Links}
use Rattle.plcx_model.specs.declared.plan.Types.{Types}
use Rattle.plcx_model.specs.declared.plan.Plan.{Plan}
use Rattle.plcx_view.specs.Declared.{kind_of_pou}
use Rattle.plcx_view.specs.Diagrams.{diagrams_of}
use Rattle.plcx_scan.proofs.Headers.{contains_at}
use Rattle.plcx_simulate.specs.Choosing.{is_program, is_program_named}
use Rattle.plcx_simulate.proofs.Chosen.{chosen_is}
use Rattle.plcx_tasks.specs.declared.planning.Instance.{Instance}
use Rattle.plcx_plan.specs.Plans.{HasProgram}
use Rattle.plcx_cycle.specs.Sides.{HasDiagram}

-- where one passes, one is found
found : {A : Type 0} (t : A → Bool) (xs : List A) (x : A) → Contains xs x → t x ≡ true → (y : A) × (find t xs ≡ Some y)
found t [] x h e = absurd (contains_none x h)
found {A} t (z ∷ xs) x h e = by (t z) refl (contains_cases z xs x h) (λ more. found t xs x more e)
  where
    by : (b : Bool) → t z ≡ b → (z ≡ x) ⊎ Contains xs x → (Contains xs x → (y : A) × (find t xs ≡ Some y)) → (y : A) × ((if b then Some z else find t xs) ≡ Some y)
    by true is o rest = (z, refl)
    by false is (inl same) rest = absurd (true≢false (sym e ∙ ap t (sym same) ∙ is))
    by false is (inr more) rest = rest more

is_one : (p : Pou) → p.kind ≡ Program → is_program p ≡ true
unfolding is_program
is_one p e = ap (λ k. tree.is_program (kind_of_pou k)) e

module _ (project : Project) (links : Links) (types : Types) (plan : Plan) where
  named : (x : Instance) → HasProgram project x → HasDiagram (diagrams_of project links types plan) x
  named x h =
      let passes : is_program_named x.program h.pou ≡ true =
      and_from (is_program h.pou) (bytes_eq (in_lower_case h.pou.name) (in_lower_case x.program)) (is_one h.pou h.program) ((bytes_eq-Decides (in_lower_case h.pou.name) (in_lower_case x.program)).1 (ap in_lower_case h.named)) in
      let f = found (is_program_named x.program) project.pous h.pou (contains_at project.pous h.place h.pou h.there) passes in
      let n = chosen_is project links types plan (Some x.program) f.0 f.1 in
      (n.pou, n.is)

  -- the programs of instances
  pub all_named : (xs : List Instance) → Each (HasProgram project) xs → Each (HasDiagram (diagrams_of project links types plan)) xs
  all_named [] h = tt
  all_named (x ∷ xs) h = (named x h.0, all_named xs h.1)
