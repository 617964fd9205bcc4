-- EN and ENO, and the steps of a function.
use Rattle.std.proofs.Common.{◌≡◌, ℕ, ◌+◌, ◌≤◌, Bool, true, false, List, [], ◌∷◌, length, map, Option, Some, None, refl, sym, ap, ◌∙◌, subst, arith}
use Rattle.std.specs.Prelude.{codes, slice_range, if◌then◌else◌}
use Rattle.std.specs.List.{Contains}
use Rattle.std.proofs.lemmas.List.{length-map}
use Rattle.plcx_types.specs.declared.ty.Ty.{Ty}
use Rattle.plcx_types.specs.declared.ty.Ty.TheVariants as ty
use Rattle.plcx_types.specs.Lists.{Each}
use Rattle.plcx_funcs.specs.declared.func.Func.{Func}
use Rattle.plcx_meaning.specs.Functions.{can_apply, out_type}
use Rattle.plcx_meaning.specs.Diagram.{Link, Enable, has_eno, eno_negated, eno_ports, Port, port}
use Rattle.plcx_meaning.specs.Fits.{LinkFits, EnableFits, FunctionFits}
use Rattle.plcx_meaning.proofs.Lists.{each_append}
use Rattle.plcx_meaning.proofs.Enabling.{of_eno, negated_listed}
use Rattle.plcx_steps.specs.declared.program.Argument.{Argument}
use Rattle.plcx_steps.specs.declared.program.Action.TheVariants.{Fix}
use Rattle.plcx_steps.specs.declared.program.Step.{Step}
use Rattle.plcx_steps.specs.declared.program.Step.TheVariants.{Act}
use Rattle.plcx_steps.specs.Sound.{most_inputs}
use Rattle.plcx_steps.specs.Typed.{AreOf, Gives}
use Rattle.plcx_numbered.specs.Prepared.{not_steps, enable_steps, enabled, eno_steps, argument_steps, arguments, apply_steps, function_steps, under}
use Rattle.plcx_numbered.specs.Numbers.{pins_of, spare_wires}
use Rattle.plcx_numbered.proofs.Functions.{length_arguments}
use Rattle.plcx_runnable.proofs.Lists.{each_get, StandsAt, stands_within}
use Rattle.plcx_runnable.proofs.Functions.{gives, few_inputs}
use Rattle.plcx_runnable.proofs.Outputs.{outputs}
use Rattle.plcx_runnable.proofs.Good.{Ground, num, shape, wires, Good, Sources, Wires}
use Rattle.plcx_runnable.proofs.Links.{output_wire, spare_wire, at, Known, nots_good, joined_good, link_good}

module _ (g : Ground) (done : List (ℕ × Port)) (known : Known g done) where
  -- an output of the element of this number
  abbrev pub IsOutput : ℕ → Port → Type 0
  IsOutput id o = Contains (outputs g.elements) (id, o)

  abbrev pub eno : Port
  eno = port (codes "ENO") ty.Bool

  -- ---- EN and ENO
  module _ (enable : Enable) (fit : EnableFits (at g done) enable) (room : 1 ≤ spare_wires g.elements) where
    first_spare : Wires g (num g).spare ty.Bool
    first_spare = spare_wire g (num g).spare (omega arith) (omega arith)

    pub enable_good : Each (Good g) (enable_steps (num g) enable)
    enable_good = by_en enable.en fit
      where
        by_en : (o : Option Link) → ((link : Link) → o ≡ Some link → LinkFits (at g done) link × (link.ty ≡ ty.Bool)) → Each (Good g) (enable_steps (num g) (record { en = o; eno = enable.eno }))
        by_en (Some link) h = joined_good g done known (num g).spare first_spare link (h link refl).0 (h link refl).1
        by_en None h = tt

    enabled_typed : Sources g (enabled (num g) enable) ty.Bool
    enabled_typed = by_en enable.en
      where
        by_en : (o : Option Link) → Sources g (enabled (num g) (record { en = o; eno = enable.eno })) ty.Bool
        by_en (Some link) = first_spare
        by_en None = refl

    -- steps that are passed over where EN is FALSE
    pub under_good : (steps : List Step) → Each (Good g) steps → Each (Good g) (under (num g) enable steps)
    under_good steps h = by_en enable.en
      where
        by_en : (o : Option Link) → Each (Good g) (under (num g) (record { en = o; eno = enable.eno }) steps)
        by_en (Some link) = ((tt, (ty.Bool, first_spare)), h)
        by_en None = h

    module _ (id : ℕ) (outs : Each (IsOutput id) (eno_ports enable)) where
      eno_wire : has_eno enable ≡ true → Wires g ((num g).wire id (codes "ENO")) ty.Bool
      eno_wire h = output_wire g id eno (of_eno (IsOutput id) (has_eno enable) outs h)

      pub eno_good : Each (Good g) (eno_steps (num g) id enable)
      eno_good = by_test (has_eno enable) eno_wire
        where
          by_test : (b : Bool) → (b ≡ true → Wires g ((num g).wire id (codes "ENO")) ty.Bool) → Each (Good g) (if b then Act (Fix (enabled (num g) enable) ((num g).wire id (codes "ENO"))) ∷ [] else [])
          by_test true wire = (((ty.Bool, enabled_typed, wire refl), tt), tt)
          by_test false wire = tt

      pub eno_not_good : Each (Good g) (not_steps (eno_negated enable) ((num g).wire id (codes "ENO")))
      eno_not_good = by_test (eno_negated enable) (λ h. eno_wire (negated_listed enable h))
        where
          by_test : (b : Bool) → (b ≡ true → Wires g ((num g).wire id (codes "ENO")) ty.Bool) → Each (Good g) (not_steps b ((num g).wire id (codes "ENO")))
          by_test true wire = nots_good g done known ((num g).wire id (codes "ENO")) (wire refl) true
          by_test false wire = tt

      -- ---- functions
      pub function_good : (f : Func) (t : Ty) (inputs : List Link) (negated : Bool) (first : ℕ) → FunctionFits (at g done) f t inputs → (negated ≡ true → out_type f t ≡ ty.Bool) → IsOutput id (port (codes "OUT") (out_type f t))
          → length inputs + 1 ≤ spare_wires g.elements → StandsAt g.program.arguments.items first (arguments (num g) ((num g).spare + 1) inputs) → Each (Good g) (function_steps (num g) first id f t enable inputs negated)
      function_good f t inputs negated first h bool out wide args =
          each_append (Good g) (enable_steps (num g) enable) _ enable_good
          (each_append (Good g) (argument_steps (num g) ((num g).spare + 1) inputs) _ (inputs_good ((num g).spare + 1) inputs h.inputs (omega arith) (omega arith))
          (each_append (Good g) (apply_steps (num g) id f t enable first (length inputs)) _ (apply_good enable.en)
          (each_append (Good g) (eno_steps (num g) id enable) _ eno_good
          (each_append (Good g) (not_steps (eno_negated enable) ((num g).wire id (codes "ENO"))) (not_steps negated out_number) eno_not_good (not_good negated bool)))))
        where
          out_number : ℕ
          out_number = (num g).wire id (codes "OUT")

          out_wire : Wires g out_number (out_type f t)
          out_wire = output_wire g id (port (codes "OUT") (out_type f t)) out

          not_good : (b : Bool) → (b ≡ true → out_type f t ≡ ty.Bool) → Each (Good g) (not_steps b out_number)
          not_good true e = nots_good g done known out_number (subst (Wires g out_number) (e refl) out_wire) true
          not_good false e = tt

          inputs_good : (w : ℕ) (ls : List Link) → Each (LinkFits (at g done)) ls → length (pins_of g.elements) ≤ w → w + length ls ≤ length (pins_of g.elements) + spare_wires g.elements → Each (Good g) (argument_steps (num g) w ls)
          inputs_good w [] each past low = tt
          inputs_good w (l ∷ ls) each past low =
              each_append (Good g) _ (argument_steps (num g) (w + 1) ls) (link_good g done known w (spare_wire g w past (omega arith)) l each.0).0 (inputs_good (w + 1) ls each.1 (omega arith) (omega arith))

          sources_typed : (w : ℕ) (ls : List Link) → Each (LinkFits (at g done)) ls → length (pins_of g.elements) ≤ w → w + length ls ≤ length (pins_of g.elements) + spare_wires g.elements → Each (λ (a : Argument). Sources g a.source a.ty) (arguments (num g) w ls)
          sources_typed w [] each past low = tt
          sources_typed w (l ∷ ls) each past low = ((link_good g done known w (spare_wire g w past (omega arith)) l each.0).1, sources_typed (w + 1) ls each.1 (omega arith) (omega arith))

          argument_types : (w : ℕ) (ls : List Link) → map (λ (a : Argument). a.ty) (arguments (num g) w ls) ≡ map (λ (l : Link). l.ty) ls
          argument_types w [] = refl
          argument_types w (l ∷ ls) = ap (λ ts. l.ty ∷ ts) (argument_types (w + 1) ls)

          own : List Argument
          own = arguments (num g) ((num g).spare + 1) inputs

          long : length own ≡ length inputs
          long = length_arguments (num g) ((num g).spare + 1) inputs

          are : slice_range g.program.arguments.items first (first + length inputs) ≡ own
          are = ap (λ n. slice_range g.program.arguments.items first (first + n)) (sym long) ∙ args.has

          typed : AreOf (shape g) (wires g) (slice_range g.program.arguments.items first (first + length inputs))
          typed = subst (AreOf (shape g) (wires g)) (sym are) (λ i a there. each_get (λ (b : Argument). Sources g b.source b.ty) own (sources_typed ((num g).spare + 1) inputs h.inputs (omega arith) (omega arith)) i a there)

          given : Gives f t (map (λ (a : Argument). a.ty) (slice_range g.program.arguments.items first (first + length inputs))) (out_type f t)
          given = gives f t _ (ap (can_apply f t) (ap (map (λ (a : Argument). a.ty)) are ∙ argument_types ((num g).spare + 1) inputs) ∙ h.applies)

          few : length inputs ≤ most_inputs
          few = let same = length-map inputs (λ (l : Link). l.ty) in let most = few_inputs f t (map (λ (l : Link). l.ty) inputs) h.applies in subst (λ n. n ≤ most_inputs) same most

          there : first + length inputs ≤ length g.program.arguments.items
          there = subst (λ n. first + n ≤ length g.program.arguments.items) long (stands_within g.program.arguments.items first own args)

          apply_good : (o : Option Link) → Each (Good g) (apply_steps (num g) id f t (record { en = o; eno = enable.eno }) first (length inputs))
          apply_good None = (((out_type f t, typed, given, out_wire), (few, there)), tt)
          apply_good (Some link) = ((tt, (ty.Bool, first_spare)), (((out_type f t, typed, given, out_wire), (few, there)), ((tt, (ty.Bool, refl)), (((out_type f t, refl, out_wire), tt), tt))))
