-- A program of a ready unit stands where there is room for it, and a scan of it is alike the unit's.
use Rattle.std.proofs.Common.{◌≡◌, ℕ, pos, ◌+◌, ◌^◌, ◌<◌, ◌≤◌, List, [], length, map, Some, sym, ap, ◌∙◌, subst, zero-add, arith}
use Rattle.std.specs.Prelude.{slice_get}
use Rattle.std.specs.Coded.{Coded-set, coded_ℕ, le_prop}
use Rattle.std.proofs.lemmas.List.{length-map}
use Rattle.std.proofs.lemmas.Option.{same_Some, slice_get_within}
use Rattle.plcx_types.specs.declared.ty.Ty.{Ty}
use Rattle.plcx_types.specs.Lists.{Each}
use Rattle.plcx_types.specs.Value.{Value}
use Rattle.plcx_meaning.specs.Tree as tree
use Rattle.plcx_meaning.specs.Tree.{PouText}
use Rattle.plcx_meaning.specs.Layout.{variables_of}
use Rattle.plcx_meaning.specs.Execute.{TextState, program_runs, world_of}
use Rattle.plcx_meaning.specs.Ready.{PouIsReady, IsReady}
use Rattle.plcx_meaning.proofs.Lists.{each_at}
use Rattle.plcx_state.specs.Stores.{HasValue}
use Rattle.plcx_steps.specs.declared.program.Body.{Body}
use Rattle.plcx_steps.specs.declared.program.Program.{Program}
use Rattle.plcx_steps.specs.Sound.{origin}
use Rattle.plcx_numbered.proofs.Numbers.{there_at}
use Rattle.plcx_runnable.proofs.Good.{IsShapeOf}
use Rattle.plcx_runnable.proofs.Lists.{mapped_at, mapped_from}
use Rattle.plcx_text_steps.specs.declared.text.Text.{Text}
use Rattle.plcx_text_steps.specs.Numbered.{Numbers, text_does}
use Rattle.plcx_text_steps.specs.Sound.{Begins, Stands}
use Rattle.plcx_text_steps.specs.Typed.{IsTyped}
use Rattle.plcx_text_steps.specs.Running.{StandsTyped}
use Rattle.plcx_text_numbered.specs.Agreeing.{Agree, Alike, Nothing}
use Rattle.plcx_text_numbered.specs.Numbers.{places_of, plan_of, plans_of}
use Rattle.plcx_text_numbered.specs.Texts.{IsPouOf, IsTextOf}
use Rattle.plcx_text_numbered.proofs.Bodies.{lies_whole, program_alike}
use Rattle.plcx_text_runnable.specs.Shapes.{types_of, shapes_of}
use Rattle.plcx_text_runnable.proofs.Instances.{level_low}
use Rattle.plcx_text_runnable.proofs.Laid.{paths_apart, no_in_outs, places_few}
use Rattle.plcx_text_runnable.proofs.Lines.{frame_shape}
use Rattle.plcx_text_runnable.proofs.Programs.{ground, text_right}
use Rattle.plcx_text_runnable.proofs.Propositions.{begins_prop}

-- what is known of the body of a program
pub record IsMain (unit : List PouText) (text : Text) (k : ℕ) (p : PouText) (body : Body) : Type 0 where
  pub begins : Begins text (length text.sections.items) k
  pub shape : IsShapeOf body (types_of unit p)
  pub no_in_outs : body.in_outs ≡ 0
  pub few_leaves : body.leaves < 2 ^ 32

pub main_prop : (unit : List PouText) (text : Text) (k : ℕ) (p : PouText) (body : Body) → IsProp (IsMain unit text k p body)
main_prop unit text k p body = hlevel (begins_prop, le_prop, Coded-set coded_ℕ)

module _ (unit : List PouText) (ready : IsReady unit) (program : Program) (text : Text) (whole : IsTextOf unit program text) (k : ℕ) (p : PouText) (there : slice_get unit k ≡ Some p) (main : p.kind ≡ tree.Program) where
  own : PouIsReady unit p
  own = each_at (PouIsReady unit) unit p ready.pous (there_at unit k p there)

  pub main_is : (body : Body) → slice_get program.bodies.items k ≡ Some body → IsMain unit text k p body
  main_is body is = subst (IsMain unit text k p) (same_Some at.body body (sym at.is_body ∙ is)) (record { begins = begins; shape = shape; no_in_outs = at.frame.in_outs ∙ ap length (no_in_outs unit p own main); few_leaves = few })
    where
      at : IsPouOf unit program text k p
      at = whole.pous k p there

      begins : Begins text (length text.sections.items) k
      begins = record { entry = at.entry; is = at.is_entry; section = record { section = at.section.section; is = at.section.is; part = at.section.part; low = slice_get_within text.sections.items at.entry.section at.section.section at.section.is } }

      shape : IsShapeOf at.body (types_of unit p)
      shape = frame_shape (ground unit ready program text whole k p there at)

      few : at.body.leaves < 2 ^ 32
      few = let long = at.frame.leaves in let low = places_few 18 (world_of unit) (variables_of p.blocks) in let most = own.small in omega arith

  -- a scan is alike
  pub text_alike : (time : ℕ) (g : TextState) (n : Numbers) → Agree (plan_of unit p).plan.paths g n → Alike (plan_of unit p).plan.paths (Nothing {K = Unit {0}}) (program_runs time unit p g) (text_does program text (pos time) k n)
  text_alike time g n a =
      let low = level_low unit 16 p own.nests 17 in
      program_alike (plan_of unit p).plan.paths (paths_apart unit ready p own) unit (plans_of unit) program text (text_right unit ready program text whole) time (plan_of unit p) k (mapped_at (plan_of unit) unit k p there) (omega arith)
      (no_in_outs unit p own main) (lies_whole (plan_of unit p).plan.paths) g n a

abbrev pub type_of : Value → Ty
type_of v = v.ty

has_value : (xs : List Value) (i : ℕ) (t : Ty) → slice_get (map type_of xs) i ≡ Some t → HasValue xs i t
has_value xs i t h = let x = mapped_from type_of xs i t h in record { value = x.0; is = x.1; typed = x.2 }

-- where values have the types of its leaves, and wires and in-outs have room
pub stands : (unit : List PouText) (program : Program) (text : Text) (k : ℕ) (p : PouText) (body : Body) → IsMain unit text k p body → IsTyped (shapes_of unit) program text → slice_get unit k ≡ Some p → slice_get program.bodies.items k ≡ Some body
    → (values memories : List Value) → map type_of values ≡ (types_of unit p).leaves → map type_of memories ≡ (types_of unit p).memories → (wires in_outs : ℕ) → body.first_wire + body.width ≤ wires → body.first_in_out ≤ in_outs
    → Stands program text (length text.sections.items) k origin [] (length values) (length memories) wires in_outs × StandsTyped program text k origin [] values memories
stands unit program text k p body main typed there is values memories of_values of_memories wires in_outs frame in_out_frame = (
  record {
    body = body;
    is = is;
    begins = main.begins;
    room = record {
      leaves_fit = omega (arith, long_values);
      memories_fit = omega (arith, long_memories, main.shape.memories);
      few_values = subst (λ n. n < 2 ^ 32) (sym long_values) main.few_leaves;
      few_memories = omega (arith, long_memories);
      in_outs_there = sym main.no_in_outs;
      in_outs_fit = λ j low. (let none = main.no_in_outs in absurd (omega arith));
    };
    frame = frame;
    in_out_frame = in_out_frame;
  },
  record {
    shapes = shapes_of unit;
    shape = types_of unit p;
    is = mapped_at (types_of unit) unit k p there;
    typed = typed;
    types = record {
      of_leaves = λ i t h. subst (λ n. HasValue values n t) (sym (zero-add i)) (has_value values i t (ap (λ ts. slice_get ts i) of_values ∙ h));
      of_memories = λ i t h. subst (λ n. HasValue memories n t) (sym (zero-add i)) (has_value memories i t (ap (λ ts. slice_get ts i) of_memories ∙ h));
      of_in_outs = λ j t h. (let low = slice_get_within (types_of unit p).in_outs j t h in let none = main.no_in_outs in let same = main.shape.in_outs in absurd (omega arith));
    };
  },
)
  where
    long_values : length values ≡ body.leaves
    long_values = sym (length-map values type_of) ∙ ap length of_values ∙ sym main.shape.leaves

    long_memories : length memories ≡ 0
    long_memories = sym (length-map memories type_of) ∙ ap length of_memories
