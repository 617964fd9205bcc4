-- A network stays where it is as the lists of its program grow.
use Rattle.std.proofs.Common.{◌≡◌, ◌+◌, ◌-◌, ◌≤◌, List, ◌++◌, length, length-append, take, drop, sym, ap, ◌∙◌, subst, arith, append_assoc}
use Rattle.std.proofs.Math.Seq.{drop-append_seam, take-append_seam}
use Rattle.plcx_meaning.specs.Diagram.{DiagramElement, Pou, Project}
use Rattle.plcx_steps.specs.declared.program.Program.{Program}
use Rattle.plcx_numbered.specs.Prepared.{elements_arguments, elements_bindings}
use Rattle.plcx_numbered.specs.Right.{HasAt}
use Rattle.plcx_numbered.specs.Numbers.{numbering}
use Rattle.plcx_numbered.specs.Programs.{IsNetworkOf}
use Rattle.plcx_bodies.specs.declared.networks.Shared.{Shared}
use Rattle.plcx_bodies.specs.declared.networks.Made.{Made}
use Rattle.plcx_bodies.specs.Made.{IsMade, Begins}

-- a part stands behind what was there before
has_at : {A : Type 0} (before part rest : List A) → HasAt (before ++ part ++ rest) (length before) part
has_at before part rest =
    let same : length before + length part - length before ≡ length part = omega arith in
    ap (λ n. take n (drop (length before) (before ++ part ++ rest))) same
    ∙ ap (λ xs. take (length part) (drop (length before) xs)) (append_assoc before part rest)
    ∙ ap (take (length part)) (drop-append_seam before (part ++ rest))
    ∙ take-append_seam part rest

grown : {A : Type 0} (before part middle rest whole : List A) → middle ≡ before ++ part → whole ≡ middle ++ rest → whole ≡ before ++ part ++ rest
grown before part middle rest whole e h = h ∙ ap (λ xs. xs ++ rest) e

begins_at : {A : Type 0} (before part middle rest whole : List A) → middle ≡ before ++ part → whole ≡ middle ++ rest → HasAt whole (length before) part
begins_at before part middle rest whole e h = subst (λ xs. HasAt xs (length before) part) (sym (grown before part middle rest whole e h)) (has_at before part rest)

within : {A : Type 0} (before part middle rest whole : List A) → middle ≡ before ++ part → whole ≡ middle ++ rest → length before ≤ length whole
within before part middle rest whole e h =
    let l = ap length (grown before part middle rest whole e h) in
    let a = length-append (before ++ part) rest in
    let b = length-append before part in omega arith

-- what is made for a program that begins so is a network of it
pub made_stands : (project : Project) (p : Pou) (es : List DiagramElement) (before : Shared) (made : Made) → IsMade (numbering project p es) p.networks es before made
    → (program : Program) → Begins made.shared program → IsNetworkOf project program p es made.network
made_stands project p es before made is program begins = record {
  argument = length before.arguments.items;
  binding = length before.bindings.items;
  wires = is.wires;
  steps = is.steps;
  jumps = is.jumps;
  arguments = begins_at before.arguments.items (elements_arguments (numbering project p es) es) made.shared.arguments.items begins.more_arguments program.arguments.items is.arguments begins.arguments;
  bindings = begins_at before.bindings.items (elements_bindings (numbering project p es) es) made.shared.bindings.items begins.more_bindings program.bindings.items is.bindings begins.bindings;
  arguments_begin = within before.arguments.items (elements_arguments (numbering project p es) es) made.shared.arguments.items begins.more_arguments program.arguments.items is.arguments begins.arguments;
  bindings_begin = within before.bindings.items (elements_bindings (numbering project p es) es) made.shared.bindings.items begins.more_bindings program.bindings.items is.bindings begins.bindings;
}

-- and the program begins with what was there before
pub begun_before : (project : Project) (p : Pou) (es : List DiagramElement) (before : Shared) (made : Made) → IsMade (numbering project p es) p.networks es before made
    → (program : Program) → Begins made.shared program → Begins before program
begun_before project p es before made is program begins =
    let c = numbering project p es in
    record {
      more_arguments = elements_arguments c es ++ begins.more_arguments;
      more_bindings = elements_bindings c es ++ begins.more_bindings;
      arguments = grown before.arguments.items (elements_arguments c es) made.shared.arguments.items begins.more_arguments program.arguments.items is.arguments begins.arguments
          ∙ append_assoc before.arguments.items (elements_arguments c es) begins.more_arguments;
      bindings = grown before.bindings.items (elements_bindings c es) made.shared.bindings.items begins.more_bindings program.bindings.items is.bindings begins.bindings
          ∙ append_assoc before.bindings.items (elements_bindings c es) begins.more_bindings;
    }
