-- Sides that begin with initial values.
use Rattle.std.proofs.Common.{◌≡◌, ◌∙◌, ℕ, zero, suc, ℤ, pos, Bool, true, false, List, [], ◌∷◌, refl, sym, ap, ap₂, subst}
use Rattle.std.specs.Prelude.{◌&&◌, Some, None, if◌then◌else◌}
use Rattle.std.proofs.Math.Path.{fun_ext}
use Rattle.plcx_types.specs.Lists.{Each}
use Rattle.plcx_meaning.specs.Base.{Path, same_path, is_declared}
use Rattle.plcx_meaning.specs.Diagram as diagram
use Rattle.plcx_meaning.specs.Diagram.{Pou, Project}
use Rattle.plcx_meaning.specs.Evaluate.{DiagramState, diagram_machine}
use Rattle.plcx_meaning.specs.Evaluate as drawing
use Rattle.plcx_meaning.specs.Execute as text
use Rattle.plcx_meaning.specs.Execute.{TextState, text_machine}
use Rattle.plcx_meaning.specs.Layout.{Leaf as Meant, Scope, Spelling, Variable, Meaning, Elementary, Composed, meaning, is_kept, is_retained, initial_at, leaf_of, variable_leaves, leaves, layout, begun, initial_in}
use Rattle.plcx_meaning.specs.Run.{Side, begin_side}
use Rattle.plcx_meaning.specs.Tree.{PouText}
use Rattle.plcx_meaning.proofs.Lists.{each_from, each_flat_map}
use Rattle.plcx_meaning.proofs.Starts.{path_same}
use Rattle.plcx_state.specs.declared.layout.Leaf.{Leaf}
use Rattle.plcx_state.specs.Layouts.{Laid, all_meant, meant_path}
use Rattle.plcx_state.specs.Retains.{kept_at, kept_of, initially_kept, number_of}
use Rattle.plcx_traced.proofs.Made.{kept_at_same}
use Rattle.plcx_opening.specs.Opening as drawn
use Rattle.plcx_text_layout.specs.Opening as written
use Rattle.plcx_eval.specs.declared.side.DiagramSide.{DiagramSide}
use Rattle.plcx_eval.specs.Sides as diagrams
use Rattle.plcx_run.specs.declared.side.TextSide.{TextSide}
use Rattle.plcx_run.specs.Sides as texts
use Rattle.plcx_bench.specs.Summary.{at_first}
use Rattle.plcx_bench.specs.Sides.{IsDrawn, IsWritten}

-- a leaf is retained where its path is
abbrev IsMarked : Scope → Meant → Type 0
IsMarked c leaf = leaf.retained ≡ is_retained c leaf.path

module _ (c : Scope) where
  of_variable : (inner : Spelling → List Variable → List Meant) → ((p : Spelling) (vs : List Variable) → Each (IsMarked c) (inner p vs)) → (p : Spelling) (v : Variable) → Each (IsMarked c) (variable_leaves inner c p v)
  of_variable inner all p v = by_class (is_kept v.class)
    where
      by_meaning : (m : Meaning) → Each (IsMarked c) (elim m [ Elementary t ↦ leaf_of c (v.name ∷ p) t v.mark ∷ [] | Composed vs ↦ inner (v.name ∷ p) vs ])
      by_meaning (Elementary t) = (refl, tt)
      by_meaning (Composed vs) = all (v.name ∷ p) vs

      by_class : (b : Bool) → Each (IsMarked c) (if b then (elim (meaning c.world v.ty) [ Elementary t ↦ leaf_of c (v.name ∷ p) t v.mark ∷ [] | Composed vs ↦ inner (v.name ∷ p) vs ]) else [])
      by_class true = by_meaning (meaning c.world v.ty)
      by_class false = tt

  of_leaves : (n : ℕ) (p : Spelling) (vs : List Variable) → Each (IsMarked c) (leaves n c p vs)
  of_leaves zero p vs = tt
  of_leaves (suc n) p vs = each_flat_map (IsMarked c) (variable_leaves (leaves n c) c p) vs (each_from _ vs (λ v there. of_variable (leaves n c) (λ q. of_leaves n q) p v))

  marked : Each (IsMarked c) (layout c)
  marked = of_leaves 18 [] c.own

  -- the value of a retained leaf is its initial one
  same_initial : (ls : List Leaf) → Each (IsMarked c) (all_meant ls) → (p : Path) → is_declared p ≡ true → is_retained c p ≡ true → kept_at ls (initially_kept ls) p ≡ initial_in (all_meant ls) p
  same_initial [] h p d r = refl
  same_initial (leaf ∷ ls) h p d r = by (same_path p (meant_path leaf.path)) refl (same_initial ls h.1 p d r)
    where
      by : (b : Bool) → same_path p (meant_path leaf.path) ≡ b → kept_at ls (initially_kept ls) p ≡ initial_in (all_meant ls) p
          → (if b then number_of (kept_of leaf None) else kept_at ls (initially_kept ls) p) ≡ (if b then leaf.initial.n else initial_in (all_meant ls) p)
      by false t rest = rest
      by true t rest =
          let here : p ≡ meant_path leaf.path = path_same p (meant_path leaf.path) t in
          let retained : leaf.retained ≡ true = h.0 ∙ ap (is_retained c) (sym here) ∙ r in
          let declared : is_declared (meant_path leaf.path) ≡ true = ap is_declared (sym here) ∙ d in
          ap (λ b. number_of (if b then Some leaf.initial else None)) (ap₂ (λ a b. a && b) retained declared)

  begun_first : (ls : List Leaf) → all_meant ls ≡ layout c → begun c (kept_at ls (initially_kept ls)) ≡ begun c (initial_in (layout c))
  begun_first ls are = fun_ext (λ p. by p (is_declared p) (is_retained c p) refl refl)
    where
      by : (p : Path) (d r : Bool) → is_declared p ≡ d → is_retained c p ≡ r
          → (if d && r then kept_at ls (initially_kept ls) p else initial_at c p) ≡ (if d && r then initial_in (layout c) p else initial_at c p)
      by p true true d r = same_initial ls (subst (Each (IsMarked c)) (sym are) marked) p d r ∙ ap (λ ms. initial_in ms p) are
      by p true false d r = refl
      by p false b d r = refl

-- a side of a diagram
module _ (project : Project) (name : List ℕ) (l : Laid) (is_laid : drawn.IsLaidAs project name l) (s : DiagramSide) (opened : diagrams.IsOpened project name (initially_kept l.leaves) s) where
  drawn_first : (p : Pou) (ls : List Leaf) → all_meant ls ≡ layout (drawing.scope_of project p) → begin_side (diagram_machine project p) (kept_at ls (initially_kept ls)) ≡ at_first (diagram_machine project p)
  drawn_first p ls are =
      ap (λ (store : Path → ℤ). let side : Side DiagramState = record { state = record { store = store; memories = λ q k. pos 0; left = 0; heard = [] }; halted = false; last = 0 } in side)
      (begun_first (drawing.scope_of project p) ls are)

  module _ (p : Pou) (named : diagram.program_named name project ≡ Some p) where
    own : all_meant l.leaves ≡ layout (drawing.scope_of project p)
    own = (is_laid.laid p named).leaves.leaves

    alike : all_meant (diagrams.laid_of s).leaves ≡ all_meant l.leaves
    alike = (opened.opens p named).laid.leaves.leaves ∙ ap (λ (d : Project). layout (drawing.scope_of d p)) opened.of ∙ sym own

    begins : diagrams.StandsFor s (begin_side (diagram_machine project p) (kept_at l.leaves (initially_kept l.leaves)))
    begins =
        subst (λ (kept : Path → ℤ). diagrams.StandsFor s (begin_side (diagram_machine project p) kept)) (kept_at_same (diagrams.laid_of s).leaves l.leaves (initially_kept l.leaves) alike)
        (subst (λ (d : Project). diagrams.StandsFor s (begin_side (diagram_machine d p) (kept_at (diagrams.laid_of s).leaves (initially_kept l.leaves)))) opened.of (opened.opens p named).begins)

  pub drawn_is : IsDrawn project name s
  drawn_is = record {
    of = opened.of;
    program = λ p named. (opened.opens p named).is;
    stands = λ p named. subst (diagrams.StandsFor s) (drawn_first p l.leaves (own p named)) (begins p named);
    time = opened.time;
  }

-- and a side of a text
module _ (unit : List PouText) (name : List ℕ) (l : Laid) (is_laid : written.IsLaidAs unit name l) (s : TextSide) (opened : texts.IsOpened unit name (initially_kept l.leaves) s) where
  written_first : (p : PouText) (ls : List Leaf) → all_meant ls ≡ layout (text.scope_of unit p) → begin_side (text_machine unit p) (kept_at ls (initially_kept ls)) ≡ at_first (text_machine unit p)
  written_first p ls are =
      ap (λ (store : Path → ℤ). let side : Side TextState = record { state = record { store = store; left = 0 }; halted = false; last = 0 } in side)
      (begun_first (text.scope_of unit p) ls are)

  module _ (p : PouText) (named : text.program_named name unit ≡ Some p) where
    own_text : all_meant l.leaves ≡ layout (text.scope_of unit p)
    own_text = (is_laid.laid p named).leaves.leaves

    alike_text : all_meant (texts.laid_of s).leaves ≡ all_meant l.leaves
    alike_text = (opened.opens p named).laid.leaves.leaves ∙ ap (λ (u : List PouText). layout (text.scope_of u p)) opened.of ∙ sym own_text

    begins_text : texts.StandsFor s (begin_side (text_machine unit p) (kept_at l.leaves (initially_kept l.leaves)))
    begins_text =
        subst (λ (kept : Path → ℤ). texts.StandsFor s (begin_side (text_machine unit p) kept)) (kept_at_same (texts.laid_of s).leaves l.leaves (initially_kept l.leaves) alike_text)
        (subst (λ (u : List PouText). texts.StandsFor s (begin_side (text_machine u p) (kept_at (texts.laid_of s).leaves (initially_kept l.leaves)))) opened.of (opened.opens p named).begins)

  pub written_is : IsWritten unit name s
  written_is = record {
    of = opened.of;
    program = λ p named. (opened.opens p named).is;
    stands = λ p named. subst (texts.StandsFor s) (written_first p l.leaves (own_text p named)) (begins_text p named);
    time = opened.time;
  }
